-- A configuration that is accepted is short, so of a long text the front tells the answer: its first bad line stands in it.
-- Assumes nothing.
use Rattle.std.specs.Prelude.{Option, Some, None}
use mathlib.Core.Path.{◌≡◌, refl, sym, ◌∙◌, ap}
use mathlib.Core.Bool.{Bool, true, false, false≢true}
use mathlib.Core.List.{List, [], ◌∷◌}
use Prim.Native.Nat.{ℕ, zero, suc, ◌+◌, ◌-◌, ◌*◌, ◌≤◌, ◌<◌}
use native.Mathlib.Omega.{arith}
use borrow.Author.Tests.{leb-true, leb-false, ltb-true, ltb-false}
use lib.Dec.{eqb, leb, ltb}
use lib.ListN.{length, take, drop, length-drop}
use lib.Seq.{take-take, take-add, drop_at, length-take-le}
use Rattle.wire.proofs.Facts.{and_left}
use Rattle.text.specs.Words.{contains, index_of, up_to, past, starts_with}
use Rattle.text.specs.Decimal.{is_digit, all_digits, value_from, decimal_value_of, no_leading_zero, decimal_of}
use Rattle.text.proofs.Digits.{digit_low}
use Rattle.text.proofs.Parts.{contains_place, lacks_place}
use Rattle.config_text.specs.Line.{Says, writer, field, bad, writer_start, field_start, says_of, writer_rest, writer_of, field_of, size_of, positive}
use Rattle.config_text.specs.Config.{lines_of, may_follow, with, bad_line, config_number, read_lines, config_of}
use Rattle.config.specs.Writers.{empty_config}
use Rattle.config.specs.declared.Config.{Config}
use Rattle.config_text.proofs.Turns.{lines_next, lines_last, new_within, field_within}
use Rattle.plain_value.specs.Width.{fixed}

-- ---- a decimal below 100,000 has at most five digits
value_grows : (t : List ℕ) (n : ℕ) → n ≤ value_from n t
value_grows [] n = omega arith
value_grows (d ∷ ds) n = omega (arith, value_grows ds (n * 10 + (d - 48)))

six_digits : (b : ℕ) (t : List ℕ) → 49 ≤ b → 5 ≤ length t → 100000 ≤ decimal_value_of (b ∷ t)
six_digits b (c ∷ d ∷ e ∷ f ∷ g ∷ t) h k =
    omega (arith, value_grows t ((((((0 * 10 + (b - 48)) * 10 + (c - 48)) * 10 + (d - 48)) * 10 + (e - 48)) * 10 + (f - 48)) * 10 + (g - 48)))
six_digits b [] h k = absurd (omega arith)
six_digits b (c ∷ []) h k = absurd (omega arith)
six_digits b (c ∷ d ∷ []) h k = absurd (omega arith)
six_digits b (c ∷ d ∷ e ∷ []) h k = absurd (omega arith)
six_digits b (c ∷ d ∷ e ∷ f ∷ []) h k = absurd (omega arith)

module _ (limit : ℕ) (small : limit < 100000) where
  no_number : (n : ℕ) → ◌≡◌ {A = Option ℕ} None (Some n) → ⊥
  no_number n e = let z : ◌≡◌ {A = ℕ} 0 1 = cc in omega arith

  first_digit : (b c : ℕ) (cs : List ℕ) → no_leading_zero (b ∷ c ∷ cs) ≡ true → all_digits (b ∷ c ∷ cs) ≡ true → 49 ≤ b
  first_digit b c cs h k = go (leb 49 b) refl
    where
      low : 48 ≤ b
      low = digit_low b (and_left (is_digit b) (all_digits (c ∷ cs)) k)

      go : (x : Bool) → leb 49 b ≡ x → 49 ≤ b
      go true e = leb-true 49 b e
      go false e =
          let s : b ≡ 48 = omega (arith, low, leb-false 49 b e) in
          let z : false ≡ true = sym (rw s) ∙ h in
          absurd (false≢true z)

  decimal_short : (p : List ℕ) (n : ℕ) → decimal_of limit p ≡ Some n → length p ≤ 5
  decimal_short [] n e = omega arith
  decimal_short (b ∷ []) n e = omega arith
  decimal_short (b ∷ c ∷ cs) n e = go (no_leading_zero (b ∷ c ∷ cs)) (all_digits (b ∷ c ∷ cs)) (leb (decimal_value_of (b ∷ c ∷ cs)) limit) refl refl refl
    where
      go : (x y z : Bool) → no_leading_zero (b ∷ c ∷ cs) ≡ x → all_digits (b ∷ c ∷ cs) ≡ y → leb (decimal_value_of (b ∷ c ∷ cs)) limit ≡ z → length (b ∷ c ∷ cs) ≤ 5
      go true true true p q r =
          let v = leb-true (decimal_value_of (b ∷ c ∷ cs)) limit r in
          let d = first_digit b c cs p q in
          go_long (leb 5 (length (c ∷ cs))) refl v d
        where
          go_long : (w : Bool) → leb 5 (length (c ∷ cs)) ≡ w → decimal_value_of (b ∷ c ∷ cs) ≤ limit → 49 ≤ b → length (b ∷ c ∷ cs) ≤ 5
          go_long true g v d = absurd (omega (arith, six_digits b (c ∷ cs) d (leb-true 5 (length (c ∷ cs)) g)))
          go_long false g v d = omega (arith, leb-false 5 (length (c ∷ cs)) g)
      go true true false p q r = absurd (no_number n (rw (p, q, r) at e))
      go true false z p q r = absurd (no_number n (rw (p, q) at e))
      go false y z p q r = absurd (no_number n (rw p at e))

-- ---- a permitted line has at most 18 bytes where it names a writer, and 11 where it names a field
size_short : (p : List ℕ) (n : ℕ) → size_of p ≡ Some n → length p ≤ 5
size_short [] n e = omega arith
size_short (b ∷ []) n e = omega arith
size_short (b ∷ c ∷ cs) n e = go (decimal_of 65535 (b ∷ c ∷ cs)) refl
  where
    go : (x : Option ℕ) → decimal_of 65535 (b ∷ c ∷ cs) ≡ x → length (b ∷ c ∷ cs) ≤ 5
    go (Some m) q = decimal_short 65535 (omega arith) (b ∷ c ∷ cs) m q
    go None q = absurd (no_number 65535 (omega arith) n (sym (ap positive q) ∙ e))

never : (x y : ℕ) → bad ≡ writer x y → ⊥
never x y e = let z : ◌≡◌ {A = ℕ} 0 1 = cc in omega arith

parted_length : (x : ℕ) (t : List ℕ) → contains x t ≡ true → length t ≡ length (up_to x t) + 1 + length (past x t)
parted_length x t h =
    let i = contains_place x t h in
    omega (arith, length-take-le (index_of x t) t (omega (arith, i)), length-drop (index_of x t + 1) t, i)

rest_short : (r : List ℕ) (id size : ℕ) → writer_rest r ≡ writer id size → length r ≤ 11
rest_short r id size e = go (contains 9 r) refl
  where
    parts : (x y : Option ℕ) → contains 9 r ≡ true → decimal_of 65535 (up_to 9 r) ≡ x → size_of (past 9 r) ≡ y → writer_of x y ≡ writer id size → length r ≤ 11
    parts (Some i) (Some z) h a b q =
        omega (arith, parted_length 9 r h, decimal_short 65535 (omega arith) (up_to 9 r) i a, size_short (past 9 r) z b)
    parts (Some i) None h a b q = absurd (never id size q)
    parts None y h a b q = absurd (never id size q)

    go : (b : Bool) → contains 9 r ≡ b → length r ≤ 11
    go true h = parts (decimal_of 65535 (up_to 9 r)) (size_of (past 9 r)) h refl refl (rw h at e)
    go false h = absurd (never id size (rw h at e))

field_number : (r : List ℕ) (x : Option ℕ) → decimal_of 255 r ≡ x → (t : ℕ) → field_of x ≡ field t → length r ≤ 5
field_number r (Some n) q t e = decimal_short 255 (omega arith) r n q
field_number r None q t e = let z : ◌≡◌ {A = ℕ} 0 1 = cc in absurd (omega arith)

no_writer : (x : Option ℕ) (id size : ℕ) → field_of x ≡ writer id size → ⊥
no_writer (Some n) id size e = go (fixed n) refl
  where
    go : (b : Bool) → fixed n ≡ b → ⊥
    go true h = let w : field n ≡ writer id size = rw h at e in let z : ◌≡◌ {A = ℕ} 0 1 = cc in omega arith
    go false h = never id size (rw h at e)
no_writer None id size e = never id size e

no_field : (x y : Option ℕ) (t : ℕ) → writer_of x y ≡ field t → ⊥
no_field (Some i) (Some z) t e = let z : ◌≡◌ {A = ℕ} 0 1 = cc in omega arith
no_field (Some i) None t e = let z : ◌≡◌ {A = ℕ} 0 1 = cc in omega arith
no_field None y t e = let z : ◌≡◌ {A = ℕ} 0 1 = cc in omega arith

-- how many bytes a line may have, with its newline, by what it says
abbrev most : Says → ℕ
most (writer id size) = 19
most (field t) = 12
most bad = 0

line_short : (l : List ℕ) (y : Says) → says_of l ≡ y → (y ≡ bad → ⊥) → length l + 1 ≤ most y
line_short l y e not_bad = go (starts_with l writer_start) (starts_with l field_start) refl refl y e not_bad
  where
    go : (a b : Bool) → starts_with l writer_start ≡ a → starts_with l field_start ≡ b → (y : Says) → says_of l ≡ y → (y ≡ bad → ⊥) → length l + 1 ≤ most y
    go true b p q (writer id size) e not_bad = omega (arith, length-drop 7 l, rest_short (drop 7 l) id size (rw p at e))
    go true b p q (field t) e not_bad = absurd (rest_field (contains 9 (drop 7 l)) refl (rw p at e))
      where
        rest_field : (x : Bool) → contains 9 (drop 7 l) ≡ x → writer_rest (drop 7 l) ≡ field t → ⊥
        rest_field true h w = no_field (decimal_of 65535 (up_to 9 (drop 7 l))) (size_of (past 9 (drop 7 l))) t (rw h at w)
        rest_field false h w = let v : bad ≡ field t = rw h at w in let z : ◌≡◌ {A = ℕ} 0 1 = cc in omega arith
    go true b p q bad e not_bad = absurd (not_bad refl)
    go false true p q (writer id size) e not_bad = absurd (no_writer (decimal_of 255 (drop 6 l)) id size (rw (p, q) at e))
    go false true p q (field t) e not_bad = omega (arith, length-drop 6 l, field_number (drop 6 l) (decimal_of 255 (drop 6 l)) refl t (rw (p, q) at e))
    go false true p q bad e not_bad = absurd (not_bad refl)
    go false false p q y e not_bad = absurd (not_bad (sym e ∙ rw (p, q)))

-- how many bytes the lines that may still follow have at most
abbrev left : Config → ℕ
left c = 19 * (16 - c.writers) + 12 * (64 - c.fields)

permitted_short : (c : Config) (l : List ℕ) → may_follow c (says_of l) ≡ true → length l + 1 + left (with c (says_of l)) ≤ left c
permitted_short c l p = go (says_of l) refl p
  where
    go : (y : Says) → says_of l ≡ y → may_follow c y ≡ true → length l + 1 + left (with c (says_of l)) ≤ left c
    go (writer id size) e q =
        rw e (omega (arith, new_within c.ids c.writers id q, line_short l (writer id size) e (λ z. never id size (sym z))))
    go (field t) e q =
        rw e (omega (arith, field_within c q, line_short l (field t) e (λ z. let w : ◌≡◌ {A = ℕ} 0 1 = cc in omega arith)))
    go bad e q = absurd (false≢true q)

-- ---- the first m bytes of a text
module _ (x : ℕ) where
  before_none : (t : List ℕ) (m : ℕ) → m ≤ index_of x t → contains x (take m t) ≡ false
  before_none [] zero h = refl
  before_none [] (suc m) h = refl
  before_none (b ∷ t) zero h = refl
  before_none (b ∷ t) (suc m) h = go (eqb b x) refl (before_none t m)
    where
      go : (y : Bool) → eqb b x ≡ y → (m ≤ index_of x t → contains x (take m t) ≡ false) → contains x (take (suc m) (b ∷ t)) ≡ false
      go true e more = let k : suc m ≤ 0 = rw e at h in absurd (omega arith)
      go false e more = let k : suc m ≤ suc (index_of x t) = rw e at h in rw e (more (omega arith))

  same_index : (t : List ℕ) (m : ℕ) → index_of x t < m → m ≤ length t → (contains x (take m t) ≡ true) × (index_of x (take m t) ≡ index_of x t)
  same_index [] m h k = absurd (omega arith)
  same_index (b ∷ t) zero h k = absurd (omega arith)
  same_index (b ∷ t) (suc m) h k = go (eqb b x) refl (same_index t m)
    where
      go : (y : Bool) → eqb b x ≡ y → (index_of x t < m → m ≤ length t → (contains x (take m t) ≡ true) × (index_of x (take m t) ≡ index_of x t))
          → (contains x (take (suc m) (b ∷ t)) ≡ true) × (index_of x (take (suc m) (b ∷ t)) ≡ index_of x (b ∷ t))
      go true e more = rw e (refl, refl)
      go false e more =
          let z : suc (index_of x t) < suc m = rw e at h in
          let i = more (omega arith) (omega arith) in
          rw e (i.0, ap suc i.1)

  there : (t : List ℕ) → index_of x t < length t → contains x t ≡ true
  there t h = go (contains x t) refl
    where
      go : (b : Bool) → contains x t ≡ b → contains x t ≡ true
      go true e = e
      go false e = absurd (omega (arith, lacks_place x t e))

drop_front : (t : List ℕ) (i m : ℕ) → i ≤ m → m ≤ length t → drop i (take m t) ≡ take (m - i) (drop i t)
drop_front t i m h k =
    let sum : i + (m - i) ≡ m = omega arith in
    ap (λ (j : ℕ). drop i (take j t)) (sym sum) ∙ ap (drop i) (take-add i (m - i) t)
    ∙ drop_at (take i t) (take (m - i) (drop i t)) i (length-take-le i t (omega arith))

-- ---- the lines of a text that is longer than those that may still follow
module _ (c : Config) (n : ℕ) where
  unended_bad : (t : List ℕ) → contains 10 t ≡ false → 0 < length t → read_lines c n (lines_of t) ≡ bad_line n
  unended_bad [] h k = absurd (omega arith)
  unended_bad (b ∷ t) h k = ap (read_lines c n) (lines_last b t h)

  first_bad : (t : List ℕ) → contains 10 t ≡ true → may_follow c (says_of (up_to 10 t)) ≡ false → read_lines c n (lines_of t) ≡ bad_line n
  first_bad t h p = ap (read_lines c n) (lines_next t h) ∙ rw p

  first_taken : (t : List ℕ) → contains 10 t ≡ true → may_follow c (says_of (up_to 10 t)) ≡ true
      → read_lines c n (lines_of t) ≡ read_lines (with c (says_of (up_to 10 t))) (n + 1) (lines_of (past 10 t))
  first_taken t h p = ap (read_lines c n) (lines_next t h) ∙ rw p

  -- a first line that is too long
  long_line : (t : List ℕ) → left c ≤ index_of 10 t → 0 < length t → read_lines c n (lines_of t) ≡ bad_line n
  long_line t h k = go (contains 10 t) refl
    where
      go : (b : Bool) → contains 10 t ≡ b → read_lines c n (lines_of t) ≡ bad_line n
      go false e = unended_bad t e k
      go true e = may (may_follow c (says_of (up_to 10 t))) refl
        where
          may : (b : Bool) → may_follow c (says_of (up_to 10 t)) ≡ b → read_lines c n (lines_of t) ≡ bad_line n
          may false p = first_bad t e p
          may true p =
              let i = contains_place 10 t e in
              let s = length-take-le (index_of 10 t) t (omega (arith, i)) in
              absurd (omega (arith, permitted_short c (up_to 10 t) p, s))

abbrev SameFront : Config → ℕ → ℕ → List ℕ → Type 0
SameFront c n m t = (read_lines c n (lines_of (take m t)) ≡ read_lines c n (lines_of t)) × (config_number (read_lines c n (lines_of t)) ≡ 16)

-- with what is said of a shorter text
module _ (t : List ℕ) (m n : ℕ) (c : Config) (b : left c < m) (d : m ≤ length t)
    (again : (c : Config) (m : ℕ) → left c < m → m ≤ length (past 10 t) → SameFront c (n + 1) m (past 10 t)) where
  -- the first line ends within the front
  module _ (h : index_of 10 t < m) where
    has : contains 10 t ≡ true
    has = there 10 t (omega arith)

    same : (contains 10 (take m t) ≡ true) × (index_of 10 (take m t) ≡ index_of 10 t)
    same = same_index 10 t m h d

    line : up_to 10 (take m t) ≡ up_to 10 t
    line = ap (λ (i : ℕ). take i (take m t)) same.1 ∙ take-take (index_of 10 t) m t (omega arith)

    rest : past 10 (take m t) ≡ take (m - (index_of 10 t + 1)) (past 10 t)
    rest = ap (λ (i : ℕ). drop (i + 1) (take m t)) same.1 ∙ drop_front t (index_of 10 t + 1) m (omega arith) d

    refused_line : may_follow c (says_of (up_to 10 t)) ≡ false → SameFront c n m t
    refused_line p =
        let whole = first_bad c n t has p in
        let front = first_bad c n (take m t) same.0 (ap (λ (l : List ℕ). may_follow c (says_of l)) line ∙ p) in
        (front ∙ sym whole, ap config_number whole)

    taken_line : may_follow c (says_of (up_to 10 t)) ≡ true → SameFront c n m t
    taken_line p =
        let y : Says = says_of (up_to 10 t) in
        let size = length-take-le (index_of 10 t) t (omega arith) in
        let fit = permitted_short c (up_to 10 t) p in
        let long = length-drop (index_of 10 t + 1) t in
        let more = again (with c y) (m - (index_of 10 t + 1)) (omega (arith, fit, size)) (omega (arith, long)) in
        let front =
        first_taken c n (take m t) same.0 (ap (λ (l : List ℕ). may_follow c (says_of l)) line ∙ p)
        ∙ ap (λ (l : List ℕ). read_lines (with c (says_of l)) (n + 1) (lines_of (past 10 (take m t)))) line
        ∙ ap (λ (r : List ℕ). read_lines (with c y) (n + 1) (lines_of r)) rest in
        let whole = first_taken c n t has p in
        (front ∙ more.0 ∙ sym whole, ap config_number whole ∙ more.1)

    short_line : (x : Bool) → may_follow c (says_of (up_to 10 t)) ≡ x → SameFront c n m t
    short_line false p = refused_line p
    short_line true p = taken_line p

  by_line : (x : Bool) → ltb (index_of 10 t) m ≡ x → SameFront c n m t
  by_line true e = short_line (ltb-true (index_of 10 t) m e) (may_follow c (says_of (up_to 10 t))) refl
  by_line false e =
      let h = ltb-false (index_of 10 t) m e in
      let whole = long_line c n t (omega (arith, h)) (omega arith) in
      let front = unended_bad c n (take m t) (before_none 10 t m h) (omega (arith, length-take-le m t d)) in
      (front ∙ sym whole, ap config_number whole)

long_lines : (k : ℕ) (t : List ℕ) (m n : ℕ) (c : Config) → length t ≤ k → left c < m → m ≤ length t → SameFront c n m t
long_lines zero t m n c a b d = absurd (omega arith)
long_lines (suc k) t m n c a b d =
    by_line t m n c b d (λ c m b d. long_lines k (past 10 t) m (n + 1) c (omega (arith, length-drop (index_of 10 t + 1) t)) b d) (ltb (index_of 10 t) m) refl

-- "A refused configuration": a text of more than 1,072 bytes is refused, and any front of it that is longer is refused alike
pub long_text : (t : List ℕ) (m : ℕ) → 1072 < m → m ≤ length t → (config_of (take m t) ≡ config_of t) × (config_number (config_of t) ≡ 16)
unfolding config_of
long_text t m h k = long_lines (length t) t m 1 empty_config (omega arith) (omega arith) k
