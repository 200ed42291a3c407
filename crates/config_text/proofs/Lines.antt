-- One line of the text: its words, its decimals and its newline, found one after the other, say what the whole line says.
-- Assumes nothing.
use Rattle.std.specs.Prelude.{Option, Some, None}
use mathlib.Core.Path.{◌≡◌, refl, sym, ◌∙◌, ap}
use mathlib.Core.Bool.{Bool, true, false, cond, ◌&&◌, false≢true, and-true}
use mathlib.Core.List.{List, [], ◌∷◌, ◌++◌}
use mathlib.Core.Logic.{⊎_elim}
use Prim.Native.Nat.{ℕ, suc, ◌+◌, ◌≤◌}
use native.Mathlib.Nat.{le_of_lt, pos_of_ne-zero}
use native.Mathlib.Omega.{arith}
use borrow.Author.Tests.{eq-eqb, ne_eqb, lt-ltb}
use lib.Dec.{eqb}
use lib.ListN.{length, drop, length-append, length-drop}
use lib.Seq.{drop-drop, drop-append-add, length-take-le}
use Rattle.text.specs.Words.{contains, index_of, up_to, past, starts_with}
use Rattle.text.specs.Decimal.{all_digits, decimal_of, decimal_at, ended_by}
use Rattle.wire.proofs.Facts.{cases}
use Rattle.text.proofs.Lists.{either_way}
use Rattle.text.proofs.Parts.{Taken, part_taken, part_refused, before_end, no_decimal, parted, decimal_is, starts_is, starts_not, contains_place, through_contains, through_place, through_up_to, digits_contain, digits_place, digits_before}
use Rattle.plain_value.specs.Width.{width_of}
use Rattle.config_text.specs.Line.{bad, is_dash, positive, size_of, writer_of, writer_rest, field_rest, writer_start, field_start, says_of, as_line, line_by, rest_at, line_from, size_at}
use Rattle.config_text.specs.declared.line.Line.TheVariants.{Writer, Field}

-- `-` and the newline
abbrev dash : List ℕ
dash = 45 ∷ 10 ∷ []

pub size_dash : (s : List ℕ) (at : ℕ) → starts_with (drop at s) dash ≡ true → Some (0, at + 2) ≡ size_at s at
size_dash s at h =
    let k : at + 2 ≡ at + 1 + 1 = omega arith in
    ap (λ (k : ℕ). Some (0, k)) k ∙ ap (λ (t : List ℕ). ended_by 10 size_of t at) (sym (starts_is (drop at s) dash h))

not_dash : (t : List ℕ) → starts_with t dash ≡ false → contains 10 t ≡ true → is_dash (up_to 10 t) ≡ false
not_dash [] h n = absurd (false≢true n)
not_dash (b ∷ []) h n = ⊎_elim (λ e. rw e) (λ e. let z : false ≡ true = rw e at n in absurd (false≢true z)) (cases (eqb b 10))
not_dash (b ∷ c ∷ t) h n =
    ⊎_elim
    (λ e. rw e)
    (λ e. rw e (⊎_elim (λ d. rw d (no_45 (eqb b 45) (rw d at h))) (λ d. rw d) (cases (eqb c 10))))
    (cases (eqb b 10))
  where
    no_45 : (u : Bool) → u && true ≡ false → u ≡ false
    no_45 u e = sym (and-true u) ∙ e

-- a size that is not `-`
module _ (s : List ℕ) (at : ℕ) (h : starts_with (drop at s) dash ≡ false) where
  pub size_none : decimal_at 65535 10 s at ≡ None → None ≡ size_at s at
  size_none e = go (contains 10 (drop at s)) refl
    where
      go : (b : Bool) → contains 10 (drop at s) ≡ b → None ≡ size_at s at
      go true n = rw (n, not_dash (drop at s) h n, part_refused 10 (decimal_of 65535) (drop at s) at e n)
      go false n = rw n

  module _ (n next : ℕ) (e : decimal_at 65535 10 s at ≡ Some (n, next)) where
    size_taken : Taken 10 (decimal_of 65535) (drop at s) at n next
    size_taken = part_taken 10 (decimal_of 65535) (drop at s) at n next e

    pub size_zero : n ≡ 0 → None ≡ size_at s at
    size_zero z = rw (size_taken.there, not_dash (drop at s) h size_taken.there, size_taken.says, eq-eqb n 0 z)

    pub size_is : (n ≡ 0 → ⊥) → Some (n, next) ≡ size_at s at
    size_is z = rw (size_taken.there, not_dash (drop at s) h size_taken.there, size_taken.says, ne_eqb n 0 z) (ap (λ (k : ℕ). Some (n, k)) size_taken.after)

-- a field's line
module _ (s : List ℕ) (at : ℕ) where
  pub field_none : decimal_at 255 10 s at ≡ None → None ≡ rest_at field_rest s at
  field_none e = go (contains 10 (drop at s)) refl
    where
      go : (b : Bool) → contains 10 (drop at s) ≡ b → None ≡ rest_at field_rest s at
      go true n = rw (n, part_refused 10 (decimal_of 255) (drop at s) at e n)
      go false n = rw n

  module _ (n next : ℕ) (e : decimal_at 255 10 s at ≡ Some (n, next)) where
    field_taken : Taken 10 (decimal_of 255) (drop at s) at n next
    field_taken = part_taken 10 (decimal_of 255) (drop at s) at n next e

    pub field_within : n ≤ 255
    field_within = (decimal_is 255 (up_to 10 (drop at s)) n field_taken.says).1

    pub field_other : width_of n ≡ 0 → None ≡ rest_at field_rest s at
    field_other z = rw (field_taken.there, field_taken.says, z)

    pub field_is : (width_of n ≡ 0 → ⊥) → Some (Field n, next) ≡ rest_at field_rest s at
    field_is z =
        rw (field_taken.there, field_taken.says, lt-ltb 0 (width_of n) (pos_of_ne-zero z)) (ap (λ (k : ℕ). Some (Field n, k)) field_taken.after)

-- a writer's line whose id is no decimal up to a tab
pub writer_none : (s : List ℕ) (at : ℕ) → decimal_at 65535 9 s at ≡ None → None ≡ rest_at writer_rest s at
writer_none s at e = go (contains 10 (drop at s)) refl
  where
    no_id : (r : List ℕ) (b : Bool) → contains 9 r ≡ b → ended_by 9 (decimal_of 65535) r at ≡ None → writer_rest r ≡ bad
    no_id r true n e = rw (n, part_refused 9 (decimal_of 65535) r at e n)
    no_id r false n e = rw n

    go : (b : Bool) → contains 10 (drop at s) ≡ b → None ≡ rest_at writer_rest s at
    go true n =
        let z : ended_by 9 (decimal_of 65535) (up_to 10 (drop at s)) at ≡ None = before_end 9 10 (decimal_of 65535) (drop at s) at (λ q. omega arith) (no_decimal 10 65535 refl) ∙ e in
        rw (n, no_id (up_to 10 (drop at s)) (contains 9 (up_to 10 (drop at s))) refl z)
    go false n = rw n

-- a writer's line whose id is p: its size is read from what stands after the tab
writer_size : (p u : List ℕ) (at id : ℕ) → decimal_of 65535 p ≡ Some id
    → line_by writer_rest (p ++ 9 ∷ u) at ≡ cond (contains 10 u) (as_line (writer_of (Some id) (size_of (up_to 10 u))) (at + length p + 1 + index_of 10 u + 1)) None
writer_size p u at id e =
    let a : all_digits p ≡ true = (decimal_is 65535 p id e).0 in
    let k : at + (length p + suc (index_of 10 u)) + 1 ≡ at + length p + 1 + index_of 10 u + 1 = omega arith in
    rw (through_contains 10 refl (9 ∷ u) p a, through_up_to 10 refl (9 ∷ u) p a, through_place 10 refl (9 ∷ u) p a, k, says a)
  where
    past_tab : (v : List ℕ) → all_digits p ≡ true → past 9 (p ++ 9 ∷ v) ≡ v
    past_tab v a = rw (digits_place 9 refl v p a) (drop-append-add p (9 ∷ v) 1)

    says : all_digits p ≡ true → writer_rest (p ++ 9 ∷ up_to 10 u) ≡ writer_of (Some id) (size_of (up_to 10 u))
    says a = rw (digits_contain 9 refl (up_to 10 u) p a, digits_before 9 refl (up_to 10 u) p a, past_tab (up_to 10 u) a, e)

-- a size is at most 65,535
positive_by : (o : Option ℕ) (n : ℕ) → positive o ≡ Some n → o ≡ Some n
positive_by None n e = e
positive_by (Some m) n e = go (eqb m 0) e
  where
    go : (b : Bool) → ◌≡◌ {A = Option ℕ} (cond b None (Some m)) (Some n) → Some m ≡ Some n
    go true e = let z : ◌≡◌ {A = ℕ} 0 1 = cc in absurd (omega arith)
    go false e = e

size_by : (q : List ℕ) (b : Bool) {n : ℕ} → is_dash q ≡ b → size_of q ≡ Some n → n ≤ 65535
size_by q true {n} d e = let z : ◌≡◌ {A = Option ℕ} (Some 0) (Some n) = rw d at e in let w : 0 ≡ n = cc in omega arith
size_by q false {n} d e = (decimal_is 65535 q n (positive_by (decimal_of 65535 q) n (rw d at e))).1

module _ (s : List ℕ) (at id p : ℕ) (e : decimal_at 65535 9 s at ≡ Some (id, p)) where
  id_taken : Taken 9 (decimal_of 65535) (drop at s) at id p
  id_taken = part_taken 9 (decimal_of 65535) (drop at s) at id p e

  pub id_within : id ≤ 65535
  id_within = (decimal_is 65535 (up_to 9 (drop at s)) id id_taken.says).1

  digits : all_digits (up_to 9 (drop at s)) ≡ true
  digits = (decimal_is 65535 (up_to 9 (drop at s)) id id_taken.says).0

  id_length : length (up_to 9 (drop at s)) ≡ index_of 9 (drop at s)
  id_length = length-take-le (index_of 9 (drop at s)) (drop at s) (le_of_lt (contains_place 9 (drop at s) id_taken.there))

  -- what stands after the tab
  behind : drop p s ≡ past 9 (drop at s)
  behind =
      let k : p ≡ at + (index_of 9 (drop at s) + 1) = omega (arith, id_taken.after) in
      ap (λ (j : ℕ). drop j s) k ∙ sym (drop-drop (index_of 9 (drop at s) + 1) at s)

  whole : rest_at writer_rest s at ≡ cond (contains 10 (drop p s)) (as_line (writer_of (Some id) (size_of (up_to 10 (drop p s)))) (p + index_of 10 (drop p s) + 1)) None
  whole =
      let k : at + length (up_to 9 (drop at s)) + 1 ≡ p = omega (arith, id_length, id_taken.after) in
      ap (λ (t : List ℕ). line_by writer_rest t at) (parted 9 (drop at s) id_taken.there) ∙ writer_size (up_to 9 (drop at s)) (past 9 (drop at s)) at id id_taken.says
      ∙ rw (k, behind)

  pub writer_no_size : size_at s p ≡ None → None ≡ rest_at writer_rest s at
  writer_no_size f = sym (whole ∙ go (contains 10 (drop p s)) refl)
    where
      go : (b : Bool) → contains 10 (drop p s) ≡ b
          → cond (contains 10 (drop p s)) (as_line (writer_of (Some id) (size_of (up_to 10 (drop p s)))) (p + index_of 10 (drop p s) + 1)) None ≡ None
      go true n = rw (n, part_refused 10 size_of (drop p s) p f n)
      go false n = rw n

  module _ (size next : ℕ) (f : size_at s p ≡ Some (size, next)) where
    taken : Taken 10 size_of (drop p s) p size next
    taken = part_taken 10 size_of (drop p s) p size next f

    pub size_limit : size ≤ 65535
    size_limit = size_by (up_to 10 (drop p s)) (is_dash (up_to 10 (drop p s))) refl taken.says

    pub writer_is : Some (Writer id size, next) ≡ rest_at writer_rest s at
    writer_is = sym (whole ∙ rw (taken.there, taken.says) (ap (λ (k : ℕ). Some (Writer id size, k)) (sym taken.after)))

-- a line that begins with one of the words
word_writer : (u : List ℕ) (at : ℕ) → line_by writer_rest u (at + 7) ≡ line_by says_of (writer_start ++ u) at
word_writer u at =
    let k : at + 7 + index_of 10 u + 1 ≡ at + suc (suc (suc (suc (suc (suc (suc (index_of 10 u))))))) + 1 = omega arith in
    ap (λ (n : ℕ). cond (contains 10 u) (as_line (writer_rest (up_to 10 u)) n) None) k

word_field : (u : List ℕ) (at : ℕ) → line_by field_rest u (at + 6) ≡ line_by says_of (field_start ++ u) at
word_field u at =
    let k : at + 6 + index_of 10 u + 1 ≡ at + suc (suc (suc (suc (suc (suc (index_of 10 u)))))) + 1 = omega arith in
    ap (λ (n : ℕ). cond (contains 10 u) (as_line (field_rest (up_to 10 u)) n) None) k

module _ (s : List ℕ) (at : ℕ) where
  pub line_writer : starts_with (drop at s) writer_start ≡ true → rest_at writer_rest s (at + 7) ≡ line_from s at
  line_writer h =
      ap (λ (t : List ℕ). line_by writer_rest t (at + 7)) (sym (drop-drop 7 at s)) ∙ word_writer (drop 7 (drop at s)) at
      ∙ ap (λ (t : List ℕ). line_by says_of t at) (sym (starts_is (drop at s) writer_start h))

  pub line_field : starts_with (drop at s) field_start ≡ true → rest_at field_rest s (at + 6) ≡ line_from s at
  line_field h =
      ap (λ (t : List ℕ). line_by field_rest t (at + 6)) (sym (drop-drop 6 at s)) ∙ word_field (drop 6 (drop at s)) at
      ∙ ap (λ (t : List ℕ). line_by says_of t at) (sym (starts_is (drop at s) field_start h))

  pub line_other : starts_with (drop at s) writer_start ≡ false → starts_with (drop at s) field_start ≡ false → None ≡ line_from s at
  line_other h g =
      rw (starts_not (index_of 10 (drop at s)) (drop at s) writer_start h, starts_not (index_of 10 (drop at s)) (drop at s) field_start g)
      (sym (either_way (contains 10 (drop at s)) None))

  -- the word lies within the text
  pub word_within : (w : ℕ) (word : List ℕ) → starts_with (drop at s) (w ∷ word) ≡ true → at + length (w ∷ word) ≤ length s
  word_within w word h =
      let e : length (drop at s) ≡ length (w ∷ word) + length (drop (length (w ∷ word)) (drop at s)) = ap length (starts_is (drop at s) (w ∷ word) h)
      ∙ length-append (w ∷ word) (drop (length (w ∷ word)) (drop at s)) in
      omega (arith, length-drop at s)
