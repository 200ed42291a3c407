-- Texts parted by bytes: what stands before the first such byte and after it, and parts that a function reads.
-- Assumes nothing.
use Rattle.std.specs.Prelude.{Option, Some, None}
use mathlib.Core.Path.{◌≡◌, refl, sym, ◌∙◌, ap}
use mathlib.Core.Bool.{Bool, true, false, cond, true≢false, false≢true, or-true, and-false}
use mathlib.Core.List.{List, [], ◌∷◌, ◌++◌, append-nil}
use mathlib.Core.Logic.{⊎_elim}
use Prim.Native.Nat.{ℕ, zero, suc, ◌+◌, ◌≤◌, ◌<◌}
use native.Mathlib.Nat.{add-zero, zero-add, suc-add}
use native.Mathlib.Omega.{arith}
use borrow.Author.Tests.{eq-eqb, ne_eqb, eqb-true, leb-true}
use lib.Dec.{eqb, leb}
use lib.ListN.{length, take, drop}
use Rattle.text.specs.Words.{contains, index_of, up_to, past, starts_with}
use Rattle.text.specs.Decimal.{is_digit, all_digits, no_leading_zero, decimal_value_of, decimal_of, placed, ended_by}
use Rattle.wire.proofs.Facts.{cases, and_left, and_right}
use Rattle.text.proofs.Lists.{either_way}

-- a byte that a text contains stands before the text's end
pub contains_place : (x : ℕ) (t : List ℕ) → contains x t ≡ true → index_of x t < length t
contains_place x [] h = absurd (false≢true h)
contains_place x (b ∷ t) h =
    ⊎_elim
    (λ e. rw e (omega arith))
    (λ e. let k : contains x t ≡ true = rw e at h in rw e (omega (arith, contains_place x t k)))
    (cases (eqb b x))

-- one that it lacks has the text's length for its place
pub lacks_place : (x : ℕ) (t : List ℕ) → contains x t ≡ false → length t ≤ index_of x t
lacks_place x [] h = omega arith
lacks_place x (b ∷ t) h =
    ⊎_elim
    (λ e. let z : true ≡ false = rw e at h in absurd (true≢false z))
    (λ e. let k : contains x t ≡ false = rw e at h in rw e (omega (arith, lacks_place x t k)))
    (cases (eqb b x))

-- a text is what stands before the byte, the byte, and what stands after it
pub parted : (x : ℕ) (t : List ℕ) → contains x t ≡ true → t ≡ up_to x t ++ x ∷ past x t
parted x [] h = absurd (false≢true h)
parted x (b ∷ t) h =
    ⊎_elim
    (λ e. rw e (ap (λ (c : ℕ). c ∷ t) (eqb-true b x e)))
    (λ e. let k : contains x t ≡ true = rw e at h in rw e (rw suc-add (ap (λ (u : List ℕ). b ∷ u) (parted x t k))))
    (cases (eqb b x))

-- a byte that is no digit stands behind the digits in front
module _ (x : ℕ) (n : is_digit x ≡ false) (v : List ℕ) where
  apart : (d : ℕ) → is_digit d ≡ true → eqb d x ≡ false
  apart d e = ne_eqb d x (λ q. true≢false (sym e ∙ ap is_digit q ∙ n))

  pub through_contains : (p : List ℕ) → all_digits p ≡ true → contains x (p ++ v) ≡ contains x v
  through_contains [] a = refl
  through_contains (d ∷ p) a = rw (apart d (and_left (is_digit d) (all_digits p) a)) (through_contains p (and_right (is_digit d) (all_digits p) a))

  pub through_place : (p : List ℕ) → all_digits p ≡ true → index_of x (p ++ v) ≡ length p + index_of x v
  through_place [] a = sym (zero-add (index_of x v))
  through_place (d ∷ p) a =
      rw (apart d (and_left (is_digit d) (all_digits p) a), suc-add) (ap suc (through_place p (and_right (is_digit d) (all_digits p) a)))

  pub through_up_to : (p : List ℕ) → all_digits p ≡ true → up_to x (p ++ v) ≡ p ++ up_to x v
  through_up_to [] a = refl
  through_up_to (d ∷ p) a =
      rw (apart d (and_left (is_digit d) (all_digits p) a)) (ap (λ (u : List ℕ). d ∷ u) (through_up_to p (and_right (is_digit d) (all_digits p) a)))

-- digits, and a byte that is none after them
module _ (x : ℕ) (n : is_digit x ≡ false) (rest : List ℕ) (p : List ℕ) (a : all_digits p ≡ true) where
  pub digits_contain : contains x (p ++ x ∷ rest) ≡ true
  digits_contain = through_contains x n (x ∷ rest) p a ∙ rw (eq-eqb x x refl)

  pub digits_place : index_of x (p ++ x ∷ rest) ≡ length p
  digits_place = through_place x n (x ∷ rest) p a ∙ rw (eq-eqb x x refl) (add-zero (length p))

  pub digits_before : up_to x (p ++ x ∷ rest) ≡ p
  digits_before = through_up_to x n (x ∷ rest) p a ∙ rw (eq-eqb x x refl) (append-nil p)

-- a part that was read, and one that was not
pub record Taken (x : ℕ) (f : List ℕ → Option ℕ) (t : List ℕ) (at n next : ℕ) : Type 0 where
  pub there : contains x t ≡ true
  pub says : f (up_to x t) ≡ Some n
  pub after : next ≡ at + index_of x t + 1

some_is : (o : Option ℕ) (k n next : ℕ) → placed o k ≡ Some (n, next) → (o ≡ Some n) × (next ≡ k)
some_is None k n next e = let z : ◌≡◌ {A = ℕ} 0 1 = cc in absurd (omega arith)
some_is (Some m) k n next e =
    let z : ◌≡◌ {A = ℕ × ℕ} (m, k) (n, next) = cc in
    (ap (λ (p : ℕ × ℕ). Some p.0) z, ap (λ (p : ℕ × ℕ). p.1) (sym z))

none_is : (o : Option ℕ) (k : ℕ) → placed o k ≡ None → o ≡ None
none_is None k e = refl
none_is (Some m) k e = let z : ◌≡◌ {A = ℕ} 0 1 = cc in absurd (omega arith)

module _ (x : ℕ) (f : List ℕ → Option ℕ) (t : List ℕ) (at : ℕ) where
  pub part_taken : (n next : ℕ) → ended_by x f t at ≡ Some (n, next) → Taken x f t at n next
  part_taken n next e =
      ⊎_elim
      (λ h. let k : (f (up_to x t) ≡ Some n) × (next ≡ at + index_of x t + 1) = some_is _ _ _ _ (rw h at e) in record { there = h; says = k.0; after = k.1 })
      (λ h. let z : ◌≡◌ {A = Option (ℕ × ℕ)} None (Some (n, next)) = rw h at e in let y : ◌≡◌ {A = ℕ} 0 1 = cc in absurd (omega arith))
      (cases (contains x t))

  pub part_refused : ended_by x f t at ≡ None → contains x t ≡ true → f (up_to x t) ≡ None
  part_refused e h = none_is _ _ (rw h at e)

-- a decimal is made of digits, and at most the limit
module _ (limit : ℕ) (p : List ℕ) (n : ℕ) where
  no_number : ◌≡◌ {A = Option ℕ} None (Some n) → ⊥
  no_number e = let z : ◌≡◌ {A = ℕ} 0 1 = cc in omega arith

  decimal_by : (x y z : Bool) → no_leading_zero p ≡ x → all_digits p ≡ y → leb (decimal_value_of p) limit ≡ z → decimal_of limit p ≡ Some n → (all_digits p ≡ true) × (n ≤ limit)
  decimal_by true true true a b c e =
      let v : ◌≡◌ {A = Option ℕ} (Some (decimal_value_of p)) (Some n) = rw (a, b, c) at e in
      let w : decimal_value_of p ≡ n = cc in
      (b, omega (arith, leb-true (decimal_value_of p) limit c))
  decimal_by true true false a b c e = absurd (no_number (rw (a, b, c) at e))
  decimal_by true false z a b c e = absurd (no_number (rw (a, b) at e))
  decimal_by false y z a b c e = absurd (no_number (rw a at e))

  pub decimal_is : decimal_of limit p ≡ Some n → (all_digits p ≡ true) × (n ≤ limit)
  decimal_is = decimal_by (no_leading_zero p) (all_digits p) (leb (decimal_value_of p) limit) refl refl refl

-- one byte, which is not the end, more in front
part_more : (x : ℕ) (f : List ℕ → Option ℕ) (b : ℕ) (t : List ℕ) (at : ℕ) → eqb b x ≡ false → ended_by x f (b ∷ t) at ≡ ended_by x (λ p. f (b ∷ p)) t (at + 1)
part_more x f b t at e =
    let k : at + suc (index_of x t) + 1 ≡ at + 1 + index_of x t + 1 = omega arith in
    rw e (ap (λ (k : ℕ). cond (contains x t) (placed (f (b ∷ up_to x t)) k) None) k)

-- a part that ends with x, read by a function that takes no y: the text's first y may as well be the text's end
pub before_end : (x y : ℕ) (f : List ℕ → Option ℕ) (t : List ℕ) (at : ℕ) → (x ≡ y → ⊥) → ((p : List ℕ) → contains y p ≡ true → f p ≡ None)
    → ended_by x f (up_to y t) at ≡ ended_by x f t at
before_end x y f [] at d n = refl
before_end x y f (b ∷ t) at d n = go (eqb b y) (eqb b x) refl refl (before_end x y (λ p. f (b ∷ p)) t (at + 1) d (λ p h. n (b ∷ p) (more p h)))
  where
    more : (p : List ℕ) → contains y p ≡ true → contains y (b ∷ p) ≡ true
    more p h = rw h (or-true (eqb b y))

    go : (u v : Bool) → eqb b y ≡ u → eqb b x ≡ v → ended_by x (λ p. f (b ∷ p)) (up_to y t) (at + 1) ≡ ended_by x (λ p. f (b ∷ p)) t (at + 1)
        → ended_by x f (up_to y (b ∷ t)) at ≡ ended_by x f (b ∷ t) at
    go true v p q ih =
        let z : contains y (b ∷ up_to x t) ≡ true = rw p in
        let w : eqb b x ≡ false = ne_eqb b x (λ e. d (sym e ∙ eqb-true b y p)) in
        rw p (sym (part_more x f b t at w ∙ rw (n (b ∷ up_to x t) z) (either_way (contains x t) None)))
    go false true p q ih = rw (p, q)
    go false false p q ih = rw p (part_more x f b (up_to y t) at q ∙ ih ∙ sym (part_more x f b t at q))

-- a text that begins with a word is the word and the rest
pub starts_is : (t word : List ℕ) → starts_with t word ≡ true → t ≡ word ++ drop (length word) t
starts_is t [] h = refl
starts_is [] (w ∷ ws) h = absurd (false≢true h)
starts_is (b ∷ t) (w ∷ ws) h =
    let e : b ≡ w = eqb-true b w (and_left (eqb b w) (starts_with t ws) h) in
    ap (λ (c : ℕ). c ∷ t) e ∙ ap (λ (u : List ℕ). w ∷ u) (starts_is t ws (and_right (eqb b w) (starts_with t ws) h))

-- one that does not begin with it does not so up to some place either
pub starts_not : (k : ℕ) (t word : List ℕ) → starts_with t word ≡ false → starts_with (take k t) word ≡ false
starts_not k t [] h = h
starts_not zero t (w ∷ ws) h = refl
starts_not (suc k) [] (w ∷ ws) h = refl
starts_not (suc k) (b ∷ t) (w ∷ ws) h =
    ⊎_elim (λ e. rw e (starts_not k t ws (rw e at h))) (λ e. rw e) (cases (eqb b w))

-- what contains a byte that is no digit is no decimal
pub no_decimal : (x limit : ℕ) → is_digit x ≡ false → (p : List ℕ) → contains x p ≡ true → decimal_of limit p ≡ None
no_decimal x limit n p h = rw (no_digits p h) (either_way {A = Option ℕ} (no_leading_zero p) None)
  where
    no_digits : (p : List ℕ) → contains x p ≡ true → all_digits p ≡ false
    no_digits [] h = absurd (false≢true h)
    no_digits (b ∷ p) h =
        ⊎_elim
        (λ e. rw (eqb-true b x e, n))
        (λ e. rw (no_digits p (rw e at h)) (and-false (is_digit b)))
        (cases (eqb b x))
