-- The dimensions of an array: one by one, and their product, which is not taken further once it is above the count.
-- Assumes nothing.
use mathlib.Core.Path.{◌≡◌, refl, sym, ap, subst, ◌∙◌}
use mathlib.Core.Bool.{Bool, true, false, cond, ◌||◌, false≢true}
use mathlib.Core.List.{List, [], ◌∷◌}
use Prim.Native.Nat.{ℕ, zero, suc, ◌+◌, ◌*◌, ◌-◌, ◌/◌, ◌%◌, ◌<◌, ◌≤◌}
use native.Mathlib.Nat.{mul_assoc, mul_comm, mul-zero, zero-mul, mul-one, mul-le-mul_left, le_trans, not-suc-le-zero}
use native.Mathlib.Numerals.{sub-one}
use native.Mathlib.Omega.{arith}
use borrow.Author.Tests.{eq-eqb, ne_eqb, ltb-true, lt-ltb}
use lib.Dec.{eqb, ltb}
use Rattle.wire.specs.Number.{le, signed}
use Rattle.wire.specs.Answer.{got, item}
use Rattle.wire.proofs.Numbers.{split}
use Rattle.wire.specs.Items.{length_item}
use Rattle.wire.specs.declared.Length.{Length}
use Rattle.plain_value.specs.Dimensions.{fours, below_one, any_below_one, product, sizes_rule, dimensions}

-- the first of the dimensions, and those after it
module _ (k : ℕ) (s : List ℕ) (at : ℕ) (h : le 4 s at < 4294967296) where
  fours_next : fours (suc k) (le (4 * suc k) s at) ≡ le 4 s at ∷ fours k (le (4 * k) s (at + 4))
  unfolding fours
  fours_next =
      let a : ℕ = le 4 s at in
      let b : ℕ = le (4 * k) s (at + 4) in
      let w : 4 * suc k ≡ 4 + 4 * k = omega arith in
      let e : le (4 * suc k) s at ≡ a + 4294967296 * b = ap (λ (n : ℕ). le n s at) w ∙ split 4 (4 * k) s at in
      let r : (a + 4294967296 * b) % 4294967296 ≡ a = omega arith in
      let q : (a + 4294967296 * b) / 4294967296 ≡ b = omega arith in
      rw (e, r, q)

-- the rules of the dimensions that are left, where those before them have the product acc
abbrev pub sizes_from : ℕ → ℕ → List ℕ → ℕ
sizes_from n acc ds = cond (any_below_one ds) 5 (cond (eqb (acc * product ds) n) 0 6)

-- a dimension that is not below 1
at_least : (d : ℕ) → below_one (signed 4 d) ≡ false → 1 ≤ d
at_least zero e = absurd (false≢true (sym e))
at_least (suc d) e = omega arith

positive_product : (ds : List ℕ) → any_below_one ds ≡ false → 1 ≤ product ds
unfolding any_below_one product
positive_product [] e = omega arith
positive_product (d ∷ ds) e = go (λ q. positive_product ds q) (below_one (signed 4 d)) refl e
  where
    go : (any_below_one ds ≡ false → 1 ≤ product ds) → (b : Bool) → below_one (signed 4 d) ≡ b → (b || any_below_one ds) ≡ false → 1 ≤ d * product ds
    go more true x q = absurd (false≢true (sym q))
    go more false x q = le_trans (at_least d x) (subst (λ (m : ℕ). m ≤ d * product ds) (mul-one d) (mul-le-mul_left d (more q)))

-- a product above the count stays above it
above : (n acc x : ℕ) → n < acc → 1 ≤ x → eqb (acc * x) n ≡ false
above n acc x h p =
    let g : acc * 1 ≤ acc * x = mul-le-mul_left acc p in
    ne_eqb (acc * x) n (λ e. omega (arith, g, mul-one acc, e, h))

over : (n acc : ℕ) (ds : List ℕ) → n < acc → sizes_from n acc ds ≡ cond (any_below_one ds) 5 6
over n acc ds h = go (any_below_one ds) refl
  where
    go : (b : Bool) → any_below_one ds ≡ b → ◌≡◌ {A = ℕ} (cond b 5 (cond (eqb (acc * product ds) n) 0 6)) (cond b 5 6)
    go true e = refl
    go false e = rw (above n acc (product ds) h (positive_product ds e))

module _ (n acc d : ℕ) (ds : List ℕ) where
  -- a dimension below 1
  sizes_stop : below_one (signed 4 d) ≡ true → sizes_from n acc (d ∷ ds) ≡ 5
  unfolding any_below_one
  sizes_stop e = rw e

  -- any other, by the product with it
  sizes_next : below_one (signed 4 d) ≡ false → sizes_from n acc (d ∷ ds) ≡ sizes_from n (cond (ltb n acc) acc (acc * d)) ds
  unfolding any_below_one product
  sizes_next e = go (ltb n acc) refl
    where
      go : (b : Bool) → ltb n acc ≡ b → sizes_from n acc (d ∷ ds) ≡ sizes_from n (cond b acc (acc * d)) ds
      go true x = let h : n < acc = ltb-true n acc x in over n acc (d ∷ ds) h ∙ rw e (sym (over n acc ds h))
      go false x = rw (e, mul_assoc acc d (product ds))

-- the loop over the k dimensions at a position, of which i are passed: a turn with the next one, and its end
module _ (s : List ℕ) (n acc : ℕ) where
  turn : (left p : ℕ) → 0 < left → le 4 s p < 4294967296 → fours left (le (4 * left) s p) ≡ le 4 s p ∷ fours (left - 1) (le (4 * (left - 1)) s (p + 4))
  turn zero p h l = absurd (not-suc-le-zero h)
  turn (suc k) p h l = rw (sub-one (suc k)) (fours_next k s p l)

  module _ (at k i d : ℕ) (h : i < k) (e : d ≡ le 4 s (at + 4 * i)) (small : d < 4294967296) where
    sizes_are : fours (k - i) (le (4 * (k - i)) s (at + 4 * i)) ≡ d ∷ fours (k - (i + 1)) (le (4 * (k - (i + 1))) s (at + 4 * (i + 1)))
    sizes_are =
        let more : k - (i + 1) ≡ k - i - 1 = omega arith in
        let next : at + 4 * (i + 1) ≡ at + 4 * i + 4 = omega arith in
        rw (more, next, e) (turn (k - i) (at + 4 * i) (omega arith) (omega (arith, e, small)))

    pub size_stop : below_one (signed 4 d) ≡ true → sizes_from n acc (fours (k - i) (le (4 * (k - i)) s (at + 4 * i))) ≡ 5
    size_stop q = ap (sizes_from n acc) sizes_are ∙ sizes_stop n acc d _ q

    pub size_again : {more : ℕ} → below_one (signed 4 d) ≡ false → more ≡ cond (ltb n acc) acc (acc * d)
        → sizes_from n acc (fours (k - i) (le (4 * (k - i)) s (at + 4 * i))) ≡ sizes_from n more (fours (k - (i + 1)) (le (4 * (k - (i + 1))) s (at + 4 * (i + 1))))
    size_again q r =
        ap (sizes_from n acc) sizes_are ∙ sizes_next n acc d _ q
        ∙ ap (λ (x : ℕ). sizes_from n x (fours (k - (i + 1)) (le (4 * (k - (i + 1))) s (at + 4 * (i + 1))))) (sym r)

  pub size_done : (left v : ℕ) → left ≤ 0 → sizes_from n acc (fours left v) ≡ cond (eqb acc n) 0 6
  unfolding fours any_below_one product
  size_done zero v h = ap (λ (x : ℕ). cond (eqb x n) 0 6) (mul-one acc)
  size_done (suc k) v h = absurd (not-suc-le-zero h)

-- two dimensions, which are one number of 8 bytes

one_of_two : (a b : ℕ) → 0 < a * b → a * b < 2147483648 → below_one (signed 4 a) ≡ false
one_of_two a zero some small = absurd (omega (arith, mul-zero a))
one_of_two zero (suc b) some small = absurd (omega (arith, zero-mul (suc b)))
one_of_two (suc a) (suc b) some small =
    let one : 1 ≤ suc b = omega arith in
    let h : suc a < 2147483648 = omega (arith, mul-le-mul_left (suc a) one, mul-one (suc a)) in
    rw (lt-ltb (suc a) 2147483648 h)

pub two_sizes : (v n : ℕ) → 0 < n → n < 2147483648 → v % 4294967296 * (v / 4294967296 % 4294967296) ≡ n → sizes_rule n (fours 2 v) ≡ 0
unfolding fours any_below_one product
two_sizes v n some small e =
    let a : ℕ = v % 4294967296 in
    let b : ℕ = v / 4294967296 % 4294967296 in
    let swapped : b * a ≡ n = mul_comm b a ∙ e in
    let whole : a * (b * 1) ≡ n = ap (λ (x : ℕ). a * x) (mul-one b) ∙ e in
    rw (one_of_two a b (omega (arith, e)) (omega (arith, e)), one_of_two b a (omega (arith, swapped)) (omega (arith, swapped)), eq-eqb (a * (b * 1)) n whole)

pub two_dimensions : (n : ℕ) (s : List ℕ) (at : ℕ) {k next v end : ℕ} → length_item s at ≡ got (Length.Of k) next → k ≡ 2 → item 8 s next ≡ got v end → sizes_rule n (fours 2 v) ≡ 0
    → dimensions n s at ≡ got 2 end
unfolding dimensions
two_dimensions n s at e two q r = rw (e, two, q, r)
