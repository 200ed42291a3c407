-- The dimensions of an array that is told: they stand before its end, each is 1 or more, and their product is its number of elements.
-- Assumes nothing.
use mathlib.Core.Path.{◌≡◌, refl, sym, ap, subst, ◌∙◌}
use mathlib.Core.Bool.{Bool, true, false, cond}
use mathlib.Core.List.{List}
use Prim.Native.Nat.{ℕ, ◌+◌, ◌*◌, ◌-◌, ◌<◌, ◌≤◌}
use native.Mathlib.Omega.{arith}
use borrow.Author.Tests.{ltb-true}
use lib.Dec.{eqb, ltb}
use Rattle.wire.specs.Number.{le}
use Rattle.wire.specs.Answer.{got, refused, Reader, pure, ruled}
use Rattle.wire.specs.Items.{length_item}
use Rattle.wire.specs.declared.Length.{Length}
use Rattle.wire.proofs.Reading.{got_value, got_next, not_got, invert}
use Rattle.wire_writer.proofs.Back.{ruled_back}
use Rattle.plain_value.specs.Plain.{passing, after_length, plain, plain_value}
use Rattle.plain_value.specs.Dimensions.{fours, sizes_rule, sizes, after_list_length, dimensions}
use Rattle.value.specs.Value.{Measure, measure, type_of, is_array, has_dimensions, scalar, elements, array_of, array, dimensioned, matrix_of, matrix, value_at}
use Rattle.value.specs.declared.Shape.{Shape}
use Rattle.value_parts.specs.Told.{parts_from, told_variant_at}
use Rattle.value_parts.specs.declared.told.ValueParts.{ValueParts}
use Rattle.value_parts.proofs.Structure.{there, first_of}

-- the d dimensions before e, of n elements
abbrev Sizes : List ℕ → ℕ → ℕ → ℕ → Type 0
Sizes s e n d = (1 ≤ d) × (sizes_rule n (fours d (le (4 * d) s (e - 4 * d))) ≡ 0)

-- a dimensions list that is accepted
listed : (s : List ℕ) (k at : ℕ) {d e : ℕ} → dimensions k s at ≡ got d e → Sizes s e k d
unfolding dimensions
listed s k at {d} {e} q = let i = invert (length_item s at) (λ z next. after_list_length k at z s next) q in go i.0 i.1 i.3
  where
    some : (j next : ℕ) → 0 < j → sizes k j s next ≡ got d e → Sizes s e k d
    some j next h r =
        let x = invert (ruled (4 * j) (λ v. sizes_rule k (fours j v)) s next) (λ v last. got j last) r in
        let f = ruled_back (4 * j) (λ v. sizes_rule k (fours j v)) s next x.0 x.1 x.2 in
        let t = there (4 * j) s next (le (4 * j) s next) f.0 in
        let place : next ≡ e - 4 * j = omega (arith, t.0, got_next x.3) in
        subst (Sizes s e k) (got_value x.3)
        (h, ap (λ (z : ℕ). sizes_rule k (fours j (le (4 * j) s z))) (sym place) ∙ ap (λ (v : ℕ). sizes_rule k (fours j v)) t.2 ∙ f.1)

    counted : (j next : ℕ) (b : Bool) → ltb 0 j ≡ b → cond b (sizes k j s next) (refused 5 at) ≡ got d e → Sizes s e k d
    counted j next true l r = some j next (ltb-true 0 j l) r
    counted j next false l r = absurd (not_got r)

    go : (z : Length) (next : ℕ) → after_list_length k at z s next ≡ got d e → Sizes s e k d
    go Length.Null next r = absurd (not_got r)
    go (Length.Of j) next r = counted j next (ltb 0 j) refl r
    go Length.Negative next r = absurd (not_got r)

-- shapes apart
not_scalar : (n d : ℕ) → Shape.Scalar ≡ Shape.Matrix n d → ⊥
not_scalar n d z = let y : ◌≡◌ {A = ℕ} 0 1 = cc in omega arith

not_null : (n d : ℕ) → Shape.NullArray ≡ Shape.Matrix n d → ⊥
not_null n d z = let y : ◌≡◌ {A = ℕ} 0 1 = cc in omega arith

not_plain : (k n d : ℕ) → Shape.Array k ≡ Shape.Matrix n d → ⊥
not_plain k n d z = let y : ◌≡◌ {A = ℕ} 0 1 = cc in omega arith

same_shape : (k j n d : ℕ) → Shape.Matrix k j ≡ Shape.Matrix n d → (k ≡ n) × (j ≡ d)
same_shape k j n d z = (cc, cc)

-- what is measured as the answer's value says has its shape
shaped : {m : Measure} {x : Shape} {t e e' : ℕ} {y : Shape} → got (measure t x) e ≡ got m e' → m.shape ≡ y → x ≡ y
shaped q h = ap (λ (k : Measure). k.shape) (got_value q) ∙ h

module _ (s : List ℕ) (nested : ℕ → Reader Measure) (t at : ℕ) {m : Measure} {e n d : ℕ} (h : m.shape ≡ Shape.Matrix n d) where
  after_elements : (k p : ℕ) → dimensioned t k s p ≡ got m e → Sizes s e n d
  after_elements k p q =
      let j = invert (dimensions k s p) (λ c last. got (measure t (Shape.Matrix k c)) last) q in
      let x = same_shape k j.0 n d (shaped j.3 h) in
      let y : Sizes s e k j.0 = subst (λ (z : ℕ). Sizes s z k j.0) (got_next j.3) (listed s k p j.2) in
      subst (λ (z : ℕ). Sizes s e z d) x.0 (subst (Sizes s e k) x.1 y)

  matrix_sizes : matrix nested t s at ≡ got m e → Sizes s e n d
  unfolding matrix
  matrix_sizes q = let i = invert (length_item s at) (λ z next. after_length (dimensioned t 0) (matrix_of nested t) at z s next) q in go i.0 i.1 i.3
    where
      go : (z : Length) (next : ℕ) → after_length (dimensioned t 0) (matrix_of nested t) at z s next ≡ got m e → Sizes s e n d
      go Length.Null next r = after_elements 0 next r
      go (Length.Of c) next r = let j = invert (elements nested t c s next) (λ x p. dimensioned t c s p) r in after_elements c j.1 j.3
      go Length.Negative next r = absurd (not_got r)

  array_none : array nested t s at ≡ got m e → Sizes s e n d
  unfolding array
  array_none q = let i = invert (length_item s at) (λ z next. after_length (pure (measure t Shape.NullArray)) (array_of nested t) at z s next) q in go i.0 i.1 i.3
    where
      go : (z : Length) (next : ℕ) → after_length (pure (measure t Shape.NullArray)) (array_of nested t) at z s next ≡ got m e → Sizes s e n d
      go Length.Null next r = absurd (not_null n d (shaped r h))
      go (Length.Of c) next r =
          let j = invert (elements nested t c s next) (λ x last. got (measure t (Shape.Array c)) last) r in
          absurd (not_plain c n d (shaped j.3 h))
      go Length.Negative next r = absurd (not_got r)

  scalar_none : scalar nested t s at ≡ got m e → Sizes s e n d
  unfolding scalar
  scalar_none q =
      let j = invert (cond (plain t) (plain_value t) (passing (nested t)) s at) (λ x last. got (measure t Shape.Scalar) last) q in
      absurd (not_scalar n d (shaped j.3 h))

variant_sizes : (s : List ℕ) (at : ℕ) {m : Measure} {e n d : ℕ} → value_at 100 24 s at ≡ got m e → m.shape ≡ Shape.Matrix n d → Sizes s e n d
variant_sizes s at {m} {e} {n} {d} q h = let f = first_of 99 s at q in go f.b (eqb (type_of f.b) 0) (is_array f.b) (has_dimensions f.b) f.rest
  where
    go : (b : ℕ) (x y z : Bool)
        → cond x (λ w p. got (measure 0 Shape.Scalar) p)
        (cond y (cond z (matrix (value_at 99) (type_of b)) (array (value_at 99) (type_of b))) (scalar (value_at 99) (type_of b))) s (at + 1) ≡ got m e
        → Sizes s e n d
    go b true y z r = absurd (not_scalar n d (shaped r h))
    go b false true true r = matrix_sizes s (value_at 99) (type_of b) (at + 1) h r
    go b false true false r = array_none s (value_at 99) (type_of b) (at + 1) h r
    go b false false z r = scalar_none s (value_at 99) (type_of b) (at + 1) h r

pub told_sizes : (s : List ℕ) (at : ℕ) (p : ValueParts) (e n d : ℕ) → told_variant_at s at ≡ got p e → p.shape ≡ Shape.Matrix n d → Sizes s e n d
told_sizes s at p e n d q h =
    let i = invert (value_at 100 24 s at) (λ m end. got (parts_from s (at + 1) m end) end) q in
    subst (λ (z : ℕ). Sizes s z n d) (got_next i.3) (variant_sizes s at i.2 (ap (λ (v : ValueParts). v.shape) (got_value i.3) ∙ h))
