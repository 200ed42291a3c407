-- Measuring a value is steady: its answer lies within the slice, depends on the bytes measured only, and moves with them.
-- Assumes nothing.
use mathlib.Core.Path.{◌≡◌, refl, subst}
use mathlib.Core.Bool.{Bool, true, false, cond, not, ◌&&◌, ◌||◌}
use mathlib.Core.List.{List}
use Prim.Native.Nat.{ℕ, zero, suc, ◌+◌, ◌*◌, ◌<◌, ◌≤◌}
use native.Mathlib.Nat.{le_refl, le-add_right}
use native.Mathlib.Omega.{arith}
use lib.Dec.{eqb, leb, ltb}
use lib.ListN.{length}
use borrow.Author.Tests.{leb-true, leb-false}
use Rattle.wire.specs.Number.{le}
use Rattle.wire.specs.Answer.{got, Reader, ◌>>=◌, ruled, bit}
use Rattle.wire.specs.declared.Length.{Length}
use Rattle.plain_value.specs.Width.{width_of, fixed}
use Rattle.plain_value.specs.Parts.{parts}
use Rattle.plain_value.specs.Plain.{length_first, named, plain, plain_value, plain_values}
use Rattle.plain_value.specs.Dimensions.{fours, any_below_one, product, sizes_rule, after_list_length, dimensions}
use Rattle.value.specs.Value.{Measure, measure, type_of, is_array, has_dimensions, taken, variant_rule, scalar, elements, array, dimensioned, matrix, variant_of, mask_rule, data_value_of, too_deep, value_at, raw_at}
use Rattle.value.specs.declared.Shape.{Shape}
use Rattle.plain_value.proofs.Steadily.{passing_steady, bytes_steady, by_length_steady, text_steady}
use Rattle.wire.proofs.Places.{end_of}
use Rattle.wire.proofs.Steady.{Ends, Steady, Onward, steadily, refusing, pure_steady, refuse_steady, item_steady, length_item_steady, onward_steady, bind_steady, then_steady, cond_onward, cond_steady, Fair, fair, fair_cond, when_steady, each_steady, ruled_ends, ruled_steady, taking_ends, then_ends}

-- no rule of a value refuses by 1

sizes_fair : (n : ℕ) (ds : List ℕ) → Fair (sizes_rule n ds)
sizes_fair n ds = fair_cond (any_below_one ds) (fair 5 refl) (fair_cond (eqb (product ds) n) (fair 0 refl) (fair 6 refl))

mask_fair : (m : ℕ) → Fair (mask_rule m)
mask_fair m = fair_cond (bit 6 m || bit 7 m) (fair 3 refl) (fair 0 refl)

variant_fair : (b : ℕ) → Fair (variant_rule b)
unfolding variant_rule
variant_fair b =
    fair_cond (has_dimensions b && not (is_array b)) (fair 3 refl)
    (fair_cond (eqb (type_of b) 0 && is_array b) (fair 3 refl)
    (fair_cond (eqb (type_of b) 24 && not (is_array b)) (fair 3 refl) (fair_cond (taken (type_of b)) (fair 0 refl) (fair 4 refl))))

-- a dimensions list
dimensions_steady : (n : ℕ) → Steady (dimensions n)
unfolding dimensions
dimensions_steady n = onward_steady length_item_steady onward
  where
    onward : (l : Length) → Onward (λ p. after_list_length n p l)
    onward Length.Null = refusing 5 (omega arith)
    onward (Length.Of k) =
        cond_onward (ltb 0 k) (λ e. steadily (then_steady (ruled_steady (4 * k) (λ v. sizes_rule n (fours k v)) (λ v. sizes_fair n (fours k v))) (pure_steady k))) (λ e. refusing 5 (omega arith))
    onward Length.Negative = refusing 5 (omega arith)

dimensioned_steady : (t n : ℕ) → Steady (dimensioned t n)
dimensioned_steady t n = bind_steady (dimensions_steady n) (λ d. pure_steady (measure t (Shape.Matrix n d)))

plain_value_steady : (t : ℕ) → Steady (plain_value t)
unfolding plain_value
plain_value_steady t = cond_steady (fixed t) (bytes_steady (width_of t)) (cond_steady (length_first t || named t) (text_steady t) (refuse_steady 4 (omega arith)))

plain_values_steady : (t n : ℕ) → Steady (plain_values t n)
unfolding plain_values
plain_values_steady t n = cond_steady (fixed t) (bytes_steady (n * width_of t)) (each_steady (text_steady t) n)

parts_steady : (m : ℕ) → Steady (parts m)
unfolding parts
parts_steady m =
    then_steady (when_steady (bit 1 m) tt (bytes_steady 4))
    (then_steady (when_steady (bit 2 m) tt (bytes_steady 8))
    (then_steady (when_steady (bit 4 m) tt (bytes_steady 2))
    (then_steady (when_steady (bit 3 m) tt (bytes_steady 8))
    (when_steady (bit 5 m) tt (bytes_steady 2)))))

module _ (nested : ℕ → Reader Measure) (h : (t : ℕ) → Steady (nested t)) where
  scalar_steady : (t : ℕ) → Steady (scalar nested t)
  unfolding scalar
  scalar_steady t = then_steady (cond_steady (plain t) (plain_value_steady t) (passing_steady (h t))) (pure_steady (measure t Shape.Scalar))

  elements_steady : (t n : ℕ) → Steady (elements nested t n)
  unfolding elements
  elements_steady t n = cond_steady (plain t) (plain_values_steady t n) (each_steady (h t) n)

  array_steady : (t : ℕ) → Steady (array nested t)
  unfolding array
  array_steady t = by_length_steady (pure_steady (measure t Shape.NullArray)) λ n. then_steady (elements_steady t n) (pure_steady (measure t (Shape.Array n)))

  matrix_steady : (t : ℕ) → Steady (matrix nested t)
  unfolding matrix
  matrix_steady t = by_length_steady (dimensioned_steady t 0) λ n. then_steady (elements_steady t n) (dimensioned_steady t n)

  after_first : (b : ℕ) → Steady (variant_of nested b)
  after_first b =
      cond_steady (eqb (type_of b) 0) (pure_steady (measure 0 Shape.Scalar))
      (cond_steady (is_array b) (cond_steady (has_dimensions b) (matrix_steady (type_of b)) (array_steady (type_of b))) (scalar_steady (type_of b)))

  after_mask : (m : ℕ) → Steady (data_value_of nested m)
  after_mask m =
      then_steady (when_steady (bit 0 m) tt (passing_steady (h 24)))
      (then_steady (parts_steady m) (pure_steady (measure 23 Shape.Scalar)))

too_deep_steady : Steady too_deep
too_deep_steady = onward_steady (item_steady 1) (λ b. refusing 9 (omega arith))

pub value_steady : (levels t : ℕ) → Steady (value_at levels t)
unfolding value_at
value_steady zero t = too_deep_steady
value_steady (suc levels) t =
    let h : (t : ℕ) → Steady (value_at levels t) = value_steady levels in
    cond_steady (eqb t 23)
    (bind_steady (ruled_steady 1 mask_rule mask_fair) (after_mask (value_at levels) h))
    (bind_steady (ruled_steady 1 variant_rule variant_fair) (after_first (value_at levels) h))

-- an accepted value takes at least a byte

cond_ends : {A : Type 0} (b : Bool) (x y : Reader A) (s : List ℕ) (at : ℕ) {p lo hi : ℕ} → Ends p lo hi (x s at) → Ends p lo hi (y s at) → Ends p lo hi (cond b x y s at)
cond_ends true x y s at f h = f
cond_ends false x y s at f h = h

value_ends : (levels t : ℕ) (s : List ℕ) (at hi : ℕ) → at ≤ hi → length s ≤ hi → Ends at (at + 1) hi (value_at levels t s at)
unfolding value_at
value_ends zero t s at hi l u = then_ends (λ b. refusing 9 (omega arith)) s (le-add_right at 1) u (taking_ends 1 (le 1) s at hi l u)
value_ends (suc levels) t s at hi l u =
    let h : (t : ℕ) → Steady (value_at levels t) = value_steady levels in
    cond_ends (eqb t 23) (ruled 1 mask_rule >>= data_value_of (value_at levels)) (ruled 1 variant_rule >>= variant_of (value_at levels)) s at
    (then_ends (λ m. steadily (after_mask (value_at levels) h m)) s (le-add_right at 1) u (ruled_ends 1 mask_rule mask_fair s at hi l u))
    (then_ends (λ b. steadily (after_first (value_at levels) h b)) s (le-add_right at 1) u (ruled_ends 1 variant_rule variant_fair s at hi l u))

-- a fixed-width element of RawData is steady too
pub raw_steady : (t : ℕ) → Steady (raw_at t)
raw_steady t = cond_steady (fixed t) (then_steady (bytes_steady (width_of t)) (pure_steady (measure t Shape.Scalar))) (refuse_steady 4 (omega arith))

-- Measuring a value at any level, in the words of the crates above.

module _ (levels t : ℕ) where
  -- the end lies after the start and within the slice
  pub value_within : (s : List ℕ) (at : ℕ) {e : ℕ} {m : Measure} → value_at levels t s at ≡ got m e → (at < e) × (e ≤ length s)
  value_within s at {e} {m} q = go (leb at (length s)) refl
    where
      ends : (hi : ℕ) → at ≤ hi → length s ≤ hi → (at + 1 ≤ e) × (e ≤ hi)
      ends hi l u = end_of (subst (Ends at (at + 1) hi) q (value_ends levels t s at hi l u))

      go : (b : Bool) → leb at (length s) ≡ b → (at < e) × (e ≤ length s)
      go true h = let w = ends (length s) (leb-true at (length s) h) (le_refl (length s)) in (omega arith, omega arith)
      go false h = let l : length s < at = leb-false at (length s) h in let w = ends at (le_refl at) (omega arith) in absurd (omega arith)
