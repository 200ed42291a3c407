-- The value itself fills the bytes from `first` up to `end`: a scalar of a fixed type its width, an array so many elements, a String so many
-- bytes as its length says, and what is null none.
-- Assumes nothing.
use mathlib.Core.Path.{◌≡◌, refl, sym, ap, subst, ◌∙◌}
use mathlib.Core.Bool.{Bool, true, false, cond, ◌||◌, false≢true}
use mathlib.Core.List.{List}
use Prim.Native.Nat.{ℕ, suc, ◌+◌, ◌*◌}
use native.Mathlib.Nat.{zero-mul}
use native.Mathlib.Omega.{arith}
use lib.Dec.{eqb, leb, ltb}
use lib.ListN.{length}
use Rattle.wire.specs.Number.{le, signed}
use Rattle.wire.specs.Constants.{NOT_TAKEN}
use Rattle.wire.specs.Answer.{got, refused, Reader, pure, refuse, ruled}
use Rattle.wire.specs.Items.{length_of, length_item}
use Rattle.wire.specs.declared.Length.{Length}
use Rattle.wire.proofs.Reading.{got_value, got_next, not_got, invert}
use Rattle.wire_writer.proofs.Back.{ruled_back}
use Rattle.plain_value.specs.Width.{width_of, fixed}
use Rattle.plain_value.specs.Plain.{passing, bytes, after_length, string, length_first, named, text, plain, plain_value, plain_values}
use Rattle.plain_value.specs.Dimensions.{fours, sizes_rule, sizes, after_list_length, dimensions}
use Rattle.plain_value.proofs.Passing.{passed}
use Rattle.value.specs.Value.{Measure, measure, type_of, is_array, has_dimensions, scalar, elements, array_of, array, dimensioned, matrix_of, matrix, value_at}
use Rattle.value.specs.declared.Shape.{Shape}
use Rattle.value.proofs.FirstItems.{fixed_first}
use Rattle.value_parts.specs.Told.{Filled, parts_from, told_variant_at}
use Rattle.value_parts.specs.declared.told.ValueParts.{ValueParts}
use Rattle.value_parts.proofs.Structure.{there, first_of, text_is}
use Rattle.value_parts.proofs.Telling.{fixed_plainly, text_string}

-- how the bytes from `at` on, after a Variant's first byte, are filled up to e
data Fills (s : List ℕ) (at : ℕ) : Measure → ℕ → Type 0 where
  null : Fills s at (measure 0 Shape.Scalar) at
  fixed_scalar : {t e : ℕ} → fixed t ≡ true → e ≡ at + width_of t → Fills s at (measure t Shape.Scalar) e
  null_text : {t : ℕ} → length_first t ≡ true → length_item s at ≡ got Length.Null (at + 4) → Fills s at (measure t Shape.Scalar) (at + 4)
  some_text : {t n e : ℕ} → length_first t ≡ true → length_item s at ≡ got (Length.Of n) (at + 4) → e ≡ at + 4 + n → Fills s at (measure t Shape.Scalar) e
  null_array : {t : ℕ} → length_item s at ≡ got Length.Null (at + 4) → Fills s at (measure t Shape.NullArray) (at + 4)
  fixed_array : {t n e : ℕ} → fixed t ≡ true → length_item s at ≡ got (Length.Of n) (at + 4) → e ≡ at + 4 + n * width_of t → Fills s at (measure t (Shape.Array n)) e
  fixed_matrix : {t n d e : ℕ} → fixed t ≡ true → e ≡ at + 4 + n * width_of t + (4 + 4 * d) → Fills s at (measure t (Shape.Matrix n d)) e
  -- a DataValue or a name; arrays of Strings, names, Variants and DataValues
  held : {t e : ℕ} → fixed t ≡ false → length_first t ≡ false → eqb t 0 ≡ false → Fills s at (measure t Shape.Scalar) e
  many : {t n e : ℕ} → fixed t ≡ false → Fills s at (measure t (Shape.Array n)) e
  many_listed : {t n d e : ℕ} → fixed t ≡ false → Fills s at (measure t (Shape.Matrix n d)) e

-- n bytes that were passed over
bytes_to : (n : ℕ) (s : List ℕ) (at : ℕ) {x : Unit {0}} {e : ℕ} → bytes n s at ≡ got x e → e ≡ at + n
bytes_to n s at {e = e} q = let p = passed (cond (leb (at + n) (length s)) (got n (at + n)) (refused 1 at)) q in (there n s at n p.1).0

length_to : (s : List ℕ) (at : ℕ) {l : Length} {next : ℕ} → length_item s at ≡ got l next → next ≡ at + 4
length_to s at q = (there 4 s at (length_of (signed 4 (le 4 s at))) q).0

-- a dimensions list: its length, and 4 bytes for each dimension
dimensions_to : (n : ℕ) (s : List ℕ) (at : ℕ) {d e : ℕ} → dimensions n s at ≡ got d e → e ≡ at + (4 + 4 * d)
unfolding dimensions
dimensions_to n s at {d} {e} q = let i = invert (length_item s at) (λ z next. after_list_length n at z s next) q in go i.0 i.1 (length_to s at i.2) i.3
  where
    some : (k next : ℕ) → next ≡ at + 4 → sizes n k s next ≡ got d e → e ≡ at + (4 + 4 * d)
    some k next h r =
        let j = invert (ruled (4 * k) (λ v. sizes_rule n (fours k v)) s next) (λ v last. got k last) r in
        let f = ruled_back (4 * k) (λ v. sizes_rule n (fours k v)) s next j.0 j.1 j.2 in
        let t = there (4 * k) s next (le (4 * k) s next) f.0 in
        omega (arith, h, t.0, got_next j.3, got_value j.3)

    counted : (k next : ℕ) → next ≡ at + 4 → (b : Bool) → cond b (sizes n k s next) (refused 5 at) ≡ got d e → e ≡ at + (4 + 4 * d)
    counted k next h true r = some k next h r
    counted k next h false r = absurd (not_got r)

    go : (z : Length) (next : ℕ) → next ≡ at + 4 → after_list_length n at z s next ≡ got d e → e ≡ at + (4 + 4 * d)
    go Length.Null next h r = absurd (not_got r)
    go (Length.Of k) next h r = counted k next h (ltb 0 k) r
    go Length.Negative next h r = absurd (not_got r)

module _ (s : List ℕ) (at : ℕ) where
  text_fills : (t : ℕ) → length_first t ≡ true → {e : ℕ} → string s at ≡ got tt e → Fills s at (measure t Shape.Scalar) e
  unfolding string
  text_fills t l {e} q = let i = invert (length_item s at) (λ z next. after_length (pure tt) bytes at z s next) q in go i.0 i.1 i.2 (length_to s at i.2) i.3
    where
      go : (z : Length) (next : ℕ) → length_item s at ≡ got z next → next ≡ at + 4 → after_length (pure tt) bytes at z s next ≡ got tt e → Fills s at (measure t Shape.Scalar) e
      go Length.Null next h n r =
          subst (λ (k : ℕ). Fills s at (measure t Shape.Scalar) k) (sym n ∙ got_next r) (null_text l (subst (λ (k : ℕ). length_item s at ≡ got Length.Null k) n h))
      go (Length.Of c) next h n r =
          some_text l (subst (λ (k : ℕ). length_item s at ≡ got (Length.Of c) k) n h) (bytes_to c s next r ∙ ap (λ (k : ℕ). k + c) n)
      go Length.Negative next h n r = absurd (not_got r)

  array_fills : (nested : ℕ → Reader Measure) (t : ℕ) (f : Bool) → fixed t ≡ f → {m : Measure} {e : ℕ} → array nested t s at ≡ got m e → Fills s at m e
  unfolding array elements plain_values
  array_fills nested t f ef {m} {e} q =
      let i = invert (length_item s at) (λ z next. after_length (pure (measure t Shape.NullArray)) (array_of nested t) at z s next) q in
      go i.0 i.1 i.2 (length_to s at i.2) i.3
    where
      counted : (c next : ℕ) → length_item s at ≡ got (Length.Of c) next → next ≡ at + 4 → (b : Bool) → fixed t ≡ b → {k : ℕ} → elements nested t c s next ≡ got tt k
          → Fills s at (measure t (Shape.Array c)) k
      counted c next h n true f r =
          let p = (fixed_first t f).4 in
          let w : bytes (c * width_of t) s next ≡ got tt _ = rw (p, f) at r in
          fixed_array f (subst (λ (k : ℕ). length_item s at ≡ got (Length.Of c) k) n h) (bytes_to (c * width_of t) s next w ∙ ap (λ (k : ℕ). k + c * width_of t) n)
      counted c next h n false f r = many f

      go : (z : Length) (next : ℕ) → length_item s at ≡ got z next → next ≡ at + 4 → after_length (pure (measure t Shape.NullArray)) (array_of nested t) at z s next ≡ got m e → Fills s at m e
      go Length.Null next h n r =
          subst (λ (k : ℕ). Fills s at m k) (sym n ∙ got_next r)
          (subst (λ (x : Measure). Fills s at x (at + 4)) (got_value r) (null_array (subst (λ (k : ℕ). length_item s at ≡ got Length.Null k) n h)))
      go (Length.Of c) next h n r =
          let j = invert (elements nested t c s next) (λ x last. got (measure t (Shape.Array c)) last) r in
          subst (λ (k : ℕ). Fills s at m k) (got_next j.3)
          (subst (λ (x : Measure). Fills s at x j.1) (got_value j.3) (counted c next h n f ef j.2))
      go Length.Negative next h n r = absurd (not_got r)

  -- after n elements that end at p
  listed_fills : (t n p : ℕ) → (fixed t ≡ true → p ≡ at + 4 + n * width_of t) → {m : Measure} {e : ℕ} → dimensioned t n s p ≡ got m e → Fills s at m e
  listed_fills t n p h {m} {e} q =
      let j = invert (dimensions n s p) (λ d last. got (measure t (Shape.Matrix n d)) last) q in
      subst (λ (k : ℕ). Fills s at m k) (got_next j.3) (subst (λ (x : Measure). Fills s at x j.1) (got_value j.3) (go j.0 j.1 (dimensions_to n s p j.2) (fixed t) refl))
    where
      go : (d k : ℕ) → k ≡ p + (4 + 4 * d) → (b : Bool) → fixed t ≡ b → Fills s at (measure t (Shape.Matrix n d)) k
      go d k r true f = fixed_matrix f (r ∙ ap (λ (x : ℕ). x + (4 + 4 * d)) (h f))
      go d k r false f = many_listed f

  matrix_fills : (nested : ℕ → Reader Measure) (t : ℕ) {m : Measure} {e : ℕ} → matrix nested t s at ≡ got m e → Fills s at m e
  unfolding matrix elements plain_values
  matrix_fills nested t {m} {e} q =
      let i = invert (length_item s at) (λ z next. after_length (dimensioned t 0) (matrix_of nested t) at z s next) q in
      go i.0 i.1 (length_to s at i.2) i.3
    where
      counted : (c next : ℕ) → next ≡ at + 4 → {k : ℕ} → elements nested t c s next ≡ got tt k → fixed t ≡ true → k ≡ at + 4 + c * width_of t
      counted c next n r f =
          let p = (fixed_first t f).4 in
          let w : bytes (c * width_of t) s next ≡ got tt _ = rw (p, f) at r in
          bytes_to (c * width_of t) s next w ∙ ap (λ (k : ℕ). k + c * width_of t) n

      go : (z : Length) (next : ℕ) → next ≡ at + 4 → after_length (dimensioned t 0) (matrix_of nested t) at z s next ≡ got m e → Fills s at m e
      go Length.Null next n r = listed_fills t 0 next (λ f. let w : 0 * width_of t ≡ 0 = zero-mul (width_of t) in omega (arith, n, w)) r
      go (Length.Of c) next n r =
          let j = invert (elements nested t c s next) (λ x p. dimensioned t c s p) r in
          listed_fills t c j.1 (counted c next n j.2) j.3
      go Length.Negative next n r = absurd (not_got r)

  scalar_fills : (nested : ℕ → Reader Measure) (t : ℕ) → eqb t 0 ≡ false → {m : Measure} {e : ℕ} → scalar nested t s at ≡ got m e → Fills s at m e
  unfolding scalar plain plain_value
  scalar_fills nested t z {m} {e} q =
      let j = invert (cond (plain t) (plain_value t) (passing (nested t)) s at) (λ x last. got (measure t Shape.Scalar) last) q in
      subst (λ (k : ℕ). Fills s at m k) (got_next j.3)
      (subst (λ (x : Measure). Fills s at x j.1) (got_value j.3) (go (fixed t) refl (length_first t) refl (named t) j.2))
    where
      go : (x : Bool) → fixed t ≡ x → (y : Bool) → length_first t ≡ y → (n : Bool) → {k : ℕ} {u : Unit {0}}
          → cond {A = Reader (Unit {0})} (x || (y || n)) (cond x (bytes (width_of t)) (cond (y || n) (text t) (refuse NOT_TAKEN))) (passing (nested t)) s at ≡ got u k
          → Fills s at (measure t Shape.Scalar) k
      go true ex y ey n r = fixed_scalar ex (bytes_to (width_of t) s at r)
      go false ex true ey n r = text_fills t ey (sym (text_string t (text_is t ey) s at) ∙ r)
      go false ex false ey n r = held ex ey z

-- an accepted Variant
variant_fills : (levels : ℕ) (s : List ℕ) (at : ℕ) {m : Measure} {e : ℕ} → value_at (suc levels) 24 s at ≡ got m e → Fills s (at + 1) m e
variant_fills levels s at {m} {e} q = let f = first_of levels s at q in go f.b (eqb (type_of f.b) 0) refl (is_array f.b) (has_dimensions f.b) f.rest
  where
    go : (b : ℕ) (x : Bool) → eqb (type_of b) 0 ≡ x → (y z : Bool)
        → cond x (λ z p. got (measure 0 Shape.Scalar) p)
        (cond y (cond z (matrix (value_at levels) (type_of b)) (array (value_at levels) (type_of b))) (scalar (value_at levels) (type_of b))) s (at + 1) ≡ got m e
        → Fills s (at + 1) m e
    go b true ex y z h =
        subst (λ (k : ℕ). Fills s (at + 1) m k) (got_next h) (subst (λ (x : Measure). Fills s (at + 1) x (at + 1)) (got_value h) null)
    go b false ex true true h = matrix_fills s (at + 1) (value_at levels) (type_of b) h
    go b false ex true false h = array_fills s (at + 1) (value_at levels) (type_of b) (fixed (type_of b)) refl h
    go b false ex false z h = scalar_fills s (at + 1) (value_at levels) (type_of b) ex h

-- so the parts of a value that is told agree with each other

scalar_array : (n : ℕ) → Shape.Scalar ≡ Shape.Array n → ⊥
scalar_array n z = let y : ◌≡◌ {A = ℕ} 0 1 = cc in omega arith

array_scalar : (n : ℕ) → Shape.Array n ≡ Shape.Scalar → ⊥
array_scalar n z = let y : ◌≡◌ {A = ℕ} 0 1 = cc in omega arith

null_scalar : Shape.NullArray ≡ Shape.Scalar → ⊥
null_scalar z = let y : ◌≡◌ {A = ℕ} 0 1 = cc in omega arith

null_array_lem : (n : ℕ) → Shape.NullArray ≡ Shape.Array n → ⊥
null_array_lem n z = let y : ◌≡◌ {A = ℕ} 0 1 = cc in omega arith

scalar_matrix : (n d : ℕ) → Shape.Scalar ≡ Shape.Matrix n d → ⊥
scalar_matrix n d z = let y : ◌≡◌ {A = ℕ} 0 1 = cc in omega arith

null_matrix : (n d : ℕ) → Shape.NullArray ≡ Shape.Matrix n d → ⊥
null_matrix n d z = let y : ◌≡◌ {A = ℕ} 0 1 = cc in omega arith

array_matrix : (k n d : ℕ) → Shape.Array k ≡ Shape.Matrix n d → ⊥
array_matrix k n d z = let y : ◌≡◌ {A = ℕ} 0 1 = cc in omega arith

matrix_scalar : (n d : ℕ) → Shape.Matrix n d ≡ Shape.Scalar → ⊥
matrix_scalar n d z = let y : ◌≡◌ {A = ℕ} 0 1 = cc in omega arith

same_matrix : (n d k c : ℕ) → Shape.Matrix n d ≡ Shape.Matrix k c → (n ≡ k) × (d ≡ c)
same_matrix n d k c z = (cc, cc)

same_count : (n k : ℕ) → Shape.Array n ≡ Shape.Array k → n ≡ k
same_count n k z = cc

-- two tests of one type
apart : {b : Bool} → b ≡ false → b ≡ true → ⊥
apart e f = false≢true (sym e ∙ f)

module _ (s : List ℕ) (at : ℕ) where
  zero_filled : Filled (parts_from s at (measure 0 Shape.Scalar) at)
  unfolding width_of
  zero_filled =
      record { scalar = λ f z. absurd (false≢true f); array = λ n f z. absurd (false≢true f); matrix = λ n d f z. absurd (false≢true f); null = λ z. refl }

  parts_filled : {m : Measure} {e : ℕ} → Fills s at m e → Filled (parts_from s at m e)
  parts_filled null = zero_filled
  parts_filled (fixed_scalar {t} {e} f q) =
      let l = fixed_plainly t f in
      let k = (fixed_first t f).3 in
      record {
        scalar = λ g z. rw l q;
        array = λ n g z. absurd (scalar_array n z);
        matrix = λ n d g z. absurd (scalar_matrix n d z);
        null = λ z. absurd (apart (rw (l, k)) z);
      }
  parts_filled (null_text {t} l q) =
      record {
        scalar = λ f z. absurd (apart (fixed_plainly t f) l);
        array = λ n f z. absurd (scalar_array n z);
        matrix = λ n d g z. absurd (scalar_matrix n d z);
        null = λ z. rw l;
      }
  parts_filled (some_text {t} l q h) =
      record {
        scalar = λ f z. absurd (apart (fixed_plainly t f) l);
        array = λ n f z. absurd (scalar_array n z);
        matrix = λ n d g z. absurd (scalar_matrix n d z);
        null = λ z. absurd (apart (rw (l, q)) z);
      }
  parts_filled (null_array q) =
      record {
        scalar = λ f z. absurd (null_scalar z);
        array = λ n f z. absurd (null_array_lem n z);
        matrix = λ n d g z. absurd (null_matrix n d z);
        null = λ z. refl;
      }
  parts_filled (fixed_array {t} {n} f q h) =
      record {
        scalar = λ g z. absurd (array_scalar n z);
        array = λ k g z. h ∙ ap (λ (j : ℕ). at + 4 + j * width_of t) (same_count n k z);
        matrix = λ k d g z. absurd (array_matrix n k d z);
        null = λ z. absurd (false≢true z);
      }
  parts_filled (fixed_matrix {t} {n} {d} f h) =
      record {
        scalar = λ g z. absurd (matrix_scalar n d z);
        array = λ k g z. absurd (array_matrix k n d (sym z));
        matrix =
            λ k c g z. h ∙ ap (λ (j : ℕ). at + 4 + j * width_of t + (4 + 4 * d)) (same_matrix n d k c z).0
            ∙ ap (λ (j : ℕ). at + 4 + k * width_of t + (4 + 4 * j)) (same_matrix n d k c z).1;
        null = λ z. absurd (false≢true z);
      }
  parts_filled (held f l k) =
      record {
        scalar = λ g z. absurd (apart f g);
        array = λ n g z. absurd (apart f g);
        matrix = λ n d g z. absurd (apart f g);
        null = λ z. absurd (apart (rw (l, k)) z);
      }
  parts_filled (many {n = n} f) =
      record {
        scalar = λ g z. absurd (apart f g);
        array = λ k g z. absurd (apart f g);
        matrix = λ k d g z. absurd (apart f g);
        null = λ z. absurd (false≢true z);
      }
  parts_filled (many_listed f) =
      record {
        scalar = λ g z. absurd (apart f g);
        array = λ k g z. absurd (apart f g);
        matrix = λ k d g z. absurd (apart f g);
        null = λ z. absurd (false≢true z);
      }

-- of every Variant that is told
pub told_filled : (s : List ℕ) (at : ℕ) {p : ValueParts} {e : ℕ} → told_variant_at s at ≡ got p e → Filled p
told_filled s at q =
    let i = invert (value_at 100 24 s at) (λ m end. got (parts_from s (at + 1) m end) end) q in
    subst Filled (got_value i.3) (parts_filled s (at + 1) (variant_fills 99 s at i.2))
