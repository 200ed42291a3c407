-- A value that is accepted inside another is accepted alone, where more levels are left, and measured alike.
-- Assumes nothing.
use mathlib.Core.Path.{◌≡◌}
use mathlib.Core.Bool.{Bool, true, false, cond}
use mathlib.Core.List.{List}
use Prim.Native.Nat.{ℕ, zero, suc}
use lib.Dec.{eqb}
use Rattle.wire.specs.Answer.{got, refused, Reader, ◌>>=◌, ◌>>◌, pure, item, ruled, when_on, each, bit}
use Rattle.wire.specs.Items.{length_item}
use Rattle.wire.specs.declared.Length.{Length}
use Rattle.wire.proofs.Reading.{not_got, invert}
use Rattle.plain_value.specs.Plain.{passing, plain, plain_value, plain_values, after_length, by_length}
use Rattle.plain_value.specs.Parts.{parts}
use Rattle.value.specs.Value.{Measure, measure, type_of, is_array, has_dimensions, variant_rule, mask_rule, scalar, elements, array_of, array, dimensioned, matrix_of, matrix, variant_of, data_value_of, value_of, value_at}
use Rattle.value.specs.declared.Shape.{Shape}

-- what r accepts, q accepts alike
abbrev Keeps : {A : Type 0} → Reader A → Reader A → Type 0
Keeps {A} r q = (s : List ℕ) (at : ℕ) (a : A) (e : ℕ) → r s at ≡ got a e → q s at ≡ got a e

same : {A : Type 0} (r : Reader A) → Keeps r r
same r s at a e h = h

keeps_bind : {A B : Type 0} (r q : Reader A) (k l : A → Reader B) → Keeps r q → ((a : A) → Keeps (k a) (l a)) → Keeps (r >>= k) (q >>= l)
keeps_bind r q k l f g s at a e h =
    let i = invert (r s at) (λ x n. k x s n) h in
    rw (f s at i.0 i.1 i.2) (g i.0 s i.1 a e i.3)

keeps_then : {A B : Type 0} (r q : Reader A) (k l : Reader B) → Keeps r q → Keeps k l → Keeps (r >> k) (q >> l)
keeps_then r q k l f g s at a e h =
    let i = invert (r s at) (λ x n. k s n) h in
    rw (f s at i.0 i.1 i.2) (g s i.1 a e i.3)

keeps_cond : {A : Type 0} (b : Bool) (x x' y y' : Reader A) → Keeps x x' → Keeps y y' → Keeps (cond b x y) (cond b x' y')
keeps_cond true x x' y y' f g s at a e h = f s at a e h
keeps_cond false x x' y y' f g s at a e h = g s at a e h

keeps_when : {A : Type 0} (on : Bool) (a : A) (r q : Reader A) → Keeps r q → Keeps (when_on on a r) (when_on on a q)
keeps_when true d r q f s at a e h = f s at a e h
keeps_when false d r q f s at a e h = h

keeps_each : {A : Type 0} (r q : Reader A) → Keeps r q → (n : ℕ) → Keeps (each r n) (each q n)
unfolding each
keeps_each r q f zero s at a e h = h
keeps_each r q f (suc n) s at a e h = keeps_then r q (each r n) (each q n) f (keeps_each r q f n) s at a e h

keeps_length : {A : Type 0} (null : Reader A) (k l : ℕ → Reader A) → ((n : ℕ) → Keeps (k n) (l n)) → Keeps (by_length null k) (by_length null l)
keeps_length {A} null k l g s at a e h =
    let i = invert (length_item s at) (λ z n. after_length null k at z s n) h in
    go i.0 i.1 i.2 i.3
  where
    go : (z : Length) (n : ℕ) → length_item s at ≡ got z n → after_length null k at z s n ≡ got a e → by_length null l s at ≡ got a e
    go Length.Null n q r = rw q r
    go (Length.Of c) n q r = rw q (g c s n a e r)
    go Length.Negative n q r = absurd (not_got r)

module _ (f g : ℕ → Reader Measure) (more : (t : ℕ) → Keeps (f t) (g t)) where
  passing_keeps : (t : ℕ) → Keeps (passing (f t)) (passing (g t))
  passing_keeps t = keeps_then (f t) (g t) (pure tt) (pure tt) (more t) (same (pure tt))

  scalar_keeps : (t : ℕ) → Keeps (scalar f t) (scalar g t)
  unfolding scalar
  scalar_keeps t =
      keeps_then (cond (plain t) (plain_value t) (passing (f t))) (cond (plain t) (plain_value t) (passing (g t))) (pure (measure t Shape.Scalar)) (pure (measure t Shape.Scalar))
      (keeps_cond (plain t) (plain_value t) (plain_value t) (passing (f t)) (passing (g t)) (same (plain_value t)) (passing_keeps t)) (same (pure (measure t Shape.Scalar)))

  elements_keeps : (t n : ℕ) → Keeps (elements f t n) (elements g t n)
  unfolding elements
  elements_keeps t n =
      keeps_cond (plain t) (plain_values t n) (plain_values t n) (each (f t) n) (each (g t) n) (same (plain_values t n)) (keeps_each (f t) (g t) (more t) n)

  array_keeps : (t : ℕ) → Keeps (array f t) (array g t)
  unfolding array
  array_keeps t =
      keeps_length (pure (measure t Shape.NullArray)) (array_of f t) (array_of g t)
      (λ n. keeps_then (elements f t n) (elements g t n) (pure (measure t (Shape.Array n))) (pure (measure t (Shape.Array n))) (elements_keeps t n) (same (pure (measure t (Shape.Array n)))))

  matrix_keeps : (t : ℕ) → Keeps (matrix f t) (matrix g t)
  unfolding matrix
  matrix_keeps t =
      keeps_length (dimensioned t 0) (matrix_of f t) (matrix_of g t)
      (λ n. keeps_then (elements f t n) (elements g t n) (dimensioned t n) (dimensioned t n) (elements_keeps t n) (same (dimensioned t n)))

  -- arrays, with dimensions and without
  arrays_keep : (b : ℕ) → Keeps (cond (has_dimensions b) (matrix f (type_of b)) (array f (type_of b))) (cond (has_dimensions b) (matrix g (type_of b)) (array g (type_of b)))
  arrays_keep b =
      keeps_cond (has_dimensions b) (matrix f (type_of b)) (matrix g (type_of b)) (array f (type_of b)) (array g (type_of b)) (matrix_keeps (type_of b)) (array_keeps (type_of b))

  variant_keeps : (b : ℕ) → Keeps (variant_of f b) (variant_of g b)
  variant_keeps b =
      keeps_cond (eqb (type_of b) 0) (pure (measure 0 Shape.Scalar)) (pure (measure 0 Shape.Scalar))
      (cond (is_array b) (cond (has_dimensions b) (matrix f (type_of b)) (array f (type_of b))) (scalar f (type_of b)))
      (cond (is_array b) (cond (has_dimensions b) (matrix g (type_of b)) (array g (type_of b))) (scalar g (type_of b))) (same (pure (measure 0 Shape.Scalar)))
      (keeps_cond (is_array b) (cond (has_dimensions b) (matrix f (type_of b)) (array f (type_of b))) (cond (has_dimensions b) (matrix g (type_of b)) (array g (type_of b)))
      (scalar f (type_of b)) (scalar g (type_of b)) (arrays_keep b) (scalar_keeps (type_of b)))

  data_value_keeps : (m : ℕ) → Keeps (data_value_of f m) (data_value_of g m)
  data_value_keeps m =
      keeps_then (when_on (bit 0 m) tt (passing (f 24))) (when_on (bit 0 m) tt (passing (g 24))) (parts m >> pure (measure 23 Shape.Scalar)) (parts m >> pure (measure 23 Shape.Scalar))
      (keeps_when (bit 0 m) tt (passing (f 24)) (passing (g 24)) (passing_keeps 24)) (same (parts m >> pure (measure 23 Shape.Scalar)))

  value_keeps : (t : ℕ) → Keeps (value_of f t) (value_of g t)
  value_keeps t =
      keeps_cond (eqb t 23) (ruled 1 mask_rule >>= data_value_of f) (ruled 1 mask_rule >>= data_value_of g) (ruled 1 variant_rule >>= variant_of f) (ruled 1 variant_rule >>= variant_of g)
      (keeps_bind (ruled 1 mask_rule) (ruled 1 mask_rule) (data_value_of f) (data_value_of g) (same (ruled 1 mask_rule)) data_value_keeps)
      (keeps_bind (ruled 1 variant_rule) (ruled 1 variant_rule) (variant_of f) (variant_of g) (same (ruled 1 variant_rule)) variant_keeps)

all_deeper : (levels t : ℕ) → Keeps (value_at levels t) (value_at (suc levels) t)
unfolding value_at
all_deeper zero t s at a e h = absurd (not_got (invert (item 1 s at) (λ b next. refused 9 at) h).3)
all_deeper (suc levels) t s at a e h = value_keeps (value_at levels) (value_at (suc levels)) (all_deeper levels) t s at a e h

pub deeper : (levels t : ℕ) (s : List ℕ) (at : ℕ) {m : Measure} {e : ℕ} → value_at levels t s at ≡ got m e → value_at (suc levels) t s at ≡ got m e
deeper levels t s at {m} {e} h = all_deeper levels t s at m e h
