-- What a Variant's first byte says in each quarter of its range, proved by one computed test over each.
-- Assumes nothing.
use mathlib.Core.Path.{◌≡◌, refl}
use mathlib.Core.Bool.{Bool, true, false, cond, not, ◌&&◌, ◌||◌}
use Prim.Native.Nat.{ℕ, ◌+◌, ◌<◌}
use native.Mathlib.Omega.{arith}
use lib.Dec.{T, eqb, eqb→eq}
use Rattle.wire.proofs.Table.{below, and_left, and_right}
use Rattle.plain_value.specs.Width.{width_of}
use Rattle.plain_value.specs.Plain.{plain}
use Rattle.value.specs.Value.{type_of, is_array, has_dimensions, taken, variant_rule}
use Rattle.value.proofs.FirstItems.{yes, no}

-- a scalar of type t holds bytes or a DataValue
abbrev pub full : ℕ → Bool
full t = plain t || eqb t 23

abbrev pub scalar_rule : ℕ → ℕ
scalar_rule t = cond (full t) 0 (cond (eqb t 0) 0 (cond (eqb t 24) 3 4))

abbrev pub array_rule : ℕ → ℕ
array_rule t = cond (eqb t 0) 3 (cond (taken t) 0 4)

unfoldable scalar_fine : ℕ → Bool
scalar_fine t = eqb (variant_rule t) (scalar_rule t) && (eqb (type_of t) t && (not (is_array t) && not (full t && eqb t 0)))

unfoldable array_fine : ℕ → Bool
array_fine t = eqb (variant_rule (t + 128)) (array_rule t) && (eqb (type_of (t + 128)) t && (is_array (t + 128) && not (has_dimensions (t + 128))))

unfoldable matrix_fine : ℕ → Bool
matrix_fine t = eqb (variant_rule (t + 192)) (array_rule t) && (eqb (type_of (t + 192)) t && (is_array (t + 192) && has_dimensions (t + 192)))

unfoldable three : ℕ → Bool
three t = eqb (variant_rule (t + 64)) 3

pub record Scalar (t : ℕ) : Type 0 where
  pub rule : variant_rule t ≡ scalar_rule t
  pub type : type_of t ≡ t
  pub no_array : is_array t ≡ false
  pub not_null : full t ≡ true → eqb t 0 ≡ false

pub record Array (t : ℕ) : Type 0 where
  pub rule : variant_rule (t + 128) ≡ array_rule t
  pub type : type_of (t + 128) ≡ t
  pub array : is_array (t + 128) ≡ true
  pub flat : has_dimensions (t + 128) ≡ false

pub record Matrix (t : ℕ) : Type 0 where
  pub rule : variant_rule (t + 192) ≡ array_rule t
  pub type : type_of (t + 192) ≡ t
  pub array : is_array (t + 192) ≡ true
  pub dimensions : has_dimensions (t + 192) ≡ true

apart : (a b : Bool) → T (not (a && b)) → a ≡ true → b ≡ false
apart true true t e = absurd t
apart true false t e = refl
apart false true t e = absurd (let z : ◌≡◌ {A = ℕ} 0 1 = cc in omega arith)
apart false false t e = refl

pub scalar_first : (t : ℕ) → t < 64 → Scalar t
unfolding scalar_fine variant_rule plain width_of
scalar_first t h = of (below scalar_fine 64 tt t h)
  where
    of : T (scalar_fine t) → Scalar t
    of p =
        let p1 = and_right (eqb (variant_rule t) (scalar_rule t)) _ p in
        let p2 = and_right (eqb (type_of t) t) _ p1 in
        record {
          rule = eqb→eq _ _ (and_left (eqb (variant_rule t) (scalar_rule t)) _ p);
          type = eqb→eq _ _ (and_left (eqb (type_of t) t) _ p1);
          no_array = no _ (and_left (not (is_array t)) _ p2);
          not_null = apart (full t) (eqb t 0) (and_right (not (is_array t)) _ p2);
        }

pub array_first : (t : ℕ) → t < 64 → Array t
unfolding array_fine variant_rule plain width_of
array_first t h = of (below array_fine 64 tt t h)
  where
    of : T (array_fine t) → Array t
    of p =
        let p1 = and_right (eqb (variant_rule (t + 128)) (array_rule t)) _ p in
        let p2 = and_right (eqb (type_of (t + 128)) t) _ p1 in
        record {
          rule = eqb→eq _ _ (and_left (eqb (variant_rule (t + 128)) (array_rule t)) _ p);
          type = eqb→eq _ _ (and_left (eqb (type_of (t + 128)) t) _ p1);
          array = yes _ (and_left (is_array (t + 128)) _ p2);
          flat = no _ (and_right (is_array (t + 128)) _ p2);
        }

pub matrix_first : (t : ℕ) → t < 64 → Matrix t
unfolding matrix_fine variant_rule plain width_of
matrix_first t h = of (below matrix_fine 64 tt t h)
  where
    of : T (matrix_fine t) → Matrix t
    of p =
        let p1 = and_right (eqb (variant_rule (t + 192)) (array_rule t)) _ p in
        let p2 = and_right (eqb (type_of (t + 192)) t) _ p1 in
        record {
          rule = eqb→eq _ _ (and_left (eqb (variant_rule (t + 192)) (array_rule t)) _ p);
          type = eqb→eq _ _ (and_left (eqb (type_of (t + 192)) t) _ p1);
          array = yes _ (and_left (is_array (t + 192)) _ p2);
          dimensions = yes _ (and_right (is_array (t + 192)) _ p2);
        }

pub no_array_but_dimensions : (t : ℕ) → t < 64 → variant_rule (t + 64) ≡ 3
unfolding three variant_rule plain width_of
no_array_but_dimensions t h = eqb→eq _ _ (below three 64 tt t h)
