-- What the quick ways of measuring answer. No part of document 01: their laws (FirstByte, FirstItems, Runs) tie them to its definitions.
use Rattle.std.specs.Prelude.{ℕ, ◌+◌, ◌*◌, ◌≡◌, cond, List, eqb, leb, length, get_or, Option, Some, None}
use Rattle.plain_value.specs.Width.{width_of}
use Rattle.wire.specs.Answer.{Reader, pure, Answer, got, refused, and_then, map_answer, item, each, ◌>>◌}
use Rattle.plain_value.specs.Plain.{bytes, by_length, string, text}
use Rattle.wire.specs.Constants.{BAD_LENGTH, VARIANT}
use Rattle.wire.specs.declared.Length.{Length}
use Rattle.value.specs.Value.{Measure, measure, type_of, is_array, dimensioned, INSIDE, value_at}
use Rattle.value.specs.declared.Shape.{Shape}
use Rattle.wire.specs.Items.{length_item}

-- how many bytes a Variant has that is a null or a scalar of a fixed type, by its first byte; 0 for any other
abbrev pub scalar_size : ℕ → ℕ
scalar_size b = cond (eqb b 0) 1 (cond (eqb (width_of b) 0) 0 (width_of b + 1))

-- the position after such a Variant that fits; for any other the position itself
abbrev pub fixed_end : List ℕ → ℕ → ℕ
fixed_end s at =
    cond (leb (length s) at) at
    (cond (leb (at + scalar_size (get_or s at 0)) (length s)) (at + scalar_size (get_or s at 0)) at)

-- a length, and so many units of w bytes, one item
abbrev pub units : ℕ → Reader (Unit {0})
units w = by_length (pure tt) (λ n. bytes (n * w))

-- a length, and so many values of type t that are made of Strings
abbrev pub texts : ℕ → Reader (Unit {0})
texts t = by_length (pure tt) (each (text t))

-- a length, and so many Variants inside a field's own value
abbrev pub variants : Reader (Unit {0})
variants = by_length (pure tt) (each (value_at INSIDE VARIANT))

-- What the first items of a Variant say of it, where it is known to end at `end`: of an array of type t its length, and of any Variant its
-- first byte.
abbrev pub by_shape : ℕ → ℕ → ℕ → Length → Answer Measure
by_shape end t place Length.Null = got (measure t Shape.NullArray) end
by_shape end t place (Length.Of n) = got (measure t (Shape.Array n)) end
by_shape end t place Length.Negative = refused BAD_LENGTH place

abbrev pub array_at : ℕ → ℕ → Reader Measure
array_at end t s at = and_then (length_item s at) (λ l next. by_shape end t at l)

abbrev pub described_at : ℕ → Reader Measure
described_at end s at =
    and_then (item 1 s at) (λ b next. cond (is_array b) (array_at end (type_of b) s next) (got (measure (type_of b) Shape.Scalar) end))

-- What follows the first byte of a String or ByteString, whose type is t, and of an array of the fixed type t of w bytes, measured; of the
-- array also its n elements, which have so many bytes together.
abbrev pub text_at : ℕ → Reader Measure
text_at t = string >> pure (measure t Shape.Scalar)

abbrev pub elements_at : ℕ → ℕ → ℕ → Reader Measure
elements_at t n size = bytes size >> pure (measure t (Shape.Array n))

abbrev pub run_at : ℕ → ℕ → Reader Measure
run_at t w = by_length (pure (measure t Shape.NullArray)) (λ n. elements_at t n (n * w))

-- what follows the length of a matrix of the fixed type t: its n elements, which have so many bytes together, and its dimensions list
abbrev pub dimensioned_at : ℕ → ℕ → ℕ → Reader Measure
dimensioned_at t n size = bytes size >> dimensioned t n

-- what one look says of what measuring answers; where it does not tell, nothing
abbrev pub LookTells : Option (Measure × ℕ) → Answer Measure → Type 0
LookTells (Some (m, next)) a = a ≡ got m next
LookTells None a = Unit {0}

-- the same of a look that tells of the value only what `telling` makes of it
abbrev pub TellsPart : {A : Type 0} → (Measure → A) → Option (A × ℕ) → Answer Measure → Type 0
TellsPart telling (Some (x, next)) a = map_answer telling a ≡ got x next
TellsPart telling None a = Unit {0}
