-- Document 01, "Values": what measuring a Variant, a DataValue or a RawData element at a position of a slice answers.
use Rattle.std.specs.Prelude.{ℕ, zero, suc, [], ◌∷◌, Bool, cond, not, ◌&&◌, ◌||◌, eqb}
use Rattle.wire.specs.Constants.{DATA_VALUE, LEVELS, NOT_PERMITTED, NOT_TAKEN, TOO_DEEP, VARIANT}
use Rattle.wire.specs.Answer.{refused, Reader, and_then, ◌>>=◌, ◌>>◌, pure, refuse, item, ruled, when_on, each, bit, bits}
use Rattle.plain_value.specs.Width.{among, width_of, fixed}
use Rattle.plain_value.specs.Plain.{passing, bytes, by_length, plain, plain_value, plain_values}
use Rattle.plain_value.specs.Parts.{parts}
use Rattle.plain_value.specs.Dimensions.{dimensions}
use Rattle.value.specs.declared.Shape.{Shape}
use Rattle.value.specs.declared.Measured.{Measured}

-- what measuring a value finds: its type number and its shape
abbrev pub Measure : Type 0
Measure = Measured

-- a value of type t and of a shape
abbrev pub measure : ℕ → Shape → Measure
measure t c = record { kind = t; shape = c }

-- "how many dimensions it has (0 for a scalar or single DataValue, 1 for a plain array)"; else as many as its dimensions list says
abbrev pub dimensions_of : Shape → ℕ
dimensions_of Shape.Scalar = 0
dimensions_of Shape.NullArray = 1
dimensions_of (Shape.Array n) = 1
dimensions_of (Shape.Matrix n d) = d

-- "A Variant's first byte: bits 0-5 type, bit 7 array, bit 6 dimensions."
abbrev pub type_of : ℕ → ℕ
type_of b = bits 0 6 b

abbrev pub is_array : ℕ → Bool
is_array b = bit 7 b

abbrev pub has_dimensions : ℕ → Bool
has_dimensions b = bit 6 b

-- the types taken: null, the plain ones, DataValue and Variant
abbrev pub taken : ℕ → Bool
taken t = among t (0 ∷ DATA_VALUE ∷ VARIANT ∷ []) || plain t

-- "Bit 6 without bit 7 is 3. Type 0 is null, one byte; with bit 7 it is 3. 24 (Variant) only as array, else 3. All other types are 4."
unfoldable pub variant_rule : ℕ → ℕ
variant_rule b =
    cond (has_dimensions b && not (is_array b)) NOT_PERMITTED
    (cond (eqb (type_of b) 0 && is_array b) NOT_PERMITTED
    (cond (eqb (type_of b) VARIANT && not (is_array b)) NOT_PERMITTED
    (cond (taken (type_of b)) 0 NOT_TAKEN)))

-- Below, `nested t` reads a value of type t (23 a DataValue, 24 a Variant) inside this one, one level deeper.

-- what follows the first byte of a scalar of type t
unfoldable pub scalar : (ℕ → Reader Measure) → ℕ → Reader Measure
scalar nested t = do
  cond (plain t) (plain_value t) (passing (nested t))
  pure (measure t Shape.Scalar)

-- n elements of type t
unfoldable pub elements : (ℕ → Reader Measure) → ℕ → ℕ → Reader (Unit {0})
elements nested t n = cond (plain t) (plain_values t n) (each (nested t) n)

-- an array of type t after its count n
abbrev pub array_of : (ℕ → Reader Measure) → ℕ → ℕ → Reader Measure
array_of nested t n = do
  elements nested t n
  pure (measure t (Shape.Array n))

-- what follows the first byte of an array of type t: its element count, then the elements
unfoldable pub array : (ℕ → Reader Measure) → ℕ → Reader Measure
array nested t = by_length (pure (measure t Shape.NullArray)) (array_of nested t)

-- the dimensions list of an array of type t and of n elements
abbrev pub dimensioned : ℕ → ℕ → Reader Measure
dimensioned t n = do
  d ← dimensions n
  pure (measure t (Shape.Matrix n d))

-- an array of type t with dimensions, after its count n: "the dimensions list that follows the elements"
abbrev pub matrix_of : (ℕ → Reader Measure) → ℕ → ℕ → Reader Measure
matrix_of nested t n = do
  elements nested t n
  dimensioned t n

-- what follows the first byte of an array of type t "when bit 6 is set"; "a null array counts as 0"
unfoldable pub matrix : (ℕ → Reader Measure) → ℕ → Reader Measure
matrix nested t = by_length (dimensioned t 0) (matrix_of nested t)

-- what follows a Variant's first byte b: "Type 0 is null, one byte"
abbrev pub variant_of : (ℕ → Reader Measure) → ℕ → Reader Measure
variant_of nested b =
    cond (eqb (type_of b) 0) (pure (measure 0 Shape.Scalar))
    (cond (is_array b) (cond (has_dimensions b) (matrix nested (type_of b)) (array nested (type_of b))) (scalar nested (type_of b)))

-- "mask, bits 6 or 7 set is 3"
abbrev pub mask_rule : ℕ → ℕ
mask_rule m = cond (bit 6 m || bit 7 m) NOT_PERMITTED 0

-- what follows a DataValue's mask m: "then by bit 0 a Variant" and the other parts
abbrev pub data_value_of : (ℕ → Reader Measure) → ℕ → Reader Measure
data_value_of nested m = do
  when_on (bit 0 m) tt (passing (nested VARIANT))
  parts m
  pure (measure DATA_VALUE Shape.Scalar)

-- a DataValue where t is 23, else a Variant
abbrev pub value_of : (ℕ → Reader Measure) → ℕ → Reader Measure
value_of nested t = cond (eqb t DATA_VALUE) (ruled 1 mask_rule >>= data_value_of nested) (ruled 1 variant_rule >>= variant_of nested)

-- "at 101 its first byte is 9, tested right after 1"
abbrev pub too_deep : Reader Measure
too_deep s at = and_then (item 1 s at) (λ b next. refused TOO_DEEP at)

-- a value of type t with so many levels left: "a Variant or DataValue inside another lies one level deeper"
unfoldable pub value_at : ℕ → ℕ → Reader Measure
value_at zero t = too_deep
value_at (suc levels) t = value_of (value_at levels) t

-- "The field's own value is level 1" of 100
abbrev pub variant_at : Reader Measure
variant_at = value_at LEVELS VARIANT

abbrev pub data_value_at : Reader Measure
data_value_at = value_at LEVELS DATA_VALUE

-- the levels left inside a field's own value: "a Variant or DataValue inside another lies one level deeper"
abbrev pub INSIDE : ℕ
INSIDE = 99

-- a fixed-width element of type t, as in RawData; any other type is not taken there
abbrev pub raw_at : ℕ → Reader Measure
raw_at t = cond (fixed t) (bytes (width_of t) >> pure (measure t Shape.Scalar)) (refuse NOT_TAKEN)
