-- Document 01, "Values" (Part 6, source 001): the bytes of a Variant that is put from its type and its elements' bytes.
use Rattle.std.specs.Prelude.{ℕ, ◌+◌, ◌/◌, ◌%◌, Bool, true, false, cond, List, [], ◌++◌, eqb, ltb, length}
use Rattle.wire.specs.Constants.{DISAGREE, NOT_TAKEN}
use Rattle.wire.specs.Number.{le_bytes}
use Rattle.wire_writer.specs.Writing.{or_else, Output, unless}
use Rattle.plain_value.specs.Width.{width_of, fixed}
use Rattle.plain_value.specs.Plain.{length_first}
use Rattle.value.specs.Value.{variant_rule}
use Rattle.value.specs.declared.Shape.{Shape}
use Rattle.value_parts.specs.declared.told.ValueParts.{ValueParts}
use Rattle.value_parts.specs.declared.put.Form.{Form}

-- "A Variant's first byte: bits 0-5 type, bit 7 array"
abbrev pub first_byte : ℕ → Form → ℕ
first_byte t Form.Scalar = t
first_byte t Form.Null = t
first_byte t Form.Array = t + 128
first_byte t Form.NullArray = t + 128

-- whether a length or count stands after it: "Types 12 and 15 carry their length first", and every array its element count
abbrev pub has_count : ℕ → Form → Bool
has_count t Form.Scalar = length_first t
has_count t Form.Null = length_first t
has_count t Form.Array = true
has_count t Form.NullArray = true

-- the number of 4 bytes that stands for -1
abbrev pub NULL : ℕ
NULL = 4294967295

-- the length of n bytes of a String, how many elements n bytes are; "-1 means null"
abbrev pub count_given : ℕ → Form → ℕ → ℕ
count_given t Form.Scalar n = n
count_given t Form.Null n = NULL
count_given t Form.Array n = cond (fixed t) (n / width_of t) 0
count_given t Form.NullArray n = NULL

-- the bytes before the value's own n
abbrev pub head_bytes : ℕ → Form → ℕ → List ℕ
head_bytes t f n = le_bytes 1 (first_byte t f) ++ cond (has_count t f) (le_bytes 4 (count_given t f n)) []

abbrev pub variant_bytes : ℕ → Form → List ℕ → List ℕ
variant_bytes t f b = head_bytes t f (length b) ++ b

-- "A writer refuses what reading would refuse": the rule that the first byte breaks; a type above its bits is none: "All other types are 4"
abbrev pub type_rule : ℕ → Form → ℕ
type_rule t f = cond (ltb t 64) (variant_rule (first_byte t f)) NOT_TAKEN

-- "what would read back otherwise .. by 6"
abbrev pub six_unless : Bool → ℕ
six_unless b = cond b 0 DISAGREE

-- What is put: a null Variant, scalars of a fixed type, Strings and ByteStrings, arrays of a fixed type; others are 4. Their n bytes are a
-- scalar's width, whole elements, and none where it is null, else 6; so is a null scalar of a fixed type, and type 0 that is not null.
abbrev pub form_rule : ℕ → Form → ℕ → ℕ
form_rule t Form.Scalar n =
    cond (fixed t) (six_unless (eqb n (width_of t)))
    (cond (length_first t) 0
    (cond (eqb t 0) DISAGREE NOT_TAKEN))
form_rule t Form.Null n =
    cond (fixed t) DISAGREE
    (cond (length_first t) (six_unless (eqb n 0))
    (cond (eqb t 0) (six_unless (eqb n 0)) NOT_TAKEN))
form_rule t Form.Array n = cond (fixed t) (six_unless (eqb (n % width_of t) 0)) NOT_TAKEN
form_rule t Form.NullArray n = cond (fixed t) (six_unless (eqb n 0)) NOT_TAKEN

-- the first broken rule, reading's before the others; 0 for none
abbrev pub put_rule : ℕ → Form → ℕ → ℕ
put_rule t f n = or_else (type_rule t f) (form_rule t f n)

-- what is to be written
abbrev pub variant_output : ℕ → Form → List ℕ → Output
variant_output t f b = unless (put_rule t f (length b)) (variant_bytes t f b)

-- what a value that was put is told as, where it stands at m

abbrev pub shape_of : ℕ → Form → ℕ → Shape
shape_of t Form.Scalar n = Shape.Scalar
shape_of t Form.Null n = Shape.Scalar
shape_of t Form.Array n = Shape.Array (count_given t Form.Array n)
shape_of t Form.NullArray n = Shape.NullArray

abbrev pub null_of : Form → Bool
null_of Form.Scalar = false
null_of Form.Null = true
null_of Form.Array = false
null_of Form.NullArray = true

abbrev pub given_parts : ℕ → ℕ → Form → List ℕ → ValueParts
given_parts m t f b =
    record {
      kind = t;
      shape = shape_of t f (length b);
      width = width_of t;
      null = null_of f;
      first = m + length (head_bytes t f (length b));
      end = m + length (variant_bytes t f b);
    }
