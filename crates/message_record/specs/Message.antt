-- The records of a message's head and of a field (include/uadp.h).
use Rattle.std.specs.Prelude.{ℕ, ◌+◌, ◌*◌, ◌^◌, ◌<◌, ◌≡◌, Bool, true, cond, not, ◌&&◌, List, [], ◌∷◌, eqb, replicate}
use Rattle.value.specs.Value.{dimensions_of}
use Rattle.value.specs.declared.Shape.{Shape}
use Rattle.dataset_header.specs.Flags.{Valid, not_valid, valid, encoding_number, kind_number}
use Rattle.dataset_message.specs.Message.{Message}
use Rattle.dataset_header.specs.declared.flags.Encoding.{Encoding}
use Rattle.dataset_header.specs.declared.flags.Kind.{Kind}
use Rattle.dataset_fields.specs.declared.fields.Field.{Field}
use Rattle.dataset_fields.specs.declared.fields.Cursor.{Cursor}
use Rattle.dataset_header.specs.declared.header.Header.{Header}
use Rattle.dataset_header.specs.Header.{FitsHeader}
use Rattle.wire.specs.Number.{le_bytes}
use Rattle.wire_writer.specs.Store.{laid}
use Rattle.wire.specs.Answer.{bit}
use Rattle.records.specs.Numbers.{number_at}
use Rattle.records.specs.Items.{has_item, item_value, value_i64, flag_number, given16, given32, given_i64, fits_item}

-- "encoding: 0 Variant, 1 RawData, 2 DataValue (above 2 counts as 0)"
abbrev pub encoding_in : ℕ → Encoding
encoding_in n = cond (eqb n 1) Encoding.RawData (cond (eqb n 2) Encoding.DataValue Encoding.Variant)

-- "items present: 1 sequence number, 2 timestamp, 4 picoseconds, 8 status, 16 major version, 32 minor version, added up"
abbrev pub items_number : Header → ℕ
items_number h =
    has_item h.sequence + 2 * has_item h.timestamp + 4 * has_item h.picoseconds + 8 * has_item h.status + 16 * has_item h.major
    + 32 * has_item h.minor

-- the 20 numbers of a head; "Of a message that is not valid every number is 0"
abbrev pub head_numbers : Valid Message → List ℕ
head_numbers not_valid = replicate 20 0
head_numbers (valid m) =
    1 ∷ encoding_number m.header.encoding ∷ kind_number m.header.kind ∷ items_number m.header ∷ item_value m.header.sequence
    ∷ value_i64 m.header.timestamp ∷ item_value m.header.picoseconds ∷ item_value m.header.status ∷ item_value m.header.major
    ∷ item_value m.header.minor ∷ encoding_number m.cursor.encoding ∷ flag_number m.cursor.delta ∷ m.cursor.next ∷ m.cursor.count
    ∷ m.cursor.at ∷ m.end ∷ 0 ∷ 0 ∷ 0 ∷ 0 ∷ []

-- the field cursor of a head record
abbrev pub cursor_in : List ℕ → Cursor
cursor_in s =
    record {
      encoding = encoding_in (number_at s 10);
      delta = not (eqb (number_at s 11) 0);
      next = number_at s 12;
      count = number_at s 13;
      at = number_at s 14;
    }

-- the record with its field cursor moved: the numbers 12 and 14
abbrev pub cursor_laid : Cursor → List ℕ → List ℕ
cursor_laid c s = laid (laid s (8 * 12) (le_bytes 8 c.next)) (8 * 14) (le_bytes 8 c.at)

-- "0 scalar, 1 null array, 2 array; number of elements of an array, else 0"
abbrev pub shape_number : Shape → ℕ
shape_number Shape.Scalar = 0
shape_number Shape.NullArray = 1
shape_number (Shape.Array n) = 2
shape_number (Shape.Matrix n d) = 2

abbrev pub elements_number : Shape → ℕ
elements_number Shape.Scalar = 0
elements_number Shape.NullArray = 0
elements_number (Shape.Array n) = n
elements_number (Shape.Matrix n d) = n

-- the 8 numbers of a field, with "how many dimensions it has"; the last is spare and holds 0
abbrev pub field_numbers : Field → List ℕ
field_numbers f =
    f.kind ∷ shape_number f.shape ∷ elements_number f.shape ∷ f.index ∷ f.offset ∷ f.length ∷ dimensions_of f.shape ∷ 0 ∷ []

-- items of which a number tells whether they are present

-- "kind: 0 key, 1 delta, 2 event, 3 keep alive (above 3 counts as 0)"
abbrev pub kind_in : ℕ → Kind
kind_in n = cond (eqb n 1) Kind.Delta (cond (eqb n 2) Kind.Event (cond (eqb n 3) Kind.KeepAlive Kind.Key))

-- the header of a head record: "the numbers 1 to 9 are read"; "items present: 1 sequence number, 2 timestamp, 4 picoseconds, 8 status, 16
-- major version, 32 minor version, added up"
abbrev pub header_in : List ℕ → Header
header_in s =
    record {
      encoding = encoding_in (number_at s 1);
      kind = kind_in (number_at s 2);
      sequence = given16 (bit 0 (number_at s 3)) (number_at s 4);
      timestamp = given_i64 (bit 1 (number_at s 3)) (number_at s 5);
      picoseconds = given16 (bit 2 (number_at s 3)) (number_at s 6);
      status = given16 (bit 3 (number_at s 3)) (number_at s 7);
      major = given32 (bit 4 (number_at s 3)) (number_at s 8);
      minor = given32 (bit 5 (number_at s 3)) (number_at s 9);
    }

-- "a number that does not fit its item": whether the number of each item that is present fits it, in the record's order; a timestamp has
-- every number
abbrev pub head_fits : List ℕ → Bool
head_fits s =
    fits_item (bit 0 (number_at s 3)) 65535 (number_at s 4)
    && (fits_item (bit 2 (number_at s 3)) 65535 (number_at s 6)
    && (fits_item (bit 3 (number_at s 3)) 65535 (number_at s 7)
    && (fits_item (bit 4 (number_at s 3)) 4294967295 (number_at s 8) && fits_item (bit 5 (number_at s 3)) 4294967295 (number_at s 9))))

-- each number of a head fits the record's, as a value of the code does
pub record FitsHead (m : Message) : Type 0 where
  pub header : FitsHeader m.header
  pub next : m.cursor.next < 256 ^ 8
  pub count : m.cursor.count < 256 ^ 8
  pub at : m.cursor.at < 256 ^ 8
  pub end : m.end < 256 ^ 8

-- what the library reads in the head record r is the message's header and cursor; each number fits the record's, and its item
pub record HeadBack (r : List ℕ) (m : Message) : Type 0 where
  pub fits : FitsHead m
  pub fitting : head_fits r ≡ true
  pub header : header_in r ≡ m.header
  pub cursor : cursor_in r ≡ m.cursor
