-- Flags1 and Flags2 (document 01, "The DataSetMessage").
use Rattle.std.specs.Prelude.{ℕ, ◌+◌, ◌*◌, Bool, true, false, cond, not, ◌&&◌, leb, ltb, eqb, List, ◌++◌, Option, Some, None, is_some}
use Rattle.wire.specs.Constants.{NOT_PERMITTED, NOT_TAKEN}
use Rattle.wire.specs.Answer.{got, refused, Reader, ruled, and_then, item, bit, bits}
use Rattle.dataset_header.specs.declared.flags.Encoding.{Encoding}
use Rattle.dataset_header.specs.declared.flags.Kind.{Kind}
use Rattle.dataset_header.specs.declared.flags.Flags.{Flags}
use Rattle.wire.specs.Number.{le_bytes}
use Rattle.wire_writer.specs.Writing.{num, needed, byte_bytes}
use Rattle.dataset_header.specs.declared.header.Header.{Header}

-- "Bits 1-2 encoding: 0 Variant, 1 RawData, 2 DataValue" (3 is refused)
abbrev pub encoding_of : ℕ → Encoding
encoding_of b = cond (eqb (bits 1 2 b) 0) Encoding.Variant (cond (eqb (bits 1 2 b) 1) Encoding.RawData Encoding.DataValue)

-- "bits 0-3 kind: 0 key, 1 delta, 2 event, 3 keep alive" (others are refused)
abbrev pub kind_of : ℕ → Kind
kind_of f =
    cond (eqb (bits 0 4 f) 0) Kind.Key
    (cond (eqb (bits 0 4 f) 1) Kind.Delta
    (cond (eqb (bits 0 4 f) 2) Kind.Event Kind.KeepAlive))

-- a delta frame, and fields in RawData
abbrev pub is_delta : Kind → Bool
is_delta Kind.Key = false
is_delta Kind.Delta = true
is_delta Kind.Event = false
is_delta Kind.KeepAlive = false

abbrev pub is_raw : Encoding → Bool
is_raw Encoding.Variant = false
is_raw Encoding.RawData = true
is_raw Encoding.DataValue = false

-- encoding "3 is 3"
abbrev pub flags1_rule : ℕ → ℕ
flags1_rule b = cond (eqb (bits 1 2 b) 3) NOT_PERMITTED 0

-- "Flags2: 0 is 3"; kind 4 and above is 3; bit "6 or 7 set is 3. Event not in Variant is 3; delta in RawData is 4"
abbrev pub flags2_rule : ℕ → ℕ → ℕ
flags2_rule b f =
    cond (eqb f 0) NOT_PERMITTED
    (cond (leb 4 (bits 0 4 f)) NOT_PERMITTED
    (cond (leb 64 f) NOT_PERMITTED
    (cond (eqb (bits 0 4 f) 2 && not (eqb (bits 1 2 b) 0)) NOT_PERMITTED
    (cond (eqb (bits 0 4 f) 1 && eqb (bits 1 2 b) 1) NOT_TAKEN 0))))

-- Flags2 after Flags1 b: bit 7 of b announces it; without it it counts as 0
abbrev pub flags2_at : ℕ → Reader ℕ
flags2_at b s at = cond (ltb b 128) (got 0 at) (ruled 1 (flags2_rule b) s at)

-- what the two bytes say: "Bits 3 sequence, 4 status, 5 major, 6 minor"; of Flags2 "bits 4 timestamp, 5 picoseconds"
abbrev pub message_flags_of : ℕ → ℕ → Flags
message_flags_of b f =
    record {
      encoding = encoding_of b;
      kind = kind_of f;
      sequence = bit 3 b;
      status = bit 4 b;
      major = bit 5 b;
      minor = bit 6 b;
      timestamp = bit 4 f;
      picoseconds = bit 5 f;
    }

-- a message is valid, or "with bit 0 off the answer is "not valid"; nothing after it is read"
pub data Valid (A : Type 0) : Type 0 where
  not_valid : Valid A
  valid : A → Valid A

-- what the code answers in its place: none where it is not valid
abbrev pub validity : {A : Type 0} → Option A → Valid A
validity None = not_valid
validity (Some a) = valid a

abbrev pub message_flags_at : Reader (Valid Flags)
message_flags_at s at =
    and_then (item 1 s at)
    (λ b next.
    cond (eqb (bits 0 1 b) 0) (got not_valid next)
    (cond (eqb (flags1_rule b) 0)
    (and_then (flags2_at b s next) (λ f z. got (valid (message_flags_of b f)) z)) (refused (flags1_rule b) at)))

-- "encoding: 0 Variant, 1 RawData, 2 DataValue"
abbrev pub encoding_number : Encoding → ℕ
encoding_number Encoding.Variant = 0
encoding_number Encoding.RawData = 1
encoding_number Encoding.DataValue = 2

-- "kind: 0 key, 1 delta, 2 event, 3 keep alive"
abbrev pub kind_number : Kind → ℕ
kind_number Kind.Key = 0
kind_number Kind.Delta = 1
kind_number Kind.Event = 2
kind_number Kind.KeepAlive = 3

-- "Flags2: bits 0-3 kind; bits 4 timestamp, 5 picoseconds"
abbrev pub flags2_of : Header → ℕ
flags2_of h = kind_number h.kind + (16 * num (is_some h.timestamp) + 32 * num (is_some h.picoseconds))

-- "the message writer always sets bit 0"; "Bits 1-2 encoding. Bits 3 sequence, 4 status, 5 major, 6 minor, 7 Flags2"
abbrev pub flags1_of : Header → ℕ
flags1_of h =
    1 + (2 * encoding_number h.encoding
    + (8 * num (is_some h.sequence)
    + (16 * num (is_some h.status)
    + (32 * num (is_some h.major)
    + (64 * num (is_some h.minor) + 128 * needed (flags2_of h))))))

-- Flags2 is left out where it would be 0
abbrev pub message_flag_bytes : Header → List ℕ
message_flag_bytes h = le_bytes 1 (flags1_of h) ++ byte_bytes (flags2_of h)

-- "Event not in Variant is 3; delta in RawData is 4"
abbrev pub kind_rule : Kind → Encoding → ℕ
kind_rule Kind.Key encoding = 0
kind_rule Kind.Delta Encoding.Variant = 0
kind_rule Kind.Delta Encoding.RawData = NOT_TAKEN
kind_rule Kind.Delta Encoding.DataValue = 0
kind_rule Kind.Event Encoding.Variant = 0
kind_rule Kind.Event Encoding.RawData = NOT_PERMITTED
kind_rule Kind.Event Encoding.DataValue = NOT_PERMITTED
kind_rule Kind.KeepAlive encoding = 0
