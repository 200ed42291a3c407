-- The PublisherId (document 01, "The envelope").
use Rattle.std.specs.Prelude.{ℕ, ◌-◌, ◌<◌, Bool, cond, true, false, ltb, eqb, List, [], ◌++◌, length, take, drop}
use Rattle.wire.specs.Constants.{BAD_LENGTH, DISAGREE, MOST_TEXT_ID, NOT_PERMITTED, OVER_LIMIT}
use Rattle.wire.specs.Answer.{refused, Reader, item, run, refuse, when_on, pure, and_then, ◌>>=◌}
use Rattle.wire.specs.Items.{length_item}
use Rattle.wire.specs.declared.Length.{Length}
use Rattle.publisher_id.specs.declared.publisher.PublisherId.{PublisherId}
use Rattle.wire.specs.Number.{le_bytes}
use Rattle.wire_writer.specs.Writing.{unused}

-- "above 64"
abbrev pub text_too_long : ℕ → Bool
text_too_long n = ltb MOST_TEXT_ID n

-- a string of n bytes: "above 64 is 10", whose place is 0
abbrev pub string_of : ℕ → Reader PublisherId
string_of n s start = cond (text_too_long n) (refused OVER_LIMIT 0) ((run n >>= λ len. pure (PublisherId.Text len)) s start)

-- "A string has a 32-bit length; below 0 (null too) is 5", at the length
abbrev pub string_then : ℕ → Length → Reader PublisherId
string_then at Length.Null s start = refused BAD_LENGTH at
string_then at (Length.Of n) s start = string_of n s start
string_then at Length.Negative s start = refused BAD_LENGTH at

abbrev pub string_at : Reader PublisherId
string_at s at = and_then (length_item s at) (λ length start. string_then at length s start)

-- "PublisherId type: 0 Byte, 1 UInt16, 2 UInt32, 3 UInt64, 4 String; 5 to 7 are 3", as is any other number: in a datagram ExtendedFlags1
-- has refused it before
abbrev pub publisher_of : ℕ → Reader PublisherId
publisher_of kind =
    cond (eqb kind 0) (item 1 >>= λ v. pure (PublisherId.Byte v))
    (cond (eqb kind 1) (item 2 >>= λ v. pure (PublisherId.UInt16 v))
    (cond (eqb kind 2) (item 4 >>= λ v. pure (PublisherId.UInt32 v))
    (cond (eqb kind 3) (item 8 >>= λ v. pure (PublisherId.UInt64 v))
    (cond (eqb kind 4) string_at (refuse NOT_PERMITTED)))))

abbrev pub publisher_at : Bool → ℕ → Reader PublisherId
publisher_at on kind = when_on on PublisherId.Absent (publisher_of kind)

abbrev pub publisher_on : PublisherId → Bool
publisher_on PublisherId.Absent = false
publisher_on (PublisherId.Byte v) = true
publisher_on (PublisherId.UInt16 v) = true
publisher_on (PublisherId.UInt32 v) = true
publisher_on (PublisherId.UInt64 v) = true
publisher_on (PublisherId.Text n) = true

-- "PublisherId type: 0 Byte, 1 UInt16, 2 UInt32, 3 UInt64, 4 String"; "With PublisherId off, its type bits are written as 0"
abbrev pub id_type_of : PublisherId → ℕ
id_type_of PublisherId.Absent = 0
id_type_of (PublisherId.Byte v) = 0
id_type_of (PublisherId.UInt16 v) = 1
id_type_of (PublisherId.UInt32 v) = 2
id_type_of (PublisherId.UInt64 v) = 3
id_type_of (PublisherId.Text n) = 4

-- "A string has a 32-bit length", and then its bytes
abbrev pub publisher_bytes : List ℕ → PublisherId → List ℕ
publisher_bytes text PublisherId.Absent = []
publisher_bytes text (PublisherId.Byte v) = le_bytes 1 v
publisher_bytes text (PublisherId.UInt16 v) = le_bytes 2 v
publisher_bytes text (PublisherId.UInt32 v) = le_bytes 4 v
publisher_bytes text (PublisherId.UInt64 v) = le_bytes 8 v
publisher_bytes text (PublisherId.Text n) = le_bytes 4 (length text) ++ text

-- what reading refuses: a string "above 64 is 10", by how many bytes of it are given, since these are written
abbrev pub publisher_refusal : PublisherId → ℕ → ℕ
publisher_refusal PublisherId.Absent len = 0
publisher_refusal (PublisherId.Byte v) len = 0
publisher_refusal (PublisherId.UInt16 v) len = 0
publisher_refusal (PublisherId.UInt32 v) len = 0
publisher_refusal (PublisherId.UInt64 v) len = 0
publisher_refusal (PublisherId.Text n) len = cond (text_too_long len) OVER_LIMIT 0

-- what would read back otherwise is 6: bytes of a string that are not as many as the id says
abbrev pub publisher_shape : PublisherId → ℕ → ℕ
publisher_shape PublisherId.Absent len = unused len
publisher_shape (PublisherId.Byte v) len = unused len
publisher_shape (PublisherId.UInt16 v) len = unused len
publisher_shape (PublisherId.UInt32 v) len = unused len
publisher_shape (PublisherId.UInt64 v) len = unused len
publisher_shape (PublisherId.Text n) len = cond (eqb n len) 0 DISAGREE

-- the n bytes of s before a position
abbrev pub bytes_before : List ℕ → ℕ → ℕ → List ℕ
bytes_before s end n = take n (drop (end - n) s)

abbrev pub text_of : List ℕ → PublisherId → ℕ → List ℕ
text_of s PublisherId.Absent end = []
text_of s (PublisherId.Byte v) end = []
text_of s (PublisherId.UInt16 v) end = []
text_of s (PublisherId.UInt32 v) end = []
text_of s (PublisherId.UInt64 v) end = []
text_of s (PublisherId.Text n) end = bytes_before s end n

abbrev pub FitsPublisher : PublisherId → Type 0
FitsPublisher PublisherId.Absent = Unit
FitsPublisher (PublisherId.Byte v) = v < 256
FitsPublisher (PublisherId.UInt16 v) = v < 65536
FitsPublisher (PublisherId.UInt32 v) = v < 4294967296
FitsPublisher (PublisherId.UInt64 v) = v < 18446744073709551616
FitsPublisher (PublisherId.Text n) = Unit
