-- A PublisherId in a record (include/uadp.h, "Envelope record" and "Partial record").
use Rattle.std.specs.Prelude.{ℕ, ◌%◌, ◌^◌, ◌<◌, Bool, cond, eqb, leb}
use Rattle.config.specs.Writers.{at_most}
use Rattle.publisher_id.specs.declared.publisher.PublisherId.{PublisherId}

-- "PublisherId: 0 absent, 1 Byte, 2 UInt16, 3 UInt32, 4 UInt64, 5 String (above 5 counts as absent)", and its number, "of a String its
-- length"; of a partial's record "the lowest bytes count" of a number that stands for a narrower one
abbrev pub publisher_by : ℕ → ℕ → PublisherId
publisher_by code v =
    cond (eqb code 1) (PublisherId.Byte (v % 256))
    (cond (eqb code 2) (PublisherId.UInt16 (v % 65536))
    (cond (eqb code 3) (PublisherId.UInt32 (v % 4294967296))
    (cond (eqb code 4) (PublisherId.UInt64 v) (cond (eqb code 5) (PublisherId.Text v) PublisherId.Absent))))

-- the largest number of an id of a type; of a String's length every number is one
abbrev pub publisher_most : ℕ → ℕ
publisher_most code =
    cond (eqb code 1) 255 (cond (eqb code 2) 65535 (cond (eqb code 3) 4294967295 18446744073709551615))

-- a PublisherId in a record to be written from: "a number that does not fit its item counts as the largest that does"
abbrev pub publisher_given : ℕ → ℕ → PublisherId
publisher_given code v = publisher_by code (at_most (publisher_most code) v)

-- whether a PublisherId's number fits its type
abbrev pub publisher_number_fits : ℕ → ℕ → Bool
publisher_number_fits code v = leb v (publisher_most code)

-- "the PublisherId's number; of a String its length"
abbrev pub publisher_number : PublisherId → ℕ
publisher_number PublisherId.Absent = 0
publisher_number (PublisherId.Byte v) = v
publisher_number (PublisherId.UInt16 v) = v
publisher_number (PublisherId.UInt32 v) = v
publisher_number (PublisherId.UInt64 v) = v
publisher_number (PublisherId.Text n) = n

-- each number fits its type
abbrev pub FitsId : PublisherId → Type 0
FitsId PublisherId.Absent = Unit
FitsId (PublisherId.Byte v) = v < 256
FitsId (PublisherId.UInt16 v) = v < 65536
FitsId (PublisherId.UInt32 v) = v < 4294967296
FitsId (PublisherId.UInt64 v) = v < 256 ^ 8
FitsId (PublisherId.Text n) = n < 256 ^ 8
