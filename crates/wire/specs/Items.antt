-- Items of 16 bytes, and lengths.
use Rattle.std.specs.Prelude.{ℕ, zero, suc, ◌+◌, cond, List, ◌++◌, leb, ℤ, pos, negsuc, length}
use Rattle.wire.specs.Constants.{CUT_SHORT}
use Rattle.wire.specs.Number.{le, le_bytes, signed}
use Rattle.wire.specs.Answer.{got, refused, Reader, taking}
use Rattle.wire.specs.declared.Guid.{Guid}
use Rattle.wire.specs.declared.Length.{Length}

-- the Guid of the 16 bytes from a position
abbrev pub guid_of : List ℕ → ℕ → Guid
guid_of s at = record { low = le 8 s at; high = le 8 s (at + 8) }

-- an item of 16 bytes
abbrev pub guid : Reader Guid
guid = taking 16 guid_of

abbrev pub guid_bytes : Guid → List ℕ
guid_bytes g = le_bytes 8 g.low ++ le_bytes 8 g.high

-- "Every array and string length is a signed 32-bit number; -1 means null": what lies below -1 is no length
abbrev pub length_of : ℤ → Length
length_of (pos n) = Length.Of n
length_of (negsuc zero) = Length.Null
length_of (negsuc (suc k)) = Length.Negative

-- the length of an array or a string, an item of its own
abbrev pub length_item : Reader Length
length_item s at = cond (leb (at + 4) (length s)) (got (length_of (signed 4 (le 4 s at))) (at + 4)) (refused CUT_SHORT at)
