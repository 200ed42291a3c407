-- Document 01, "Values": a DataValue's parts after its Variant.
use Rattle.std.specs.Prelude.{ℕ, ◌+◌, cond}
use Rattle.wire.specs.Answer.{Reader, ◌>>◌, when_on, bit}
use Rattle.plain_value.specs.Plain.{bytes}

-- after the mask's Variant by bit "1 status 4, 2 source time 8, 4 source picoseconds 2, 3 server time 8,
-- 5 server picoseconds 2"
unfoldable pub parts : ℕ → Reader (Unit {0})
parts m = do
  when_on (bit 1 m) tt (bytes 4)
  when_on (bit 2 m) tt (bytes 8)
  when_on (bit 4 m) tt (bytes 2)
  when_on (bit 3 m) tt (bytes 8)
  when_on (bit 5 m) tt (bytes 2)

-- how many bytes a DataValue's parts after its Variant have together
abbrev pub parts_width : ℕ → ℕ
parts_width m = cond (bit 1 m) 4 0 + (cond (bit 2 m) 8 0 + (cond (bit 4 m) 2 0 + (cond (bit 3 m) 8 0 + cond (bit 5 m) 2 0)))
