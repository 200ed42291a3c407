-- Items that a flag announces, and how picoseconds read, in the envelope and in the DataSetMessage header alike.
use Rattle.std.specs.Prelude.{ℕ, ℤ, Bool, cond, leb, Option, Some, None}
use Rattle.wire.specs.Constants.{MOST_PICOSECONDS, PICOSECONDS_END}
use Rattle.wire.specs.Answer.{Reader, item, signed_item, when_on, pure, ◌>>=◌}

-- an item, absent where its flag is off
abbrev pub optional : {A : Type 0} → Reader A → Bool → Reader (Option A)
optional r on = when_on on None (r >>= λ v. pure (Some v))

abbrev pub optional16 : Bool → Reader (Option ℕ)
optional16 = optional (item 2)

abbrev pub optional32 : Bool → Reader (Option ℕ)
optional32 = optional (item 4)

-- "Timestamp, signed 8"
abbrev pub optional_i64 : Bool → Reader (Option ℤ)
optional_i64 = optional (signed_item 8)

-- Req 02: "Picoseconds of 10,000 and up .. read it as 9,999 and no longer as 3, in the envelope and in the DataSetMessage header"
abbrev pub picoseconds_read : ℕ → ℕ
picoseconds_read v = cond (leb PICOSECONDS_END v) MOST_PICOSECONDS v

-- "PicoSeconds 2"
abbrev pub picoseconds_at : Bool → Reader (Option ℕ)
picoseconds_at on = when_on on None (item 2 >>= λ v. pure (Some (picoseconds_read v)))
