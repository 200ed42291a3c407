-- Document 01, "Newness": d = (received - 1 - last) modulo 65,536. Below 16,384 newer, above 49,152 old or same, else invalid.
-- The record of the last number is lent and changed in place, by "newer" only; before any number, each is newer.
use Rattle.std.specs.Prelude.{true, false, cond, ℕ, ◌+◌, ◌-◌, ◌%◌, ltb}
use Rattle.sequence.specs.declared.Newness.{Newness}
use Rattle.sequence.specs.declared.Newness.TheVariants.{Newer, OldOrSame, Invalid}
use Rattle.sequence.specs.declared.LastSequenceNumber.{LastSequenceNumber}

-- d = (received - 1 - last) modulo 65,536. Numbers here have no sign: to take a number away, what it lacks to 65,536 is added
abbrev pub distance_of : ℕ → ℕ → ℕ
distance_of last received = (received + (65536 - 1) + (65536 - last)) % 65536

-- below 16,384 newer, above 49,152 old or same, else invalid
abbrev pub newness_at : ℕ → Newness
newness_at d = cond (ltb d 16384) Newer (cond (ltb 49152 d) OldOrSame Invalid)

-- a received number by the last one
abbrev pub newness_of : ℕ → ℕ → Newness
newness_of last received = newness_at (distance_of last received)

-- the record before any number
abbrev pub no_number : LastSequenceNumber
no_number = record { seen = false; number = 0 }

-- a received number by the record: before any number, each is newer
abbrev pub newness_by : LastSequenceNumber → ℕ → Newness
newness_by last received = cond last.seen (newness_of last.number received) Newer

-- the record after a judgement: changed by "newer" only
abbrev pub number_after : LastSequenceNumber → ℕ → Newness → LastSequenceNumber
number_after last received Newer = record { seen = true; number = received }
number_after last received OldOrSame = last
number_after last received Invalid = last

-- the record after a received number
abbrev pub last_after : LastSequenceNumber → ℕ → LastSequenceNumber
last_after last received = number_after last received (newness_by last received)
