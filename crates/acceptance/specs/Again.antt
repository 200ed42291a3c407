-- What writing some bytes does, and how bytes written again differ from those that were read.
use Rattle.wire.specs.declared.refusal.Reason.{Reason}
use Rattle.std.specs.Prelude.{Option, Some, None, Result, Ok, Err}
use Rattle.std.specs.Prelude.{ℕ, ◌+◌, ◌≤◌, ◌<◌, ◌≡◌, List, ◌++◌, length, take, drop}
use Rattle.wire.specs.Constants.{MOST_DATAGRAM, MOST_PICOSECONDS, PICOSECONDS_END}
use Rattle.wire.specs.Number.{le}

-- The bytes stand at the buffer's start, and it goes on as it was; "output above 65,535 bytes by 10; then 11", with the buffer as it was.
pub record CopiedTo (bytes entry exit : List ℕ) (r : Result ℕ Reason) : Type 0 where
  pub fits : length bytes ≤ MOST_DATAGRAM → length bytes ≤ length entry
      → (r ≡ Ok (length bytes)) × (exit ≡ bytes ++ drop (length bytes) entry)
  pub long : MOST_DATAGRAM < length bytes → (r ≡ Err Reason.OverLimit) × (exit ≡ entry)
  pub tight : length bytes ≤ MOST_DATAGRAM → length entry < length bytes → (r ≡ Err Reason.NoRoom) × (exit ≡ entry)

-- the picoseconds at a place are not there, or below 10,000
abbrev pub Below : Option ℕ → ℕ → List ℕ → Type 0
Below None at s = Unit {0}
Below (Some v) at s = le 2 s at < PICOSECONDS_END

-- the bytes hold 9,999 at a place, and no other byte differs from s
pub record Holds (at : ℕ) (s bytes : List ℕ) : Type 0 where
  pub before : take at bytes ≡ take at s
  pub there : le 2 bytes at ≡ MOST_PICOSECONDS
  pub behind : drop (at + 2) bytes ≡ drop (at + 2) s
