-- What the writers share: their answer, refusals in order, flags as numbers, and the bytes of items that a flag announces.
use Rattle.std.specs.Prelude.{Option, Some, None}
use Rattle.std.specs.Prelude.{ℕ, ◌+◌, ◌≤◌, ◌≡◌, Bool, true, false, cond, List, [], ◌++◌, eqb, leb, ltb, length, drop}
use Rattle.std.proofs.lemmas.List.Edits.{sets}
use Rattle.wire.specs.Constants.{DISAGREE, MOST_DATAGRAM, MOST_PICOSECONDS, NO_ROOM, NOT_PERMITTED, OVER_LIMIT, PICOSECONDS_END}
use Rattle.wire.specs.Number.{le, le_bytes, unsigned}
use Rattle.std.specs.Prelude.{Result, Ok, Err, ℤ}
use Rattle.wire.specs.Answer.{Answer, got, refused}
use Rattle.wire.specs.declared.refusal.Reason.{Reason}
use Rattle.wire.specs.Refusal.{reason_number}

-- the first number that is not 0: refusals in the order of their tests
abbrev pub or_else : ℕ → ℕ → ℕ
or_else a b = cond (eqb a 0) b a

-- "output above 65,535 bytes by 10; then 11", for so many bytes and a buffer of `room` bytes; 0 where they fit
abbrev pub room_refusal : ℕ → ℕ → ℕ
room_refusal size room = cond (ltb MOST_DATAGRAM size) OVER_LIMIT (cond (ltb room size) NO_ROOM 0)

-- What is to be written: these bytes; or none, by the number of a refusal.
pub data Output : Type 0 where
  writing : List ℕ → Output
  refusing : ℕ → Output

-- the bytes, unless a rule refuses them by the number n; 0 is no refusal
abbrev pub unless : ℕ → List ℕ → Output
unless n bytes = cond (eqb n 0) (writing bytes) (refusing n)

-- what is written of that which reading answered: "A writer refuses what reading would refuse, by the same number"
abbrev pub after_reading : {A : Type 0} → Answer A → (A → Output) → Output
after_reading (got a next) f = f a
after_reading (refused n place) f = refusing n

-- what a writer answers, into a buffer of `room` bytes: how many bytes it wrote; "a writer's [place] is 0"
abbrev pub written_of : ℕ → Output → Answer (Unit {0})
written_of room (writing bytes) =
    cond (eqb (room_refusal (length bytes) room) 0) (got tt (length bytes)) (refused (room_refusal (length bytes) room) 0)
written_of room (refusing n) = refused n 0

-- the same of the code's answer
abbrev pub answer_written : Result ℕ Reason → Answer (Unit {0})
answer_written (Ok n) = got tt n
answer_written (Err reason) = refused (reason_number reason) 0

-- what a writer leaves of the buffer `entry`: the bytes from its start, and then its own rest; of a refusal, all as it was
abbrev pub buffer_after : List ℕ → Output → List ℕ
buffer_after entry (writing bytes) = cond (eqb (room_refusal (length bytes) (length entry)) 0) (bytes ++ drop (length bytes) entry) entry
buffer_after entry (refusing n) = entry

-- What every writer promises: "A writer refuses what reading would refuse, by the same number in reading order; then .. by 6;
-- output above 65,535 bytes by 10; then 11. A successful writer changes only the bytes it reports, from the buffer's start".
pub record Writes (output : Output) (entry exit : List ℕ) (r : Result ℕ Reason) : Type 0 where
  pub answer : answer_written r ≡ written_of (length entry) output
  pub buffer : exit ≡ buffer_after entry output

-- where there is room for all of the bytes b, they were stored from position at on, and next is the position after them
pub record Puts (b entry : List ℕ) (at : ℕ) (exit : List ℕ) (next : ℕ) : Type 0 where
  pub stored : at + length b ≤ length entry → exit ≡ sets entry at b
  pub after : at + length b ≤ length entry → next ≡ at + length b

-- a flag as the number of its bit
abbrev pub num : Bool → ℕ
num true = 1
num false = 0

-- a flag byte "is left out" where it would be 0
abbrev pub byte_bytes : ℕ → List ℕ
byte_bytes e = cond (eqb e 0) [] (le_bytes 1 e)

-- whether the flag byte is there, as the number of the bit that announces it
abbrev pub needed : ℕ → ℕ
needed e = cond (eqb e 0) 0 1

-- the bytes of an item that a flag announces

abbrev pub optional_bytes : {A : Type 0} → (A → List ℕ) → Option A → List ℕ
optional_bytes bytes None = []
optional_bytes bytes (Some v) = bytes v

abbrev pub optional16_bytes : Option ℕ → List ℕ
optional16_bytes = optional_bytes (le_bytes 2)

abbrev pub optional32_bytes : Option ℕ → List ℕ
optional32_bytes = optional_bytes (le_bytes 4)

abbrev pub optional_i64_bytes : Option ℤ → List ℕ
optional_i64_bytes = optional_bytes (λ v. le_bytes 8 (unsigned 8 v))

-- Req 02: "The writers still refuse 10,000 or more there with 3", in the envelope and in the DataSetMessage header; 0 where they do not
abbrev pub picoseconds_rule : ℕ → ℕ
picoseconds_rule v = cond (leb PICOSECONDS_END v) NOT_PERMITTED 0

abbrev pub picoseconds_refusal : Option ℕ → ℕ
picoseconds_refusal None = 0
picoseconds_refusal (Some v) = picoseconds_rule v

-- Req 02: "a second rewriting exception: the rewritten envelope or message header holds 9,999 there". Of the bytes s, whose header has
-- these picoseconds at a place: 10,000 or more become 9,999, and no other byte differs. (`sets s at b` is s with its bytes from `at` on
-- replaced by those of b.)
abbrev pub picoseconds_held : Option ℕ → ℕ → List ℕ → List ℕ
picoseconds_held None at s = s
picoseconds_held (Some v) at s = cond (leb PICOSECONDS_END (le 2 s at)) (sets s at (le_bytes 2 MOST_PICOSECONDS)) s

-- what would read back otherwise is 6: here a part of this length that nothing announces
abbrev pub unused : ℕ → ℕ
unused len = cond (eqb len 0) 0 DISAGREE
