-- What a refusal says (document 01, "Numbers given back"), and by which numbers each operation refuses.
use Rattle.std.specs.Prelude.{ℕ, ◌≤◌, ◌≡◌, Bool, true, ◌&&◌, ◌||◌, List, [], ◌∷◌, ◌⊎◌, eqb, leb}
use Rattle.wire.specs.Constants.{CUT_SHORT, BAD_VERSION, NOT_PERMITTED, NOT_TAKEN, BAD_LENGTH, DISAGREE, LEFT_OVER, NOT_CONFIGURED, TOO_DEEP, OVER_LIMIT, NO_ROOM, UNSOUND, OTHER_MESSAGE, BYTE_DIFFERS, NOT_COMPLETE}
use Rattle.reassembly_laws.specs.Refusing.{one_of}

-- "0 for 8 and 10 to 15"
abbrev pub placeless : ℕ → Bool
placeless n = eqb n 8 || (leb 10 n && leb n 15)

-- a refusal, by one of these numbers, of so many bytes: its place is 0 for 8 and 10 to 15, and never past the last byte's end
pub record Refusal (numbers : List ℕ) (number place bytes : ℕ) : Type 0 where
  pub one : one_of numbers number ≡ true
  pub nowhere : placeless number ≡ true → place ≡ 0
  pub inside : place ≤ bytes

-- the same of what a caller named a byte for, past the end too: "A made-up cursor is read at the byte it names"
abbrev pub StepRefusal : List ℕ → ℕ → ℕ → ℕ → ℕ → Type 0
StepRefusal numbers number place bytes at = Refusal numbers number place bytes ⊎ ((one_of numbers number ≡ true) × (place ≡ at))

-- ---- by which numbers: of a datagram, of a chunk, of a value, of a DataSetMessage

abbrev pub datagram_refusals : List ℕ
datagram_refusals =
    CUT_SHORT ∷ NOT_PERMITTED ∷ BAD_VERSION ∷ NOT_TAKEN ∷ BAD_LENGTH ∷ DISAGREE ∷ LEFT_OVER ∷ NOT_CONFIGURED ∷ OVER_LIMIT ∷ []

abbrev pub chunk_refusals : List ℕ
chunk_refusals = CUT_SHORT ∷ NOT_PERMITTED ∷ BAD_VERSION ∷ NOT_TAKEN ∷ BAD_LENGTH ∷ DISAGREE ∷ LEFT_OVER ∷ NOT_CONFIGURED ∷ OVER_LIMIT ∷ []

abbrev pub value_refusals : List ℕ
value_refusals = CUT_SHORT ∷ NOT_PERMITTED ∷ NOT_TAKEN ∷ BAD_LENGTH ∷ DISAGREE ∷ TOO_DEEP ∷ []

abbrev pub message_refusals : List ℕ
message_refusals = CUT_SHORT ∷ NOT_PERMITTED ∷ NOT_TAKEN ∷ BAD_LENGTH ∷ DISAGREE ∷ LEFT_OVER ∷ NOT_CONFIGURED ∷ TOO_DEEP ∷ []

-- of salvaging: "12, then the DataSetMessage's own numbers ..; last, no room 11" (document 02, Req 13)
abbrev pub salvage_refusals : List ℕ
salvage_refusals =
    CUT_SHORT ∷ NOT_PERMITTED ∷ NOT_TAKEN ∷ BAD_LENGTH ∷ DISAGREE ∷ LEFT_OVER ∷ NOT_CONFIGURED ∷ TOO_DEEP ∷ NO_ROOM ∷ UNSOUND ∷ []

-- of a step from field to field, and of looking field k up: "k at or past the count, or a step after the last field, is 10"
abbrev pub field_step_refusals : List ℕ
field_step_refusals = CUT_SHORT ∷ NOT_PERMITTED ∷ NOT_TAKEN ∷ BAD_LENGTH ∷ DISAGREE ∷ NOT_CONFIGURED ∷ TOO_DEEP ∷ OVER_LIMIT ∷ []

abbrev pub field_refusals : List ℕ
field_refusals = CUT_SHORT ∷ NOT_PERMITTED ∷ NOT_TAKEN ∷ BAD_LENGTH ∷ DISAGREE ∷ LEFT_OVER ∷ NOT_CONFIGURED ∷ TOO_DEEP ∷ OVER_LIMIT ∷ []

-- of the end of a message that was opened: 1 past the end, 6 where a field is left, 7
abbrev pub end_refusals : List ℕ
end_refusals = CUT_SHORT ∷ DISAGREE ∷ LEFT_OVER ∷ []

-- of the writers: what reading would refuse, a probe's body too, 3 for picoseconds of 10,000 and up, 6, 10 and 11
abbrev pub datagram_writer_refusals : List ℕ
datagram_writer_refusals =
    CUT_SHORT ∷ NOT_PERMITTED ∷ NOT_TAKEN ∷ BAD_LENGTH ∷ DISAGREE ∷ LEFT_OVER ∷ NOT_CONFIGURED ∷ OVER_LIMIT ∷ NO_ROOM ∷ []

abbrev pub message_writer_refusals : List ℕ
message_writer_refusals =
    CUT_SHORT ∷ NOT_PERMITTED ∷ NOT_TAKEN ∷ BAD_LENGTH ∷ DISAGREE ∷ LEFT_OVER ∷ NOT_CONFIGURED ∷ TOO_DEEP ∷ OVER_LIMIT ∷ NO_ROOM ∷ []

abbrev pub datagram_again_refusals : List ℕ
datagram_again_refusals =
    CUT_SHORT ∷ NOT_PERMITTED ∷ BAD_VERSION ∷ NOT_TAKEN ∷ BAD_LENGTH ∷ DISAGREE ∷ LEFT_OVER ∷ NOT_CONFIGURED ∷ OVER_LIMIT ∷ NO_ROOM
    ∷ []

abbrev pub message_again_refusals : List ℕ
message_again_refusals =
    CUT_SHORT ∷ NOT_PERMITTED ∷ NOT_TAKEN ∷ BAD_LENGTH ∷ DISAGREE ∷ LEFT_OVER ∷ NOT_CONFIGURED ∷ TOO_DEEP ∷ OVER_LIMIT ∷ NO_ROOM ∷ []

-- of a step over a probe's ids and strings, and of a probe's body written
abbrev pub probe_step_refusals : List ℕ
probe_step_refusals = CUT_SHORT ∷ BAD_LENGTH ∷ OVER_LIMIT ∷ []

abbrev pub probe_writer_refusals : List ℕ
probe_writer_refusals = CUT_SHORT ∷ BAD_LENGTH ∷ DISAGREE ∷ OVER_LIMIT ∷ NO_ROOM ∷ []

-- of putting a value
abbrev pub value_writer_refusals : List ℕ
value_writer_refusals = NOT_PERMITTED ∷ NOT_TAKEN ∷ DISAGREE ∷ OVER_LIMIT ∷ NO_ROOM ∷ []

-- of putting a matrix: its dimensions' 5 too
abbrev pub matrix_writer_refusals : List ℕ
matrix_writer_refusals = NOT_PERMITTED ∷ NOT_TAKEN ∷ BAD_LENGTH ∷ DISAGREE ∷ OVER_LIMIT ∷ NO_ROOM ∷ []

-- of cutting
abbrev pub cut_refusals : List ℕ
cut_refusals = DISAGREE ∷ OVER_LIMIT ∷ NO_ROOM ∷ []

-- of the calls on a partial
abbrev pub call_refusals : List ℕ
call_refusals =
    CUT_SHORT ∷ NOT_PERMITTED ∷ BAD_VERSION ∷ NOT_TAKEN ∷ BAD_LENGTH ∷ DISAGREE ∷ LEFT_OVER ∷ NOT_CONFIGURED ∷ OVER_LIMIT ∷ NO_ROOM
    ∷ UNSOUND ∷ OTHER_MESSAGE ∷ BYTE_DIFFERS ∷ NOT_COMPLETE ∷ []
