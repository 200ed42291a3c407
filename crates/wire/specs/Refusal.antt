-- The numbers of refusals, and what the answers of the code say.
use Rattle.std.specs.Prelude.{ℕ, Result, Ok, Err}
use Rattle.wire.specs.Constants.{CUT_SHORT, BAD_VERSION, NOT_PERMITTED, NOT_TAKEN, BAD_LENGTH, DISAGREE, LEFT_OVER, NOT_CONFIGURED}
use Rattle.wire.specs.Constants.{TOO_DEEP, OVER_LIMIT, NO_ROOM, UNSOUND, OTHER_MESSAGE, BYTE_DIFFERS, NOT_COMPLETE, BAD_LINE}
use Rattle.wire.specs.Answer.{Answer, got, refused}
use Rattle.wire.specs.declared.refusal.Reason.{Reason}
use Rattle.wire.specs.declared.refusal.Refusal.{Refusal}

-- the number of a reason
abbrev pub reason_number : Reason → ℕ
reason_number Reason.CutShort = CUT_SHORT
reason_number Reason.BadVersion = BAD_VERSION
reason_number Reason.NotPermitted = NOT_PERMITTED
reason_number Reason.NotTaken = NOT_TAKEN
reason_number Reason.BadLength = BAD_LENGTH
reason_number Reason.Disagree = DISAGREE
reason_number Reason.LeftOver = LEFT_OVER
reason_number Reason.NotConfigured = NOT_CONFIGURED
reason_number Reason.TooDeep = TOO_DEEP
reason_number Reason.OverLimit = OVER_LIMIT
reason_number Reason.NoRoom = NO_ROOM
reason_number Reason.Unsound = UNSOUND
reason_number Reason.OtherMessage = OTHER_MESSAGE
reason_number Reason.ByteDiffers = BYTE_DIFFERS
reason_number Reason.NotComplete = NOT_COMPLETE
reason_number Reason.BadLine = BAD_LINE

-- a reader's answer: the value and the position after it, or the refusal's number and place
abbrev pub answer : {A : Type 0} → Result (A × ℕ) Refusal → Answer A
answer (Ok (v, next)) = got v next
answer (Err r) = refused (reason_number r.reason) r.place

-- the number of the rule that is broken, or 0
abbrev pub rule_number : Result (Unit {0}) Reason → ℕ
rule_number (Ok u) = 0
rule_number (Err reason) = reason_number reason

-- the same of what is only passed over: a is what it says, and the code answers the position after it
abbrev pub answer_to : {A : Type 0} → A → Result ℕ Refusal → Answer A
answer_to a (Ok next) = got a next
answer_to a (Err r) = refused (reason_number r.reason) r.place
