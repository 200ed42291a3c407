-- The operations on a partial: what each answers and leaves.
use Rattle.std.specs.Prelude.{ℕ, ◌+◌, Bool, true, false, cond, not, ◌&&◌, ◌||◌, List, [], take, eqb, Result, Ok, Err}
use Rattle.wire.specs.Constants.{NOT_COMPLETE, UNSOUND}
use Rattle.reassembly.specs.Views.{View, overlaid, has, data_view}
use Rattle.marks.specs.Marks.{cleared, mark_all, new_marks}
use Rattle.reassembly.specs.Record.{Partial, partial, sound, marked_count}
use Rattle.reassembly.specs.Reading.{Reading}
use Rattle.reassembly.specs.Reading.Reading.{chunk, refusal}
use Rattle.reassembly.specs.Machine.{view_of}
use Rattle.reassembly.specs.Judge.{judge_reading, judge_combine}
use Rattle.reassembly.specs.declared.operations.Outcome.{Outcome}
use Rattle.reassembly.specs.declared.record.Message.{Message}
use Rattle.reassembly.specs.declared.record.PartialRecord.{PartialRecord}
use Rattle.reassembly.specs.Verdict.{Verdict, Done, Refused, Completeness, Progress, verdict_told}
use Rattle.wire.specs.declared.refusal.Refusal.{Refusal}

-- an answer, and the partial afterwards
pub record Step : Type 0 where
  pub verdict : Verdict
  pub after : Partial

abbrev pub step_of : Outcome → List ℕ → List ℕ → Step
step_of r p m = record { verdict = verdict_told r.verdict; after = partial r.rec p m }

-- a call's outcome: the record that it made, or a refusal, which leaves the record
abbrev pub outcome_of : PartialRecord → Result PartialRecord Refusal → Outcome
outcome_of rec (Ok made) = record { verdict = Ok tt; rec = made }
outcome_of rec (Err r) = record { verdict = Err r; rec = rec }

-- every refusal leaves all as it was
abbrev pub step_by : Verdict → Partial → Partial → Step
step_by Done s t = record { verdict = Done; after = t }
step_by (Refused n p) s t = record { verdict = Refused n p; after = s }

-- a target not started takes over the record of what it accepts, clearing every mark first; "starting sets 0" (document 02, Req 07)
abbrev pub begun : PartialRecord → Message → PartialRecord
begun r m = cond r.started r (record { started = true; message = m; covered = 0 })

-- "a chunk that overlaps adds only what was new", "combining adds what the target lacked" (document 02, Req 07)
abbrev pub with_new : PartialRecord → ℕ → PartialRecord
with_new r n = record { started = r.started; message = r.message; covered = r.covered + n }

abbrev pub begun_marks : PartialRecord → List ℕ → List ℕ
begun_marks r m = cond r.started m (cleared m)

-- the bytes of a view are stored, their offsets marked, those that were not marked counted, and no other byte or mark changes
unfoldable pub put : Message → View → Partial → Partial
put m v s = record {
  rec = with_new (begun s.rec m) (new_marks s.layout (has v) (begun_marks s.rec s.marks));
  layout = s.layout;
  payload = overlaid v s.payload;
  marks = mark_all s.layout (has v) (begun_marks s.rec s.marks);
}

abbrev pub put_reading : Reading → Partial → Partial
put_reading (chunk m at d) s = put m (data_view at d) s
put_reading (refusal n p) s = s

-- taking a chunk in
unfoldable pub take_in : Partial → Reading → Step
take_in s r = step_by (judge_reading s r) s (put_reading r s)

-- combining a partial into another: each covered byte of the source is stored and marked; one not started changes nothing
unfoldable pub combine : Partial → Partial → Step
combine s f = step_by (judge_combine s f) s (cond f.rec.started (put f.rec.message (view_of f) s) s)

-- emptying sets the record to not started
unfoldable pub emptied : PartialRecord → PartialRecord
emptied r = record { started = false; message = r.message; covered = r.covered }

abbrev pub yes_no : Bool → Completeness
yes_no true = Completeness.Yes
yes_no false = Completeness.No

-- "complete" is said from the number, "exactly when a started one's number is its total" (document 02, Req 07)
abbrev pub says_complete : Partial → Bool
says_complete s = s.rec.started && eqb s.rec.covered s.rec.message.total

-- asking if complete: 12, else yes or no
unfoldable pub ask_complete : Partial → Completeness
ask_complete s = cond (sound s) (yes_no (says_complete s)) (Completeness.Unsaid UNSOUND 0)

-- how far it is: covered and total bytes of a started one, 0 and 0 of one not started; or 12
unfoldable pub progress_of : Partial → Progress
progress_of s =
    cond (sound s) (cond s.rec.started (Progress.Is s.rec.covered s.rec.message.total) (Progress.Is 0 0)) (Progress.Unknown UNSOUND 0)

-- whether a started one's number is the marked count
abbrev pub number_right : Partial → Bool
number_right s = not s.rec.started || eqb (marked_count s) s.rec.covered

-- handing out: 12; "a started one whose number isn't the marked count is 12, ahead of 15" (document 02, Req 07); not complete 15
unfoldable pub judge_hand_out : Partial → Verdict
judge_hand_out s =
    cond (sound s) (cond (number_right s) (cond (says_complete s) Done (Refused NOT_COMPLETE 0)) (Refused UNSOUND 0)) (Refused UNSOUND 0)

abbrev pub if_done : Verdict → List ℕ → List ℕ
if_done Done l = l
if_done (Refused n p) l = []

-- else the payload's first total bytes
unfoldable pub hand_out : Partial → List ℕ
hand_out s = if_done (judge_hand_out s) (take s.rec.message.total s.payload)
