-- What a partial covers, when partials are equal, and how taking in and combining are judged.
use Rattle.std.specs.Prelude.{ℕ, ◌<◌, Bool, true, cond, ◌&&◌, ◌≡◌, length, leb, Result, Ok, Err}
use Rattle.std.proofs.Math.Option.{some}
use Rattle.wire.specs.Constants.{UNSOUND}
use Rattle.reassembly.specs.Views.{has}
use Rattle.reassembly.specs.Record.{Partial, identity_of, same_message, sound}
use Rattle.reassembly.specs.Reading.{Reading}
use Rattle.reassembly.specs.Machine.{view_in, state_of, judge, reading_verdict}
use Rattle.reassembly.specs.declared.judge.Admission.{Admission}
use Rattle.reassembly.specs.declared.judge.Admission.TheVariants.{Fresh, Same}
use Rattle.reassembly.specs.declared.record.Message.{Message}
use Rattle.reassembly.specs.declared.record.PartialRecord.{PartialRecord}
use Rattle.reassembly.specs.Verdict.{Verdict, Refused, at_zero}
use Rattle.wire.specs.declared.refusal.Reason.{Reason}
use Rattle.wire.specs.declared.refusal.Refusal.{Refusal}

-- whether byte i is covered
abbrev pub covered : Partial → ℕ → Bool
covered s i = has (view_in (state_of s)) i

-- byte i is covered, and it is x
abbrev pub Covers : Partial → ℕ → ℕ → Type 0
Covers s i x = view_in (state_of s) i ≡ some x

-- complete: started, and covered at every byte below total
abbrev pub Complete : Partial → Type 0
Complete s = (s.rec.started ≡ true) × ((i : ℕ) → i < s.rec.message.total → covered s i ≡ true)

-- started partials are equal if records, covered places and the bytes there agree; all not started are equal. "Equality of started partials
-- includes the number" of covered bytes (document 02, Req 07)
pub record Equal (a b : Partial) : Type 0 where
  pub states : state_of a ≡ state_of b
  pub numbers : a.rec.started ≡ true → a.rec.covered ≡ b.rec.covered

-- whether bytes of message m may come: 11 above the area, 13 of another message
unfoldable pub admission_of : PartialRecord → ℕ → Message → Result Admission Refusal
admission_of r n m =
    cond (leb m.total n)
    (cond r.started (cond (same_message (identity_of r.message) (identity_of m)) (Ok Same) (Err (at_zero Reason.OtherMessage))) (Ok Fresh))
    (Err (at_zero Reason.NoRoom))

-- taking in: 12, the reading's own number, 11, 13, 14
unfoldable pub judge_reading : Partial → Reading → Verdict
judge_reading s r = cond (sound s) (reading_verdict (length s.payload) (state_of s) r) (Refused UNSOUND 0)

-- combining: 12 for either, 11, 13, 14
unfoldable pub judge_combine : Partial → Partial → Verdict
judge_combine s f = cond (sound s && sound f) (judge (length s.payload) (state_of s) (state_of f)) (Refused UNSOUND 0)
