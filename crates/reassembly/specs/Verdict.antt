-- What an operation answers.
use Rattle.std.specs.Prelude.{ℕ, Bool, true, false, Result, Ok, Err}
use Rattle.wire.specs.Refusal.{reason_number}
use Rattle.wire.specs.declared.refusal.Reason.{Reason}
use Rattle.wire.specs.declared.refusal.Refusal.{Refusal}

-- done, or document 01's number and place
pub data Verdict : Type 0 where
  Done : Verdict
  Refused : ℕ → ℕ → Verdict

-- whether a partial is complete, or document 01's number and place
pub data Completeness : Type 0 where
  Yes : Completeness
  No : Completeness
  Unsaid : ℕ → ℕ → Completeness

-- how far a partial is: covered and total bytes; or document 01's number and place
pub data Progress : Type 0 where
  Is : ℕ → ℕ → Progress
  Unknown : ℕ → ℕ → Progress

-- ---- the same of what the code answers
abbrev pub verdict_told : Result (Unit {0}) Refusal → Verdict
verdict_told (Ok u) = Verdict.Done
verdict_told (Err r) = Verdict.Refused (reason_number r.reason) r.place

abbrev pub completeness_told : Result Bool Refusal → Completeness
completeness_told (Ok true) = Completeness.Yes
completeness_told (Ok false) = Completeness.No
completeness_told (Err r) = Completeness.Unsaid (reason_number r.reason) r.place

abbrev pub progress_told : Result (ℕ × ℕ) Refusal → Progress
progress_told (Ok (covered, total)) = Progress.Is covered total
progress_told (Err r) = Progress.Unknown (reason_number r.reason) r.place

-- a refusal in a call, whose place is 0
abbrev pub at_zero : Reason → Refusal
at_zero reason = record { reason = reason; place = 0 }
