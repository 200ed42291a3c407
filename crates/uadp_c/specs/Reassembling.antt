-- Reassembly on lent records and areas (include/uadp.h, "chunks and reassembly").
use Rattle.std.specs.Prelude.{ℕ, ◌*◌, ◌≤◌, ◌≡◌, cond, List, [], ◌∷◌, ltb, length}
use Rattle.wire.specs.Constants.{UNSOUND}
use Rattle.records.specs.Sizes.{PARTIAL_SIZE}
use Rattle.wire.specs.Number.{le_bytes}
use Rattle.wire_writer.specs.Store.{laid}
use Rattle.reassembly.specs.Record.{Partial, partial}
use Rattle.reassembly.specs.Operations.{Step}
use Rattle.reassembly.specs.declared.record.PartialRecord.{PartialRecord}
use Rattle.reassembly.specs.Verdict.{Completeness, Progress, Verdict}
use Rattle.records.specs.Result.{result_of}
use Rattle.partial_record.specs.Partial.{COVERED, partial_in, partial_bytes}

-- a partial: its record and its two areas, payload and marks
abbrev pub partial_of : List ℕ → List ℕ → List ℕ → Partial
partial_of r p m = partial (partial_in r) p m

-- an answer, and the lent bytes afterwards
pub record Lent : Type 0 where
  pub result : ℕ
  pub rec : List ℕ
  pub payload : List ℕ
  pub marks : List ℕ

abbrev pub lent : ℕ → List ℕ → List ℕ → List ℕ → Lent
lent x r p m = record { result = x; rec = r; payload = p; marks = m }

abbrev pub verdict_result : Verdict → ℕ
verdict_result Verdict.Done = result_of 0 0
verdict_result (Verdict.Refused n place) = result_of n place

-- "A target not started takes over the record"; of a started one the number of covered bytes is stored, and no other byte changes
abbrev pub taken_over : List ℕ → PartialRecord → List ℕ
taken_over r after =
    cond (partial_in r).started (laid r (8 * COVERED) (le_bytes 8 after.covered))
    (cond after.started (laid r 0 (partial_bytes after)) r)

-- a refusal leaves the record as it was
abbrev pub record_by : Verdict → List ℕ → PartialRecord → List ℕ
record_by Verdict.Done r after = taken_over r after
record_by (Verdict.Refused n place) r after = r

-- "a record shorter than its layout is unsound, 12"; else the step's answer, record and areas
abbrev pub step_in : List ℕ → List ℕ → List ℕ → Step → Lent
step_in r p m s =
    cond (ltb (length r) PARTIAL_SIZE) (lent (result_of UNSOUND 0) r p m)
    (lent (verdict_result s.verdict) (record_by s.verdict r s.after.rec) s.after.payload s.after.marks)

-- a call that takes this step: its answer and the lent bytes afterwards; and these bytes are read as the partial that the step leaves
pub record Steps (r p m : List ℕ) (s : Step) (a : Lent) : Type 0 where
  pub bytes : a ≡ step_in r p m s
  pub reads : PARTIAL_SIZE ≤ length r → partial_of a.rec a.payload a.marks ≡ s.after

-- the other partial in combining: "a record shorter than its layout is unsound, 12"
abbrev pub source_of : List ℕ → List ℕ → List ℕ → Partial
source_of r p m = cond (ltb (length r) PARTIAL_SIZE) (partial (partial_in r) [] (0 ∷ [])) (partial_of r p m)

-- emptying: "the record's number 0 becomes 0, and no other byte changes; a record shorter than 8 bytes stays as it is"
abbrev pub emptied_record : List ℕ → List ℕ
emptied_record r = laid r 0 (le_bytes 8 0)

-- "Value: 1 where the partial is complete, else 0"
abbrev pub complete_result : Completeness → ℕ
complete_result Completeness.Yes = result_of 0 1
complete_result Completeness.No = result_of 0 0
complete_result (Completeness.Unsaid n place) = result_of n place

abbrev pub complete_in : List ℕ → Completeness → ℕ
complete_in r a = cond (ltb (length r) PARTIAL_SIZE) (result_of UNSOUND 0) (complete_result a)

-- "Value: how many bytes have come in"; how many there are in all stands in the record
abbrev pub progress_result : Progress → ℕ
progress_result (Progress.Is covered total) = result_of 0 covered
progress_result (Progress.Unknown n place) = result_of n place

abbrev pub progress_in : List ℕ → Progress → ℕ
progress_in r a = cond (ltb (length r) PARTIAL_SIZE) (result_of UNSOUND 0) (progress_result a)

-- "Value: how many bytes at the payload area's start are the complete payload"
abbrev pub hand_result : PartialRecord → Verdict → ℕ
hand_result r Verdict.Done = result_of 0 r.message.total
hand_result r (Verdict.Refused n place) = result_of n place

abbrev pub hand_in : List ℕ → Verdict → ℕ
hand_in r v = cond (ltb (length r) PARTIAL_SIZE) (result_of UNSOUND 0) (hand_result (partial_in r) v)
