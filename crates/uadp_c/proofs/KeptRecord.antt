-- What a call leaves in a lent record is read as what its step leaves.
-- Assumes nothing.
use Prim.Native.Nat.{ℕ, ◌≤◌}
use mathlib.Core.Path.{◌≡◌, refl, ap, sym, ◌∙◌}
use mathlib.Core.Bool.{Bool, true, false, cond}
use mathlib.Core.Logic.{◌⊎◌, inl, inr}
use mathlib.Core.List.{List}
use borrow.Author.Tests.{le-ltb}
use lib.ListN.{length}
use Rattle.wire_writer.specs.Store.{laid}
use Rattle.reassembly.specs.Views.{View}
use Rattle.marks.specs.Marks.{Layout, in_use}
use Rattle.reassembly.specs.Record.{Partial, partial}
use Rattle.reassembly.specs.Reading.{Reading}
use Rattle.reassembly.specs.Reading.Reading.{chunk, refusal}
use Rattle.reassembly.specs.Machine.{view_of}
use Rattle.reassembly.specs.Judge.{judge_reading, judge_combine}
use Rattle.reassembly.specs.Operations.{Step, step_by, put, take_in, combine}
use Rattle.reassembly.specs.declared.operations.Outcome.{Outcome}
use Rattle.reassembly.specs.declared.record.Message.{Message}
use Rattle.reassembly.specs.declared.record.PartialRecord.{PartialRecord}
use Rattle.reassembly.specs.Verdict.{Done, Refused, Verdict}
use Rattle.partial_record.specs.Partial.{partial_in, partial_bytes, FitsRecord}
use Rattle.records.specs.Sizes.{PARTIAL_SIZE}
use Rattle.partial_record.proofs.Back.{partial_back, covered_laid}
use Rattle.wire.specs.Number.{le_bytes}
use Rattle.wire.proofs.Cases.{by_bool}
use mir.Val.{Val}
use denote.Laws.{Is}
use denote.Struct.Declared as struct
use denote.Struct.Laws as structLaws
use Rattle.reassembly.specs.contracts.operations.Outcome as outcome
use Rattle.reassembly.proofs.operations.Outcome.TheLaws as outcomeLaws
use Rattle.partial_record.proofs.Fitting.{fits_record}
use Rattle.uadp_c.specs.Reassembling.{partial_of, Lent, lent, taken_over, record_by, step_in, Steps}

-- a record is as it was, or a started one is but for its number, or one not started was taken over
abbrev pub Kept : PartialRecord → PartialRecord → Type 0
Kept k after =
    (after ≡ k) ⊎ (((k.started ≡ true) × (after ≡ record { started = k.started; message = k.message; covered = after.covered })) ⊎ ((k.started ≡ false) × (after.started ≡ true)))

put_kept : (m : Message) (v : View) (s : Partial) → Kept s.rec (put m v s).rec
unfolding put
put_kept m v s = by_bool _ s.rec.started (λ e. inr (inl (e, rw e))) (λ e. inr (inr (e, rw e)))

-- and a refusal leaves it
abbrev pub KeptBy : Verdict → PartialRecord → PartialRecord → Type 0
KeptBy Done k after = Kept k after
KeptBy (Refused n p) k after = after ≡ k

by_verdict : (v : Verdict) (s t : Partial) → Kept s.rec t.rec → KeptBy (step_by v s t).verdict s.rec (step_by v s t).after.rec
by_verdict Done s t h = h
by_verdict (Refused n p) s t h = refl

put_layout : (m : Message) (v : View) (s : Partial) → s.layout ≡ (put m v s).layout
unfolding put
put_layout m v s = refl

layout_by : (v : Verdict) (s t : Partial) → s.layout ≡ t.layout → s.layout ≡ (step_by v s t).after.layout
layout_by Done s t h = h
layout_by (Refused n p) s t h = refl

-- what a step from a record in a layout leaves: the record kept, and the layout
pub record KeptStep (k : PartialRecord) (L : Layout) (s : Step) : Type 0 where
  pub kept : KeptBy s.verdict k s.after.rec
  pub layout : L ≡ s.after.layout

pub take_kept : (s : Partial) (x : Reading) → KeptStep s.rec s.layout (take_in s x)
unfolding take_in
take_kept s (chunk m at d) = record {
  kept = by_verdict (judge_reading s (chunk m at d)) s _ (put_kept m _ s);
  layout = layout_by (judge_reading s (chunk m at d)) s _ (put_layout m _ s);
}
take_kept s (refusal n p) = record {
  kept = by_verdict (judge_reading s (refusal n p)) s s (inl refl);
  layout = layout_by (judge_reading s (refusal n p)) s s refl;
}

pub combine_kept : (s f : Partial) → KeptStep s.rec s.layout (combine s f)
unfolding combine
combine_kept s f = record { kept = by_verdict (judge_combine s f) s _ (go f.rec.started); layout = layout_by (judge_combine s f) s _ (same f.rec.started) }
  where
    go : (b : Bool) → Kept s.rec (cond b (put f.rec.message (view_of f) s) s).rec
    go true = put_kept f.rec.message (view_of f) s
    go false = inl refl

    same : (b : Bool) → s.layout ≡ (cond b (put f.rec.message (view_of f) s) s).layout
    same true = put_layout f.rec.message (view_of f) s
    same false = refl

-- the record that was kept or taken over
over_reads : (r : List ℕ) (k : PartialRecord) → PARTIAL_SIZE ≤ length r → FitsRecord k → Kept (partial_in r) k → partial_in (taken_over r k) ≡ k
over_reads r k h f (inr (inr e)) =
    let x = laid r 0 (partial_bytes k) in
    let y = laid r 64 (le_bytes 8 k.covered) in
    ap (λ (b : Bool). partial_in (cond b y (cond k.started x r))) e.0 ∙ ap (λ (b : Bool). partial_in (cond b x r)) e.1 ∙ partial_back k r f h
over_reads r k h f (inr (inl e)) =
    let x = laid r 0 (partial_bytes k) in
    let y = laid r 64 (le_bytes 8 k.covered) in
    ap (λ (b : Bool). partial_in (cond b y (cond k.started x r))) e.0 ∙ covered_laid r k.covered h f.covered ∙ sym e.1
over_reads r k h f (inl e) = go (partial_in r).started k.started
  where
    same : record { started = (partial_in r).started; message = (partial_in r).message; covered = k.covered } ≡ k
    same = let q = sym e in λ i. record { started = (q i).started; message = (q i).message; covered = k.covered }

    go : (a b : Bool) → partial_in (cond a (laid r 64 (le_bytes 8 k.covered)) (cond b (laid r 0 (partial_bytes k)) r)) ≡ k
    go true b = covered_laid r k.covered h f.covered ∙ same
    go false true = partial_back k r f h
    go false false = sym e

record_reads : (v : Verdict) (r : List ℕ) (k : PartialRecord) → PARTIAL_SIZE ≤ length r → FitsRecord k → KeptBy v (partial_in r) k → partial_in (record_by v r k) ≡ k
record_reads Done r k h f e = over_reads r k h f e
record_reads (Refused n p) r k h f e = sym e

-- a call in a record of its layout's length; what its step leaves fits its types
pub step_reads : (r p m : List ℕ) (s : Step) (a : Lent) → KeptStep (partial_in r) in_use s → (PARTIAL_SIZE ≤ length r → FitsRecord s.after.rec)
    → a ≡ step_in r p m s → Steps r p m s a
step_reads r p m s a k f e = record {
  bytes = e;
  reads = λ h.
      let q : a ≡ lent _ (record_by s.verdict r s.after.rec) s.after.payload s.after.marks = rw (le-ltb (length r) PARTIAL_SIZE h) at e in
      ap (λ (x : Lent). partial_of x.rec x.payload x.marks) q
      ∙ ap (λ (x : PartialRecord). partial x s.after.payload s.after.marks) (record_reads s.verdict r s.after.rec h (f h) k.kept)
      ∙ ap (λ (L : Layout). record { rec = s.after.rec; layout = L; payload = s.after.payload; marks = s.after.marks }) k.layout;
}

-- what the code's types say of an outcome: its record fits
pub fits_outcome : (o : Outcome) (vs : List Val) → Is (struct.row outcome.the_type) o vs → FitsRecord o.rec
fits_outcome o vs h = fits_record o.rec _ (structLaws.owed outcome.the_type outcomeLaws.the_laws o vs h).1.0
