use mathlib.Core.Path.{sym, ◌∙◌}
use lib.Seq.{length-take-le}
use Rattle.reassembly.proofs.CallLaws.{handed_verdict, none_handed, done_told}
use Rattle.reassembly.specs.Record.{partial}
use Rattle.reassembly.specs.Operations.{hand_out}
use Rattle.reassembly.proofs.JudgeLaws.{sound_total, hand_sound, hand_started}
use Rattle.reassembly.proofs.operations.hand_out.Goals as goal

pub returns-then-is_err : goal.returns-then-is_err
unfolding hand_out
returns-then-is_err c =
    let args = c.args in
    rw (sym (handed_verdict (partial args.rec args.payload.now args.marks.now) _ c.hand_out_verdict.ensures)) (none_handed _ _ (sym c.is_err.ensures.value ∙ c.if-is_err.true))

pub slice_bounds-result-end-2 : goal.slice_bounds-result-end-2
slice_bounds-result-end-2 c =
    let args = c.args in
    let a = args in
    let s = partial a.rec a.payload.now a.marks.now in
    let e = sym (handed_verdict (partial args.rec args.payload.now args.marks.now) _ c.hand_out_verdict.ensures) ∙ done_told _ (sym c.is_err.ensures.value ∙ c.if-is_err.false) in
    sym (length-take-le a.rec.message.total a.payload.now (sound_total s (hand_sound s e) (hand_started s e)))

pub returns : goal.returns
unfolding hand_out
returns c =
    let args = c.args in
    rw (sym (handed_verdict (partial args.rec args.payload.now args.marks.now) _ c.hand_out_verdict.ensures) ∙ done_told _ (sym c.is_err.ensures.value ∙ c.if-is_err.false))
