use Rattle.uadp_c.proofs.Held.{complete_ends}
use native.Mathlib.Omega.{arith}
use Rattle.std.specs.Prelude.{Ok, true, false}
use mathlib.Core.Path.{ap, ◌∙◌}
use Rattle.uadp_c.proofs.reassembling.uadp_complete.Goals as goal

pub returns-in-Ok-true : goal.returns-in-Ok-true
returns-in-Ok-true c =
    let args = c.args in
    complete_ends args.rec.now args.payload.now args.marks.now _ _ _ (Ok true) (omega arith) c.asked_in.ensures
    c.ask_complete.ensures (c.in-Ok-true.is ∙ ap Ok c.in-Ok-true.field-0-test) c.result.ensures

pub returns-in-Ok-false : goal.returns-in-Ok-false
returns-in-Ok-false c =
    let args = c.args in
    complete_ends args.rec.now args.payload.now args.marks.now _ _ _ (Ok false) (omega arith) c.asked_in.ensures
    c.ask_complete.ensures (c.in-Ok-false.is ∙ ap Ok c.in-Ok-false.field-0-test) c.result-in-Ok-false.ensures

pub returns-in-Err : goal.returns-in-Err
returns-in-Err c =
    let args = c.args in
    complete_ends args.rec.now args.payload.now args.marks.now _ _ _ _ (omega arith) c.asked_in.ensures
    c.ask_complete.ensures c.in-Err.is c.refused.ensures
