use Rattle.uadp_c.proofs.Stepping.{told_done, told_end, told_not}
use native.Mathlib.Omega.{arith}
use Rattle.uadp_c.proofs.fields.uadp_next_field.Goals as goal

pub returns-in-Done : goal.returns-in-Done
returns-in-Done c =
    let args = c.args in
    told_done args.config.now args.message.now args.head.now args.field.now _ _ args.writer c.step.result c.step.ensures
    c.in-Done.offset _ c.in-Done.is (omega (arith, c.if-head-lt-HEAD_SIZE.false)) (omega (arith, c.if-field-lt-FIELD_SIZE.false)) c.result.ensures

pub returns-in-End : goal.returns-in-End
returns-in-End c =
    let args = c.args in
    told_end args.config.now args.message.now args.head.now args.field.now _ _ args.writer c.step.result c.step.ensures
    _ c.in-End.is c.refused_for.ensures

pub returns-in-Not : goal.returns-in-Not
returns-in-Not c =
    let args = c.args in
    told_not args.config.now args.message.now args.head.now args.field.now _ _ args.writer c.step.result c.step.ensures
    _ _ _ c.in-Not.is c.by_step-in-Not.ensures
