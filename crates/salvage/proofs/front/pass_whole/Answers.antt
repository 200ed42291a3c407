use Rattle.salvage.proofs.FieldEnds.{passing_start, passing_on, passing_run}
use Rattle.salvage.proofs.front.pass_whole.Goals as goal

pub loop-k-init : goal.loop-k-init
loop-k-init c =
    let args = c.args in
    passing_run args.types.now args.front.now args.first _ args.first.next args.first.at _
    (passing_start args.types.now args.front.now args.first) c.alike-run.ensures.0 (c.alike-run.ensures.1 args.types.now)

pub loop-k-preserved : goal.loop-k-preserved
loop-k-preserved c =
    let args = c.args in
    passing_on args.types.now args.front.now args.first c.loop-k.k c.loop-k.at _ c.loop-k.invariant
    c.loop-k-test.true c.field_end-end.ensures c.if-end-at.false
