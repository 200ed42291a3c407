use Rattle.uadp_c.proofs.Held.{progress_ends}
use native.Mathlib.Omega.{arith}
use Rattle.uadp_c.proofs.reassembling.uadp_progress.Goals as goal

pub returns-in-Ok : goal.returns-in-Ok
returns-in-Ok c =
    let args = c.args in
    progress_ends args.rec.now args.payload.now args.marks.now _ _ _ _ (omega arith) c.asked_in.ensures
    c.progress.ensures c.in-Ok.is c.result.ensures

pub returns-in-Err : goal.returns-in-Err
returns-in-Err c =
    let args = c.args in
    progress_ends args.rec.now args.payload.now args.marks.now _ _ _ _ (omega arith) c.asked_in.ensures
    c.progress.ensures c.in-Err.is c.refused.ensures
