use Rattle.uadp_c.proofs.Held.{hand_ends}
use native.Mathlib.Omega.{arith}
use Rattle.uadp_c.proofs.reassembling.uadp_hand_out.Goals as goal

pub returns-in-Err : goal.returns-in-Err
returns-in-Err c =
    let args = c.args in
    hand_ends args.rec.now args.payload.now args.marks.now _ c.asked_in-held.result _ _ (omega arith)
    c.asked_in-held.ensures c.hand_out_verdict.ensures c.in-Err.is c.refused.ensures

pub returns-in-Ok : goal.returns-in-Ok
returns-in-Ok c =
    let args = c.args in
    hand_ends args.rec.now args.payload.now args.marks.now _ c.asked_in-held.result _ _ (omega arith)
    c.asked_in-held.ensures c.hand_out_verdict.ensures c.in-Ok.is c.result.ensures
