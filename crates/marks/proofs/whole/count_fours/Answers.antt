use native.Mathlib.Omega.{arith}
use Rattle.marks.proofs.WholeLaws.{four_step}
use Rattle.marks.proofs.whole.count_fours.Goals as goal

pub loop-k-preserved : goal.loop-k-preserved
loop-k-preserved c =
    let args = c.args in (
      omega arith,
      four_step args.marks.now args.first c.loop-k.k c.loop-k.count _ c.loop-k.invariant.1 c.count_four-count.ensures.0,
      omega (arith, c.count_four-count.ensures.1, c.loop-k.invariant.2),
    )
