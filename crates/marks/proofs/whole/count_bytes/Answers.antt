use Rattle.marks.proofs.WholeLaws.{byte_step}
use lib.ListN.{get_or}
use lib.Count.{ones-le}
use native.Mathlib.Omega.{arith}
use mathlib.Core.Path.{refl}
use Rattle.marks.proofs.whole.count_bytes.Goals as goal

pub loop-k-preserved : goal.loop-k-preserved
loop-k-preserved c =
    let args = c.args in
    let most = ones-le 8 (get_or args.marks.now c.loop-k.k 0) (omega (arith, c.shared_slice_known-1.given c.loop-k.k)) in (
      omega arith,
      omega arith,
      byte_step args.marks.now args.first c.loop-k.k c.loop-k.count _ (λ i. omega (arith, c.shared_slice_known-1.given i))
          c.loop-k.invariant.0 c.loop-k.invariant.2 refl,
      omega arith,
    )
