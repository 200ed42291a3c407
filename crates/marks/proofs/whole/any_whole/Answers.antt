use Rattle.marks.proofs.WholeLaws.{any_step}
use Rattle.marks.proofs.OffsetLaws.{from_none}
use Rattle.marks.specs.Marks.{in_use, marked}
use native.Mathlib.Omega.{arith}
use mathlib.Core.Path.{sym}
use Prim.Native.Nat.{◌*◌}
use Rattle.marks.proofs.whole.any_whole.Goals as goal

pub loop-k-init : goal.loop-k-init
loop-k-init c =
    (omega arith, omega arith, sym (from_none (8 * c.args.first) (8 * c.args.first) (marked in_use c.args.marks.now) (λ k h l. absurd (omega arith))))

pub loop-k-preserved : goal.loop-k-preserved
loop-k-preserved c =
    let args = c.args in (
      omega arith,
      omega arith,
      any_step args.marks.now args.first c.loop-k.k c.loop-k.any c.loop-k.invariant.0
          (omega (arith, c.shared_slice_known-1.given c.loop-k.k)) c.loop-k.invariant.2,
    )
