use Prim.Native.Nat.{◌<◌}
use mathlib.Core.Bool.{Bool, ◌&&◌}
use mathlib.Core.Path.{sym, ◌∙◌, ap}
use native.Mathlib.Omega.{arith}
use lib.Dec.{ltb}
use lib.ListN.{length, get_or}
use Rattle.network_message.proofs.Tallies.{total_next, positive_next}
use Rattle.network_message.proofs.payload.tally_configured.Goals as goal

pub loop-i-preserved : goal.loop-i-preserved
loop-i-preserved c =
    let s = c.args.sizes.now in
    let i = c.loop-i.i in
    let h : i < length s = omega arith in (
      omega (arith, total_next s i h, c.loop-i.invariant.0),
      ap (λ (b : Bool). b && ltb 0 (get_or s i 0)) c.loop-i.invariant.1 ∙ sym (positive_next s i h),
      omega (arith, c.loop-i.invariant.2, c.type_inv.sizes i),
    )
