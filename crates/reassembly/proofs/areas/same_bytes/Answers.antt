use Rattle.reassembly.proofs.AreaLaws.{same_step}
use lib.Dec.{eqb}
use lib.ListN.{get_or}
use native.Mathlib.Omega.{arith}
use mathlib.Core.Path.{refl}
use Prim.Native.Nat.{◌+◌}
use Rattle.reassembly.proofs.areas.same_bytes.Goals as goal

pub loop-j-preserved : goal.loop-j-preserved
loop-j-preserved c =
    let args = c.args in (
      omega arith,
      same_step c.loop-j.other (get_or args.a.now (args.at + c.loop-j.j) 0) (get_or args.b.now (args.from + c.loop-j.j) 0) c.loop-j.j
          (λ i. eqb (get_or args.a.now (args.at + i) 0) (get_or args.b.now (args.from + i) 0)) c.loop-j.invariant.1 refl,
    )
