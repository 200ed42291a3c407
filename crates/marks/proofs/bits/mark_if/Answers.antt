use Rattle.marks.proofs.MarkLaws.{mark_chosen}
use Rattle.marks.specs.Marks.{capacity}
use lib.ListN.{set}
use native.Mathlib.Omega.{arith}
use mathlib.Core.Path.{ap, ◌∙◌}
use Prim.Native.Nat.{◌/◌}
use Rattle.marks.proofs.bits.mark_if.Goals as goal

pub bounds-marks-at : goal.bounds-marks-at
unfolding capacity
bounds-marks-at c = omega (arith, c.requires)

pub bounds-marks-at-2 : goal.bounds-marks-at-2
unfolding capacity
bounds-marks-at-2 c = omega (arith, c.requires)

pub returns : goal.returns
returns c =
    let args = c.args in
    ap (set args.marks.now (args.i / 8)) c.with_bit.ensures ∙ mark_chosen args.on args.i args.marks.now
