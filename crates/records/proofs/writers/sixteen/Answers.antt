use native.Mathlib.Omega.{arith}
use mathlib.Core.Path.{◌≡◌, refl}
use Prim.Native.Nat.{◌+◌, ◌*◌}
use borrow.Author.Tests.{le-ltb}
use lib.ListN.{length}
use Rattle.records.proofs.Storing.{list_next, list_end}
use Rattle.records.proofs.writers.sixteen.Goals as goal

pub loop-i-init : goal.loop-i-init
loop-i-init c = λ p e. let q : p ≡ c.args.at = omega (arith, e) in rw q refl

pub loop-i-preserved : goal.loop-i-preserved
loop-i-preserved c =
    λ p e. let q : p ≡ c.args.at + 2 * c.loop-i.i + 2 = omega (arith, e) in
    rw q (list_next _ _ _ _ _ _ c.loop-i-test.true c.of.ensures (c.loop-i.invariant _ refl))

pub returns : goal.returns
returns c =
    rw (le-ltb (length c.args.config.now) 146 (omega arith)) (list_end _ _ _ _ _ c.loop-i-test.false (c.loop-i.invariant _ refl))
