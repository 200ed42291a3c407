use mathlib.Core.Path.{◌≡◌}
use Prim.Native.Nat.{◌+◌, ◌-◌, ◌*◌}
use Rattle.wire.specs.Number.{le}
use Rattle.plain_value.specs.Dimensions.{fours, sizes_rule}
use Rattle.plain_value.proofs.Sizes.{sizes_from}
use Rattle.plain_value.proofs.dimensions.sizes_rule.Given as goal

abbrev pub invariant-loop-i : goal.invariant-loop-i
invariant-loop-i l =
    sizes_rule l.n (fours l.k (le (4 * l.k) l.s l.at)) ≡ sizes_from l.n l.product (fours (l.k - l.i) (le (4 * (l.k - l.i)) l.s (l.at + 4 * l.i)))
