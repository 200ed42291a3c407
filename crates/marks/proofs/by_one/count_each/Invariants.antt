use Rattle.marks.specs.Marks.{in_use, marked}
use Rattle.marks.specs.Offsets.{count_below}
use mathlib.Core.Path.{◌≡◌}
use Prim.Native.Nat.{◌+◌, ◌-◌, ◌≤◌}
use Rattle.marks.proofs.by_one.count_each.Given as goal

abbrev pub invariant-loop-i : goal.invariant-loop-i
invariant-loop-i l =
    (l.i ≤ l.stop) × (l.count ≡ count_below (l.i - 0) (λ j. marked in_use l.marks (0 + j))) × (l.count ≤ l.i)

abbrev pub decreases-loop-i : goal.decreases-loop-i
decreases-loop-i l = l.stop - l.i
