use Prim.Native.Nat.{◌+◌, ◌*◌, ◌-◌, ◌≤◌}
use mathlib.Core.Path.{◌≡◌}
use Rattle.marks.specs.Offsets.{count_below}
use Rattle.marks.specs.Marks.{in_use, marked}
use Rattle.marks.proofs.whole.count_fours.Given as goal

abbrev pub invariant-loop-k : goal.invariant-loop-k
invariant-loop-k l =
    (l.k ≤ l.fours) × (l.count ≡ count_below (256 * l.k) (λ j. marked in_use l.marks (8 * l.first + j))) × (l.count ≤ 256 * l.k)

abbrev pub decreases-loop-k : goal.decreases-loop-k
decreases-loop-k l = l.fours - l.k
