use Rattle.marks.specs.Marks.{in_use, marked}
use Rattle.marks.specs.Offsets.{count_below}
use mathlib.Core.Path.{◌≡◌}
use Prim.Native.Nat.{◌+◌, ◌*◌, ◌-◌, ◌≤◌}
use Rattle.marks.proofs.whole.count_bytes.Given as goal

abbrev pub invariant-loop-k : goal.invariant-loop-k
invariant-loop-k l =
    (l.first ≤ l.k) × (l.k ≤ l.last) × (l.count ≡ count_below (8 * (l.k - l.first)) (λ j. marked in_use l.marks (8 * l.first + j))) × (l.count ≤ 8 * (l.k - l.first))

abbrev pub decreases-loop-k : goal.decreases-loop-k
decreases-loop-k l = l.last - l.k
