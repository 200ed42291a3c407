use Rattle.marks.specs.Marks.{in_use, marked}
use Rattle.marks.specs.Offsets.{any_from}
use lib.Dec.{eqb}
use mathlib.Core.Path.{◌≡◌}
use mathlib.Core.Bool.{not}
use Prim.Native.Nat.{◌*◌, ◌-◌, ◌≤◌}
use Rattle.marks.proofs.whole.any_whole.Given as goal

abbrev pub invariant-loop-k : goal.invariant-loop-k
invariant-loop-k l =
    (l.first ≤ l.k) × (l.k ≤ l.last) × (not (eqb l.any 0) ≡ any_from (8 * l.first) (8 * l.k) (marked in_use l.marks))

abbrev pub decreases-loop-k : goal.decreases-loop-k
decreases-loop-k l = l.last - l.k
