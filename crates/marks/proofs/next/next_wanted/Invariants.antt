use Prim.Native.Nat.{ℕ, ◌-◌, ◌≤◌, ◌<◌}
use mathlib.Core.Path.{◌≡◌}
use mathlib.Core.Bool.{false}
use Rattle.marks.specs.Offsets.{wanted}
use Rattle.marks.specs.Marks.{in_use, marked}
use Rattle.marks.proofs.next.next_wanted.Given as goal

abbrev pub invariant-loop-i : goal.invariant-loop-i
invariant-loop-i l =
    (l.from ≤ l.i) × (l.stop < l.i → l.i ≡ l.from) × ((j : ℕ) → l.from ≤ j → j < l.i → wanted l.want (marked in_use l.marks j) ≡ false)

abbrev pub decreases-loop-i : goal.decreases-loop-i
decreases-loop-i l = l.stop - l.i
