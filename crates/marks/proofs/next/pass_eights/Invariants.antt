use mathlib.Core.Path.{◌≡◌}
use mathlib.Core.Bool.{false}
use Prim.Native.Nat.{ℕ, ◌-◌, ◌%◌, ◌≤◌, ◌<◌}
use Rattle.marks.specs.Offsets.{wanted}
use Rattle.marks.specs.Marks.{in_use, marked}
use Rattle.marks.proofs.next.pass_eights.Given as goal

abbrev pub invariant-loop-i : goal.invariant-loop-i
invariant-loop-i l =
    (l.start ≤ l.i) × (l.i ≤ l.stop) × (l.i % 8 ≡ 0) × ((j : ℕ) → l.start ≤ j → j < l.i → wanted l.want (marked in_use l.marks j) ≡ false)

abbrev pub decreases-loop-i : goal.decreases-loop-i
decreases-loop-i l = l.stop - l.i
