use Prim.Native.Nat.{◌-◌, ◌≤◌}
use mathlib.Core.Path.{◌≡◌}
use lib.ListN.{length}
use Rattle.marks.specs.Offsets.{in_range_and, always}
use Rattle.marks.specs.Marks.{in_use, mark_all}
use Rattle.marks.proofs.each.mark_each.Given as goal

abbrev pub invariant-loop-i : goal.invariant-loop-i
invariant-loop-i l =
    (l.start ≤ l.i) × (l.i ≤ l.end) × (length l.marks ≡ length l.initial.marks) × (l.marks ≡ mark_all in_use (in_range_and always l.start l.i) l.initial.marks)

abbrev pub decreases-loop-i : goal.decreases-loop-i
decreases-loop-i l = l.end - l.i
