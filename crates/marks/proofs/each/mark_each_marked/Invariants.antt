use Rattle.marks.specs.Marks.{in_use, marked, mark_all}
use Rattle.marks.specs.Offsets.{in_range_and}
use lib.ListN.{length}
use mathlib.Core.Path.{◌≡◌}
use Prim.Native.Nat.{◌-◌, ◌≤◌}
use Rattle.marks.proofs.each.mark_each_marked.Given as goal

abbrev pub invariant-loop-i : goal.invariant-loop-i
invariant-loop-i l =
    (l.start ≤ l.i) × (l.i ≤ l.end) × (length l.marks ≡ length l.initial.marks) × (l.marks ≡ mark_all in_use (in_range_and (marked in_use l.other) l.start l.i) l.initial.marks)

abbrev pub decreases-loop-i : goal.decreases-loop-i
decreases-loop-i l = l.end - l.i
