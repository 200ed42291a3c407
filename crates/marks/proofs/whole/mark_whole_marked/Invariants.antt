use Rattle.marks.specs.Marks.{in_use, marked, mark_all}
use Rattle.marks.specs.Offsets.{in_range_and}
use lib.ListN.{length}
use mathlib.Core.Path.{◌≡◌}
use Prim.Native.Nat.{◌*◌, ◌-◌, ◌≤◌}
use Rattle.marks.proofs.whole.mark_whole_marked.Given as goal

abbrev pub invariant-loop-k : goal.invariant-loop-k
invariant-loop-k l =
    (l.k ≤ l.last) × (length l.marks ≡ length l.initial.marks) × (l.marks ≡ mark_all in_use (in_range_and (marked in_use l.other) 0 (8 * l.k)) l.initial.marks)

abbrev pub decreases-loop-k : goal.decreases-loop-k
decreases-loop-k l = l.last - l.k
