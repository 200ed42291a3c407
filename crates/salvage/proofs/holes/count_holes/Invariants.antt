use Rattle.salvage.proofs.HoleLaws.{holes_after}
use Rattle.salvage.specs.Holes.{holes_of}
use Rattle.marks.specs.Marks.{in_use, marked}
use lib.ListN.{length}
use mathlib.Core.Path.{◌≡◌}
use Prim.Native.Nat.{◌+◌, ◌-◌, ◌≤◌}
use Rattle.salvage.proofs.holes.count_holes.Given as goal

abbrev pub invariant-loop-end : goal.invariant-loop-end
invariant-loop-end l =
    (l.n ≤ l.at) × (l.n + length (holes_after (marked in_use l.marks) l.total l.at) ≡ length (holes_of (marked in_use l.marks) l.total))

abbrev pub decreases-loop-end : goal.decreases-loop-end
decreases-loop-end l = l.total - l.at
