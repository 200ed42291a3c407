use Prim.Native.Nat.{◌+◌, ◌-◌, ◌≤◌}
use mathlib.Core.Path.{◌≡◌}
use lib.ListN.{length}
use Rattle.marks.specs.Marks.{in_use, marked}
use Rattle.salvage.specs.Holes.{holes_of}
use Rattle.salvage.proofs.HoleLaws.{holes_after}
use Rattle.partial_record.specs.List.{hole_entries, entries_put}
use Rattle.partial_record.proofs.salvage_record.put_holes.Given as goal

abbrev pub invariant-loop-hole : goal.invariant-loop-hole
invariant-loop-hole l =
    (length l.out ≡ length l.initial.out) × (l.k ≤ l.at)
    × (entries_put l.k (hole_entries (holes_after (marked in_use l.marks) l.total l.at)) l.out ≡ entries_put 0 (hole_entries (holes_of (marked in_use l.marks) l.total)) l.initial.out)
    × (l.k + length (holes_after (marked in_use l.marks) l.total l.at) ≡ length (holes_of (marked in_use l.marks) l.total))

abbrev pub decreases-loop-hole : goal.decreases-loop-hole
decreases-loop-hole l = l.total - l.at
