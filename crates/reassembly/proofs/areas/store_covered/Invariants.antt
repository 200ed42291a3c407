use Rattle.reassembly.specs.Areas.{marked_view}
use Rattle.reassembly.specs.Views.{overlaid, between}
use Rattle.marks.specs.Marks.{in_use}
use lib.ListN.{length}
use mathlib.Core.Path.{◌≡◌}
use Prim.Native.Nat.{◌-◌, ◌≤◌}
use Rattle.reassembly.proofs.areas.store_covered.Given as goal

abbrev pub invariant-loop-i : goal.invariant-loop-i
invariant-loop-i l =
    (l.i ≤ l.total) × (length l.payload ≡ length l.initial.payload) × (l.payload ≡ overlaid (between 0 l.i (marked_view in_use l.total l.source.payload.now l.source.marks.now)) l.initial.payload)

abbrev pub decreases-loop-i : goal.decreases-loop-i
decreases-loop-i l = l.total - l.i
