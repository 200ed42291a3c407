use Rattle.reassembly.specs.Areas.{marked_view}
use Rattle.reassembly.specs.Views.{differs}
use Rattle.marks.specs.Offsets.{any_from}
use mathlib.Core.Bool.{false}
use Rattle.marks.specs.Marks.{in_use}
use mathlib.Core.Path.{◌≡◌}
use Prim.Native.Nat.{◌-◌, ◌≤◌}
use Rattle.reassembly.proofs.areas.clash_covered.Given as goal

abbrev pub invariant-loop-i : goal.invariant-loop-i
invariant-loop-i l =
    (l.i ≤ l.total) × (any_from 0 l.i (λ k. differs (marked_view in_use l.total l.held.payload.now l.held.marks.now k) (marked_view in_use l.total l.source.payload.now l.source.marks.now k)) ≡ false)

abbrev pub decreases-loop-i : goal.decreases-loop-i
decreases-loop-i l = l.total - l.i
