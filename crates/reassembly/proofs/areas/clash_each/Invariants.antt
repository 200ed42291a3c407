use Rattle.reassembly.specs.Areas.{marked_view}
use Rattle.reassembly.specs.Views.{differs, data_view}
use Rattle.marks.specs.Marks.{in_use}
use Rattle.marks.specs.Offsets.{any_from}
use mathlib.Core.Path.{◌≡◌}
use Prim.Native.Nat.{◌≤◌}
use Rattle.reassembly.proofs.areas.clash_each.Given as goal

abbrev pub invariant-loop-i : goal.invariant-loop-i
invariant-loop-i l =
    (l.start ≤ l.i) × (l.i ≤ l.end) × (l.found ≡ any_from l.start l.i (λ k. differs (marked_view in_use l.end l.held.payload.now l.held.marks.now k) (data_view l.offset l.bytes k)))
