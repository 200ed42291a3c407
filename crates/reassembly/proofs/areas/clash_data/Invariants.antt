use Rattle.reassembly.specs.Areas.{marked_view}
use Rattle.reassembly.specs.Views.{differs, data_view}
use Rattle.marks.specs.Offsets.{any_from}
use mathlib.Core.Bool.{false}
use Rattle.marks.specs.Marks.{in_use}
use lib.ListN.{length}
use mathlib.Core.Path.{◌≡◌}
use Prim.Native.Nat.{◌+◌, ◌-◌, ◌≤◌}
use Rattle.reassembly.proofs.areas.clash_data.Given as goal

abbrev pub invariant-loop-i : goal.invariant-loop-i
invariant-loop-i l =
    (l.offset ≤ l.i) × (l.i ≤ l.end) × (l.end ≡ l.offset + length l.bytes)
    × (any_from l.offset l.i (λ k. differs (marked_view in_use (l.offset + length l.bytes) l.held.payload.now l.held.marks.now k) (data_view l.offset l.bytes k)) ≡ false)

abbrev pub decreases-loop-i : goal.decreases-loop-i
decreases-loop-i l = l.end - l.i
