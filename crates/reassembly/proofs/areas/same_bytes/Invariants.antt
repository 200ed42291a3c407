use Rattle.marks.specs.Offsets.{all_below}
use lib.Dec.{eqb}
use lib.ListN.{get_or}
use mathlib.Core.Path.{◌≡◌}
use Prim.Native.Nat.{◌+◌, ◌≤◌}
use Rattle.reassembly.proofs.areas.same_bytes.Given as goal

abbrev pub invariant-loop-j : goal.invariant-loop-j
invariant-loop-j l =
    (l.j ≤ l.count) × (eqb l.other 0 ≡ all_below l.j (λ i. eqb (get_or l.a (l.at + i) 0) (get_or l.b (l.from + i) 0)))
