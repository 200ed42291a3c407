use lib.ListN.{length, drop}
use Prim.Native.Nat.{ℕ, ◌≤◌, ◌+◌, ◌*◌}
use mathlib.Core.List.{List}
use mathlib.Core.Bool.{true}
use mathlib.Core.Path.{◌≡◌}
use Rattle.dataset_fields.specs.Fields.{values_of, fields_bytes}
use Rattle.dataset_fields.proofs.fields.delta_size.Given as goal

abbrev pub invariant-loop-n : goal.invariant-loop-n
invariant-loop-n l =
    (l.start ≤ length l.values)
    × ((indices : List ℕ) → length (fields_bytes true indices (values_of l.lengths l.values))
    ≡ 2 * l.n-index + (l.start + length (fields_bytes true (drop l.n-index indices) (values_of (drop l.n-index l.lengths) (drop l.start l.values)))))
