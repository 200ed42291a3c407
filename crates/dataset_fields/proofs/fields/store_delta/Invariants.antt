use lib.ListN.{drop}
use Prim.Native.Nat.{ℕ}
use mathlib.Core.List.{List}
use mathlib.Core.Bool.{true}
use Rattle.dataset_fields.specs.Fields.{values_of, fields_bytes}
use Rattle.wire_writer.specs.Writing.{Puts}
use Rattle.dataset_fields.proofs.fields.store_delta.Given as goal

abbrev pub invariant-loop-k : goal.invariant-loop-k
invariant-loop-k l =
    (exit : List ℕ) (next : ℕ) → Puts (fields_bytes true (drop l.k l.indices) (values_of (drop l.k l.lengths) (drop l.start l.values))) l.out l.p exit next
    → Puts (fields_bytes true l.indices (values_of l.lengths l.values)) l.initial.out l.at exit next
