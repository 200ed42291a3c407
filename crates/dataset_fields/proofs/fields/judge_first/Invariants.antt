use lib.ListN.{length, take}
use Prim.Native.Nat.{◌≤◌}
use mathlib.Core.Path.{◌≡◌}
use Rattle.dataset_fields.proofs.Judging.{number_left}
use Rattle.dataset_fields.specs.Fields.{values_of, fields_number}
use Rattle.dataset_fields.proofs.fields.judge_first.Given as goal

abbrev pub invariant-loop-k : goal.invariant-loop-k
invariant-loop-k l =
    (l.count ≤ length l.lengths)
    × (fields_number l.encoding l.types 0 (take l.count (values_of l.lengths l.values)) ≡ number_left l.encoding l.types l.lengths l.values l.count l.k l.at l.whole)
