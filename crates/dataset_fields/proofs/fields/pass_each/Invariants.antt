use mathlib.Core.Path.{◌≡◌}
use Prim.Native.Nat.{◌-◌}
use Rattle.dataset_fields.specs.Fields.{fields_at}
use Rattle.dataset_fields.proofs.fields.pass_each.Given as goal

abbrev pub invariant-loop-k : goal.invariant-loop-k
invariant-loop-k l =
    fields_at l.delta l.encoding l.types l.count 0 l.s l.at ≡ fields_at l.delta l.encoding l.types (l.count - l.k) l.k l.s l.p
