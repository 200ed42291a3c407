use mathlib.Core.Path.{◌≡◌}
use Prim.Native.Nat.{◌-◌}
use Rattle.dataset_fields.specs.Fields.{fields_at}
use Rattle.dataset_fields.proofs.values.Values.pass_from.Given as goal

abbrev pub invariant-loop-k : goal.invariant-loop-k
invariant-loop-k g l =
    fields_at l.delta (g.Self.Values.ENCODING) l.types (l.count - l.first) l.first l.s l.at ≡ fields_at l.delta (g.Self.Values.ENCODING) l.types (l.count - l.k) l.k l.s l.p
