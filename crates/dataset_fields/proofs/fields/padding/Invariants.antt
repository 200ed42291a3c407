use mathlib.Core.Path.{◌≡◌}
use lib.ListN.{length}
use Prim.Native.Nat.{◌+◌, ◌-◌, ◌≤◌}
use Rattle.dataset_fields.specs.Fields.{padding_at}
use Rattle.dataset_fields.proofs.fields.padding.Given as goal

abbrev pub invariant-loop-p : goal.invariant-loop-p
invariant-loop-p l = (padding_at l.s l.at ≡ padding_at l.s l.p) × (l.p ≤ l.at + (length l.s - l.at))
