use Rattle.value.specs.Value.{value_at}
use Rattle.wire.specs.Answer.{each}
use mathlib.Core.Path.{◌≡◌}
use Prim.Native.Nat.{◌-◌}
use Rattle.value.proofs.pass_inside.Given as goal

abbrev pub invariant-loop : goal.invariant-loop
invariant-loop l = each (value_at 99 l.t) l.n l.s l.at ≡ each (value_at 99 l.t) (l.n - l.counter) l.s l.p
