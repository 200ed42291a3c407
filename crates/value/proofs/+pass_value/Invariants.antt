use mathlib.Core.Path.{◌≡◌}
use Prim.Native.Nat.{◌+◌, ◌-◌, ◌*◌}
use Rattle.wire.specs.Answer.{each}
use Rattle.value.specs.Value.{value_at}
use Rattle.value.proofs.+pass_value.Given as goal

abbrev pub decreases-pass_held : goal.decreases-pass_held
decreases-pass_held l = 2 * l.levels + 1

abbrev pub decreases-pass_value : goal.decreases-pass_value
decreases-pass_value l = 2 * l.levels

abbrev pub invariant-pass_held-loop : goal.invariant-pass_held-loop
invariant-pass_held-loop l = each (value_at l.levels l.t) l.n l.s l.at ≡ each (value_at l.levels l.t) (l.n - l.counter) l.s l.p
