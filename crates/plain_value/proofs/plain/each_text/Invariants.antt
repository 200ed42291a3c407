use Rattle.plain_value.specs.Plain.{text}
use Rattle.wire.specs.Answer.{each}
use mathlib.Core.Path.{◌≡◌}
use Prim.Native.Nat.{◌-◌}
use Rattle.plain_value.proofs.plain.each_text.Given as goal

abbrev pub invariant-loop : goal.invariant-loop
invariant-loop l = each (text l.t) l.n l.s l.at ≡ each (text l.t) (l.n - l.counter) l.s l.p
