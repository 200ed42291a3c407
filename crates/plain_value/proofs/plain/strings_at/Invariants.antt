use Rattle.plain_value.specs.Plain.{string}
use Rattle.wire.specs.Answer.{each}
use mathlib.Core.Path.{◌≡◌}
use Prim.Native.Nat.{◌-◌}
use Rattle.plain_value.proofs.plain.strings_at.Given as goal

abbrev pub invariant-loop-i : goal.invariant-loop-i
invariant-loop-i l = each string l.n l.s l.at ≡ each string (l.n - l.i) l.s l.p
