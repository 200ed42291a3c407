use Prim.Native.Nat.{ℕ, ◌*◌, ◌-◌, ◌+◌}
use mathlib.Core.Path.{◌≡◌}
use lib.Seq.{sets}
use Rattle.network_message.specs.Payload.{listed}
use Rattle.records.proofs.writers.sixteen.Given as goal

abbrev pub invariant-loop-i : goal.invariant-loop-i
invariant-loop-i l = (p : ℕ) → p ≡ l.at + 2 * l.i → sets l.list l.i (listed (16 - l.i) l.config p) ≡ listed 16 l.config l.at
