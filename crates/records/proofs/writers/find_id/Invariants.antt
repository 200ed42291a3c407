use Rattle.network_message.specs.Payload.{listed}
use Rattle.text.specs.Words.{index_of}
use mathlib.Core.Path.{◌≡◌}
use Prim.Native.Nat.{ℕ, ◌*◌, ◌-◌, ◌+◌}
use Rattle.records.proofs.writers.find_id.Given as goal

abbrev pub invariant-loop-k : goal.invariant-loop-k
invariant-loop-k l =
    (p : ℕ) → p ≡ 2 + 2 * l.k → l.k + index_of l.id (listed (l.n - l.k) l.config p) ≡ index_of l.id (listed l.n l.config 2)
