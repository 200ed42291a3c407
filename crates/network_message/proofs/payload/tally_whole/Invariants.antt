use Prim.Native.Nat.{◌*◌, ◌+◌, ◌-◌, ◌≤◌}
use mathlib.Core.Bool.{◌&&◌}
use mathlib.Core.Path.{◌≡◌}
use Rattle.wire.specs.Lists.{total}
use Rattle.network_message.specs.Payload.{all_positive, listed}
use Rattle.network_message.proofs.payload.tally_whole.Given as goal

abbrev pub invariant-loop-i : goal.invariant-loop-i
invariant-loop-i l =
    (l.sum + total (listed (l.n - l.i) l.list (2 * l.i)) ≡ total (listed l.n l.list 0))
    × ((l.each && all_positive (listed (l.n - l.i) l.list (2 * l.i))) ≡ all_positive (listed l.n l.list 0)) × (l.sum ≤ 65535 * l.i)
