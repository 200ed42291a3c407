use mathlib.Core.Path.{◌≡◌}
use Prim.Native.Nat.{◌≤◌, ◌+◌, ◌*◌}
use lib.ListN.{length, take, drop}
use Rattle.wire.specs.Lists.{total}
use Rattle.config.proofs.sum_of_sizes.Given as goal

abbrev pub invariant-loop-size : goal.invariant-loop-size
invariant-loop-size l =
    (length l.list ≤ 16) × ((l.sum ≤ l.size-index * 65535) × (l.sum + total (drop l.size-index l.list) ≡ total (take 16 l.sizes)))
