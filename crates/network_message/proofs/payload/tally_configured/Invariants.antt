use Prim.Native.Nat.{◌*◌, ◌≤◌}
use mathlib.Core.Path.{◌≡◌}
use lib.ListN.{take}
use Rattle.wire.specs.Lists.{total}
use Rattle.network_message.specs.Payload.{all_positive}
use Rattle.network_message.proofs.payload.tally_configured.Given as goal

abbrev pub invariant-loop-i : goal.invariant-loop-i
invariant-loop-i l = (l.sum ≡ total (take l.i l.sizes)) × (l.each ≡ all_positive (take l.i l.sizes)) × (l.sum ≤ 65535 * l.i)
