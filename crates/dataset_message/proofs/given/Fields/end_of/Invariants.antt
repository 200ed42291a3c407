use mathlib.Core.Path.{◌≡◌}
use Prim.Native.Nat.{◌+◌}
use lib.ListN.{drop}
use Rattle.wire.specs.Lists.{total}
use Rattle.dataset_message.proofs.given.Fields.end_of.Given as goal

abbrev pub invariant-loop-n : goal.invariant-loop-n
invariant-loop-n l = l.at + total (drop l.n-index l.first) ≡ total l.first
