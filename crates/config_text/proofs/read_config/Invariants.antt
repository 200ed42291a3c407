use Prim.Native.Nat.{◌-◌}
use lib.ListN.{length}
use Rattle.config_text.proofs.Turns.{Held}
use Rattle.config_text.proofs.read_config.Given as goal

abbrev pub invariant-loop-at : goal.invariant-loop-at
invariant-loop-at l = Held l.s l.config l.number l.at

abbrev pub decreases-loop-at : goal.decreases-loop-at
decreases-loop-at l = length l.s - l.at
