use Prim.Native.Nat.{◌-◌}
use Rattle.salvage.proofs.FieldEnds.{Passing}
use Rattle.salvage.proofs.front.pass_whole.Given as goal

abbrev pub invariant-loop-k : goal.invariant-loop-k
invariant-loop-k l = Passing l.types l.front l.first l.k l.at

abbrev pub decreases-loop-k : goal.decreases-loop-k
decreases-loop-k l = l.first.count - l.k
