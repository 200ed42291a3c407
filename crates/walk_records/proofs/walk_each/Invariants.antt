use Rattle.walk_records.proofs.Fields.{Going}
use Rattle.walk_records.proofs.walk_each.Given as goal

abbrev pub invariant-loop-i : goal.invariant-loop-i
invariant-loop-i g l = Going l.types l.message l.p l.c l.first l.initial.out l.out l.at l.i l.k
