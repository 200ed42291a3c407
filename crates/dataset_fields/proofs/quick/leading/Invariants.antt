use Rattle.dataset_fields.proofs.Alike.{Leads}
use Rattle.dataset_fields.proofs.quick.leading.Given as goal

abbrev pub invariant-loop-k : goal.invariant-loop-k
invariant-loop-k l = Leads l.s l.at l.k l.p
