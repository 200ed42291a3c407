use Rattle.partial_record.proofs.Saving.{Putting}
use Rattle.partial_record.proofs.salvage_record.put_fields.Given as goal

abbrev pub invariant-loop-i : goal.invariant-loop-i
invariant-loop-i l = Putting l.types l.front l.first l.start l.initial.out l.out l.at l.i l.k
