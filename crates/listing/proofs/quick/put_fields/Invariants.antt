use Rattle.listing.proofs.OnePass.{Telling}
use Rattle.listing.proofs.quick.put_fields.Given as goal

abbrev pub invariant-loop-i : goal.invariant-loop-i
invariant-loop-i l = Telling l.types l.message l.p l.c l.first l.initial.out l.out l.at l.i l.end
