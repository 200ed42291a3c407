use Rattle.listing.proofs.OnePass.{Listing}
use Rattle.config.specs.Writers.{lists_in}
use Rattle.walk.specs.Lines.{messages_left}
use Rattle.listing.proofs.OnePass.{Listing}
use Rattle.config.specs.Writers.{lists_in}
use Rattle.walk.specs.Lines.{messages_left}
use Rattle.listing.proofs.quick.put_lines.Given as goal

abbrev pub invariant-loop-p : goal.invariant-loop-p
invariant-loop-p l = Listing (lists_in l.w) l.s l.l l.initial.out l.initial.at l.initial.c l.out l.at l.c

abbrev pub decreases-loop-p : goal.decreases-loop-p
decreases-loop-p l = messages_left l.l l.c
