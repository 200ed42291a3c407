use Rattle.listing.proofs.Putting.{then}
use Rattle.listing.proofs.line.refusal.Goals as goal

pub returns : goal.returns
returns c =
    then c.decimal-p.ensures (then c.decimal-p-2.ensures c.end.ensures)
