use Rattle.listing.proofs.Putting.{then}
use Rattle.listing.proofs.line.set_place.Goals as goal

pub returns : goal.returns
returns c =
    then c.first-p.ensures (then c.decimal-p.ensures (then c.optional-p.ensures (then c.decimal-p-2.ensures c.decimal.ensures)))
