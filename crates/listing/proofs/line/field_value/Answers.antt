use Rattle.listing.proofs.Putting.{then}
use mathlib.Core.Path.{sym}
use Rattle.listing.proofs.line.field_value.Goals as goal

pub returns : goal.returns
returns c =
    rw (sym c.dimensions.ensures) (then c.shape-p.ensures (then c.decimal-p.ensures
    (then c.decimal-p-2.ensures (then c.decimal-p-3.ensures c.end.ensures))))
