use native.Mathlib.Omega.{arith}
use Rattle.listing.proofs.Putting.{then, fewer}
use Rattle.listing.proofs.line.field.Goals as goal

pub returns : goal.returns
returns c =
    fewer (omega arith) (then c.first-p.ensures
    (then c.decimal-p.ensures (then c.decimal-p-2.ensures (then c.decimal-p-3.ensures c.field_value.ensures))))
