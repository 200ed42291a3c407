use native.Mathlib.Omega.{arith}
use Rattle.listing.proofs.Putting.{then, fewer}
use Rattle.listing.proofs.line.number_id.Goals as goal

pub returns : goal.returns
returns c =
    fewer (omega arith) (then c.word-p.ensures c.decimal.ensures)
