use native.Mathlib.Omega.{arith}
use Rattle.listing.proofs.Putting.{then, fewer}
use Rattle.listing.proofs.line.set.Goals as goal

pub returns : goal.returns
returns c =
    fewer (omega arith) (then c.set_place-p.ensures
    (then (then c.kind_word-p.ensures c.encoding_word-p.ensures) (then c.optional-p.ensures c.end.ensures)))
