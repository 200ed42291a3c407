use native.Mathlib.Omega.{arith}
use Rattle.listing.proofs.Putting.{then, fewer}
use Rattle.listing.proofs.line.set_bad.Goals as goal

pub returns : goal.returns
returns c =
    fewer (omega arith) (then c.set_place-p.ensures (then c.word-p.ensures c.refusal.ensures))
