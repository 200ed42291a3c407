use Rattle.listing.proofs.Putting.{digit_more}
use native.Mathlib.Omega.{arith}
use Rattle.listing.proofs.quick_decimal.three.Goals as goal

pub returns : goal.returns
returns c =
    let args = c.args in
    digit_more args.n (omega arith) c.two-p.ensures c.last.ensures
