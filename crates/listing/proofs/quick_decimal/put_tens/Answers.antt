use Rattle.listing.proofs.Putting.{put_all}
use Rattle.text.proofs.Numerals.{decimal_length}
use native.Mathlib.Omega.{arith}
use Rattle.listing.proofs.quick_decimal.put_tens.Goals as goal

pub returns : goal.returns
returns c =
    let args = c.args in
    put_all 20 _ _ _ _ _ (decimal_length 19 args.n (omega arith)) (omega arith) c.put_decimal.ensures
