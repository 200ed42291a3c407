use native.Mathlib.Omega.{arith}
use lib.ListN.{drop}
use Rattle.text.proofs.Digits.{scan_is}
use Rattle.text.proofs.decimal.read_digits.Goals as goal

pub loop-i-init : goal.loop-i-init
loop-i-init c =
    (omega arith, scan_is c.args.limit c.args.end 0 c.args.at (drop c.args.at c.args.s.now) (omega arith))
