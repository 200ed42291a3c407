use mathlib.Core.Path.{refl}
use native.Mathlib.Omega.{arith}
use Rattle.text.proofs.Putting.{length_one, length_more}
use Rattle.text.proofs.Numerals.{decimal_length}
use Rattle.text.proofs.decimal.count_digits.Goals as goal

pub loop-m-init : goal.loop-m-init
loop-m-init c = (decimal_length 19 c.args.n (omega arith), refl)

pub loop-m-preserved : goal.loop-m-preserved
loop-m-preserved c =
    (c.loop-m.invariant.0, omega (arith, length_more c.loop-m.m c.loop-m-test.true))

pub returns : goal.returns
returns c = omega (arith, length_one c.loop-m.m c.loop-m-test.false)
