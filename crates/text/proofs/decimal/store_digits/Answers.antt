use native.Mathlib.Omega.{arith}
use lib.ListN.{length-set}
use Rattle.text.proofs.Putting.{length_one, length_more, digit_stored, digit_last}
use Rattle.text.proofs.decimal.store_digits.Goals as goal

pub overflow_sub-i : goal.overflow_sub-i
overflow_sub-i c = omega (arith, length_more c.loop-m.m c.loop-m-test.true)

pub bounds-out-at : goal.bounds-out-at
bounds-out-at c = omega (arith, length_more c.loop-m.m c.loop-m-test.true)

pub loop-m-preserved : goal.loop-m-preserved
loop-m-preserved c = (
  omega arith,
  (
    omega (arith, length_more c.loop-m.m c.loop-m-test.true),
    (simp length-set c.loop-m.invariant.1.1.0, digit_stored _ _ _ _ _ c.loop-m-test.true c.loop-m.invariant.1.0 c.loop-m.invariant.1.1.1),
  ),
)

pub bounds-out-at-2 : goal.bounds-out-at-2
bounds-out-at-2 c = omega (arith, length_one c.loop-m.m c.loop-m-test.false)

pub returns : goal.returns
returns c =
    digit_last _ _ _ _ c.loop-m-test.false c.loop-m.invariant.1.1.1
