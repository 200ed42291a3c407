use Prim.Native.Nat.{◌+◌, ◌*◌}
use native.Mathlib.Omega.{arith}
use lib.ListN.{length-set}
use Rattle.text.proofs.Putting.{hex_digit_lem, byte_stored, bytes_all}
use Rattle.text.proofs.hex.store_bytes.Goals as goal

pub overflow_mul-out : goal.overflow_mul-out
overflow_mul-out c =
    let high = hex_digit_lem c.args.s.now (2 * c.loop-i.i) c.value.result c.requires.1 (omega (arith, c.loop-i-test.true)) c.value.ensures.0 c.value.ensures.1 in
    omega (arith, high)

pub overflow_add-out : goal.overflow_add-out
overflow_add-out c =
    let s = c.args.s.now in
    let high = hex_digit_lem s (2 * c.loop-i.i) c.value.result c.requires.1 (omega (arith, c.loop-i-test.true)) c.value.ensures.0 c.value.ensures.1 in
    let low = hex_digit_lem s (2 * c.loop-i.i + 1) c.value-in-loop-i.result c.requires.1 (omega (arith, c.loop-i-test.true)) c.value-in-loop-i.ensures.0 c.value-in-loop-i.ensures.1 in
    omega (arith, high, low)

pub loop-i-preserved : goal.loop-i-preserved
loop-i-preserved c = (
  simp length-set c.loop-i.invariant.0,
  byte_stored c.args.s.now c.loop-i.out _ c.loop-i.i c.args.at _ _ c.loop-i-test.true c.value.ensures.0 c.value-in-loop-i.ensures.0 c.loop-i.invariant.1,
)

pub returns : goal.returns
returns c = bytes_all c.args.s.now c.loop-i.out _ c.loop-i.i _ c.loop-i-test.false c.loop-i.invariant.1
