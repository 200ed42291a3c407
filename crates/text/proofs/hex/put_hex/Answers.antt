use Prim.Native.Nat.{◌+◌}
use native.Mathlib.Omega.{arith}
use native.Mathlib.Nat.{add_assoc}
use lib.ListN.{length}
use Rattle.text.proofs.Putting.{hex_none, hex_put}
use Rattle.text.proofs.hex.put_hex.Goals as goal

pub returns-then-not-has : goal.returns-then-not-has
returns-then-not-has c =
    let args = c.args in
    hex_none args.s.now args.out.now args.at c.has.result (length args.s.now) (omega arith) c.has.ensures c.if-not-has.true-raw

pub returns-then-not-has-2 : goal.returns-then-not-has-2
returns-then-not-has-2 c =
    let args = c.args in
    hex_none args.s.now args.out.now args.at c.has-2.result (length args.s.now + length args.s.now) (omega arith) (rw add_assoc at c.has-2.ensures) c.if-not-has-2.true-raw

pub returns : goal.returns
returns c =
    let args = c.args in
    hex_put args.s.now args.out.now args.at c.has-2.result c.has-2.ensures c.if-not-has-2.false-raw _ c.store_hex.ensures
