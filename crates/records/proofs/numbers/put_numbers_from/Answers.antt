use Rattle.records.proofs.Storing.{bytes_length, put_fits, put_none}
use native.Mathlib.Omega.{arith}
use Prim.Native.Nat.{◌*◌}
use Rattle.records.proofs.numbers.put_numbers_from.Goals as goal

pub returns-then-room-i-2 : goal.returns-then-room-i-2
returns-then-room-i-2 c =
    let args = c.args in
    put_none args.numbers.now args.out.now (8 * args.i) (omega arith)

pub returns : goal.returns
returns c =
    let args = c.args in
    put_fits args.numbers.now args.out.now _ (8 * args.i) (omega arith) c.put_each.ensures

pub put_each-requires : goal.put_each-requires
put_each-requires c = omega (arith, bytes_length c.args.numbers.now)
