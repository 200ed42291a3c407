use Prim.Native.Nat.{◌+◌, ◌*◌, ◌-◌}
use native.Mathlib.Omega.{arith}
use Rattle.walk_records.proofs.Records.{record_none, record_put}
use Rattle.walk_records.proofs.put_record.Goals as goal

pub returns-then-out-k : goal.returns-then-out-k
returns-then-out-k c =
    record_none c.args.numbers.now c.args.out.now c.args.k c.requires c.if-out-k.true

pub returns : goal.returns
returns c =
    record_put c.args.numbers.now c.args.out.now _ c.args.k
    (80 * c.args.k + 80 - 80 * c.args.k) c.requires (omega arith) (omega arith) c.put_numbers.ensures
