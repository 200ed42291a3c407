use Prim.Native.Nat.{◌+◌, ◌*◌, ◌-◌}
use native.Mathlib.Omega.{arith}
use Rattle.partial_record.proofs.Entries.{entry_none, entry_put}
use Rattle.partial_record.proofs.salvage_record.put_entry.Goals as goal

pub returns-then-out-k : goal.returns-then-out-k
returns-then-out-k c =
    entry_none c.args.numbers.now c.args.out.now c.args.k c.requires c.if-out-k.true

pub returns : goal.returns
returns c =
    entry_put c.args.numbers.now c.args.out.now _ c.args.k
    (64 * c.args.k + 64 - 64 * c.args.k) c.requires (omega arith) (omega arith) c.put_numbers.ensures
