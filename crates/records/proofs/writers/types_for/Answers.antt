use Rattle.records.proofs.Asked.{types_none, types_some}
use native.Mathlib.Omega.{arith}
use Rattle.records.proofs.writers.types_for.Goals as goal

pub returns-then-n-k : goal.returns-then-n-k
returns-then-n-k c =
    let args = c.args in
    types_none args.config.now _ args.writer _ _ (omega arith) (omega arith) c.writer_count-n.ensures c.find_id-k.ensures (omega arith) c.part-then-n-k.ensures

pub returns : goal.returns
returns c =
    let args = c.args in
    types_some args.config.now _ _ _ args.writer _ _ (omega arith) (omega arith) c.writer_count-n.ensures
    c.find_id-k.ensures (omega arith) c.starts.ensures c.types.ensures c.writer_fields.ensures
