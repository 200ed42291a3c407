use Rattle.config.proofs.Asked.{id_none, id_some}
use Rattle.config.proofs.fields_of.Goals as goal

pub returns-then-ids-k : goal.returns-then-ids-k
returns-then-ids-k c =
    let args = c.args in
    id_none args.ids.now args.starts.now args.types.now _ args.id _ c.find_writer-k.ensures c.if-ids-k.true c.part.ensures

pub returns : goal.returns
returns c =
    let args = c.args in
    id_some args.ids.now args.starts.now args.types.now _ args.id _ c.find_writer-k.ensures c.if-ids-k.false c.writer_fields.ensures
