use Rattle.dataset_fields.proofs.Laying.{values_whole}
use Rattle.wire_writer.proofs.Putting.{puts}
use Rattle.dataset_message.proofs.given.Fields.put.Goals as goal

pub returns : goal.returns
returns c =
    rw (c.if-delta.false, values_whole c.args.self.lengths.now c.args.self.values.now c.args.indices.now c.args.self.whole) (puts c.put_run.ensures)
