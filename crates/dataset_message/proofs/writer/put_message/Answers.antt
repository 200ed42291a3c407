use Rattle.wire_writer.proofs.Putting.{puts}
use Rattle.dataset_message.proofs.Whole.{put_parts}
use Rattle.dataset_message.specs.Writer.{given_message}
use Rattle.dataset_message.proofs.writer.put_message.Goals as goal

pub returns : goal.returns
returns c =
    let args = c.args in
    put_parts (given_message args.header args.heartbeat args.fields.values.now args.fields.lengths.now args.indices.now args.padding) _ _ _
    c.has_fields.ensures c.is_raw.ensures c.is_delta.ensures
    (puts c.put_header-next.ensures) c.put_count-next.ensures c.put-next.ensures (puts c.put_zeros.ensures)
