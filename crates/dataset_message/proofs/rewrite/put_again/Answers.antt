use Rattle.dataset_message.proofs.Whole.{again_parts}
use Rattle.wire_writer.proofs.Putting.{puts}
use Rattle.dataset_message.proofs.rewrite.put_again.Goals as goal

pub returns : goal.returns
returns c =
    let args = c.args in
    again_parts args.header args.fielded c.is_raw.result args.count args.fields.now args.padding
    c.is_raw.ensures (puts c.put_header-next.ensures) c.put_count-next.ensures (puts c.put_run-next.ensures)
    (puts c.put_zeros.ensures)
