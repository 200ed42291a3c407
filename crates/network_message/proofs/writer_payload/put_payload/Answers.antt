use Rattle.wire_writer.proofs.Putting.{puts, then}
use Rattle.network_message.proofs.writer_payload.put_payload.Goals as goal

pub returns : goal.returns
returns c =
    then c.put_list-first.ensures (puts c.put_run.ensures)
