use Rattle.wire_writer.proofs.Putting.{puts, then}
use Rattle.network_message.proofs.writer.put_tail.Goals as goal

pub returns : goal.returns
returns c =
    then (puts c.put_payload_header-after_ids.ensures)
    (then (puts c.put_optional-after_time.ensures) (then (puts c.put_optional-after_picoseconds.ensures) (puts c.put_promoted.ensures)))
