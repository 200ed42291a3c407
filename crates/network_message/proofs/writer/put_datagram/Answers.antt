use Rattle.wire_writer.proofs.Putting.{then}
use Rattle.network_message.proofs.writer.put_datagram.Goals as goal

pub returns : goal.returns
returns c =
    then c.put_header-at.ensures c.put_payload.ensures
