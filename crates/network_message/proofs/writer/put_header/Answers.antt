use Rattle.wire_writer.proofs.Putting.{puts, then}
use Rattle.network_message.proofs.writer.put_header.Goals as goal

pub returns : goal.returns
returns c =
    then (puts c.put_flags-after_flags.ensures)
    (then (puts c.put_publisher-after_publisher.ensures)
    (then (puts c.put_optional-after_class.ensures) (then (puts c.put_group-after_group.ensures) c.put_tail.ensures)))
