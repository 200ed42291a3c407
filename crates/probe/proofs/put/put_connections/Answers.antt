use Rattle.wire_writer.proofs.Putting.{puts, then}
use Rattle.probe.proofs.put.put_connections.Goals as goal

pub returns : goal.returns
returns c =
    then c.put_count-start.ensures (then (puts c.put_run-groups_at.ensures) (then (puts c.put-include_at.ensures) (puts c.put.ensures)))
