use native.Mathlib.Omega.{arith}
use Rattle.wire.proofs.Reading.{told}
use Rattle.network_message.specs.ProbeMessage.{answer_probe_message}
use Rattle.uadp_c.proofs.Probing.{probe_read, probe_told, probed_done}
use Rattle.uadp_c.proofs.probes.uadp_probe.Goals as goal

pub returns-else-probe-lt-PROBE_SIZE : goal.returns-else-probe-lt-PROBE_SIZE
returns-else-probe-lt-PROBE_SIZE c =
    let args = c.args in
    let same =
    probe_read args.config.now args.datagram.now _ _ _ _ c.writer_count-n.ensures.0 c.sizes-list.ensures c.first.ensures
    (told answer_probe_message c.read_probe.ensures c.in-Ok.is) in
    probe_told args.datagram.now args.config.now _ _ _ c.shared_slice_known-1.given
    (probed_done c.in-Ok.field-0-0 c.in-Ok.places c.in-Ok.p _ args.probe.now _ _ _ same (omega arith) c.result.ensures
    c.put_probe.ensures.0 c.put_probe.ensures.1)
