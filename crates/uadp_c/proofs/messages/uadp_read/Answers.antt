use Rattle.uadp_c.proofs.Walking.{envelope_told, envelope_read, read_done}
use Rattle.network_message.specs.Envelope.{answer_network_message}
use Rattle.wire.proofs.Reading.{told}
use native.Mathlib.Omega.{arith}
use Rattle.uadp_c.proofs.messages.uadp_read.Goals as goal

pub returns-else-envelope-lt-ENVELOPE_SIZE : goal.returns-else-envelope-lt-ENVELOPE_SIZE
returns-else-envelope-lt-ENVELOPE_SIZE c =
    let args = c.args in
    let same =
    envelope_told args.config.now args.datagram.now _ _ _ _ c.writer_count-n.ensures.0 c.sizes-list.ensures c.first.ensures
    (told answer_network_message c.read.ensures c.in-Ok.is) in
    envelope_read args.datagram.now args.config.now _ _ _ c.shared_slice_known-1.given
    c.shared_slice_known-2-1.given
    (read_done c.in-Ok.e c.in-Ok.places c.in-Ok.payload _ args.envelope.now _ _ _ same (omega arith) c.result.ensures
    c.put_envelope.ensures.0 c.put_envelope.ensures.1)
