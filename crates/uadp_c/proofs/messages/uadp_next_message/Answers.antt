use Rattle.uadp_c.proofs.Walking.{walk_no_envelope, walk_done}
use Rattle.uadp_c.specs.Messages.{writer_at}
use Rattle.network_message.specs.Payload.{answer_place_step}
use Rattle.wire.proofs.Reading.{told}
use native.Mathlib.Omega.{arith}
use Rattle.uadp_c.proofs.messages.uadp_next_message.Goals as goal

pub returns-then-envelope-lt-ENVELOPE_SIZE : goal.returns-then-envelope-lt-ENVELOPE_SIZE
returns-then-envelope-lt-ENVELOPE_SIZE c =
    let args = c.args in
    walk_no_envelope (writer_at args.config.now args.envelope.now args.datagram.now) _ args.envelope.now
    args.place.now _ _ _ _ (told answer_place_step c.step.ensures c.in-Ok.is) (omega arith) c.refused_for.ensures

pub returns-else-place-lt-PLACE_SIZE : goal.returns-else-place-lt-PLACE_SIZE
returns-else-place-lt-PLACE_SIZE c =
    let args = c.args in
    walk_done (writer_at args.config.now args.envelope.now args.datagram.now) _ args.envelope.now
    args.place.now _ _ _ _ _ _ _ (told answer_place_step c.step.ensures c.in-Ok.is) (omega arith) (omega arith)
    c.result.ensures c.writer_at-writer.ensures c.put_messages.ensures c.put_place.ensures
