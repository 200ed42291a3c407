use Rattle.listing.proofs.OnePass.{one_text, one_same}
use Rattle.config.specs.Writers.{lists_in}
use Rattle.network_message.specs.Payload.{answer_place_step}
use Rattle.wire.proofs.Reading.{told}
use native.Mathlib.Omega.{arith}
use Rattle.listing.proofs.quick.put_one.Goals as goal

pub returns : goal.returns
returns c =
    let args = c.args in
    one_same (one_text (lists_in args.w) args.s.now args.l
    c.in-Ok.p _ _ c.writer_id-writer.result c.types_of.result.now
    (omega arith) (told answer_place_step c.step.ensures c.in-Ok.is) c.writer_id-writer.ensures c.types_of.ensures) c.put_both.ensures
