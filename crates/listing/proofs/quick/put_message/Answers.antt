use Rattle.listing.proofs.OnePass.{invalid_message, refused_message, opened_room, opened_ends, part_fits}
use Rattle.dataset_message.proofs.Fronts.{front_first}
use Rattle.dataset_message.specs.Message.{answer_message}
use Rattle.wire.proofs.Reading.{told}
use native.Mathlib.Omega.{arith}
use Rattle.listing.proofs.quick.put_message.Goals as goal

pub put_opened-requires : goal.put_opened-requires
put_opened-requires c = (
  opened_room c.args.types.now c.args.s.now c.part-message.result.now c.args.p c.args.writer
      c.part-message.ensures _ _ (rw c.in-Ok-Some.field-0-is at (told answer_message c.front.ensures c.in-Ok-Some.is)) _ _ c.requires,
  part_fits c.args.types.now c.args.s.now c.part-message.result.now c.args.p
      c.args.writer c.part-message.ensures (omega arith) (omega (arith, c.well_formed)),
  front_first c.args.types.now c.part-message.result.now _ _ (rw c.in-Ok-Some.field-0-is at (told answer_message c.front.ensures c.in-Ok-Some.is)),
  opened_ends c.args.types.now c.args.s.now c.part-message.result.now c.args.p
      c.args.writer c.part-message.ensures _ _ (rw c.in-Ok-Some.field-0-is at (told answer_message c.front.ensures c.in-Ok-Some.is)),
)

pub returns-in-Ok-None : goal.returns-in-Ok-None
returns-in-Ok-None c =
    let args = c.args in
    invalid_message args.types.now args.s.now c.part-message.result.now args.p args.writer c.part-message.ensures
    (rw c.in-Ok-None.field-0-is at (told answer_message c.front.ensures c.in-Ok-None.is)) c.set_invalid.ensures

pub returns-in-Err : goal.returns-in-Err
returns-in-Err c =
    let args = c.args in
    refused_message args.types.now args.s.now c.part-message.result.now args.p args.writer c.part-message.ensures
    (told answer_message c.front.ensures c.in-Err.is) (rw c.number.ensures at c.set_bad.ensures)
