use Rattle.walk_records.proofs.Messages.{invalid_put, refused_put, opened_put, part_fits}
use Rattle.dataset_message.proofs.Fronts.{front_first}
use Rattle.dataset_message.specs.Message.{answer_message}
use Rattle.wire.proofs.Reading.{told}
use native.Mathlib.Omega.{arith}
use Rattle.walk_records.proofs.walk_message.Goals as goal

pub walk_opened-requires : goal.walk_opened-requires
walk_opened-requires c =
    let fits = part_fits c.args.types.now c.args.s.now _ c.args.p c.args.writer c.args.k
    c.args.out.now c.part-message.ensures c.requires (omega (arith, c.well_formed)) in
    (fits.0, fits.1, front_first c.args.types.now c.part-message.result.now _ _ (rw c.in-Ok-Some.field-0-is at (told answer_message c.front.ensures c.in-Ok-Some.is)))

pub returns-in-Ok-None : goal.returns-in-Ok-None
returns-in-Ok-None c =
    let args = c.args in
    invalid_put args.types.now args.s.now _ args.p args.writer args.k args.out.now c.part-message.ensures _
    (rw c.in-Ok-None.field-0-is at (told answer_message c.front.ensures c.in-Ok-None.is)) c.put_message-in-Ok-None.ensures

pub returns-in-Err : goal.returns-in-Err
returns-in-Err c =
    let args = c.args in
    refused_put args.types.now args.s.now _ args.p args.writer args.k args.out.now c.part-message.ensures _ _ _
    (told answer_message c.front.ensures c.in-Err.is) (rw c.number-n.ensures at c.put_message.ensures)

pub returns-in-Ok-Some : goal.returns-in-Ok-Some
returns-in-Ok-Some c =
    let args = c.args in
    opened_put args.types.now args.s.now _ args.p args.writer args.k args.out.now c.part-message.ensures _ _ _ _
    (rw c.in-Ok-Some.field-0-is at (told answer_message c.front.ensures c.in-Ok-Some.is)) c.walk_opened.ensures
