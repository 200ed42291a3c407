use Rattle.listing.proofs.OnePass.{opened_both, opened_ends, part_fits, both_put, put_long}
use Rattle.listing.specs.Text.{line_out}
use Rattle.walk.specs.declared.entry.Line.{Line}
use lib.ListN.{length}
use Rattle.dataset_message.proofs.Fronts.{front_first}
use Rattle.dataset_message.specs.Message.{answer_message}
use Rattle.wire.proofs.Reading.{told}
use native.Mathlib.Omega.{arith}
use Rattle.listing.proofs.quick.put_both.Goals as goal

pub put_opened-requires : goal.put_opened-requires
put_opened-requires c = (
  omega (arith, c.if-lines-lt2.false, c.if-lines-c.false, c.put_net-at.ensures.near, put_long c.args.out.now c.put_net-at.ensures),
  part_fits c.args.types.now c.args.s.now c.part-message.result.now c.args.p
      c.args.writer c.part-message.ensures (omega arith) (omega (arith, c.well_formed)),
  front_first c.args.types.now c.part-message.result.now _ _ (rw c.in-Ok-Some.field-0-is at (told answer_message c.front.ensures c.in-Ok-Some.is)),
  opened_ends c.args.types.now c.args.s.now c.part-message.result.now c.args.p
      c.args.writer c.part-message.ensures _ _ (rw c.in-Ok-Some.field-0-is at (told answer_message c.front.ensures c.in-Ok-Some.is)),
)

pub returns : goal.returns
returns c =
    let args = c.args in
    opened_both args.types.now args.s.now c.part-message.result.now args.p args.writer c.part-message.ensures _ _
    (rw c.in-Ok-Some.field-0-is at (told answer_message c.front.ensures c.in-Ok-Some.is))
    (line_out args.s.now (Line.Net (length args.s.now) args.l.publisher args.l.publisher_end args.l.payload.count))
    (both_put args.out.now (omega (arith, c.if-lines-lt2.false, c.if-lines-c.false)) c.put_net-at.ensures c.put_opened.ensures)
