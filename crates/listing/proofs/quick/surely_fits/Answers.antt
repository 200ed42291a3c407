use Rattle.listing.proofs.OnePass.{most_none, most_more, most_fits}
use Rattle.config.specs.Writers.{lists_in}
use Rattle.network_message.specs.Payload.{answer_place_step}
use Rattle.wire.proofs.Reading.{told}
use mathlib.Core.Path.{sym}
use native.Mathlib.Omega.{arith}
use Rattle.listing.proofs.quick.surely_fits.Goals as goal

pub returns : goal.returns
returns c =
    let args = c.args in
    most_fits (lists_in args.w) args.s.now args.l args.room c.loop-p.left _ c.loop-p.invariant
    (most_none (lists_in args.w) args.s.now args.l
    c.loop-p.c _ _ (sym (told answer_place_step c.step.ensures c.in_default.is)))

pub loop-p-preserved : goal.loop-p-preserved
loop-p-preserved c =
    let args = c.args in
    let more = most_more (lists_in args.w) args.s.now args.l
    c.loop-p.c _ _ c.writer_id-writer.result c.types_of.result.now c.part.result.now
    (sym (told answer_place_step c.step.ensures c.in-Ok.is)) c.writer_id-writer.ensures c.types_of.ensures c.part.ensures in
    omega (arith, c.loop-p.invariant, c.if-left-fields.false, c.field_count-fields.ensures, more)
