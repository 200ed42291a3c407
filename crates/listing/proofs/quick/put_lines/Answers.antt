use Rattle.listing.proofs.OnePass.{listing_done, listing_room, listing_more}
use Rattle.config.specs.Writers.{lists_in}
use mathlib.Core.Path.{refl}
use Rattle.listing.proofs.OnePass.{listing_done, listing_room, listing_more}
use Rattle.config.specs.Writers.{lists_in}
use Rattle.network_message.specs.Payload.{answer_place_step}
use Rattle.wire.proofs.Reading.{told}
use Rattle.listing.proofs.quick.put_lines.Goals as goal

pub returns : goal.returns
returns c =
    let args = c.args in
    listing_done (lists_in args.w) args.s.now args.l _ _ _
    c.loop-p.out c.loop-p.at c.loop-p.c c.loop-p.invariant args.out.now _ _
    c.put_net-at.ensures refl (told answer_place_step c.step.ensures c.in_default.is)

pub put_message-at-requires : goal.put_message-at-requires
put_message-at-requires c =
    let args = c.args in
    listing_room (lists_in args.w) args.s.now args.l _ _ _
    c.loop-p.out c.loop-p.at c.loop-p.c c.loop-p.invariant c.in-Ok.p c.in-Ok.next _
    c.writer_id-writer.result c.types_of-configured.result.now
    (told answer_place_step c.step.ensures c.in-Ok.is) c.writer_id-writer.ensures c.types_of-configured.ensures

pub loop-p-preserved : goal.loop-p-preserved
loop-p-preserved c =
    let args = c.args in
    listing_more (lists_in args.w) args.s.now args.l _ _ _
    c.loop-p.out c.loop-p.at c.loop-p.c c.loop-p.invariant c.in-Ok.p c.in-Ok.next _
    c.writer_id-writer.result c.types_of-configured.result.now
    (told answer_place_step c.step.ensures c.in-Ok.is) c.writer_id-writer.ensures c.types_of-configured.ensures _ _ c.put_message-at.ensures
