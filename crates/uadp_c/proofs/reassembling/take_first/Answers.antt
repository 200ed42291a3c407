use Rattle.uadp_c.proofs.KeptRecord.{take_kept, fits_outcome}
use Rattle.uadp_c.proofs.Held.{steps_end, taken}
use Rattle.uadp_c.specs.Reassembling.{partial_of}
use Rattle.reassembly.specs.Reading.{reading_at}
use mathlib.Core.Path.{refl}
use Rattle.uadp_c.proofs.reassembling.take_first.Goals as goal

pub returns-in-Err : goal.returns-in-Err
returns-in-Err c =
    steps_end c.args.rec.now c.args.payload.now c.args.marks.now _ _ _ _ c.take_in-taken.result _ _
    (take_kept (partial_of c.args.rec.now c.args.payload.now c.args.marks.now) (reading_at c.args.sizes.now c.args.datagram.now))
    (fits_outcome c.take_in-taken.result _ c.take_in-taken.type_inv) c.requires
    (taken c.args.datagram.now c.args.rec.now c.args.payload.now c.args.marks.now _ _ _ _ _
    c.partial_in.ensures c.take_in-taken.ensures) c.in-Err.is c.refused.ensures refl

pub returns-in-Ok : goal.returns-in-Ok
returns-in-Ok c =
    steps_end c.args.rec.now c.args.payload.now c.args.marks.now _ _ _ _ c.take_in-taken.result _ _
    (take_kept (partial_of c.args.rec.now c.args.payload.now c.args.marks.now) (reading_at c.args.sizes.now c.args.datagram.now))
    (fits_outcome c.take_in-taken.result _ c.take_in-taken.type_inv) c.requires
    (taken c.args.datagram.now c.args.rec.now c.args.payload.now c.args.marks.now _ _ _ _ _
    c.partial_in.ensures c.take_in-taken.ensures) c.in-Ok.is c.result.ensures c.keep_record.ensures
