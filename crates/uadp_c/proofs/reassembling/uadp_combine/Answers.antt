use Rattle.reassembly.specs.Operations.{combine}
use Rattle.uadp_c.specs.Reassembling.{partial_of, source_of}
use Rattle.uadp_c.proofs.Held.{steps_short, steps_end, combine_short, combined}
use Rattle.uadp_c.proofs.KeptRecord.{combine_kept, fits_outcome}
use mathlib.Core.Path.{refl}
use native.Mathlib.Omega.{arith}
use Rattle.uadp_c.proofs.reassembling.uadp_combine.Goals as goal

pub returns-then-source-lt-PARTIAL_SIZE : goal.returns-then-source-lt-PARTIAL_SIZE
returns-then-source-lt-PARTIAL_SIZE c =
    let args = c.args in
    combine_short args.source.now args.source_payload.now args.source_marks.now args.rec.now args.payload.now args.marks.now _ (omega arith) c.refused_for.ensures

pub returns-then-rec-lt-PARTIAL_SIZE : goal.returns-then-rec-lt-PARTIAL_SIZE
returns-then-rec-lt-PARTIAL_SIZE c =
    let args = c.args in
    steps_short args.rec.now args.payload.now args.marks.now _
    (combine (partial_of args.rec.now args.payload.now args.marks.now) (source_of args.source.now args.source_payload.now args.source_marks.now))
    (omega arith) (combine_kept (partial_of args.rec.now args.payload.now args.marks.now) (source_of args.source.now args.source_payload.now args.source_marks.now))
    c.refused_for-then-rec-lt-PARTIAL_SIZE.ensures

pub returns-in-Err : goal.returns-in-Err
returns-in-Err c =
    let args = c.args in
    steps_end args.rec.now args.payload.now args.marks.now _ _ _ _ c.combine_in-joined.result _ _
    (combine_kept (partial_of args.rec.now args.payload.now args.marks.now) (source_of args.source.now args.source_payload.now args.source_marks.now))
    (fits_outcome c.combine_in-joined.result _ c.combine_in-joined.type_inv) (omega arith)
    (combined args.rec.now args.payload.now args.marks.now args.source.now args.source_payload.now
    args.source_marks.now _ _ _ _ _ (omega arith) c.partial_in.ensures c.partial_in-2.ensures c.combine_in-joined.ensures)
    c.in-Err.is c.refused.ensures refl

pub returns-in-Ok : goal.returns-in-Ok
returns-in-Ok c =
    let args = c.args in
    steps_end args.rec.now args.payload.now args.marks.now _ _ _ _ c.combine_in-joined.result _ _
    (combine_kept (partial_of args.rec.now args.payload.now args.marks.now) (source_of args.source.now args.source_payload.now args.source_marks.now))
    (fits_outcome c.combine_in-joined.result _ c.combine_in-joined.type_inv) (omega arith)
    (combined args.rec.now args.payload.now args.marks.now args.source.now args.source_payload.now
    args.source_marks.now _ _ _ _ _ (omega arith) c.partial_in.ensures c.partial_in-2.ensures c.combine_in-joined.ensures)
    c.in-Ok.is c.result.ensures c.keep_record.ensures
