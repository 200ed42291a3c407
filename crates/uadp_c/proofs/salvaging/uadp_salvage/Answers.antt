use Rattle.uadp_c.proofs.SavedLent.{salvage_unsound, salvage_done}
use Rattle.wire.proofs.Reading.{told}
use Rattle.reassembly.specs.Verdict.{progress_told}
use Rattle.uadp_c.proofs.salvaging.uadp_salvage.Goals as goal

pub returns-in-Err : goal.returns-in-Err
returns-in-Err c =
    let args = c.args in
    salvage_unsound args.rec.now args.payload.now args.marks.now args.config.now args.told.now
    args.list.now _ _ c.if-rec-lt-PARTIAL_SIZE.false c.partial_in-held.ensures _ _ (told progress_told c.progress.ensures c.in-Err.is) c.refused.ensures

pub returns-in-Ok : goal.returns-in-Ok
returns-in-Ok c =
    let args = c.args in
    salvage_done args.rec.now args.payload.now args.marks.now args.config.now args.told.now args.list.now _ _
    c.if-rec-lt-PARTIAL_SIZE.false c.partial_in-held.ensures _ _ _ _ _ _
    (told progress_told c.progress.ensures c.in-Ok.is) c.types_for-types.ensures c.salvage.ensures c.salvaged_result.ensures
