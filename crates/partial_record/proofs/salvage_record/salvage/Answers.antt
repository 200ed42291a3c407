use borrow.Author.Rules.{rules}
use mathlib.Core.Path.{refl, sym}
use Rattle.std.specs.Prelude.{Err}
use Rattle.wire.specs.Refusal.{reason_number}
use Rattle.partial_record.specs.List.{saved_put}
use Rattle.partial_record.proofs.Saving.{put_way, found_way}
use Rattle.partial_record.proofs.salvage_record.salvage.Goals as goal

pub returns-in_err-found : goal.returns-in_err-found
returns-in_err-found c =
    let args = c.args in
    let refusal = c.in_err-found.field-0.0 in
    rw (sym (put_way args.types.now args.payload.now args.marks.now args.total args.told.now args.list.now _ _ _ _ _
    (saved_put (Err (reason_number refusal.reason, refusal.place)) args.told.now args.list.now)
    c.next_unmarked-covered.ensures c.part-front.ensures c.part-area.ensures refl (rw c.in_err-found.was at c.find.ensures) refl)) (search rules)

pub returns : goal.returns
returns c =
    let args = c.args in
    found_way args.types.now args.payload.now args.marks.now args.total args.told.now args.list.now _ _ _ _ _
    c.next_unmarked-covered.ensures c.part-front.ensures c.part-area.ensures
    (rw c.in_ok-found.was at c.find.ensures) c.store.ensures
