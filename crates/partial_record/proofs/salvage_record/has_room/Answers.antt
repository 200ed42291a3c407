use lib.ListN.{length}
use Rattle.partial_record.proofs.Saving.{room_wide}
use Rattle.salvage.specs.Holes.{holes_of}
use Rattle.marks.specs.Marks.{in_use, marked}
use Rattle.salvage.proofs.HoleLaws.{holes_most}
use Rattle.partial_record.proofs.salvage_record.has_room.Goals as goal

pub returns-then-total-left : goal.returns-then-total-left
returns-then-total-left c =
    let args = c.args in
    room_wide (length (holes_of (marked in_use args.marks.now) args.total)) args.fields args.room args.total
    (holes_most (marked in_use args.marks.now) args.total) c.if-room-fields.false c.if-total-left.true
