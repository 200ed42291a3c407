use native.Mathlib.Omega.{arith}
use Rattle.marks.specs.Marks.{in_use, marked}
use Rattle.dataset_header.specs.Flags.{encoding_number}
use Rattle.salvage.specs.Holes.{holes_of}
use Rattle.partial_record.specs.Steps.{whole_fields}
use Rattle.partial_record.specs.List.{promise_by}
use Rattle.partial_record.proofs.Saving.{store_done, room_ample}
use Prim.Native.Nat.{◌+◌, ◌/◌}
use lib.ListN.{length}
use Rattle.partial_record.proofs.salvage_record.store.Goals as goal

pub returns : goal.returns
returns c =
    let ample = room_ample c.has_room.result
    (length (holes_of (marked in_use c.args.marks.now) c.args.total) + c.args.found.fields)
    (length c.args.list.now / 64) c.has_room.ensures c.if-not-has_room.false-raw in store_done
    (holes_of (marked in_use c.args.marks.now) c.args.total) c.args.covered c.args.total
    (encoding_number c.args.found.first.encoding) c.args.told.now c.args.list.now
    (promise_by c.args.found.known c.args.found.first.count)
    (whole_fields c.args.types.now c.args.front.now c.args.found.first) c.put_fields-entries.result
    c.put_holes-holes.result c.args.found.fields _ _ _ c.if-told-lt-SALVAGE_SIZE.false (omega (arith, ample, c.requires))
    c.put_holes-holes.ensures.1 c.requires (omega (arith, c.put_fields-entries.ensures.1, c.requires))
    c.put_told.ensures c.put_holes-holes.ensures.0 c.put_fields-entries.ensures.0
