use Rattle.reassembly.proofs.QuickLaws.{no_room, other_held, admits_held, took_more}
use Rattle.reassembly.proofs.JudgeLaws.{data_room, sound_covered, sound_total}
use Rattle.reassembly.specs.Quick.{held_record}
use Rattle.reassembly.specs.Reading.{chunk_message}
use Rattle.reassembly.specs.Record.{partial}
use borrow.Author.Tests.{not-true, not-false}
use lib.ListN.{take, drop}
use mathlib.Core.Path.{refl, sym, ◌∙◌}
use native.Mathlib.Omega.{arith}
use Rattle.reassembly.proofs.quick.add_chunk.Goals as goal

pub returns-then-payload-p : goal.returns-then-payload-p
returns-then-payload-p c =
    rw c.at.ensures (no_room c.args.held c.args.text.now c.args.payload.now c.args.marks.now
    (chunk_message c.args.c c.args.datagram.now) c.args.c.payload.offset
    (take c.args.c.payload.length (drop c.args.c.payload.first c.args.datagram.now)) c.requires.0 (omega arith))

pub returns-then-not-is_same : goal.returns-then-not-is_same
returns-then-not-is_same c =
    rw c.at-then-not-is_same.ensures (other_held c.args.held c.args.text.now c.args.payload.now c.args.marks.now
    (chunk_message c.args.c c.args.datagram.now) c.args.c.payload.offset
    (take c.args.c.payload.length (drop c.args.c.payload.first c.args.datagram.now)) c.requires.0
    (omega arith) (sym c.is_same.ensures ∙ not-true _ c.if-not-is_same.true-raw))

pub add_data-requires : goal.add_data-requires
add_data-requires c =
    let m = chunk_message c.args.c c.args.datagram.now in
    let d = take c.args.c.payload.length (drop c.args.c.payload.first c.args.datagram.now) in
    let own = held_record c.args.held c.args.text.now in
    let s = partial own c.args.payload.now c.args.marks.now in
    let same = admits_held c.args.held c.args.text.now c.args.payload.now c.args.marks.now m
    c.args.c.payload.offset d c.requires.0 (omega arith) (sym c.is_same.ensures ∙ not-false _ c.if-not-is_same.false-raw) in
    let room = data_room s m c.args.c.payload.offset d c.requires.0 c.requires.1 same in
    let most = sound_covered s c.requires.0 refl in
    let long = sound_total s c.requires.0 refl in
    rw c.part-bytes.ensures (room.0, room.1, omega arith)

pub returns : goal.returns
returns c =
    let m = chunk_message c.args.c c.args.datagram.now in
    let d = take c.args.c.payload.length (drop c.args.c.payload.first c.args.datagram.now) in
    let same = admits_held c.args.held c.args.text.now c.args.payload.now c.args.marks.now m
    c.args.c.payload.offset d c.requires.0 (omega arith) (sym c.is_same.ensures ∙ not-false _ c.if-not-is_same.false-raw) in
    took_more c.args.held c.args.text.now c.args.payload.now c.args.marks.now m
    c.args.c.payload.offset d c.requires.0 c.requires.1 same _ _ _ (rw c.part-bytes.ensures at c.add_data.ensures)
