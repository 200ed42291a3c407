use mathlib.Core.Path.{sym, ◌∙◌}
use Prim.Native.Nat.{◌+◌, ◌/◌}
use borrow.Author.Tests.{not-false}
use lib.ListN.{length}
use Rattle.text.proofs.Putting.{hex_no_room, hex_read}
use Rattle.wire.proofs.Reading.{lacks, holds}
use Rattle.text.proofs.hex.read_hex.Goals as goal

pub returns-then-not-has : goal.returns-then-not-has
returns-then-not-has c =
    let args = c.args in
    hex_no_room args.out.now args.at args.s.now c.if-s-eq1.false
    (sym c.all_hex.ensures ∙ not-false _ c.if-not-all_hex.false-raw)
    (lacks c.has.result (args.at + length args.s.now / 2) (length args.out.now) c.has.ensures c.if-not-has.true-raw)

pub returns : goal.returns
returns c =
    let args = c.args in
    hex_read args.out.now args.at args.s.now c.if-s-eq1.false
    (sym c.all_hex.ensures ∙ not-false _ c.if-not-all_hex.false-raw) _
    (holds c.has.result (args.at + length args.s.now / 2) (length args.out.now) c.has.ensures c.if-not-has.false-raw) c.store_bytes.ensures
