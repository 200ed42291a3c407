use borrow.Author.Rules.{rules}
use Rattle.reassembly.specs.Record.{partial}
use Rattle.wire.proofs.Reading.{told}
use Rattle.parts.specs.Part.{located}
use Rattle.parts.proofs.PartBytes.{no_part, whole_part, payload_bytes_lem}
use Rattle.parts.proofs.payload.lent_part.Goals as goal

pub returns-in_err-locate : goal.returns-in_err-locate
returns-in_err-locate c =
    let a = c.args in
    rw (no_part _ _ a.payload.now _ (payload_bytes_lem (partial a.rec a.payload.now a.marks.now)) (told located c.locate.ensures c.in_err-locate.was)) (search rules)

pub returns : goal.returns
returns c =
    let a = c.args in
    whole_part _ _ a.payload.now _ _ (payload_bytes_lem (partial a.rec a.payload.now a.marks.now)) (told located c.locate.ensures c.in_ok-locate.was) c.of.ensures
