use borrow.Author.Rules.{rules}
use Rattle.chunk.specs.Datagram.{chunk_at}
use Rattle.wire.proofs.Reading.{told}
use Rattle.parts.specs.Part.{located}
use Rattle.parts.proofs.PartBytes.{no_part, chunk_bytes}
use Rattle.parts.proofs.chunk_data.lent_part.Goals as goal

pub returns-in_err-locate : goal.returns-in_err-locate
returns-in_err-locate c =
    let a = c.args in
    rw (no_part _ _ a.s.now _ (chunk_bytes (chunk_at a.sizes.now a.s.now) a.s.now) (told located c.locate.ensures c.in_err-locate.was)) (search rules)
