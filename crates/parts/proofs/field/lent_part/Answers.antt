use borrow.Author.Rules.{rules}
use Rattle.dataset_message.specs.Message.{field_place_at}
use Rattle.wire.proofs.Reading.{told}
use Rattle.parts.specs.Part.{located}
use Rattle.parts.proofs.PartBytes.{no_part, field_bytes_lem}
use Rattle.parts.proofs.field.lent_part.Goals as goal

pub returns-in_err-locate : goal.returns-in_err-locate
returns-in_err-locate c =
    let a = c.args in
    rw (no_part _ _ a.s.now _ (field_bytes_lem (field_place_at a.types.now a.k a.s.now) a.s.now) (told located c.locate.ensures c.in_err-locate.was)) (search rules)
