use Rattle.wire.proofs.Reading.{told}
use Rattle.wire.specs.Refusal.{answer}
use Rattle.salvage.proofs.FieldEnds.{got_ends}
use Rattle.salvage.proofs.quick.field_end.Goals as goal

pub returns-in-Ok : goal.returns-in-Ok
returns-in-Ok c =
    let args = c.args in
    got_ends args.delta args.encoding args.types.now args.k args.front.now args.at _ _ (told answer c.read_field.ensures c.in-Ok.is)
