use Rattle.wire.proofs.Reading.{told}
use Rattle.wire.specs.Refusal.{answer}
use Rattle.partial_record.proofs.Saving.{read_put}
use Rattle.salvage.proofs.FieldEnds.{got_ends}
use Rattle.partial_record.proofs.salvage_record.put_next.Goals as goal

pub returns-in-Ok : goal.returns-in-Ok
returns-in-Ok c =
    let args = c.args in (
      got_ends args.delta args.encoding args.types.now args.i args.front.now args.at _ _ (told answer c.read_field.ensures c.in-Ok.is),
      read_put _ _ _ args.k args.out.now _ (told answer c.read_field.ensures c.in-Ok.is) c.put_field.ensures,
    )
