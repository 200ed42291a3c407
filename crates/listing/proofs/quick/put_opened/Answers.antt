use Rattle.std.specs.Prelude.{Result}
use mathlib.Core.Path.{ap}
use Rattle.wire.specs.declared.refusal.Refusal.{Refusal}
use Rattle.dataset_fields.specs.declared.fields.Cursor.{Cursor}
use Rattle.listing.proofs.OnePass.{lines_told, accepted_put}
use Rattle.listing.specs.Quick.{answer_judged}
use Rattle.wire.proofs.Reading.{told}
use native.Mathlib.Omega.{arith}
use Rattle.listing.proofs.quick.put_opened.Goals as goal

pub returns : goal.returns
returns c =
    accepted_put c.args.types.now c.args.message.now c.args.p c.args.c c.requires.2 _ _ c.part.result.now _ c.in-Ok.after
    (lines_told c.put_fields-end.ensures (ap (λ (r : Result Cursor Refusal). (c.put_fields-end.result.0, r)) c.in-Ok.is)) c.part.ensures
    c.args.h c.args.place c.requires.3
    (told answer_judged c.judge.ensures c.in_default.is) (omega arith) c.put_accepted.ensures
