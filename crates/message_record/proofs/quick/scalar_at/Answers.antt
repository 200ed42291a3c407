use Rattle.message_record.proofs.NotTold.{narrowed}
use Rattle.value.proofs.Looks.{text_look}
use mathlib.Core.Path.{refl}
use Rattle.message_record.proofs.quick.scalar_at.Goals as goal

pub returns-then-t : goal.returns-then-t
returns-then-t c =
    rw (text_look c.args.s.now c.args.at c.requires.0 c.args.t c.requires.1 c.if-t.true)
    (narrowed _ _ c.string_at.result _ (λ z. refl) c.string_at.ensures)
