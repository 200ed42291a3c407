use Rattle.message_record.proofs.NotTold.{narrowed}
use Rattle.value.proofs.Looks.{array_look}
use Rattle.plain_value.proofs.Widths.{positive}
use native.Mathlib.Omega.{arith}
use mathlib.Core.Path.{refl}
use Rattle.message_record.proofs.quick.other_at.Goals as goal

pub returns : goal.returns
returns c =
    rw (array_look c.args.s.now c.args.at _ c.width-w.result c.requires (omega arith) (omega arith) (positive _ c.if-w-eq0.false) c.width-w.ensures.0)
    (narrowed _ _ c.array_at.result _ (λ z. refl) c.array_at.ensures)
