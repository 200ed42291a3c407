use Rattle.value.proofs.FirstItems.{scalar_measured}
use Rattle.plain_value.proofs.Widths.{positive}
use mathlib.Core.Path.{sym, ap, ◌∙◌}
use Rattle.wire.specs.Answer.{map_answer}
use borrow.Author.Tests.{leb-true}
use native.Mathlib.Omega.{arith}
use Rattle.value.proofs.quick.plain_variant.Goals as goal

pub returns-then-has : goal.returns-then-has
returns-then-has g c =
    let args = c.args in
    rw c.told.ensures (ap (map_answer g.T.Told.telling) (scalar_measured 99 args.s.now args.at c.scalar_size-size.result (omega arith) c.scalar_size-size.ensures.0 (positive _ c.if-size-eq0.false)
    (leb-true _ _ (sym c.has.ensures ∙ c.if-has.true))))
