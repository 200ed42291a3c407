use mathlib.Core.Path.{refl, ap, ◌∙◌}
use native.Mathlib.Omega.{arith}
use lib.ListN.{length}
use Rattle.vector_lines.proofs.Printing.{digits_printed}
use Rattle.vector_lines.proofs.print.digits.Goals as goal

pub returns : goal.returns
returns g c =
    c.put.ensures ∙ ap length c.part.ensures
    ∙ digits_printed c.args.n _ _ _ (omega (arith, c.ranges.n)) refl c.put_decimal-k.ensures
