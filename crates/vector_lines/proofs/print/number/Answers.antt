use native.Mathlib.Omega.{arith}
use Rattle.vector_lines.proofs.Printing.{short}
use Rattle.vector_lines.proofs.print.number.Goals as goal

pub overflow_add-result : goal.overflow_add-result
overflow_add-result g c =
    omega (arith, c.digits.ensures, c.put.ensures, short c.args.n (omega (arith, c.ranges.n)))
