use native.Mathlib.Omega.{arith}
use Rattle.vector_lines.proofs.Printing.{short}
use Rattle.vector_lines.proofs.print.bad.Goals as goal

pub overflow_add-result : goal.overflow_add-result
overflow_add-result g c =
    omega (arith, c.number.ensures, c.put.ensures, short c.args.n (omega (arith, c.ranges.n)))
