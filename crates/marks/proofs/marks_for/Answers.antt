use native.Mathlib.Omega.{arith}
use Rattle.marks.specs.Marks.{marks_for}
use Rattle.marks.proofs.marks_for.Goals as goal

pub returns : goal.returns
unfolding marks_for
returns c = omega arith
