use native.Mathlib.Omega.{arith}
use Rattle.marks.specs.Marks.{capacity}
use Rattle.marks.proofs.within.Goals as goal

pub returns-then-n-marks : goal.returns-then-n-marks
unfolding capacity
returns-then-n-marks c = (omega arith, omega arith, λ h. absurd (omega arith))

pub returns-else-n-marks : goal.returns-else-n-marks
unfolding capacity
returns-else-n-marks c = (omega arith, omega arith, λ h. omega arith)
