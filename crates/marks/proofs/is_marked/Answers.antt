use mathlib.Core.Path.{sym}
use native.Mathlib.Omega.{arith}
use Rattle.marks.specs.Marks.{in_use, capacity, marked}
use Rattle.marks.proofs.MarkLaws.{marked_none}
use Rattle.marks.proofs.is_marked.Goals as goal

pub returns-then-marks-at : goal.returns-then-marks-at
unfolding capacity
returns-then-marks-at c =
    let a = c.args in sym (marked_none in_use a.marks.now a.i (omega (arith, c.if-marks-at.true)))

pub returns : goal.returns
unfolding marked
returns c = c.bit_of.ensures
