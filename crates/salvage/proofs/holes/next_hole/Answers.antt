use native.Mathlib.Omega.{arith}
use Rattle.marks.specs.Marks.{in_use, marked}
use Rattle.marks.proofs.NextLaws.{next_next}
use Rattle.salvage.proofs.holes.next_hole.Goals as goal

pub overflow_sub-hole-2 : goal.overflow_sub-hole-2
overflow_sub-hole-2 c =
    let args = c.args in
    let h = next_next (marked in_use args.marks.now) args.total c.next_unmarked-start.result in let l = h.from in omega (arith, c.next_marked-end.ensures)
