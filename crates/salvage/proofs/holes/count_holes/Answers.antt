use Rattle.salvage.proofs.HoleLaws.{then_holes, holes_step, hole_moves}
use Rattle.salvage.specs.declared.holes.Hole.{Hole}
use Rattle.marks.specs.Marks.{in_use, marked}
use lib.ListN.{length}
use mathlib.Core.List.{List}
use mathlib.Core.Path.{ap, sym, ◌∙◌}
use native.Mathlib.Omega.{arith}
use Rattle.salvage.proofs.holes.count_holes.Goals as goal

pub returns : goal.returns
returns c =
    let args = c.args in
    let m = marked in_use args.marks.now in
    let none = ap (λ (hs : List Hole). length hs) (holes_step m args.total c.loop-end.at ∙ ap (then_holes m args.total) (sym c.next_hole.ensures ∙ c.in_default.is)) in
    omega (arith, none, c.loop-end.invariant.1)

pub overflow_add-n : goal.overflow_add-n
overflow_add-n c =
    let args = c.args in
    let on = hole_moves (marked in_use args.marks.now) args.total c.loop-end.at _ _ (sym c.in-Some.is ∙ c.next_hole.ensures) in
    omega (arith, on.0, on.1, c.loop-end.invariant.0)

pub loop-end-smaller : goal.loop-end-smaller
loop-end-smaller c =
    let args = c.args in
    let on = hole_moves (marked in_use args.marks.now) args.total c.loop-end.at _ _ (sym c.in-Some.is ∙ c.next_hole.ensures) in omega (arith, on.0, on.1)

pub loop-end-preserved : goal.loop-end-preserved
loop-end-preserved c =
    let args = c.args in
    let m = marked in_use args.marks.now in let e = sym c.in-Some.is ∙ c.next_hole.ensures in let on = hole_moves m args.total c.loop-end.at _ _ e in
    let more = ap (λ (hs : List Hole). length hs) (holes_step m args.total c.loop-end.at ∙ ap (then_holes m args.total) (sym e)) in
    (omega (arith, on.0, c.loop-end.invariant.0), omega (arith, more, c.loop-end.invariant.1))
