use native.Mathlib.Omega.{arith}
use borrow.Author.Rules.{rules}
use mathlib.Core.Path.{ap, sym, ◌∙◌}
use Rattle.marks.specs.Marks.{in_use, marked}
use Rattle.salvage.specs.declared.holes.Hole.{Hole}
use Rattle.salvage.proofs.HoleLaws.{hole_moves}
use Rattle.partial_record.specs.List.{hole_numbers, entry_laid}
use Rattle.partial_record.proofs.Saving.{hole_by_end, holes_put, holes_end, holes_more, holes_all}
use Rattle.partial_record.proofs.salvage_record.put_holes.Goals as goal

pub returns : goal.returns
returns c =
    let args = c.args in (
      holes_end (marked in_use args.marks.now) args.total c.loop-hole.at c.loop-hole.k _ _ (sym c.in_default.is ∙ c.next_hole.ensures) c.loop-hole.invariant.2,
      holes_all (marked in_use args.marks.now) args.total c.loop-hole.at c.loop-hole.k _ (sym c.in_default.is ∙ c.next_hole.ensures) c.loop-hole.invariant.3,
    )

pub overflow_add-k : goal.overflow_add-k
overflow_add-k c =
    let args = c.args in
    let on = hole_moves (marked in_use args.marks.now) args.total c.loop-hole.at _ _ (sym c.in-Some.is ∙ c.next_hole.ensures) in
    omega (arith, on.0, on.1, c.loop-hole.invariant.1)

pub loop-hole-smaller : goal.loop-hole-smaller
loop-hole-smaller c =
    let args = c.args in
    let on = hole_moves (marked in_use args.marks.now) args.total c.loop-hole.at _ _ (sym c.in-Some.is ∙ c.next_hole.ensures) in omega (arith, on.0, on.1)

pub loop-hole-preserved : goal.loop-hole-preserved
loop-hole-preserved c =
    let args = c.args in
    let e = sym c.in-Some.is ∙ c.next_hole.ensures in let on = hole_moves (marked in_use args.marks.now) args.total c.loop-hole.at _ _ e in (
      search rules,
      omega (arith, on.0, c.loop-hole.invariant.1),
      holes_put (marked in_use args.marks.now) args.total c.loop-hole.at _ _ c.loop-hole.k c.loop-hole.out _ _ e
          (c.put_hole.ensures
          ∙ ap (λ (h : Hole). entry_laid c.loop-hole.k (hole_numbers h) c.loop-hole.out)
          (hole_by_end (marked in_use args.marks.now) args.total c.loop-hole.at _ _ e)) c.loop-hole.invariant.2,
      holes_more (marked in_use args.marks.now) args.total c.loop-hole.at _ _ c.loop-hole.k _ e c.loop-hole.invariant.3,
    )
