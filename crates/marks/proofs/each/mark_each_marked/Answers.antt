use Rattle.marks.proofs.CountLaws.{cut_start, cut_next}
use Rattle.marks.proofs.MarkLaws.{capacity_length}
use Rattle.marks.specs.Marks.{in_use, marked}
use borrow.Author.Rules.{rules}
use native.Mathlib.Omega.{arith}
use mathlib.Core.Path.{refl, sym}
use Rattle.marks.proofs.each.mark_each_marked.Goals as goal

pub loop-i-init : goal.loop-i-init
loop-i-init c =
    (omega arith, omega arith, refl, sym (cut_start in_use (marked in_use c.args.other.now) c.args.start c.args.marks.now))

pub mark_if-requires : goal.mark_if-requires
mark_if-requires c =
    let same = capacity_length in_use c.loop-i.marks c.args.marks.now c.loop-i.invariant.2 in omega arith

pub loop-i-preserved : goal.loop-i-preserved
loop-i-preserved c =
    let same = capacity_length in_use c.loop-i.marks c.args.marks.now c.loop-i.invariant.2 in (
      omega arith,
      omega arith,
      search rules,
      cut_next in_use (marked in_use c.args.other.now) c.args.start c.args.marks.now c.loop-i.i
          c.loop-i.marks _ _ c.loop-i.invariant.0 (omega arith) c.loop-i.invariant.3 c.is_marked.ensures c.mark_if.ensures,
    )
