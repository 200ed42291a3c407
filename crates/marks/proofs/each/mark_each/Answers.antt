use mathlib.Core.Bool.{true}
use mathlib.Core.Path.{refl, sym}
use native.Mathlib.Omega.{arith}
use Rattle.marks.specs.Offsets.{always}
use Rattle.marks.specs.Marks.{in_use}
use Rattle.marks.proofs.WholeLaws.{capacity_bytes}
use Rattle.marks.proofs.MarkLaws.{capacity_length}
use Rattle.marks.proofs.CountLaws.{cut_start, cut_next}
use borrow.Author.Rules.{rules}
use Rattle.marks.proofs.each.mark_each.Goals as goal

pub loop-i-init : goal.loop-i-init
loop-i-init c =
    (omega arith, omega (arith, c.requires.0), refl, sym (cut_start in_use always c.args.start c.args.marks.now))

pub returns-then-marks-i : goal.returns-then-marks-i
returns-then-marks-i c =
    let room = capacity_bytes c.args.marks.now in absurd (omega (arith, room, c.requires.1, c.loop-i.invariant.2, c.if-marks-i.true))

pub mark_if-requires : goal.mark_if-requires
mark_if-requires c =
    let same = capacity_length in_use c.loop-i.marks c.args.marks.now c.loop-i.invariant.2 in omega (arith, c.requires.1, same)

pub loop-i-preserved : goal.loop-i-preserved
loop-i-preserved c =
    let same = capacity_length in_use c.loop-i.marks c.args.marks.now c.loop-i.invariant.2 in (
      omega (arith, c.loop-i.invariant.0),
      omega arith,
      search rules,
      cut_next in_use always c.args.start c.args.marks.now c.loop-i.i c.loop-i.marks _ true c.loop-i.invariant.0
          (omega (arith, c.requires.1, same)) c.loop-i.invariant.3 refl c.mark_if.ensures,
    )
