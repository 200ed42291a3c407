use Rattle.marks.proofs.LookLaws.{part_ones}
use Rattle.marks.proofs.CountLaws.{count_none}
use Rattle.marks.proofs.MarkLaws.{marked_none}
use Rattle.marks.proofs.WholeLaws.{capacity_bytes}
use Rattle.marks.specs.Marks.{in_use, marked}
use native.Mathlib.Omega.{arith}
use mathlib.Core.Path.{sym}
use Prim.Native.Nat.{◌+◌, ◌-◌}
use Rattle.marks.proofs.each.count_in.Goals as goal

pub returns-then-marks-at : goal.returns-then-marks-at
returns-then-marks-at c =
    let args = c.args in
    let room = capacity_bytes args.marks.now in
    sym (count_none (args.end - args.start) (λ j. marked in_use args.marks.now (args.start + j))
    (λ j l. marked_none in_use args.marks.now (args.start + j) (omega (arith, room, c.if-marks-at.true))))

pub returns : goal.returns
returns c =
    part_ones c.args.marks.now c.args.start (c.args.end - c.args.start) c.requires
