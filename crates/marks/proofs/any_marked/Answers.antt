use Rattle.marks.proofs.WholeLaws.{first_byte, capacity_bytes}
use Rattle.marks.proofs.CountLaws.{area_any}
use Rattle.marks.proofs.OffsetLaws.{from_three}
use Rattle.marks.specs.Marks.{in_use, marked}
use mathlib.Core.Bool.{◌||◌}
use native.Mathlib.Omega.{arith}
use mathlib.Core.Path.{ap₂, ◌∙◌}
use Prim.Native.Nat.{◌*◌, ◌/◌}
use Rattle.marks.proofs.any_marked.Goals as goal

pub returns-then-last-first : goal.returns-then-last-first
returns-then-last-first c =
    let args = c.args in
    c.any_each.ensures ∙ area_any in_use args.marks.now args.start c.within-stop.result args.end c.within-stop.ensures.0 c.within-stop.ensures.2

pub any_whole-inside-requires : goal.any_whole-inside-requires
any_whole-inside-requires c =
    let args = c.args in
    let most = capacity_bytes args.marks.now in (omega arith, omega arith)

pub returns : goal.returns
returns c =
    let args = c.args in
    let first = first_byte args.start c.marks_for-first.result c.marks_for-first.ensures in
    ap₂ ◌||◌ (ap₂ ◌||◌ c.any_each-head.ensures c.any_whole-inside.ensures) c.any_each-2.ensures
    ∙ from_three args.start (8 * c.marks_for-first.result) (8 * (c.within-stop.result / 8)) c.within-stop.result (marked in_use args.marks.now) first.0
    (omega arith) (omega arith)
    ∙ area_any in_use args.marks.now args.start c.within-stop.result args.end c.within-stop.ensures.0 c.within-stop.ensures.2
