use Rattle.marks.proofs.WholeLaws.{first_byte, capacity_bytes}
use Rattle.marks.proofs.CountLaws.{cut_on}
use Rattle.marks.proofs.MarkLaws.{length_mark_all}
use Rattle.marks.specs.Marks.{in_use, capacity}
use Rattle.marks.specs.Offsets.{in_range_and, always}
use lib.ListN.{length}
use native.Mathlib.Omega.{arith}
use mathlib.Core.Path.{ap, ◌∙◌}
use Prim.Native.Nat.{◌*◌, ◌/◌}
use Rattle.marks.proofs.mark_run.Goals as goal

pub mark_each-requires-2 : goal.mark_each-requires-2
mark_each-requires-2 c =
    let first = first_byte c.args.start c.marks_for-first.result c.marks_for-first.ensures in
    let low = first.0 in
    (omega arith, omega arith)

pub fill-requires : goal.fill-requires
fill-requires c =
    let same = ap length c.mark_each-2.ensures ∙ length_mark_all in_use (in_range_and always c.args.start (8 * c.marks_for-first.result)) c.args.marks.now in
    let most = capacity_bytes c.args.marks.now in (omega arith, omega arith)

pub mark_each-requires-3 : goal.mark_each-requires-3
unfolding capacity
mark_each-requires-3 c =
    let head = ap length c.mark_each-2.ensures ∙ length_mark_all in_use (in_range_and always c.args.start (8 * c.marks_for-first.result)) c.args.marks.now in
    let inside = ap length c.fill.ensures ∙ length_mark_all in_use (in_range_and always (8 * c.marks_for-first.result) (8 * (c.args.end / 8))) _ in
    let same = inside ∙ head in
    (omega arith, omega arith)

pub returns : goal.returns
returns c =
    let args = c.args in
    let first = first_byte args.start c.marks_for-first.result c.marks_for-first.ensures in
    let m = args.marks.now in
    cut_on in_use always args.start m (8 * (args.end / 8)) args.end _ _ (omega (arith, first.0)) (omega arith)
    (cut_on in_use always args.start m (8 * c.marks_for-first.result) (8 * (args.end / 8)) _ _ first.0 (omega arith) c.mark_each-2.ensures
    c.fill.ensures) c.mark_each-3.ensures
