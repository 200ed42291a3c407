use Rattle.marks.proofs.WholeLaws.{first_byte, capacity_bytes}
use Rattle.marks.proofs.CountLaws.{count_most, count_join, area_count}
use Rattle.marks.specs.Marks.{in_use, marked}
use Rattle.marks.specs.Offsets.{count_below}
use native.Mathlib.Omega.{arith}
use mathlib.Core.Path.{◌≡◌, ap, ◌∙◌}
use Prim.Native.Nat.{ℕ, ◌+◌, ◌*◌, ◌-◌, ◌/◌}
use Rattle.marks.proofs.count_between.Goals as goal

pub count_in-requires : goal.count_in-requires
count_in-requires c =
    let first = first_byte c.args.start c.marks_for-first.result c.marks_for-first.ensures in omega (arith, first.0, first.1)

pub returns-then-last-first : goal.returns-then-last-first
returns-then-last-first c =
    let args = c.args in
    c.count_in.ensures ∙ area_count in_use args.marks.now args.start c.within-stop.result args.end c.within-stop.ensures.0 c.within-stop.ensures.2

pub count_in-head-requires : goal.count_in-head-requires
count_in-head-requires c =
    let first = first_byte c.args.start c.marks_for-first.result c.marks_for-first.ensures in omega (arith, first.0, first.1)

pub count_whole-inside-requires : goal.count_whole-inside-requires
count_whole-inside-requires c =
    let args = c.args in
    let most = capacity_bytes args.marks.now in (omega arith, omega arith, omega arith)

pub overflow_add-result : goal.overflow_add-result
overflow_add-result c =
    let args = c.args in
    let f = marked in_use args.marks.now in
    let first = first_byte args.start c.marks_for-first.result c.marks_for-first.ensures in
    let low = first.0 in
    let few = count_most (8 * c.marks_for-first.result - args.start) (λ j. f (args.start + j)) in
    let many = count_most (8 * (c.within-stop.result / 8 - c.marks_for-first.result)) (λ j. f (8 * c.marks_for-first.result + j)) in omega arith

pub overflow_add-result-2 : goal.overflow_add-result-2
overflow_add-result-2 c =
    let args = c.args in
    let f = marked in_use args.marks.now in
    let first = first_byte args.start c.marks_for-first.result c.marks_for-first.ensures in
    let low = first.0 in
    let few = count_most (8 * c.marks_for-first.result - args.start) (λ j. f (args.start + j)) in
    let many = count_most (8 * (c.within-stop.result / 8 - c.marks_for-first.result)) (λ j. f (8 * c.marks_for-first.result + j)) in
    let last = count_most (c.within-stop.result - 8 * (c.within-stop.result / 8)) (λ j. f (8 * (c.within-stop.result / 8) + j)) in omega arith

pub returns : goal.returns
returns c =
    let args = c.args in
    let m = args.marks.now in
    let f = marked in_use m in
    let first = first_byte args.start c.marks_for-first.result c.marks_for-first.ensures in
    let q : 8 * (c.within-stop.result / 8 - c.marks_for-first.result) ≡ 8 * (c.within-stop.result / 8) - 8 * c.marks_for-first.result = omega arith in
    let inside = c.count_whole-inside.ensures ∙ ap (λ (n : ℕ). count_below n (λ j. f (8 * c.marks_for-first.result + j))) q in
    count_join args.start (8 * (c.within-stop.result / 8)) c.within-stop.result _ _ f (omega (arith, first.0)) (omega arith)
    (count_join args.start (8 * c.marks_for-first.result) (8 * (c.within-stop.result / 8)) _ _ f first.0 (omega arith) c.count_in-head.ensures inside) c.count_in-2.ensures
    ∙ area_count in_use m args.start c.within-stop.result args.end c.within-stop.ensures.0 c.within-stop.ensures.2
