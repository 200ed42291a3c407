use Rattle.marks.proofs.WholeLaws.{capacity_bytes}
use Rattle.marks.proofs.CountLaws.{cut_on, cut_above, all_same, new_same, run_marked, count_put}
use Rattle.marks.proofs.MarkLaws.{length_mark_all, marks_fit}
use Rattle.marks.specs.Marks.{in_use, capacity, marked, marked_below, count_marked, new_marks}
use Rattle.marks.specs.Offsets.{in_range_and}
use lib.ListN.{length}
use native.Mathlib.Omega.{arith}
use mathlib.Core.Path.{◌≡◌, ap, ◌∙◌}
use Prim.Native.Nat.{ℕ, ◌*◌, ◌-◌, ◌/◌, ◌<◌}
use Rattle.marks.proofs.mark_marked.Goals as goal

pub mark_whole_marked-requires : goal.mark_whole_marked-requires
mark_whole_marked-requires c =
    let args = c.args in
    let most = capacity_bytes args.marks.now in
    let all = capacity_bytes args.other.now in (omega arith, omega arith)

pub mark_each_marked-requires : goal.mark_each_marked-requires
unfolding capacity
mark_each_marked-requires c =
    let args = c.args in
    let same = ap length c.mark_whole_marked.ensures
    ∙ length_mark_all in_use (in_range_and (marked in_use args.other.now) 0 (8 * (c.within-stop.result / 8))) args.marks.now in
    (omega arith, omega arith)

pub overflow_sub-result : goal.overflow_sub-result
overflow_sub-result c =
    let args = c.args in
    let m = args.marks.now in
    let o = args.other.now in
    let f = in_range_and (marked in_use o) 0 c.within-stop.result in
    let after = cut_on in_use (marked in_use o) 0 m (8 * (c.within-stop.result / 8)) c.within-stop.result _ _ (omega arith) (omega arith) c.mark_whole_marked.ensures
    c.mark_each_marked.ensures in
    let put = count_put in_use c.within-stop.result f m (marks_fit in_use c.within-stop.result m (omega arith)) (λ i h. cut_above (marked in_use o) 0 c.within-stop.result i h) in
    let got = c.count_marked.ensures ∙ ap (count_marked in_use c.within-stop.result) after ∙ put in omega arith

pub returns : goal.returns
returns c =
    let args = c.args in
    let m = args.marks.now in
    let o = args.other.now in
    let f = in_range_and (marked in_use o) 0 c.within-stop.result in
    let after = cut_on in_use (marked in_use o) 0 m (8 * (c.within-stop.result / 8)) c.within-stop.result _ _ (omega arith) (omega arith) c.mark_whole_marked.ensures
    c.mark_each_marked.ensures in
    let put = count_put in_use c.within-stop.result f m (marks_fit in_use c.within-stop.result m (omega arith)) (λ i h. cut_above (marked in_use o) 0 c.within-stop.result i h) in
    let got = c.count_marked.ensures ∙ ap (count_marked in_use c.within-stop.result) after ∙ put in
    let same : (k : ℕ) → k < capacity in_use m
    → f k ≡ marked_below in_use args.n o k =
    λ k h. run_marked in_use o args.n c.within.result c.within-stop.result (capacity in_use m) k c.within.ensures.0 c.within.ensures.2 c.within-stop.ensures.0 c.within-stop.ensures.2 h in
    let fresh : c.count_marked.result - c.count_marked-held.result ≡ new_marks in_use f m = omega arith in
    (after ∙ all_same in_use f (marked_below in_use args.n o) m same, fresh ∙ new_same in_use f (marked_below in_use args.n o) m same)
