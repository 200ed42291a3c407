use Rattle.marks.proofs.CountLaws.{count_most, none_new, new_range, new_same, all_same, run_end, run_none, cut_below, cut_above}
use Rattle.wire.proofs.Cases.{by_lt}
use Rattle.marks.specs.Marks.{in_use, capacity, marked}
use Rattle.marks.specs.Offsets.{in_range, in_range_and, always}
use native.Mathlib.Omega.{arith}
use mathlib.Core.Path.{◌≡◌, sym, ap, ◌∙◌}
use Prim.Native.Nat.{ℕ, ◌+◌, ◌-◌, ◌<◌}
use Rattle.marks.proofs.mark_range.Goals as goal

pub returns-then-stop-start : goal.returns-then-stop-start
returns-then-stop-start c =
    let args = c.args in
    let m = args.marks.now in
    none_new in_use (in_range args.start args.end) m
    (λ k h. sym (run_none args.start args.end c.within-stop.result (capacity in_use m) k c.within-stop.ensures.0 c.within-stop.ensures.2 h (omega arith))
    ∙ by_lt _ k args.start (λ l. cut_below always args.start args.start k l) (λ l. cut_above always args.start args.start k l))

pub overflow_sub-result-2 : goal.overflow_sub-result-2
overflow_sub-result-2 c =
    let args = c.args in
    let most = count_most (c.within-stop.result - args.start) (λ j. marked in_use args.marks.now (args.start + j)) in omega arith

pub returns : goal.returns
returns c =
    let args = c.args in
    let m = args.marks.now in
    let run = in_range_and always args.start c.within-stop.result in
    let same : (k : ℕ) → k < capacity in_use m → run k ≡ in_range args.start args.end k =
    λ k h. run_end args.start args.end c.within-stop.result (capacity in_use m) k c.within-stop.ensures.0 c.within-stop.ensures.2 h in (
      c.mark_run.ensures ∙ all_same in_use run (in_range args.start args.end) m same,
      ap (λ (n : ℕ). c.within-stop.result - args.start - n) c.count_between-held.ensures ∙ sym (new_range in_use m args.start c.within-stop.result (omega arith) c.within-stop.ensures.1)
          ∙ new_same in_use run (in_range args.start args.end) m same,
    )
