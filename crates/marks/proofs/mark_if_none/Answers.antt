use Rattle.marks.proofs.CountLaws.{none_new, all_same, run_end, run_none, cut_below, cut_above}
use Rattle.marks.specs.Offsets.{in_range, in_range_and, always}
use Rattle.marks.specs.Marks.{in_use, capacity}
use Rattle.wire.proofs.Cases.{by_lt}
use native.Mathlib.Omega.{arith}
use mathlib.Core.Path.{◌≡◌, refl, sym, ◌∙◌}
use Prim.Native.Nat.{ℕ, ◌<◌}
use Rattle.marks.proofs.mark_if_none.Goals as goal

pub returns-then-stop-start : goal.returns-then-stop-start
returns-then-stop-start c =
    let args = c.args in
    rw (sym c.any_marked.ensures ∙ c.if-any_marked.false) (
      refl,
      (none_new in_use (in_range args.start args.end) args.marks.now
          (λ k h. sym (run_none args.start args.end c.within-stop.result (capacity in_use args.marks.now) k c.within-stop.ensures.0 c.within-stop.ensures.2 h (omega arith))
          ∙ by_lt _ k args.start (λ l. cut_below always args.start args.start k l) (λ l. cut_above always args.start args.start k l))).0,
    )

pub returns : goal.returns
returns c =
    let args = c.args in
    let run = in_range_and always args.start c.within-stop.result in
    let same : (k : ℕ) → k < capacity in_use args.marks.now → run k ≡ in_range args.start args.end k =
    λ k h. run_end args.start args.end c.within-stop.result (capacity in_use args.marks.now) k c.within-stop.ensures.0 c.within-stop.ensures.2 h in
    rw (sym c.any_marked.ensures ∙ c.if-any_marked.false) (refl, c.mark_run.ensures ∙ all_same in_use run (in_range args.start args.end) args.marks.now same)
