use Rattle.marks.proofs.CountLaws.{count_start, area_count}
use Rattle.marks.specs.Marks.{in_use, marked, count_marked}
use Rattle.marks.specs.Offsets.{count_below}
use native.Mathlib.Omega.{arith}
use mathlib.Core.Path.{◌≡◌, ap, ◌∙◌}
use Prim.Native.Nat.{ℕ, ◌+◌, ◌-◌}
use Rattle.marks.proofs.by_one.count_each.Goals as goal

pub returns : goal.returns
unfolding count_marked
returns c =
    let args = c.args in
    let m = args.marks.now in
    let e : c.loop-i.i - 0 ≡ c.within-stop.result - 0 = omega arith in
    c.loop-i.invariant.1 ∙ ap (λ (n : ℕ). count_below n (λ j. marked in_use m (0 + j))) e
    ∙ area_count in_use m 0 c.within-stop.result args.n c.within-stop.ensures.0 c.within-stop.ensures.2 ∙ count_start args.n (marked in_use m)
