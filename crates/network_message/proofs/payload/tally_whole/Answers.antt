use Prim.Native.Nat.{ℕ, ◌+◌, ◌-◌, ◌*◌}
use mathlib.Core.List.{List, ◌∷◌}
use mathlib.Core.Bool.{◌&&◌, and_assoc}
use mathlib.Core.Path.{◌≡◌, sym, ◌∙◌, ap, ap₂}
use native.Mathlib.Omega.{arith}
use lib.Dec.{ltb}
use Rattle.wire.specs.Lists.{total}
use Rattle.network_message.specs.Payload.{all_positive, listed}
use Rattle.network_message.proofs.Tallies.{listed_step}
use Rattle.wire.specs.Number.{le}
use Rattle.network_message.proofs.payload.tally_whole.Goals as goal

pub loop-i-preserved : goal.loop-i-preserved
loop-i-preserved c =
    let s = c.args.list.now in
    let n = c.args.n in
    let i = c.loop-i.i in
    let rest : List ℕ = listed (n - (i + 1)) s (2 * (i + 1)) in
    let left : n - i - 1 ≡ n - (i + 1) = omega arith in
    let place : 2 * i + 2 ≡ 2 * (i + 1) = omega arith in
    let e : listed (n - i) s (2 * i) ≡ le 2 s (2 * i) ∷ rest =
    listed_step (n - i) s (2 * i) (omega (arith, c.loop-i-test.true)) ∙ ap₂ (λ (a b : ℕ). le 2 s (2 * i) ∷ listed a s b) left place in (
      omega (arith, ap total e, c.number_within-size.ensures.0, c.loop-i.invariant.0),
      ap (λ (k : ℕ). (c.loop-i.each && ltb 0 k) && all_positive rest) c.number_within-size.ensures.0
          ∙ and_assoc c.loop-i.each (ltb 0 (le 2 s (2 * i))) (all_positive rest)
          ∙ ap (λ (x : List ℕ). c.loop-i.each && all_positive x) (sym e) ∙ c.loop-i.invariant.1,
      omega (arith, c.loop-i.invariant.2, c.number_within-size.ensures.1),
    )
