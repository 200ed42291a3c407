use Rattle.records.proofs.Asked.{find_start, find_here, find_next, find_end}
use native.Mathlib.Omega.{arith}
use mathlib.Core.Path.{◌≡◌, refl, ◌∙◌}
use Prim.Native.Nat.{◌-◌, ◌+◌, ◌*◌}
use Rattle.records.proofs.writers.find_id.Goals as goal

pub loop-k-init : goal.loop-k-init
loop-k-init c =
    let args = c.args in
    λ p e. let q : p ≡ 2 = omega (arith, e) in rw q (find_start args.n args.config.now 2 args.id)

pub returns-then-of-id : goal.returns-then-of-id
returns-then-of-id c =
    let args = c.args in
    find_here (args.n - c.loop-k.k) (args.n - (c.loop-k.k + 1)) _ _ _ _ _ _ (omega arith) c.of.ensures (c.loop-k.invariant _ refl) c.if-of-id.true

pub loop-k-preserved : goal.loop-k-preserved
loop-k-preserved c =
    let args = c.args in
    λ p e. let q : p ≡ 2 + 2 * c.loop-k.k + 2 = omega (arith, e) in
    rw q (find_next (args.n - c.loop-k.k) (args.n - (c.loop-k.k + 1)) _ _ _ _ _ _ (omega arith) c.of.ensures (c.loop-k.invariant _ refl) c.if-of-id.false)

pub returns : goal.returns
returns c =
    let last : c.args.n ≡ c.loop-k.k = omega arith in
    last ∙ find_end (c.args.n - c.loop-k.k) _ _ _ _ _ (omega arith) (c.loop-k.invariant _ refl)
