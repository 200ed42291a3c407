use mathlib.Core.Path.{◌≡◌, sym, ◌∙◌}
use native.Mathlib.Omega.{arith}
use Prim.Native.Nat.{◌+◌}
use Rattle.dataset_fields.proofs.Walks.{padding_done, padding_step, padding_stop}
use Rattle.dataset_fields.proofs.fields.padding.Goals as goal

pub returns-then-s-p-ne0 : goal.returns-then-s-p-ne0
returns-then-s-p-ne0 c =
    rw c.at.ensures (sym (c.loop-p.invariant.0 ∙ padding_stop c.args.s.now c.loop-p.p c.loop-p-test.true c.if-s-p-ne0.true))

pub loop-p-preserved : goal.loop-p-preserved
loop-p-preserved c =
    (c.loop-p.invariant.0 ∙ padding_step c.args.s.now c.loop-p.p c.loop-p-test.true c.if-s-p-ne0.false, omega arith)

pub returns : goal.returns
returns c =
    let e : c.loop-p.p ≡ c.args.at + c.left.result = omega arith in
    rw (sym e) (sym (c.loop-p.invariant.0 ∙ padding_done c.args.s.now c.loop-p.p c.loop-p-test.false))
