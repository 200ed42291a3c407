use Prim.Native.Nat.{◌-◌}
use native.Mathlib.Omega.{arith}
use mathlib.Core.Path.{sym, ◌∙◌}
use borrow.Author.Tests.{eq-eqb, ne_eqb}
use Rattle.plain_value.proofs.Sizes.{size_stop, size_again, size_done}
use Rattle.plain_value.proofs.dimensions.sizes_rule.Goals as goal

pub returns-then-below_one : goal.returns-then-below_one
returns-then-below_one c =
    sym (c.loop-i.invariant ∙ size_stop c.args.s.now _ _ c.args.at c.args.k c.loop-i.i c.of-d.result c.loop-i-test.true c.of-d.ensures (omega arith)
    (sym c.below_one.ensures ∙ c.if-below_one.true))

pub loop-i-preserved : goal.loop-i-preserved
loop-i-preserved c =
    c.loop-i.invariant ∙ size_again c.args.s.now _ _ c.args.at c.args.k c.loop-i.i c.of-d.result c.loop-i-test.true c.of-d.ensures (omega arith)
    (sym c.below_one.ensures ∙ c.if-below_one.false) c.times-product.ensures

pub returns-then-product-n : goal.returns-then-product-n
returns-then-product-n c =
    sym (c.loop-i.invariant ∙ size_done c.args.s.now _ _ (c.args.k - c.loop-i.i) _ (omega arith) ∙ rw (eq-eqb _ _ c.if-product-n.true))

pub returns : goal.returns
returns c =
    sym (c.loop-i.invariant ∙ size_done c.args.s.now _ _ (c.args.k - c.loop-i.i) _ (omega arith) ∙ rw (ne_eqb _ _ c.if-product-n.false))
