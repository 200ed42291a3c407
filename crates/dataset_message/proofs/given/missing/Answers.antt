use mathlib.Core.Path.{sym, ap, ◌∙◌}
use mathlib.Core.List.{List}
use Prim.Native.Nat.{ℕ}
use Rattle.dataset_message.specs.Writer.{missing_refusal}
use Rattle.dataset_message.proofs.Whole.{missing_none, missing_short, missing_step, missing_done}
use Rattle.dataset_message.proofs.given.missing.Goals as goal

pub returns-then-w-eq0 : goal.returns-then-w-eq0
returns-then-w-eq0 c =
    missing_none c.tail-rest.result.now c.loop-t.t-index c.loop-t.left c.width-w.result c.loop-t-test.true c.width-w.ensures.0
    c.if-w-eq0.true ∙ sym c.loop-t.invariant ∙ ap (λ (r : List ℕ). missing_refusal r c.args.padding) c.tail-rest.ensures

pub returns-then-left-w : goal.returns-then-left-w
returns-then-left-w c =
    missing_short c.tail-rest.result.now c.loop-t.t-index c.loop-t.left c.width-w.result c.loop-t-test.true c.width-w.ensures.0
    c.if-w-eq0.false c.if-left-w.true ∙ sym c.loop-t.invariant ∙ ap (λ (r : List ℕ). missing_refusal r c.args.padding) c.tail-rest.ensures

pub loop-t-preserved : goal.loop-t-preserved
loop-t-preserved c =
    c.loop-t.invariant
    ∙ missing_step c.tail-rest.result.now c.loop-t.t-index c.loop-t.left c.width-w.result c.loop-t-test.true c.width-w.ensures.0
    c.if-w-eq0.false c.if-left-w.false

pub returns : goal.returns
returns c =
    sym (c.loop-t.invariant ∙ missing_done c.tail-rest.result.now c.loop-t.t-index c.loop-t.left c.loop-t-test.false)
    ∙ ap (λ (r : List ℕ). missing_refusal r c.args.padding) c.tail-rest.ensures
