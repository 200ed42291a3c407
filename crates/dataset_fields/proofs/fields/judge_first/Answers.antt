use mathlib.Core.Path.{refl, sym, ◌∙◌}
use Rattle.wire.specs.Refusal.{answer}
use Rattle.wire.proofs.Reading.{told}
use Rattle.dataset_fields.proofs.Judging.{judge_step, judge_stop, judge_done}
use Rattle.dataset_fields.proofs.fields.judge_first.Goals as goal

pub returns-in-Err : goal.returns-in-Err
returns-in-Err c =
    let args = c.args in
    sym (c.loop-k.invariant.1
    ∙ judge_stop args.encoding args.types.now args.lengths.now args.values.now args.count c.loop-k.k
    c.loop-k.at _ _ c.loop-k.whole _ _ c.loop-k-test.true c.loop-k.invariant.0 refl
    c.part-value.ensures (sym (told answer c.read_field.ensures c.in-Err.is)))

pub loop-k-preserved : goal.loop-k-preserved
loop-k-preserved c =
    let args = c.args in (
      c.loop-k.invariant.0,
      c.loop-k.invariant.1
          ∙ judge_step args.encoding args.types.now args.lengths.now args.values.now args.count c.loop-k.k
          c.loop-k.at _ _ _ c.loop-k.whole _ _ c.loop-k-test.true c.loop-k.invariant.0 refl
          c.part-value.ensures c.forward-at.ensures (sym (told answer c.read_field.ensures c.in-Ok.is)),
    )

pub returns : goal.returns
returns c =
    let args = c.args in
    c.agreement_rule.ensures ∙ sym (c.loop-k.invariant.1
    ∙ judge_done args.encoding args.types.now args.lengths.now args.values.now args.count c.loop-k.k
    c.loop-k.at c.loop-k.whole c.loop-k-test.false)
