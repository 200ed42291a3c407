use Rattle.std.proofs.Common.{rules}
use mathlib.Core.Path.{sym, ◌∙◌}
use Rattle.wire.specs.Refusal.{answer_to}
use Rattle.wire.proofs.Reading.{told}
use Rattle.plain_value.proofs.Passing.{pass_turn, pass_halt, each_end}
use Rattle.value.specs.Value.{value_at}
use Rattle.value.proofs.pass_inside.Goals as goal

pub loop-preserved : goal.loop-preserved
loop-preserved c =
    c.loop.invariant ∙ pass_turn (value_at 99 _) _ _ c.loop.counter c.loop.p c.loop-test.true (sym (told (answer_to tt) c.pass_one.ensures c.in_ok-p.was))

pub returns-in_err-p : goal.returns-in_err-p
returns-in_err-p c =
    let h = pass_halt (value_at 99 c.args.t) _ _ c.loop.counter c.loop.p c.loop-test.true (sym (told (answer_to tt) c.pass_one.ensures c.in_err-p.was)) in
    rw (c.loop.invariant, h) (search rules)

pub returns : goal.returns
returns c = sym (c.loop.invariant ∙ each_end (value_at 99 _) _ _ c.loop.counter c.loop.p c.loop-test.false)
