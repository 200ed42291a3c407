use Rattle.std.proofs.Common.{rules}
use mathlib.Core.Path.{sym, ◌∙◌}
use Rattle.wire.specs.Refusal.{answer_to}
use Rattle.wire.proofs.Reading.{told}
use Rattle.plain_value.specs.Plain.{text}
use Rattle.plain_value.proofs.Passing.{each_turn, each_halt, each_end}
use Rattle.plain_value.proofs.plain.each_text.Goals as goal

pub loop-preserved : goal.loop-preserved
loop-preserved c =
    c.loop.invariant ∙ each_turn (text _) _ _ c.loop.counter c.loop.p c.loop-test.true (sym (told (answer_to tt) c.text_at.ensures c.in_ok-p.was))

pub returns-in_err-p : goal.returns-in_err-p
returns-in_err-p c =
    let h = each_halt (text c.args.t) _ _ c.loop.counter c.loop.p c.loop-test.true (sym (told (answer_to tt) c.text_at.ensures c.in_err-p.was)) in
    rw (c.loop.invariant, h) (search rules)

pub returns : goal.returns
returns c = sym (c.loop.invariant ∙ each_end (text _) _ _ c.loop.counter c.loop.p c.loop-test.false)
