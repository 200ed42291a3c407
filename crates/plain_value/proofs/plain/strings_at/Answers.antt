use mathlib.Core.Path.{sym, subst, ◌∙◌}
use Rattle.std.specs.Prelude.{Option, ℕ}
use Rattle.plain_value.specs.Plain.{string, text}
use Rattle.plain_value.specs.Quick.{EndTells}
use Rattle.plain_value.proofs.Passing.{each_turn, each_end}
use Rattle.plain_value.proofs.plain.strings_at.Goals as goal

pub returns-in_default : goal.returns-in_default
unfolding text
returns-in_default c = c.each_text.ensures ∙ sym c.loop-i.invariant

pub loop-i-preserved : goal.loop-i-preserved
loop-i-preserved c =
    let args = c.args in
    c.loop-i.invariant ∙ each_turn string _ _ c.loop-i.i c.loop-i.p c.loop-i-test.true
    (subst (λ (x : Option ℕ). EndTells x (string args.s.now c.loop-i.p)) c.in-Some.is c.string_look.ensures)

pub returns : goal.returns
returns c = sym (c.loop-i.invariant ∙ each_end string _ _ c.loop-i.i c.loop-i.p c.loop-i-test.false)
