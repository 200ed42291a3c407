use mathlib.Core.Path.{sym, ◌∙◌}
use Rattle.config_text.proofs.Turns.{held_first, held_bad, held_refused, held_next}
use Rattle.config_text.proofs.read_config.Goals as goal

pub loop-at-init : goal.loop-at-init
loop-at-init c = held_first c.args.s.now _ c.empty-config.ensures

pub returns-in_default : goal.returns-in_default
returns-in_default c =
    rw c.at-bad.ensures
    (held_bad c.args.s.now c.loop-at.config c.loop-at.number c.loop-at.at c.loop-at.invariant c.loop-at-test.true
    (sym c.read_line.ensures ∙ c.in_default.is))

pub returns-then-not-permitted : goal.returns-then-not-permitted
returns-then-not-permitted c =
    rw c.at-bad.ensures
    (held_refused c.args.s.now c.loop-at.config c.loop-at.number c.loop-at.at c.loop-at.invariant c.in-Some.line c.in-Some.next
    (sym c.read_line.ensures ∙ c.in-Some.is) (sym c.permitted.ensures ∙ c.if-not-permitted.true))

pub loop-at-preserved : goal.loop-at-preserved
loop-at-preserved c =
    rw c.add.ensures
    (held_next c.args.s.now c.loop-at.config c.loop-at.number c.loop-at.at c.loop-at.invariant c.in-Some.line c.in-Some.next
    (sym c.read_line.ensures ∙ c.in-Some.is) (sym c.permitted.ensures ∙ c.if-not-permitted.false))
