use Rattle.std.proofs.Common.{rules}
use Rattle.std.specs.Prelude.{Ok}
use mathlib.Core.Path.{sym, ap, ◌∙◌}
use Prim.Native.Nat.{◌-◌}
use Rattle.wire.specs.Refusal.{answer_to}
use Rattle.wire.proofs.Reading.{told}
use Rattle.value.specs.Value.{value_at}
use Rattle.value.proofs.Heads.{no_level, by_head, inside_refused, inside_ends}
use Rattle.plain_value.proofs.Passing.{pass_turn, pass_halt, each_end}
use Rattle.value.proofs.+pass_value.Goals as goal

pub pass_held-loop-preserved : goal.pass_held-loop-preserved
pass_held-loop-preserved t c =
    c.loop.invariant ∙ pass_turn (value_at _ _) _ _ c.loop.counter c.loop.p c.loop-test.true (sym (told (answer_to tt) c.pass_value.ensures c.in_ok-p.was))

pub pass_held-returns-in_err-p : goal.pass_held-returns-in_err-p
pass_held-returns-in_err-p t c =
    let a = c.args in
    let h = pass_halt (value_at a.levels a.t) _ _ c.loop.counter c.loop.p c.loop-test.true (sym (told (answer_to tt) c.pass_value.ensures c.in_err-p.was)) in
    rw (c.loop.invariant, h) (search rules)

pub pass_held-returns : goal.pass_held-returns
pass_held-returns t c = sym (c.loop.invariant ∙ each_end (value_at _ _) _ _ c.loop.counter c.loop.p c.loop-test.false)

pub pass_value-returns-then-levels-eq0 : goal.pass_value-returns-then-levels-eq0
pass_value-returns-then-levels-eq0 t c = c.too_deep.ensures ∙ no_level c.args.levels c.args.t c.args.s.now c.args.at c.if-levels-eq0.true

pub pass_value-returns-in_err-end : goal.pass_value-returns-in_err-end
pass_value-returns-in_err-end t c =
    let a = c.args in
    rw (sym (by_head a.levels a.t a.s.now a.at c.if-levels-eq0.false (c.head_at.ensures (value_at (a.levels - 1))) c.in_err-end.was)) (search rules)

pub pass_value-returns-in_err-p-in-Holds : goal.pass_value-returns-in_err-p-in-Holds
pass_value-returns-in_err-p-in-Holds t c =
    let a = c.args in
    let stop = sym (told (answer_to tt) c.pass_held.ensures c.in_err-p-in-Holds.was) in
    let q = inside_refused (value_at (a.levels - 1)) a.s.now c.in-Holds.from c.in-Holds.count c.in-Holds.inner c.in-Holds.after c.inside.result c.inside.ensures stop
    ∙ by_head a.levels a.t a.s.now a.at c.if-levels-eq0.false (c.head_at.ensures (value_at (a.levels - 1))) (c.in_ok-end.was ∙ ap Ok c.in-Holds.is) in
    rw (sym q) (search rules)

pub pass_value-returns-in-To : goal.pass_value-returns-in-To
pass_value-returns-in-To t c =
    let a = c.args in
    by_head a.levels a.t a.s.now a.at c.if-levels-eq0.false (c.head_at.ensures (value_at (a.levels - 1))) (c.in_ok-end.was ∙ ap Ok c.in-To.is)

pub pass_value-returns-in_ok-p-in-Holds : goal.pass_value-returns-in_ok-p-in-Holds
pass_value-returns-in_ok-p-in-Holds t c =
    let a = c.args in
    inside_ends (value_at (a.levels - 1)) a.s.now c.in-Holds.from c.in-Holds.count c.in-Holds.inner c.in-Holds.after
    c.inside.result c.inside.ensures (sym (told (answer_to tt) c.pass_held.ensures c.in_ok-p-in-Holds.was)) c.pass_rest.ensures
    ∙ by_head a.levels a.t a.s.now a.at c.if-levels-eq0.false (c.head_at.ensures (value_at (a.levels - 1))) (c.in_ok-end.was ∙ ap Ok c.in-Holds.is)
