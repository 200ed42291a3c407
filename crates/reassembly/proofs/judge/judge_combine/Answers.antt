use Rattle.std.specs.Prelude.{Result, Ok}
use Rattle.wire.specs.declared.refusal.Refusal.{Refusal}
use Rattle.reassembly.specs.Verdict.{Done, Refused}
use borrow.Author.Rules.{rules}
use mathlib.Core.Bool.{Bool, cond}
use mathlib.Core.Path.{sym, ap, ◌∙◌}
use borrow.Author.Tests.{not-true, not-false}
use Rattle.reassembly.specs.Views.{clash}
use Rattle.reassembly.specs.Record.{partial}
use Rattle.reassembly.specs.Machine.{view_of}
use Rattle.reassembly.specs.Verdict.{Done, Refused}
use Rattle.reassembly.specs.declared.judge.Admission.{Admission}
use Rattle.reassembly.proofs.JudgeLaws.{admitted, combine_unsound, combine_source_unsound, combine_idle, combine_admits, covered_room, combine_same}
use Rattle.reassembly.proofs.judge.judge_combine.Goals as goal

pub returns-then-not-is_sound : goal.returns-then-not-is_sound
returns-then-not-is_sound c =
    let args = c.args in
    let a = args in
    let s = partial a.rec a.payload.now a.marks.now in
    let f = partial a.source a.from.now a.from_marks.now in
    rw (combine_unsound s f (sym c.is_sound.ensures ∙ not-true _ c.if-not-is_sound.true-raw)) (search rules)

pub returns-then-not-is_sound-2 : goal.returns-then-not-is_sound-2
returns-then-not-is_sound-2 c =
    let args = c.args in
    let a = args in
    let s = partial a.rec a.payload.now a.marks.now in
    let f = partial a.source a.from.now a.from_marks.now in
    rw (combine_source_unsound s f (sym c.is_sound.ensures ∙ not-false _ c.if-not-is_sound.false-raw) (sym c.is_sound-2.ensures ∙ not-true _ c.if-not-is_sound-2.true-raw)) (search rules)

pub returns-then-not-source : goal.returns-then-not-source
returns-then-not-source c =
    let args = c.args in
    let a = args in
    let s = partial a.rec a.payload.now a.marks.now in
    let f = partial a.source a.from.now a.from_marks.now in
    sym (combine_idle s f (sym c.is_sound.ensures ∙ not-false _ c.if-not-is_sound.false-raw)
    (sym c.is_sound-2.ensures ∙ not-false _ c.if-not-is_sound-2.false-raw) (not-true _ c.if-not-source.true))

pub clash_covered-requires : goal.clash_covered-requires
clash_covered-requires c =
    let args = c.args in
    let a = args in
    let s = partial a.rec a.payload.now a.marks.now in
    let f = partial a.source a.from.now a.from_marks.now in
    covered_room s f (sym c.is_sound.ensures ∙ not-false _ c.if-not-is_sound.false-raw)
    (sym c.is_sound-2.ensures ∙ not-false _ c.if-not-is_sound-2.false-raw) (not-false _ c.if-not-source.false) (sym c.admit.ensures ∙ c.in_ok-admit.was ∙ ap Ok c.in-Same.is)

pub returns-in_err-admit : goal.returns-in_err-admit
returns-in_err-admit c =
    let args = c.args in
    let a = args in
    let s = partial a.rec a.payload.now a.marks.now in
    let f = partial a.source a.from.now a.from_marks.now in
    rw (combine_admits s f (sym c.is_sound.ensures ∙ not-false _ c.if-not-is_sound.false-raw)
    (sym c.is_sound-2.ensures ∙ not-false _ c.if-not-is_sound-2.false-raw) (not-false _ c.if-not-source.false)
    ∙ ap (λ (x : Result Admission Refusal). admitted x (clash a.rec.message.total (view_of s) (view_of f))) (sym c.admit.ensures ∙ c.in_err-admit.was))
    (search rules)

pub returns-in-Fresh : goal.returns-in-Fresh
returns-in-Fresh c =
    let args = c.args in
    let a = args in
    let s = partial a.rec a.payload.now a.marks.now in
    let f = partial a.source a.from.now a.from_marks.now in
    sym (combine_admits s f (sym c.is_sound.ensures ∙ not-false _ c.if-not-is_sound.false-raw)
    (sym c.is_sound-2.ensures ∙ not-false _ c.if-not-is_sound-2.false-raw) (not-false _ c.if-not-source.false)
    ∙ ap (λ (x : Result Admission Refusal). admitted x (clash a.rec.message.total (view_of s) (view_of f))) (sym c.admit.ensures ∙ c.in_ok-admit.was ∙ ap Ok c.in-Fresh.is))

pub returns-in-Same : goal.returns-in-Same
returns-in-Same c =
    let args = c.args in
    let a = args in
    let s = partial a.rec a.payload.now a.marks.now in
    let f = partial a.source a.from.now a.from_marks.now in
    c.unless_clash.ensures ∙ ap (λ (b : Bool). cond b (Refused 14 0) Done) c.clash_covered.ensures
    ∙ sym (combine_same s f (sym c.is_sound.ensures ∙ not-false _ c.if-not-is_sound.false-raw)
    (sym c.is_sound-2.ensures ∙ not-false _ c.if-not-is_sound-2.false-raw) (not-false _ c.if-not-source.false) (sym c.admit.ensures ∙ c.in_ok-admit.was ∙ ap Ok c.in-Same.is))
