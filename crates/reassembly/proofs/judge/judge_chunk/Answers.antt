use Rattle.std.specs.Prelude.{Result, Ok}
use Rattle.wire.specs.declared.refusal.Refusal.{Refusal}
use Rattle.reassembly.specs.Verdict.{Done, Refused}
use borrow.Author.Rules.{rules}
use Rattle.reassembly.proofs.JudgeLaws.{admitted, reading_admits, data_room, reading_same}
use Rattle.reassembly.specs.declared.judge.Admission.{Admission}
use Rattle.reassembly.specs.Verdict.{Done, Refused}
use Rattle.reassembly.specs.Machine.{view_of}
use Rattle.reassembly.specs.Record.{partial}
use Rattle.reassembly.specs.Views.{clash, data_view}
use mathlib.Core.Path.{sym, ap, ◌∙◌}
use mathlib.Core.Bool.{Bool, cond}
use Rattle.reassembly.proofs.judge.judge_chunk.Goals as goal

pub clash_data-requires : goal.clash_data-requires
clash_data-requires c =
    let a = c.args in
    data_room (partial a.rec a.payload.now a.marks.now) a.m a.offset a.bytes.now c.requires.0 c.requires.1 (sym c.admit.ensures ∙ c.in_ok-admit.was ∙ ap Ok c.in-Same.is)

pub returns-in_err-admit : goal.returns-in_err-admit
returns-in_err-admit c =
    let a = c.args in
    let s = partial a.rec a.payload.now a.marks.now in
    rw (reading_admits s a.m a.offset a.bytes.now c.requires.0
    ∙ ap (λ (x : Result Admission Refusal). admitted x (clash a.rec.message.total (view_of s) (data_view a.offset a.bytes.now))) (sym c.admit.ensures ∙ c.in_err-admit.was))
    (search rules)

pub returns-in-Fresh : goal.returns-in-Fresh
returns-in-Fresh c =
    let a = c.args in
    let s = partial a.rec a.payload.now a.marks.now in
    sym (reading_admits s a.m a.offset a.bytes.now c.requires.0
    ∙ ap (λ (x : Result Admission Refusal). admitted x (clash a.rec.message.total (view_of s) (data_view a.offset a.bytes.now))) (sym c.admit.ensures ∙ c.in_ok-admit.was ∙ ap Ok c.in-Fresh.is))

pub returns-in-Same : goal.returns-in-Same
returns-in-Same c =
    let a = c.args in
    c.unless_clash.ensures ∙ ap (λ (b : Bool). cond b (Refused 14 0) Done) c.clash_data.ensures
    ∙ sym (reading_same (partial a.rec a.payload.now a.marks.now) a.m a.offset a.bytes.now c.requires.0
    c.requires.1 (sym c.admit.ensures ∙ c.in_ok-admit.was ∙ ap Ok c.in-Same.is))
