use Rattle.wire.proofs.Reading.{told}
use Rattle.reassembly.specs.Verdict.{verdict_told}
use borrow.Author.Rules.{rules}
use Prim.Native.Nat.{ℕ, ◌≤◌}
use mathlib.Core.Path.{refl, sym, subst}
use native.Mathlib.Omega.{arith}
use borrow.Author.Tests.{not-true, not-false}
use Rattle.reassembly.specs.Record.{partial}
use Rattle.reassembly.proofs.JudgeLaws.{combine_sound, combine_refused, combine_done_idle, combined_room, combined, begun_covered, length_begun}
use Rattle.marks.specs.Marks.{in_use, marks_for, marked_below}
use Rattle.marks.proofs.MarkLaws.{marks_cover, marked_past}
use Rattle.marks.proofs.CountLaws.{new_most}
use Rattle.reassembly.proofs.operations.combined.Goals as goal

pub returns-in_err-judge_combine : goal.returns-in_err-judge_combine
returns-in_err-judge_combine c =
    let a = c.args in
    let s = partial a.rec a.payload.now a.marks.now in
    let f = partial a.source a.from.now a.from_marks.now in
    rw (combine_refused s f _ _ (sym (told verdict_told c.judge_combine.ensures c.in_err-judge_combine.was))) (search rules)

pub returns-then-not-source : goal.returns-then-not-source
returns-then-not-source c =
    let a = c.args in
    let s = partial a.rec a.payload.now a.marks.now in
    let f = partial a.source a.from.now a.from_marks.now in
    sym (combine_done_idle s f (sym (told verdict_told c.judge_combine.ensures c.in_ok-judge_combine.was)) (not-true _ c.if-not-source.true))

pub store_covered-requires : goal.store_covered-requires
store_covered-requires c =
    let args = c.args in
    let a = args in
    let s = partial a.rec a.payload.now a.marks.now in
    let f = partial a.source a.from.now a.from_marks.now in
    let r = combined_room s f (sym (told verdict_told c.judge_combine.ensures c.in_ok-judge_combine.was)) (not-false _ c.if-not-source.false) in
    (r.0, r.2, r.3)

-- what is covered and what is new are each at most the payload area's length
pub with_new-requires : goal.with_new-requires
with_new-requires c =
    let a = c.args in
    let s = partial a.rec a.payload.now a.marks.now in
    let f = partial a.source a.from.now a.from_marks.now in
    let done = sym (told verdict_told c.judge_combine.ensures c.in_ok-judge_combine.was) in
    let ok = combine_sound s f done in
    let held = begun_covered s a.source.message ok c.begin-next.result c.begin-next.ensures.0 in
    let room = combined_room s f done (not-false _ c.if-not-source.false) in
    let same = length_begun a.rec a.marks.now _ c.begin-next.ensures.1 in
    let total = a.source.message.total in
    let fits = subst (λ (n : ℕ). marks_for in_use total ≤ n) (sym same) room.1 in
    let area = marks_cover in_use total total _ (omega arith) fits in
    let fresh = new_most in_use total (marked_below in_use total a.from_marks.now) _ _ area (λ i h. marked_past in_use total a.from_marks.now i h) c.mark_marked-fresh.ensures.1 in
    omega (arith, room.0)

pub returns : goal.returns
returns c =
    let a = c.args in
    let s = partial a.rec a.payload.now a.marks.now in
    let f = partial a.source a.from.now a.from_marks.now in
    combined s f (sym (told verdict_told c.judge_combine.ensures c.in_ok-judge_combine.was))
    (not-false _ c.if-not-source.false) _ _ _ _ _ _ _ refl c.begin-next.ensures.0 c.with_new.ensures
    c.store_covered.ensures c.begin-next.ensures.1 c.mark_marked-fresh.ensures.0 c.mark_marked-fresh.ensures.1
