use Rattle.wire.proofs.Reading.{told}
use Rattle.reassembly.specs.Verdict.{verdict_told}
use borrow.Author.Rules.{rules}
use Rattle.reassembly.proofs.JudgeLaws.{take_refused, taken_room, taken, begun_covered, length_begun}
use Prim.Native.Nat.{ℕ, ◌+◌, ◌≤◌}
use lib.ListN.{length}
use Rattle.marks.specs.Offsets.{in_range}
use Rattle.marks.specs.Marks.{in_use, marks_for}
use Rattle.marks.proofs.MarkLaws.{marks_cover, range_above}
use Rattle.marks.proofs.CountLaws.{new_most}
use Rattle.reassembly.specs.Reading.Reading.{chunk}
use Rattle.reassembly.specs.Record.{partial}
use native.Mathlib.Omega.{arith}
use mathlib.Core.Path.{refl, sym, subst}
use Rattle.reassembly.proofs.operations.take_chunk.Goals as goal

pub returns-in_err-judge_chunk : goal.returns-in_err-judge_chunk
returns-in_err-judge_chunk c =
    let a = c.args in
    let s = partial a.rec a.payload.now a.marks.now in
    rw (take_refused s (chunk a.m a.offset a.bytes.now) _ _ (sym (told verdict_told c.judge_chunk.ensures c.in_err-judge_chunk.was))) (search rules)

pub store_data-requires : goal.store_data-requires
store_data-requires c =
    let a = c.args in
    (taken_room (partial a.rec a.payload.now a.marks.now) a.m a.offset a.bytes.now c.requires.1
    (sym (told verdict_told c.judge_chunk.ensures c.in_ok-judge_chunk.was))).0

-- what is covered and what is new are each at most the payload area's length
pub with_new-requires : goal.with_new-requires
with_new-requires c =
    let a = c.args in
    let s = partial a.rec a.payload.now a.marks.now in
    let held = begun_covered s a.m c.requires.0 c.begin-next.result c.begin-next.ensures.0 in
    let room = taken_room s a.m a.offset a.bytes.now c.requires.1 (sym (told verdict_told c.judge_chunk.ensures c.in_ok-judge_chunk.was)) in
    let same = length_begun a.rec a.marks.now _ c.begin-next.ensures.1 in
    let end = a.offset + length a.bytes.now in
    let fits = subst (λ (n : ℕ). marks_for in_use end ≤ n) (sym same) room.1 in
    let area = marks_cover in_use end end _ (omega arith) fits in
    let fresh = new_most in_use end (in_range a.offset end) _ _ area (λ i h. range_above a.offset end i h) c.mark_range-fresh.ensures.1 in
    omega (arith, room.0)

pub returns : goal.returns
returns c =
    let a = c.args in
    taken (partial a.rec a.payload.now a.marks.now) a.m a.offset a.bytes.now c.requires.1
    (sym (told verdict_told c.judge_chunk.ensures c.in_ok-judge_chunk.was)) _ _ _ _ _ _ _ refl
    c.begin-next.ensures.0 c.with_new.ensures c.store_data.ensures c.begin-next.ensures.1
    c.mark_range-fresh.ensures.0 c.mark_range-fresh.ensures.1
