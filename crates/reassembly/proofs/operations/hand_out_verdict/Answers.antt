use borrow.Author.Rules.{rules}
use Prim.Native.Nat.{ℕ}
use mathlib.Core.Bool.{true, false}
use mathlib.Core.Path.{ap, sym, ◌∙◌}
use lib.Dec.{eqb}
use borrow.Author.Tests.{eq-eqb, ne_eqb, not-true, not-false}
use Rattle.reassembly.specs.Record.{partial}
use Rattle.reassembly.specs.Operations.{hand_out}
use Rattle.reassembly.specs.Machine.{handed_of}
use Rattle.reassembly.specs.Verdict.{Verdict}
use Rattle.reassembly.proofs.JudgeLaws.{hand_unsound, hand_idle, hand_wrong, hand_held}
use Rattle.reassembly.proofs.operations.hand_out_verdict.Goals as goal

pub returns-then-not-is_sound : goal.returns-then-not-is_sound
returns-then-not-is_sound c =
    let a = c.args in
    let s = partial a.rec a.payload.now a.marks.now in
    rw (ap (λ (v : Verdict). handed_of v (hand_out s)) (hand_unsound s (sym c.is_sound.ensures ∙ not-true _ c.if-not-is_sound.true-raw))) (search rules)

pub returns-then-not-rec : goal.returns-then-not-rec
returns-then-not-rec c =
    let a = c.args in
    let s = partial a.rec a.payload.now a.marks.now in
    rw (ap (λ (v : Verdict). handed_of v (hand_out s)) (hand_idle s (sym c.is_sound.ensures ∙ not-false _ c.if-not-is_sound.false-raw) (not-true _ c.if-not-rec.true))) (search rules)

pub returns-then-count_marked-rec : goal.returns-then-count_marked-rec
returns-then-count_marked-rec c =
    let a = c.args in
    let s = partial a.rec a.payload.now a.marks.now in
    rw (ap (λ (v : Verdict). handed_of v (hand_out s)) (hand_wrong s (sym c.is_sound.ensures ∙ not-false _ c.if-not-is_sound.false-raw) (not-false _ c.if-not-rec.false)
    (ap (λ (n : ℕ). eqb n a.rec.covered) (sym c.count_marked.ensures) ∙ ne_eqb _ _ c.if-count_marked-rec.true))) (search rules)

pub returns-then-rec : goal.returns-then-rec
returns-then-rec c =
    let a = c.args in
    let s = partial a.rec a.payload.now a.marks.now in
    rw (ap (λ (v : Verdict). handed_of v (hand_out s)) (hand_held s (sym c.is_sound.ensures ∙ not-false _ c.if-not-is_sound.false-raw) (not-false _ c.if-not-rec.false)
    (ap (λ (n : ℕ). eqb n a.rec.covered) (sym c.count_marked.ensures) ∙ eq-eqb _ _ c.if-count_marked-rec.false) false (ne_eqb _ _ c.if-rec.true))) (search rules)

pub returns : goal.returns
returns c =
    let a = c.args in
    let s = partial a.rec a.payload.now a.marks.now in
    ap (λ (v : Verdict). handed_of v (hand_out s))
    (sym (hand_held s (sym c.is_sound.ensures ∙ not-false _ c.if-not-is_sound.false-raw) (not-false _ c.if-not-rec.false)
    (ap (λ (n : ℕ). eqb n a.rec.covered) (sym c.count_marked.ensures) ∙ eq-eqb _ _ c.if-count_marked-rec.false) true (eq-eqb _ _ c.if-rec.false)))
