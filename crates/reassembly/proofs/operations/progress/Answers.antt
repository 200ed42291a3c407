use borrow.Author.Rules.{rules}
use mathlib.Core.Path.{sym, ◌∙◌}
use borrow.Author.Tests.{not-true, not-false}
use Rattle.reassembly.specs.Record.{partial}
use Rattle.reassembly.proofs.JudgeLaws.{progress_unsound, progress_idle, progress_held}
use Rattle.reassembly.proofs.operations.progress.Goals as goal

pub returns-then-not-is_sound : goal.returns-then-not-is_sound
returns-then-not-is_sound c =
    let a = c.args in
    rw (progress_unsound (partial a.rec a.payload.now a.marks.now) (sym c.is_sound.ensures ∙ not-true _ c.if-not-is_sound.true-raw)) (search rules)

pub returns-then-not-rec : goal.returns-then-not-rec
returns-then-not-rec c =
    let a = c.args in
    sym (progress_idle (partial a.rec a.payload.now a.marks.now) (sym c.is_sound.ensures ∙ not-false _ c.if-not-is_sound.false-raw) (not-true _ c.if-not-rec.true))

pub returns : goal.returns
returns c =
    let a = c.args in
    sym (progress_held (partial a.rec a.payload.now a.marks.now) (sym c.is_sound.ensures ∙ not-false _ c.if-not-is_sound.false-raw) (not-false _ c.if-not-rec.false))
