use Rattle.reassembly.specs.Operations.{yes_no}
use Rattle.reassembly.proofs.CallLaws.{yes_told}
use borrow.Author.Rules.{rules}
use mathlib.Core.Path.{refl, sym, ap, ◌∙◌}
use borrow.Author.Tests.{not-true, not-false}
use Rattle.reassembly.specs.Record.{partial}
use Rattle.reassembly.specs.Calls.{said_of}
use Rattle.reassembly.proofs.JudgeLaws.{ask_unsound, ask_idle, ask_held}
use Rattle.reassembly.proofs.operations.ask_complete.Goals as goal

pub returns-then-not-is_sound : goal.returns-then-not-is_sound
returns-then-not-is_sound c =
    let a = c.args in
    rw (ask_unsound (partial a.rec a.payload.now a.marks.now) (sym c.is_sound.ensures ∙ not-true _ c.if-not-is_sound.true-raw)) (search rules)

pub returns-then-rec : goal.returns-then-rec
returns-then-rec c =
    let a = c.args in
    ap said_of (yes_told _ ∙ sym (ask_held (partial a.rec a.payload.now a.marks.now) (sym c.is_sound.ensures ∙ not-false _ c.if-not-is_sound.false-raw) c.if-rec.true _ refl))

pub returns-else-rec : goal.returns-else-rec
returns-else-rec c =
    let a = c.args in
    ap said_of (yes_told _ ∙ ap yes_no c.if-rec.false
    ∙ sym (ask_idle (partial a.rec a.payload.now a.marks.now) (sym c.is_sound.ensures ∙ not-false _ c.if-not-is_sound.false-raw) c.if-rec.false))
