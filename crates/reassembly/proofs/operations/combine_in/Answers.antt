use Rattle.reassembly.specs.Operations.{step_of}
use Rattle.reassembly.specs.declared.operations.Outcome.{Outcome}
use mathlib.Core.Path.{ap, ◌∙◌}
use Rattle.reassembly.proofs.CallLaws.{joined}
use Rattle.reassembly.specs.Record.{partial}
use Rattle.reassembly.proofs.operations.combine_in.Goals as goal

pub returns : goal.returns
returns c =
    let a = c.args in
    let s = partial a.rec a.payload.now a.marks.now in
    let f = partial a.source a.from.now a.from_marks.now in
    joined _ s f (ap (λ (o : Outcome). step_of o c.combined-made.new.payload c.combined-made.new.marks) c.outcome_of.ensures ∙ c.combined-made.ensures)
