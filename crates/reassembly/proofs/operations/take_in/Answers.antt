use Rattle.reassembly.specs.Operations.{step_of}
use Rattle.reassembly.specs.declared.operations.Outcome.{Outcome}
use mathlib.Core.Path.{ap, ◌∙◌}
use Rattle.reassembly.proofs.CallLaws.{took}
use Rattle.reassembly.specs.Record.{partial}
use Rattle.reassembly.proofs.operations.take_in.Goals as goal

pub returns : goal.returns
returns c =
    let a = c.args in
    let s = partial a.rec a.payload.now a.marks.now in
    took _ s a.datagram.now a.sizes.now (ap (λ (o : Outcome). step_of o c.taken-made.new.payload c.taken-made.new.marks) c.outcome_of.ensures ∙ c.taken-made.ensures)
