use mathlib.Core.Path.{refl}
use Rattle.reassembly.specs.Operations.{emptied}
use Rattle.reassembly.proofs.operations.empty.Goals as goal

pub returns : goal.returns
unfolding emptied
returns c p m = record { answer = refl; left = refl }
