use mathlib.Core.Path.{◌≡◌}
use lib.ListN.{drop}
use Rattle.dataset_message.specs.Writer.{missing_refusal}
use Rattle.dataset_message.proofs.given.missing.Given as goal

abbrev pub invariant-loop-t : goal.invariant-loop-t
invariant-loop-t l = missing_refusal l.rest l.padding ≡ missing_refusal (drop l.t-index l.rest) l.left
