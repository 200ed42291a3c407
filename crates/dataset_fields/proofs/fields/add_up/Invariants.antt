use lib.Dec.{eqb}
use lib.ListN.{drop}
use mathlib.Core.Path.{◌≡◌}
use Rattle.wire.specs.Lists.{total}
use Rattle.dataset_fields.proofs.fields.add_up.Given as goal

abbrev pub invariant-loop-n : goal.invariant-loop-n
invariant-loop-n l = eqb (total l.lengths) l.bytes ≡ eqb (total (drop l.n-index l.lengths)) l.left
