use Rattle.vector_lines.proofs.Laying.{Laid}
use Rattle.vector_lines.specs.Bytes.{plain_text}
use mathlib.Core.Path.{◌≡◌}
use lib.ListN.{length, drop}
use Rattle.vector_lines.proofs.bytes.put_text.Given as goal

abbrev pub invariant-loop-b : goal.invariant-loop-b
invariant-loop-b l =
    (length l.out ≡ length l.initial.out) × Laid (plain_text l.text) (plain_text (drop l.b-index l.text)) l.initial.out l.at l.out l.next
