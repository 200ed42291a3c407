use mathlib.Core.Path.{◌≡◌}
use Rattle.vector_lines.specs.Items.{word_start}
use Rattle.vector_lines.proofs.lines.start.Given as goal

abbrev pub invariant-loop : goal.invariant-loop
invariant-loop l = l.at ≡ word_start l.counter l.line
