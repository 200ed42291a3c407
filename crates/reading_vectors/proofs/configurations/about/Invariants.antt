use Rattle.std.proofs.Common.{◌-◌, ◌≤◌, length}
use Rattle.reading_vectors.proofs.configurations.about.Given as goal

abbrev pub invariant-loop-at : goal.invariant-loop-at
invariant-loop-at g l = l.at ≤ length l.asked

abbrev pub decreases-loop-at : goal.decreases-loop-at
decreases-loop-at g l = length l.asked - l.at
