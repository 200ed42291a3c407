use Rattle.listing.proofs.Blocks.{Putting}
use Rattle.config.specs.Writers.{lists_in}
use Rattle.walk.specs.Lines.{lines_from}
use lib.ListN.{length}
use Rattle.listing.proofs.block.put_block.Given as goal

abbrev pub invariant-loop-line : goal.invariant-loop-line
invariant-loop-line l = Putting (lists_in l.w) l.s l.initial.out l.initial.cursor l.out l.at l.cursor

abbrev pub decreases-loop-line : goal.decreases-loop-line
decreases-loop-line l = length (lines_from (lists_in l.w) l.s l.cursor)
