use Rattle.std.proofs.Common.{◌≡◌, length}
use Rattle.listing.specs.Text.{lines_text}
use Rattle.config.specs.Writers.{lists_in}
use Rattle.walk.specs.Lines.{lines_from}
use Rattle.uadp_list.proofs.print_lines.Given as goal

abbrev pub invariant-loop-text : goal.invariant-loop-text
invariant-loop-text g l = length l.text ≡ 65536

abbrev pub decreases-loop-text : goal.decreases-loop-text
decreases-loop-text g l = length (lines_text l.s (lines_from (lists_in l.w) l.s l.cursor))
