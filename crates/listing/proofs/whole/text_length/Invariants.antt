use Rattle.listing.specs.Text.{lines_text}
use Rattle.config.specs.Writers.{lists_in}
use Rattle.walk.specs.Lines.{lines_from}
use lib.ListN.{length}
use mathlib.Core.Path.{◌≡◌}
use Prim.Native.Nat.{◌+◌, ◌≤◌}
use Rattle.listing.proofs.whole.text_length.Given as goal

abbrev pub invariant-loop-line : goal.invariant-loop-line
invariant-loop-line l =
    (l.total ≤ l.room) × (l.total + length (lines_text l.s (lines_from (lists_in l.w) l.s l.cursor)) ≡ length
    (lines_text l.s (lines_from (lists_in l.w) l.s l.initial.cursor)))

abbrev pub decreases-loop-line : goal.decreases-loop-line
decreases-loop-line l = length (lines_from (lists_in l.w) l.s l.cursor)
