use Rattle.listing.specs.Quick.{most_left}
use Rattle.config.specs.Writers.{lists_in}
use Rattle.walk.specs.Lines.{messages_left}
use mathlib.Core.Path.{◌≡◌}
use Prim.Native.Nat.{◌+◌}
use Rattle.listing.proofs.quick.surely_fits.Given as goal

abbrev pub invariant-loop-p : goal.invariant-loop-p
invariant-loop-p l =
    most_left (lists_in l.w) l.s l.l l.c + l.initial.left ≡ most_left (lists_in l.w) l.s l.l l.initial.c + l.left

abbrev pub decreases-loop-p : goal.decreases-loop-p
decreases-loop-p l = messages_left l.l l.c
