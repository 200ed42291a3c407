use mathlib.Core.Path.{◌≡◌}
use Prim.Native.Nat.{◌≤◌, ◌-◌}
use lib.ListN.{length, drop}
use Rattle.text.proofs.Digits.{scan}
use Rattle.text.specs.Decimal.{digits_at}
use Rattle.text.proofs.decimal.read_digits.Given as goal

abbrev pub invariant-loop-i : goal.invariant-loop-i
invariant-loop-i l = (l.n ≤ l.limit) × (scan l.limit l.end l.n l.i (drop l.i l.s) ≡ digits_at l.limit l.end l.s l.at)

abbrev pub decreases-loop-i : goal.decreases-loop-i
decreases-loop-i l = length l.s - l.i
