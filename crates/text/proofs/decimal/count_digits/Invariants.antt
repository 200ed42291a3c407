use mathlib.Core.Path.{◌≡◌}
use Prim.Native.Nat.{◌≤◌, ◌+◌}
use lib.ListN.{length}
use Rattle.text.specs.Decimal.{decimal_text}
use Rattle.text.proofs.decimal.count_digits.Given as goal

abbrev pub invariant-loop-m : goal.invariant-loop-m
invariant-loop-m l =
    (length (decimal_text l.n) ≤ 20) × (l.k + length (decimal_text l.m) ≡ 1 + length (decimal_text l.n))

abbrev pub decreases-loop-m : goal.decreases-loop-m
decreases-loop-m l = l.m
