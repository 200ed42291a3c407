use mathlib.Core.Path.{◌≡◌}
use Prim.Native.Nat.{◌≤◌}
use lib.Seq.{sets}
use lib.ListN.{length}
use Rattle.text.specs.Decimal.{decimal_text}
use Rattle.text.proofs.decimal.store_digits.Given as goal

abbrev pub invariant-loop-m : goal.invariant-loop-m
invariant-loop-m l =
    (l.i ≤ l.k) × ((l.i ≡ length (decimal_text l.m)) × ((length l.out ≡ length l.initial.out) × (sets l.out l.at (decimal_text l.m) ≡ sets l.initial.out l.at (decimal_text l.n))))

abbrev pub decreases-loop-m : goal.decreases-loop-m
decreases-loop-m l = l.m
