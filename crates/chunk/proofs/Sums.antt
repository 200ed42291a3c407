-- Tests of sums that the code computes without wrapping.
-- Assumes nothing.
use Prim.Native.Nat.{ℕ, ◌+◌, ◌-◌, ◌≤◌, ◌<◌}
use mathlib.Core.Path.{◌≡◌, refl, sym, ◌∙◌}
use mathlib.Core.Bool.{Bool, true, false}
use native.Mathlib.Omega.{arith}
use lib.Dec.{ltb}
use borrow.Author.Tests.{ltb-true, ltb-false, lt-ltb, le-ltb}

pub sum_test : (offset n total : ℕ) → n ≤ total → ltb (total - n) offset ≡ ltb total (offset + n)
sum_test offset n total h = go (ltb (total - n) offset) refl
  where
    go : (b : Bool) → ltb (total - n) offset ≡ b → ltb (total - n) offset ≡ ltb total (offset + n)
    go true e = let l : total - n < offset = ltb-true (total - n) offset e in e ∙ sym (lt-ltb total (offset + n) (omega arith))
    go false e = let l : offset ≤ total - n = ltb-false (total - n) offset e in e ∙ sym (le-ltb total (offset + n) (omega arith))

pub over_test : (offset n total : ℕ) → total < n → true ≡ ltb total (offset + n)
over_test offset n total h = sym (lt-ltb total (offset + n) (omega arith))
