-- Flags as the numbers of their bits, and back.
-- Assumes nothing.
use mathlib.Core.Path.{◌≡◌, refl}
use mathlib.Core.Bool.{Bool, true, false, cond}
use Prim.Native.Nat.{ℕ, zero, suc, ◌≤◌, ◌<◌}
use native.Mathlib.Omega.{arith}
use lib.Dec.{eqb}
use Rattle.wire_writer.specs.Writing.{num, needed}

pub num_bound : (p : Bool) → num p ≤ 1
num_bound true = omega arith
num_bound false = omega arith

pub needed_bound : (e : ℕ) → needed e ≤ 1
needed_bound e = go (eqb e 0)
  where
    go : (b : Bool) → cond b 0 1 ≤ 1
    go true = omega arith
    go false = omega arith

-- a bit that is a flag's number tests as the flag
pub flag_is : (p : Bool) (n : ℕ) → n ≡ num p → eqb n 1 ≡ p
flag_is true n e = rw e
flag_is false n e = rw e

-- a bit is the number of its test
pub num_bit : (n : ℕ) → n < 2 → num (eqb n 1) ≡ n
num_bit zero h = refl
num_bit (suc zero) h = refl
num_bit (suc (suc n)) h = absurd (omega arith)
