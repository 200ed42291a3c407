-- What the code's types say of lent slices: each element fits.
-- Assumes nothing.
use Prim.Native.Nat.{ℕ}
use mathlib.Core.List.{List}
use native.Mathlib.Omega.{arith}
use lib.ListN.{get_or}
use mir.Syntax.{w8, w16}
use mir.Val.{Fits}
use Rattle.wire_writer.specs.Fits.{Bytes, Numbers}

pub bytes : (s : List ℕ) → ((i : ℕ) → Fits w8 (get_or s i 0)) → Bytes s
bytes s h i = omega (arith, h i)

pub numbers : (xs : List ℕ) → ((i : ℕ) → Fits w16 (get_or xs i 0)) → Numbers xs
numbers xs h i = omega (arith, h i)
