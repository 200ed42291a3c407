-- The distance is the one that document 01 means: counted on from the number after the last one, modulo 65,536, it reaches the received number.
-- Assumes nothing.
use mathlib.Core.Path.{◌≡◌}
use Prim.Native.Nat.{ℕ, ◌+◌, ◌%◌, ◌≤◌, ◌<◌}
use native.Mathlib.Omega.{arith}
use Rattle.sequence.specs.Newness.{distance_of}

pub distance_reaches : (last received : ℕ) → last ≤ 65535 → (last + 1 + distance_of last received) % 65536 ≡ received % 65536
distance_reaches last received h = omega arith

pub distance_below : (last received : ℕ) → distance_of last received < 65536
distance_below last received = omega arith
