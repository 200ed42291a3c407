-- Each part between the flags and the payload, read as it was written.
-- Assumes nothing.
use mathlib.Core.Path.{◌≡◌}
use mathlib.Core.List.{List, ◌++◌}
use Prim.Native.Nat.{ℕ, ◌+◌}
use native.Mathlib.Omega.{arith}
use lib.ListN.{length, length-append}

-- each number fits its type, as a value of the code does

-- DataSetClassId

-- the group header

-- the PayloadHeader

-- promoted fields

-- the lengths of the eight parts of a header, one after the other
pub eight_lengths : (b1 b2 b3 b4 b5 b6 b7 b8 : List ℕ) → 0 + length b1 + length b2 + length b3 + length b4 + length b5 + length b6 + length b7 + length b8
    ≡ length (b1 ++ (b2 ++ (b3 ++ (b4 ++ (b5 ++ (b6 ++ (b7 ++ b8)))))))
eight_lengths b1 b2 b3 b4 b5 b6 b7 b8 =
    omega (
      arith,
      length-append b1 (b2 ++ (b3 ++ (b4 ++ (b5 ++ (b6 ++ (b7 ++ b8)))))),
      length-append b2 (b3 ++ (b4 ++ (b5 ++ (b6 ++ (b7 ++ b8))))),
      length-append b3 (b4 ++ (b5 ++ (b6 ++ (b7 ++ b8)))),
      length-append b4 (b5 ++ (b6 ++ (b7 ++ b8))),
      length-append b5 (b6 ++ (b7 ++ b8)),
      length-append b6 (b7 ++ b8),
      length-append b7 b8,
    )
