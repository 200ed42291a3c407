-- How long a header is.
use mathlib.Core.Path.{◌≡◌, refl}
use mathlib.Core.Bool.{Bool, true, false, cond}
use mathlib.Core.List.{[], List, ◌++◌}
use Prim.Native.Nat.{ℕ, ◌+◌}
use lib.Dec.{eqb}
use lib.ListN.{length, length-append}
use Rattle.wire.specs.Number.{le_bytes}
use Rattle.wire_writer.specs.Writing.{needed, byte_bytes}
use native.Mathlib.Omega.{arith}
use Rattle.dataset_header.specs.declared.header.Header.{Header}
use Rattle.dataset_header.specs.Flags.{flags1_of, flags2_of}

byte_length : (e : ℕ) → length (byte_bytes e) ≡ needed e
byte_length e = go (eqb e 0)
  where
    go : (b : Bool) → length (cond b [] (le_bytes 1 e)) ≡ cond b 0 1
    go true = refl
    go false = refl

pub header_length : (h : Header) (a b c d e g : List ℕ)
    → length ((le_bytes 1 (flags1_of h) ++ byte_bytes (flags2_of h)) ++ ((a ++ (b ++ c)) ++ (d ++ (e ++ g))))
    ≡ 1 + needed (flags2_of h) + (length a + (length b + length c) + (length d + (length e + length g)))
header_length h a b c d e g =
    simp (length-append, byte_length) (omega arith)
