-- The sizes of parts that stand one after the other: the header and the datagram.
-- Assumes nothing.
use mathlib.Core.Path.{◌≡◌, refl}
use mathlib.Core.List.{List, ◌++◌}
use Prim.Native.Nat.{ℕ, ◌+◌}
use lib.ListN.{length}
use Rattle.wire_writer.proofs.Parts.{add_sizes}

pub payload_sized : (header payload : List ℕ) {a : ℕ} → a ≡ length header → a + length payload ≡ length (header ++ payload)
payload_sized header payload p = add_sizes header payload p refl
