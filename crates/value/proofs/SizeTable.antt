-- The sizes of a Variant by its first byte as a table, from the byte to its size.
-- Assumes nothing.
use mathlib.Core.Path.{◌≡◌}
use mathlib.Core.Bool.{Bool, ◌&&◌}
use mathlib.Core.List.{List}
use Prim.Native.Nat.{ℕ, ◌<◌, ◌≤◌}
use lib.ListN.{length, get_or}
use lib.Dec.{T, eqb, leb, eqb→eq, leb→le}
use Rattle.wire.proofs.Table.{every, at, and_left, and_right}
use Rattle.value.specs.Quick.{scalar_size}

-- an entry x at the place b is the size by the first byte b, and at most 17
unfoldable pub sized : ℕ → ℕ → Bool
sized b x = eqb x (scalar_size b) && leb x 17

sized_at : (b x : ℕ) → T (sized b x) → (x ≡ scalar_size b) × (x ≤ 17)
unfolding sized
sized_at b x p = (eqb→eq x (scalar_size b) (and_left (eqb x (scalar_size b)) (leb x 17) p), leb→le x 17 (and_right (eqb x (scalar_size b)) (leb x 17) p))

pub size_entry : (xs : List ℕ) → T (every sized 0 xs) → (b : ℕ) → b < length xs → (get_or xs b 0 ≡ scalar_size b) × (get_or xs b 0 ≤ 17)
size_entry xs r b h = sized_at b (get_or xs b 0) (at sized xs r b h)
