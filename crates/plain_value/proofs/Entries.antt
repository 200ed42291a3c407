-- The widths as a table, from the number of a built-in type to its width: an entry, the entry that is kept while all are passed, and past them.
-- Assumes nothing.
use mathlib.Core.Path.{◌≡◌, refl, ◌∙◌, ap}
use mathlib.Core.Bool.{Bool, true, false, ◌&&◌}
use mathlib.Core.List.{List}
use Prim.Native.Nat.{ℕ, ◌<◌, ◌≤◌}
use native.Mathlib.Omega.{arith}
use borrow.Author.Tests.{leb-true, leb-false}
use lib.ListN.{length, get_or}
use lib.Dec.{T, eqb, leb, eqb→eq, leb→le}
use Rattle.wire.proofs.Table.{every, at, and_left, and_right}
use Rattle.plain_value.specs.Width.{width_of}
use Rattle.plain_value.proofs.Widths.{past}

-- an entry x at the place k is the width of type k, and at most 16
unfoldable pub right : ℕ → ℕ → Bool
right k x = eqb x (width_of k) && leb x 16

right_at : (k x : ℕ) → T (right k x) → (x ≡ width_of k) × (x ≤ 16)
unfolding right
right_at k x p = (eqb→eq x (width_of k) (and_left (eqb x (width_of k)) (leb x 16) p), leb→le x 16 (and_right (eqb x (width_of k)) (leb x 16) p))

pub entry : (xs : List ℕ) → T (every right 0 xs) → (t : ℕ) → t < length xs → (get_or xs t 0 ≡ width_of t) × (get_or xs t 0 ≤ 16)
entry xs r t h = right_at t (get_or xs t 0) (at right xs r t h)

-- the entry that is kept while all are passed
pub kept : (xs : List ℕ) → T (every right 0 xs) → T (leb 26 (length xs)) → (t i w : ℕ) → i ≡ t → i < 26 → w ≡ get_or xs i 0 → (w ≡ width_of t) × (w ≤ 16)
kept xs r n t i w e h q =
    let x = entry xs r i (omega (arith, h, leb→le 26 (length xs) n)) in
    (q ∙ x.0 ∙ ap width_of e, omega (arith, q, x.1))

-- and none past them
pub kept_all : (t w : ℕ) → (t < 26 → w ≡ width_of t) → (26 ≤ t → w ≡ 0) → w ≡ width_of t
kept_all t w inside outside = go (leb 26 t) refl
  where
    go : (b : Bool) → leb 26 t ≡ b → w ≡ width_of t
    go true e = outside (leb-true 26 t e) ∙ past t (omega (arith, leb-true 26 t e))
    go false e = inside (leb-false 26 t e)
