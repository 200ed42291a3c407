-- Holes and covered bytes tile the total.
use Rattle.std.specs.Prelude.{ℕ, suc, ◌+◌, ◌≤◌, ◌<◌, Bool, true, false, ◌||◌, List, [], ◌∷◌, ◌≡◌}
use Rattle.salvage.specs.Holes.{in_hole}
use Rattle.salvage.specs.declared.holes.Hole.{Hole}

-- whether offset i lies in one of the holes
abbrev pub in_holes : List Hole → ℕ → Bool
in_holes [] i = false
in_holes (h ∷ hs) i = in_hole h i || in_holes hs i

abbrev pub hole_stop : Hole → ℕ
hole_stop h = h.offset + h.length

-- holes of n offsets, from lo on: "in order, each as long as possible". None is empty, each ends before the next one starts, and an offset
-- that stands right before or right behind one, below n, is marked.
abbrev pub Longest : (ℕ → Bool) → ℕ → ℕ → List Hole → Type 0
Longest marked n lo [] = Unit {0}
Longest marked n lo (h ∷ hs) =
    (lo ≤ h.offset) × (1 ≤ h.length) × (hole_stop h ≤ n) × ((j : ℕ) → suc j ≡ h.offset → marked j ≡ true)
    × (hole_stop h < n → marked (hole_stop h) ≡ true) × Longest marked n (hole_stop h) hs
