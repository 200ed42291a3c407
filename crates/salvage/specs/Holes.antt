-- The holes of a partial (document 02, Req 13): "list its holes as offset and length, in order, each as long as possible".
use Rattle.std.specs.Prelude.{ℕ, zero, suc, ◌+◌, ◌-◌, Bool, cond, not, ◌&&◌, List, [], ◌∷◌, leb, ltb, Option, Some, None}
use Rattle.marks.specs.Offsets.{next_passing}
use Rattle.salvage.specs.declared.holes.Hole.{Hole}

-- where the first hole from i on starts, and where it ends
abbrev pub hole_start : (ℕ → Bool) → ℕ → ℕ → ℕ
hole_start marked n i = next_passing (λ j. not (marked j)) n i

abbrev pub hole_end : (ℕ → Bool) → ℕ → ℕ → ℕ
hole_end marked n i = next_passing marked n (hole_start marked n i)

abbrev pub hole : ℕ → ℕ → Hole
hole start end = record { offset = start; length = end - start }

-- the first hole from i on of n offsets, and where it ends
abbrev pub next_hole : (ℕ → Bool) → ℕ → ℕ → Option (Hole × ℕ)
next_hole marked n i =
    cond (ltb (hole_start marked n i) n)
    (Some (hole (hole_start marked n i) (hole_end marked n i), hole_end marked n i)) None

-- at most k holes from i on
unfoldable pub holes_from : (ℕ → Bool) → ℕ → ℕ → ℕ → List Hole
holes_from marked n zero i = []
holes_from marked n (suc k) i =
    cond (ltb (hole_start marked n i) n)
    (hole (hole_start marked n i) (hole_end marked n i) ∷ holes_from marked n k (hole_end marked n i)) []

-- all holes of n offsets: there are no more than offsets
abbrev pub holes_of : (ℕ → Bool) → ℕ → List Hole
holes_of marked n = holes_from marked n n 0

-- whether offset i lies in a hole
abbrev pub in_hole : Hole → ℕ → Bool
in_hole h i = leb h.offset i && ltb i (h.offset + h.length)
