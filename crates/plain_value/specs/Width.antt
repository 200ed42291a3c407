-- Document 01, "Values": the fixed types and their widths.
use Rattle.std.specs.Prelude.{ℕ, List, [], ◌∷◌, Bool, false, cond, ◌||◌, eqb, ltb}

-- t is one of the numbers
abbrev pub among : ℕ → List ℕ → Bool
among t [] = false
among t (x ∷ xs) = eqb t x || among t xs

-- "The widths of the fixed types: 1, 2, 3 have 1; 4, 5 have 2; 6, 7, 10, 19 have 4; 8, 9, 11, 13 have 8; 14 has 16";
-- 0 for every number that is no fixed type
unfoldable pub width_of : ℕ → ℕ
width_of t =
    cond (among t (1 ∷ 2 ∷ 3 ∷ [])) 1
    (cond (among t (4 ∷ 5 ∷ [])) 2
    (cond (among t (6 ∷ 7 ∷ 10 ∷ 19 ∷ [])) 4
    (cond (among t (8 ∷ 9 ∷ 11 ∷ 13 ∷ [])) 8
    (cond (among t (14 ∷ [])) 16 0))))

-- t is a fixed type
abbrev pub fixed : ℕ → Bool
fixed t = ltb 0 (width_of t)
