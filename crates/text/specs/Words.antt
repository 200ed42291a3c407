-- Text as bytes: where a byte stands, what stands before and after it, how a text begins.
use Rattle.std.specs.Prelude.{Bool, true, false, cond, ◌&&◌, ◌||◌, List, [], ◌∷◌, ℕ, suc, ◌+◌, eqb, take, drop}

-- the place of the first b in a text, or the text's length where there is none
abbrev pub index_of : ℕ → List ℕ → ℕ
index_of b [] = 0
index_of b (x ∷ xs) = cond (eqb x b) 0 (suc (index_of b xs))

-- whether b stands in a text
abbrev pub contains : ℕ → List ℕ → Bool
contains b [] = false
contains b (x ∷ xs) = eqb x b || contains b xs

-- what stands before the first b, and what after it
abbrev pub up_to : ℕ → List ℕ → List ℕ
up_to b t = take (index_of b t) t

abbrev pub past : ℕ → List ℕ → List ℕ
past b t = drop (index_of b t + 1) t

-- whether a text begins with a word
abbrev pub starts_with : List ℕ → List ℕ → Bool
starts_with t [] = true
starts_with [] (w ∷ ws) = false
starts_with (x ∷ xs) (w ∷ ws) = eqb x w && starts_with xs ws
