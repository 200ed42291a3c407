-- Lists of numbers as bytes, 2 bytes each: configured numbers, and the lengths of several messages (document 01, "Payload").
use Rattle.std.specs.Prelude.{ℕ, ◌*◌, ◌+◌, Bool, true, ◌&&◌, List, [], ◌∷◌, eqb, length, take}
use Rattle.wire.specs.Constants.{MOST_WRITERS}
use Rattle.wire.specs.Number.{le}

-- whether bytes are these numbers, 2 bytes each
abbrev pub agree : List ℕ → List ℕ → ℕ → Bool
agree [] bytes at = true
agree (x ∷ xs) bytes at = eqb (le 2 bytes at) x && agree xs bytes (at + 2)

unfoldable pub same_numbers : List ℕ → List ℕ → Bool
same_numbers bytes xs = eqb (length bytes) (2 * length xs) && agree xs bytes 0

-- the configured writers are at most 16: their sizes, 0 for none
abbrev pub configured_sizes : List ℕ → List ℕ
configured_sizes sizes = take MOST_WRITERS sizes
