-- What storing into a lent buffer leaves there.
use Rattle.std.specs.Prelude.{ℕ, ◌+◌, ◌≡◌, Bool, cond, List, leb, length}
use Rattle.std.proofs.lemmas.List.Edits.{sets}

-- whether the bytes b fit into the buffer l from position at on
abbrev pub room_for : List ℕ → ℕ → List ℕ → Bool
room_for l at b = leb (at + length b) (length l)

-- the buffer l after the bytes b were stored from position at on: where they do not all fit, none is stored.
-- (`sets l at b` is l with its elements from at on replaced by those of b; every other byte is l's.)
abbrev pub laid : List ℕ → ℕ → List ℕ → List ℕ
laid l at b = cond (room_for l at b) (sets l at b) l

-- bytes b stored from position at on, with the position after them; where they do not fit, the buffer and the position
-- stay as they were
pub record Stored (b entry : List ℕ) (at : ℕ) (exit : List ℕ) (next : ℕ) : Type 0 where
  pub stored : exit ≡ laid entry at b
  pub after : next ≡ cond (room_for entry at b) (at + length b) at
