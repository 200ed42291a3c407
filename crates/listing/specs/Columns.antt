-- The parts of a line: words, decimals, hex; "tab-parted", "every line ended by a newline".
use Rattle.std.specs.Prelude.{ℕ, ◌+◌, ◌≤◌, ◌≡◌, List, [], ◌∷◌, length, Option, Some, None}
use Rattle.std.proofs.lemmas.List.Edits.{sets}
use Rattle.value.specs.declared.Shape.{Shape}
use Rattle.text.specs.Decimal.{decimal_text}

-- a part after the first: a tab and its text
abbrev pub tabbed : List ℕ → List ℕ
tabbed t = 9 ∷ t

abbrev pub line_end : List ℕ
line_end = 10 ∷ []

-- "An absent item is `-`"
abbrev pub dash : List ℕ
dash = 45 ∷ []

abbrev pub optional_text : Option ℕ → List ℕ
optional_text None = dash
optional_text (Some v) = decimal_text v

-- "element count or `-` for a scalar, -1 for a null array"
abbrev pub shape_text : Shape → List ℕ
shape_text Shape.Scalar = dash
shape_text Shape.NullArray = 45 ∷ 49 ∷ []
shape_text (Shape.Array n) = decimal_text n
shape_text (Shape.Matrix n d) = decimal_text n

-- what putting a part into a buffer did: its text t, of at most `most` bytes, stands from position at on, every other byte is as it was,
-- and next is the position after it
pub record Put (most : ℕ) (t entry : List ℕ) (at : ℕ) (exit : List ℕ) (next : ℕ) : Type 0 where
  pub stored : exit ≡ sets entry at t
  pub after : next ≡ at + length t
  pub near : next ≤ at + most
