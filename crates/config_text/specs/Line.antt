-- A line of the configuration text, document 01: "Tab-parted lines, each ended by a newline, decimals without leading zeros. A line
-- begins with one of the fixed words: `writer`, id (0 to 65,535), size (`-` or 1 to 65,535); `field`, a fixed type's number, for the
-- writer above."
use Rattle.std.specs.Prelude.{Bool, false, cond, List, [], ◌∷◌, ℕ, ◌+◌, eqb, drop, Option, Some, None}
use Rattle.text.specs.Words.{index_of, contains, up_to, past, starts_with}
use Rattle.text.specs.Decimal.{decimal_of, ended_by}
use Rattle.plain_value.specs.Width.{fixed}
use Rattle.config_text.specs.declared.line.Line.{Line}
use Rattle.config_text.specs.declared.line.Line.TheVariants.{Writer, Field}

-- what a line says: a writer with its id and its size (0 for `-`), a field with its type, or nothing that is permitted
pub data Says : Type 0 where
  writer : ℕ → ℕ → Says
  field : ℕ → Says
  bad : Says

-- a tab, and a newline
abbrev pub tab_byte : ℕ
tab_byte = 9

abbrev pub newline : ℕ
newline = 10

-- a size: `-` is none, which 0 stands for; else 1 to 65,535
abbrev pub is_dash : List ℕ → Bool
is_dash [] = false
is_dash (b ∷ []) = eqb b 45
is_dash (b ∷ c ∷ cs) = false

abbrev pub positive : Option ℕ → Option ℕ
positive (Some n) = cond (eqb n 0) None (Some n)
positive None = None

abbrev pub size_of : List ℕ → Option ℕ
size_of p = cond (is_dash p) (Some 0) (positive (decimal_of 65535 p))

-- what follows `writer` and its tab: an id, a tab, a size
abbrev pub writer_of : Option ℕ → Option ℕ → Says
writer_of (Some id) (Some size) = writer id size
writer_of (Some id) None = bad
writer_of None size = bad

abbrev pub writer_rest : List ℕ → Says
writer_rest r = cond (contains tab_byte r) (writer_of (decimal_of 65535 (up_to tab_byte r)) (size_of (past tab_byte r))) bad

-- what follows `field` and its tab: a fixed type's number
abbrev pub field_of : Option ℕ → Says
field_of (Some t) = cond (fixed t) (field t) bad
field_of None = bad

abbrev pub field_rest : List ℕ → Says
field_rest r = field_of (decimal_of 255 r)

-- the fixed words, each with its tab: `writer`, `field`
abbrev pub writer_start : List ℕ
writer_start = 119 ∷ 114 ∷ 105 ∷ 116 ∷ 101 ∷ 114 ∷ tab_byte ∷ []

abbrev pub field_start : List ℕ
field_start = 102 ∷ 105 ∷ 101 ∷ 108 ∷ 100 ∷ tab_byte ∷ []

-- a line, without its newline
abbrev pub says_of : List ℕ → Says
says_of line =
    cond (starts_with line writer_start) (writer_rest (drop 7 line)) (cond (starts_with line field_start) (field_rest (drop 6 line)) bad)

-- as the code answers it, with the position after the newline
abbrev pub as_line : Says → ℕ → Option (Line × ℕ)
as_line (writer id size) next = Some (Writer id size, next)
as_line (field t) next = Some (Field t, next)
as_line bad next = None

-- what a line of the code says
abbrev pub said : Line → Says
said (Writer id size) = writer id size
said (Field t) = field t

-- a text up to its first newline, read as `f` says; without newline it is no line
abbrev pub line_by : (List ℕ → Says) → List ℕ → ℕ → Option (Line × ℕ)
line_by f t at = cond (contains newline t) (as_line (f (up_to newline t)) (at + index_of newline t + 1)) None

-- what is left of a line at a position, and the line that begins there
abbrev pub rest_at : (List ℕ → Says) → List ℕ → ℕ → Option (Line × ℕ)
rest_at f s at = line_by f (drop at s) at

abbrev pub line_from : List ℕ → ℕ → Option (Line × ℕ)
line_from s at = rest_at says_of s at

-- a size up to the newline
abbrev pub size_at : List ℕ → ℕ → Option (ℕ × ℕ)
size_at s at = ended_by newline size_of (drop at s) at
