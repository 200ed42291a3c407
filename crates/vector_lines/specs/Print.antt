-- What the printing functions hand to the system, as text.
use Rattle.std.specs.Prelude.{ℕ, cond, List, [], ◌∷◌, ◌++◌, leb, length, Option, Some, None}
use Rattle.text.specs.Decimal.{decimal_text}
use Rattle.text.specs.Hex.{hex_text}
use Rattle.vector_lines.specs.Items.{word_of}

-- a space and a number
abbrev pub number_printed : ℕ → List ℕ
number_printed n = 32 ∷ decimal_text n

-- ` bad` and a refusal's number; then its place
abbrev pub bad_printed : ℕ → List ℕ
bad_printed n = 32 ∷ 98 ∷ 97 ∷ 100 ∷ number_printed n

abbrev pub refused_printed : ℕ → ℕ → List ℕ
refused_printed n place = bad_printed n ++ number_printed place

-- a number, ` -` where it is absent
abbrev pub optional_printed : Option ℕ → List ℕ
optional_printed None = 32 ∷ 45 ∷ []
optional_printed (Some v) = number_printed v

-- a space and bytes in hex, at most 128 of them; of more the space alone
abbrev pub hex_printed : List ℕ → List ℕ
hex_printed s = 32 ∷ cond (leb (length (hex_text s)) 256) (hex_text s) []

-- a space and word k of a list of names
abbrev pub named_printed : List ℕ → ℕ → List ℕ
named_printed names k = 32 ∷ word_of k names
