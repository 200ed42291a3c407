-- The bytes that a word stands for: its items are parted by commas, each a text after `'`, or hex digits, which a decimal and `*` repeat.
use Rattle.std.specs.Prelude.{ℕ, zero, suc, cond, List, [], ◌∷◌, ◌++◌, eqb, ltb, length, drop, get_or, Option, Some, None}
use Rattle.text.specs.Words.{up_to}
use Rattle.text.specs.Hex.{hex_of}
use Rattle.text.specs.Decimal.{decimal_at}
use Rattle.vector_lines.specs.Items.{after_item}

-- the byte that a byte of a text stands for: `~` a tab, `|` a newline, `_` a space, any other itself
abbrev pub plain_byte : ℕ → ℕ
plain_byte b = cond (eqb b 126) 9 (cond (eqb b 124) 10 (cond (eqb b 95) 32 b))

abbrev pub plain_text : List ℕ → List ℕ
plain_text [] = []
plain_text (b ∷ bs) = plain_byte b ∷ plain_text bs

-- none where digits are no hex
abbrev pub hex_or : Option (List ℕ) → List ℕ
hex_or (Some b) = b
hex_or None = []

abbrev pub times : ℕ → List ℕ → List ℕ
times zero b = []
times (suc n) b = b ++ times n b

-- hex digits, repeated as a decimal before them says
abbrev pub repeated_bytes : List ℕ → Option (ℕ × ℕ) → List ℕ
repeated_bytes s (Some (n, start)) = times n (hex_or (hex_of (drop start s)))
repeated_bytes s None = times 1 (hex_or (hex_of s))

abbrev pub item_bytes : List ℕ → List ℕ
item_bytes s = cond (eqb (get_or s 0 0) 39) (plain_text (drop 1 s)) (repeated_bytes s (decimal_at 65536 42 s 0))

-- the items from a position on; so many are looked at
abbrev pub word_from : ℕ → List ℕ → ℕ → List ℕ
word_from zero s at = []
word_from (suc n) s at = cond (ltb at (length s)) (item_bytes (up_to 44 (drop at s)) ++ word_from n s (after_item 44 s at)) []

abbrev pub word_bytes : List ℕ → List ℕ
word_bytes s = word_from (length s) s 0
