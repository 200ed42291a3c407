-- Lower-case hex: two digits a byte, `0` to `9` and `a` to `f`.
use Rattle.std.specs.Prelude.{Bool, true, cond, not, ◌&&◌, List, [], ◌∷◌, ℕ, ◌+◌, ◌*◌, ◌-◌, ◌/◌, ◌%◌, eqb, ltb, length, Option, Some, None}
use Rattle.wire_writer.specs.Store.{room_for, laid}
use Rattle.text.specs.Decimal.{is_digit}

-- the digit of a number below 16
abbrev pub hex_digit : ℕ → ℕ
hex_digit v = cond (ltb v 10) (48 + v) (87 + v)

-- bytes as hex
abbrev pub hex_text : List ℕ → List ℕ
hex_text [] = []
hex_text (b ∷ bs) = hex_digit (b / 16) ∷ hex_digit (b % 16) ∷ hex_text bs

-- the number of a digit, 16 for a byte that is none: an upper-case letter is none
abbrev pub hex_value : ℕ → ℕ
hex_value b = cond (is_digit b) (b - 48) (cond (ltb b 97) 16 (cond (ltb 102 b) 16 (b - 87)))

abbrev pub all_hex : List ℕ → Bool
all_hex [] = true
all_hex (b ∷ bs) = not (eqb (hex_value b) 16) && all_hex bs

-- the bytes that pairs of digits stand for
abbrev pub hex_bytes : List ℕ → List ℕ
hex_bytes [] = []
hex_bytes (a ∷ []) = []
hex_bytes (a ∷ b ∷ s) = (16 * hex_value a + hex_value b) ∷ hex_bytes s

-- the bytes of a text that is hex: an even number of digits
abbrev pub hex_of : List ℕ → Option (List ℕ)
hex_of s = cond (eqb (length s % 2) 1) None (cond (all_hex s) (Some (hex_bytes s)) None)

-- they are stored from a position on, where they fit; the position after them
abbrev pub next_of : List ℕ → ℕ → Option (List ℕ) → Option ℕ
next_of l at (Some b) = Some (cond (room_for l at b) (at + length b) at)
next_of l at None = None

abbrev pub buffer_of : List ℕ → ℕ → Option (List ℕ) → List ℕ
buffer_of l at (Some b) = laid l at b
buffer_of l at None = l

abbrev pub hex_next : List ℕ → ℕ → List ℕ → Option ℕ
hex_next l at s = next_of l at (hex_of s)

abbrev pub hex_after : List ℕ → ℕ → List ℕ → List ℕ
hex_after l at s = buffer_of l at (hex_of s)
