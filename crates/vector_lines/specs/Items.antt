-- The items of a text, each ended by a byte or by the text's end.
use Rattle.std.specs.Prelude.{List, ℕ, zero, suc, ◌+◌, ◌%◌, min, cond, eqb, ltb, length, drop, get_or, Option, Some, None}
use Rattle.text.specs.Words.{index_of, up_to}
use Rattle.text.specs.Decimal.{decimal_at}

-- the position after the item from a position on and the byte b that ends it, or the text's end
abbrev pub after_item : ℕ → List ℕ → ℕ → ℕ
after_item b s at = min (at + index_of b (drop at s) + 1) (length s)

-- where word k of a line starts; words are parted by single spaces
abbrev pub word_start : ℕ → List ℕ → ℕ
word_start zero s = 0
word_start (suc k) s = after_item 32 s (word_start k s)

abbrev pub word_of : ℕ → List ℕ → List ℕ
word_of k s = up_to 32 (drop (word_start k s) s)

-- all of a line; where it begins with `A` to `Z`, what stands after its first `;`
abbrev pub shown_of : List ℕ → List ℕ
shown_of s = cond (ltb (get_or s 0 0) 65) s (cond (ltb 90 (get_or s 0 0)) s (drop (after_item 59 s 0) s))

-- the number of a decimal, 0 of none
abbrev pub number_or0 : Option (ℕ × ℕ) → ℕ
number_or0 (Some (n, next)) = n
number_or0 None = 0

-- the decimal from a position up to the byte b, 0 where there is none
abbrev pub decimal_number_at : ℕ → List ℕ → ℕ → ℕ
decimal_number_at b s at = number_or0 (decimal_at 18446744073709551615 b s at)

-- the decimal behind the first item, from a position on, that begins with the byte b; so many items are looked at
abbrev pub lettered_from : ℕ → ℕ → List ℕ → ℕ → Option (ℕ × ℕ)
lettered_from zero b s at = None
lettered_from (suc n) b s at =
    cond (ltb at (length s))
    (cond (eqb (get_or s at 0) b) (decimal_at 18446744073709551615 44 s (at + 1)) (lettered_from n b s (after_item 44 s at)))
    None

-- the number that stands after a letter in a word, whose items are parted by commas
abbrev pub lettered_in : ℕ → List ℕ → Option (ℕ × ℕ)
lettered_in b s = lettered_from (length s) b s 0

-- the lowest two bytes of a decimal's number; absent where there is none
abbrev pub low16_of : Option (ℕ × ℕ) → Option ℕ
low16_of (Some (n, next)) = Some (n % 65536)
low16_of None = None
