-- "Decimals without leading zeros", as bytes.
use Rattle.std.specs.Prelude.{Bool, true, false, cond, ◌&&◌, not, List, [], ◌∷◌, ◌++◌, ℕ, zero, suc, ◌+◌, ◌*◌, ◌-◌, ◌/◌, ◌%◌, eqb, ltb, leb, drop, Option, Some, None}
use Rattle.text.specs.Words.{index_of, contains, up_to}

-- a digit, `0` to `9`
abbrev pub is_digit : ℕ → Bool
is_digit b = leb 48 b && leb b 57

abbrev pub all_digits : List ℕ → Bool
all_digits [] = true
all_digits (b ∷ bs) = is_digit b && all_digits bs

-- the number that digits stand for, read on from the number n
abbrev pub value_from : ℕ → List ℕ → ℕ
value_from n [] = n
value_from n (d ∷ ds) = value_from (n * 10 + (d - 48)) ds

abbrev pub decimal_value_of : List ℕ → ℕ
decimal_value_of t = value_from 0 t

-- without a leading zero: one byte, or several of which the first is not `0`
abbrev pub no_leading_zero : List ℕ → Bool
no_leading_zero [] = false
no_leading_zero (b ∷ []) = true
no_leading_zero (b ∷ c ∷ cs) = not (eqb b 48)

-- the number of a text of digits, read on from n, where it is at most the limit
abbrev pub digits_from : ℕ → ℕ → List ℕ → Option ℕ
digits_from limit n t = cond (all_digits t) (cond (leb (value_from n t) limit) (Some (value_from n t)) None) None

abbrev pub digits_of : ℕ → List ℕ → Option ℕ
digits_of limit t = digits_from limit 0 t

-- the number of a text that is a decimal without leading zeros
abbrev pub decimal_of : ℕ → List ℕ → Option ℕ
decimal_of limit t = cond (no_leading_zero t) (digits_of limit t) None

-- a number with the position after it
abbrev pub placed : Option ℕ → ℕ → Option (ℕ × ℕ)
placed (Some n) next = Some (n, next)
placed None next = None

-- a text's part before the byte `end`, read as `f` says, with the position after that byte; none where there is no such byte
abbrev pub ended_by : ℕ → (List ℕ → Option ℕ) → List ℕ → ℕ → Option (ℕ × ℕ)
ended_by end f t at = cond (contains end t) (placed (f (up_to end t)) (at + index_of end t + 1)) None

-- the digits from a position up to the byte `end`
abbrev pub digits_at : ℕ → ℕ → List ℕ → ℕ → Option (ℕ × ℕ)
digits_at limit end s at = ended_by end (digits_of limit) (drop at s) at

-- the decimal from a position up to the byte `end`
abbrev pub decimal_at : ℕ → ℕ → List ℕ → ℕ → Option (ℕ × ℕ)
decimal_at limit end s at = ended_by end (decimal_of limit) (drop at s) at

-- the digits of n: its last digit stands after those of the tenth of it. (k bounds their number.)
abbrev pub digits_text : ℕ → ℕ → List ℕ
digits_text zero n = []
digits_text (suc k) n = cond (ltb n 10) ((48 + n) ∷ []) (digits_text k (n / 10) ++ ((48 + n % 10) ∷ []))

-- a number as a decimal without leading zeros; it never has more than n + 1 digits
unfoldable pub decimal_text : ℕ → List ℕ
decimal_text n = digits_text (suc n) n
