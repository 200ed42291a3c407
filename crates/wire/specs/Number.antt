-- Little-endian numbers, over the width w in bytes, and the signed numbers that they stand for.
use Rattle.std.specs.Prelude.{ℕ, zero, suc, ◌+◌, ◌*◌, ◌-◌, ◌/◌, ◌%◌, ◌^◌, ◌<◌, cond, List, [], ◌∷◌, ltb, ℤ, pos, negsuc, get_or}

-- the number of the w bytes from position at, lowest first; a byte past the end counts as 0
abbrev pub le : ℕ → List ℕ → ℕ → ℕ
le zero s at = 0
le (suc w) s at = get_or s at 0 + 256 * le w s (at + 1)

-- the w bytes of a number, lowest first
abbrev pub le_bytes : ℕ → ℕ → List ℕ
le_bytes zero v = []
le_bytes (suc w) v = v % 256 ∷ le_bytes w (v / 256)

-- the signed number that a number of w bytes stands for (two's complement): itself in the lower half of the range;
-- in the upper half the largest is -1, the one below it -2, and so on (`negsuc k` is -(k + 1))
abbrev pub signed : ℕ → ℕ → ℤ
signed w n = cond (ltb n (2 ^ (8 * w - 1))) (pos n) (negsuc (2 ^ (8 * w) - 1 - n))

-- the number of w bytes that stands for a signed number
abbrev pub unsigned : ℕ → ℤ → ℕ
unsigned w (pos n) = n
unsigned w (negsuc k) = 2 ^ (8 * w) - 1 - k

-- a signed number within the range of w bytes
abbrev pub InRange : ℕ → ℤ → Type 0
InRange w (pos n) = n < 2 ^ (8 * w - 1)
InRange w (negsuc n) = n < 2 ^ (8 * w - 1)
