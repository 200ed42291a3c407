-- Offsets that pass a test.
use Rattle.std.specs.Prelude.{ℕ, zero, suc, ◌+◌, ◌-◌, ◌≤◌, ◌<◌, ◌≡◌, Bool, true, false, cond, ◌||◌, not, ◌&&◌, ltb, leb}
use Rattle.wire.specs.Answer.{bit}

-- whether some i below n passes the test
abbrev pub any_below : ℕ → (ℕ → Bool) → Bool
any_below zero f = false
any_below (suc n) f = f n || any_below n f

-- whether some i from start up to end passes the test
abbrev pub any_from : ℕ → ℕ → (ℕ → Bool) → Bool
any_from start end f = any_below end (λ i. leb start i && f i)

-- whether every i below n passes the test: none fails it
abbrev pub all_below : ℕ → (ℕ → Bool) → Bool
all_below n f = not (any_below n (λ i. not (f i)))

-- how many i below n pass the test
abbrev pub count_below : ℕ → (ℕ → Bool) → ℕ
count_below zero f = 0
count_below (suc n) f = cond (f n) 1 0 + count_below n f

-- how many of the n offsets from i on pass the test
unfoldable pub count_from : (ℕ → Bool) → ℕ → ℕ → ℕ
count_from f i n = count_below n (λ j. f (i + j))

-- the offsets from start up to end
abbrev pub in_range : ℕ → ℕ → ℕ → Bool
in_range start end i = leb start i && ltb i end

-- the offsets from start up to end that pass the test
abbrev pub in_range_and : (ℕ → Bool) → ℕ → ℕ → ℕ → Bool
in_range_and f start end i = in_range start end i && f i

-- a test that every offset passes
abbrev pub always : ℕ → Bool
always i = true

-- the first of the k offsets from i on that passes the test; i + k where none does
unfoldable pub first_passing : (ℕ → Bool) → ℕ → ℕ → ℕ
first_passing f zero i = i
first_passing f (suc k) i = cond (f i) i (first_passing f k (i + 1))

-- the first offset from i on and below n that passes the test; n where none does
abbrev pub next_passing : (ℕ → Bool) → ℕ → ℕ → ℕ
next_passing f n i = first_passing f (n - i) i

-- whether a test's answer is the wanted one
abbrev pub wanted : Bool → Bool → Bool
wanted true b = b
wanted false b = not b

-- the offsets from i on, so many of them, as bits of a number: the j-th is set where the j-th of them passes the test, and no further one
abbrev pub Looked : (ℕ → Bool) → ℕ → ℕ → ℕ → Type 0
Looked f i told bits = (1 ≤ told) × ((j : ℕ) → j < told → bit j bits ≡ f (i + j)) × ((j : ℕ) → told ≤ j → bit j bits ≡ false)
