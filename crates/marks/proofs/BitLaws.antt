-- Bits of a byte, one after another: bit 0 is the remainder by 2, and the others are those of the half. Assumes nothing.
use Prim.Native.Nat.{ℕ, zero, suc, ◌+◌, ◌*◌, ◌/◌, ◌%◌, ◌^◌, ◌<◌, max}
use mathlib.Core.Path.{◌≡◌, refl, sym, ap, ap₂, ◌∙◌}
use mathlib.Core.Bool.{Bool, true, false, cond, ◌&&◌, ◌||◌}
use native.Mathlib.Nat.{not-suc-le-zero, pow-suc, max-eq_right, max-zero}
use native.Mathlib.Omega.{arith}
use lib.Bits.{bit_or, bit_xor, or_step, or_zero_l, or_zero_r, or_add_and, xor_add_and, xor_self, and_le_l, and_le_r, shifted_half, shifted_even}
use lib.Count.{ones, ones_step, ones-le}
use lib.Dec.{eqb}
use lib.Pow.{shr-shr, shl_exact}
use borrow.Author.Tests.{eqb-true, eqb-false, eq-eqb, ne_eqb}
use Rattle.wire.specs.Answer.{bit}
use Rattle.marks.specs.Offsets.{count_below}
use Rattle.marks.specs.Marks.{with_bit}
use Rattle.wire.proofs.Cases.{by_bool, by_eq}
use Rattle.marks.proofs.OffsetLaws.{count_first}

abbrev pub digit : ℕ → ℕ → Bool
digit zero b = eqb (b % 2) 1
digit (suc k) b = digit k (b / 2)

abbrev pub with_digit : ℕ → ℕ → ℕ
with_digit zero b = b / 2 * 2 + 1
with_digit (suc k) b = with_digit k (b / 2) * 2 + b % 2

halved_digit : (k b : ℕ) → eqb (b / 2 ^ k % 2) 1 ≡ digit k b
halved_digit zero b = let e : b / 1 ≡ b = omega arith in rw e
halved_digit (suc k) b =
    let e : b / 2 ^ suc k ≡ b / 2 / 2 ^ k = ap (λ (n : ℕ). b / 2 ^ n) (sym (one_add k)) ∙ sym (shr-shr b 1 k) in
    rw e (halved_digit k (b / 2))
  where
    one_add : (k : ℕ) → 1 + k ≡ suc k
    one_add k = omega arith

pub bit_digit : (k b : ℕ) → bit k b ≡ digit k b
bit_digit zero b = refl
bit_digit (suc k) b = halved_digit (suc k) b

-- as the code tells a bit
pub bit_half : (k b : ℕ) → eqb (b / 2 ^ k % 2) 1 ≡ bit k b
bit_half k b = halved_digit k b ∙ sym (bit_digit k b)

with_digit_lem : (k b : ℕ) → with_bit k b ≡ with_digit k b
with_digit_lem zero b =
    by_bool _ (eqb (b % 2) 1) (λ t. let h = eqb-true (b % 2) 1 t in rw t (omega arith)) (λ t. let h = eqb-false (b % 2) 1 t in rw t (omega arith))
with_digit_lem (suc k) b =
    let ih = with_digit_lem k (b / 2) in
    by_bool _ (digit k (b / 2))
    (λ t. let h : b / 2 ≡ with_digit k (b / 2) = rw (bit_digit k (b / 2), t) at ih in rw (bit_digit (suc k) b, t) (omega arith))
    (λ t. let h : b / 2 + 2 ^ k ≡ with_digit k (b / 2) = rw (bit_digit k (b / 2), t) at ih in rw (bit_digit (suc k) b, t, pow-suc 2 k) (omega arith))

pub digit_none : (k : ℕ) → digit k 0 ≡ false
digit_none zero = refl
digit_none (suc k) = digit_none k

digit_same : (k b : ℕ) → digit k (with_digit k b) ≡ true
digit_same zero b = let e : (b / 2 * 2 + 1) % 2 ≡ 1 = omega arith in rw e
digit_same (suc k) b =
    let e : (with_digit k (b / 2) * 2 + b % 2) / 2 ≡ with_digit k (b / 2) = omega arith in rw e (digit_same k (b / 2))

digit_other : (k j b : ℕ) → (j ≡ k → ⊥) → digit j (with_digit k b) ≡ digit j b
digit_other zero zero b ne = absurd (ne refl)
digit_other zero (suc j) b ne = let e : (b / 2 * 2 + 1) / 2 ≡ b / 2 = omega arith in rw e
digit_other (suc k) zero b ne = let e : (with_digit k (b / 2) * 2 + b % 2) % 2 ≡ b % 2 = omega arith in rw e
digit_other (suc k) (suc j) b ne =
    let e : (with_digit k (b / 2) * 2 + b % 2) / 2 ≡ with_digit k (b / 2) = omega arith in
    rw e (digit_other k j (b / 2) (λ q. ne (ap suc q)))

pub bit_none : (k : ℕ) → bit k 0 ≡ false
bit_none k = bit_digit k 0 ∙ digit_none k

pub bit_same : (k b : ℕ) → bit k (with_bit k b) ≡ true
bit_same k b = bit_digit k (with_bit k b) ∙ ap (digit k) (with_digit_lem k b) ∙ digit_same k b

pub bit_other : (k j b : ℕ) → (j ≡ k → ⊥) → bit j (with_bit k b) ≡ bit j b
bit_other k j b ne = bit_digit j (with_bit k b) ∙ ap (digit j) (with_digit_lem k b) ∙ digit_other k j b ne ∙ sym (bit_digit j b)

pub bit_again : (k b : ℕ) → bit k b ≡ true → with_bit k b ≡ b
bit_again k b e = rw e

-- ---- the code sets a bit by an or with a shifted 1
or_digit : (k b : ℕ) → bit_or b (1 * 2 ^ k) ≡ with_digit k b
or_digit zero b = or_step b 1 ∙ ap₂ (λ (x y : ℕ). x * 2 + y) (or_zero_r (b / 2)) (max-eq_right {n = b % 2} {m = 1} (omega arith))
or_digit (suc k) b =
    or_step b (1 * 2 ^ suc k)
    ∙ ap₂ (λ (x y : ℕ). x * 2 + y) (ap (bit_or (b / 2)) (shifted_half 1 k) ∙ or_digit k (b / 2)) (ap (max (b % 2)) (shifted_even 1 k) ∙ max-zero (b % 2))

pub or_shifted : (k b : ℕ) → k < 8 → bit_or b (1 * 2 ^ k % 256) ≡ with_bit k b
or_shifted k b h = rw (shl_exact {a = 1} 1 k 8 (omega arith) (omega arith)) (or_digit k b ∙ sym (with_digit_lem k b))

-- ---- the digits of an or
or_low : (x y : ℕ) → x < 2 → y < 2 → (max x y < 2) × (eqb (max x y) 1 ≡ (eqb x 1 || eqb y 1))
or_low zero zero h l = (omega arith, refl)
or_low zero (suc zero) h l = (omega arith, refl)
or_low (suc zero) zero h l = (omega arith, refl)
or_low (suc zero) (suc zero) h l = (omega arith, refl)
or_low (suc (suc x)) y h l = absurd (omega arith)
or_low zero (suc (suc y)) h l = absurd (omega arith)
or_low (suc zero) (suc (suc y)) h l = absurd (omega arith)

pub digit_or : (k a b : ℕ) → digit k (bit_or a b) ≡ (digit k a || digit k b)
digit_or zero a b =
    let low = or_low (a % 2) (b % 2) (omega arith) (omega arith) in
    let small = low.0 in
    let e : (bit_or (a / 2) (b / 2) * 2 + max (a % 2) (b % 2)) % 2 ≡ max (a % 2) (b % 2) = omega arith in
    ap (λ (n : ℕ). eqb (n % 2) 1) (or_step a b) ∙ ap (λ (n : ℕ). eqb n 1) e ∙ low.1
digit_or (suc k) a b =
    let low = or_low (a % 2) (b % 2) (omega arith) (omega arith) in
    let small = low.0 in
    let e : (bit_or (a / 2) (b / 2) * 2 + max (a % 2) (b % 2)) / 2 ≡ bit_or (a / 2) (b / 2) = omega arith in
    ap (λ (n : ℕ). digit k (n / 2)) (or_step a b) ∙ ap (digit k) e ∙ digit_or k (a / 2) (b / 2)

-- ---- a number of n digits
half_below : (n a : ℕ) → a < 2 ^ suc n → a / 2 < 2 ^ n
half_below n a h = let q : a < 2 ^ n * 2 = rw (pow-suc 2 n) at h in omega arith

-- with a digit set it has as many
with_below : (n k b : ℕ) → k < n → b < 2 ^ n → with_digit k b < 2 ^ n
with_below zero k b l h = absurd (not-suc-le-zero l)
with_below (suc n) zero b l h = let q : b < 2 ^ n * 2 = rw (pow-suc 2 n) at h in rw (pow-suc 2 n) (omega arith)
with_below (suc n) (suc k) b l h =
    let ih = with_below n k (b / 2) (omega arith) (half_below n b h) in rw (pow-suc 2 n) (omega arith)

pub with_byte : (k b : ℕ) → k < 8 → b < 256 → with_bit k b < 256
with_byte k b l h = rw (with_digit_lem k b) (with_below 8 k b l h)

unlike : (x y : ℕ) → x < 2 → y < 2 → (x ≡ 1 → ⊥) → (y ≡ 1 → ⊥) → (x ≡ y → ⊥) → ⊥
unlike x y h l i j z = omega arith

-- it is told by them
pub digit_same_all : (n a b : ℕ) → a < 2 ^ n → b < 2 ^ n → ((k : ℕ) → k < n → digit k a ≡ digit k b) → a ≡ b
digit_same_all zero a b h l e = omega arith
digit_same_all (suc n) a b h l e =
    let half = digit_same_all n (a / 2) (b / 2) (half_below n a h) (half_below n b l) (λ k q. e (suc k) (omega arith)) in
    let low = parity (a % 2) (b % 2) (omega arith) (omega arith) (e 0 (omega arith)) in
    omega arith
  where
    parity : (x y : ℕ) → x < 2 → y < 2 → eqb x 1 ≡ eqb y 1 → x ≡ y
    parity x y h l q =
        by_eq _ x 1
        (λ i. i ∙ sym (eqb-true y 1 (sym q ∙ eq-eqb x 1 i)))
        (λ i. let j = eqb-false y 1 (sym q ∙ ne_eqb x 1 i) in by_eq _ x y (λ z. z) (λ z. absurd (unlike x y h l i j z)))

-- and as many digits are set as the code counts
pub ones_count : (n a : ℕ) → a < 2 ^ n → ones a ≡ count_below n (λ k. digit k a)
ones_count zero a h = let z = ones-le 0 a h in omega arith
ones_count (suc n) a h =
    let step = ones_step a in
    let ih : ones (a / 2) ≡ count_below n (λ k. digit (suc k) a) = ones_count n (a / 2) (half_below n a h) in
    let first = count_first n (λ k. digit k a) in
    let low = lowest (a % 2) (omega arith) in
    step ∙ ap₂ ◌+◌ low ih ∙ sym first
  where
    lowest : (x : ℕ) → x < 2 → x ≡ cond (eqb x 1) 1 0
    lowest zero h = refl
    lowest (suc zero) h = refl
    lowest (suc (suc x)) h = absurd (omega arith)

-- ---- what is gathered in a loop without an exit: 0 as long as every number was 0, or was the one asked for
pub or_none_lem : (a b : ℕ) → eqb (bit_or a b) 0 ≡ (eqb a 0 && eqb b 0)
or_none_lem a b =
    by_eq _ a 0
    (λ p. by_eq _ b 0 (λ q. rw (p, q)) (λ q. rw (p, or_zero_l b)))
    (λ p. rw (ne_eqb a 0 p) (ne_eqb (bit_or a b) 0 (λ z. p (let s = or_add_and a b in let r = and_le_r a b in omega arith))))

pub xor_none : (a b : ℕ) → eqb (bit_xor a b) 0 ≡ eqb a b
xor_none a b =
    by_eq _ a b (λ p. rw (p, xor_self b, eq-eqb b b refl))
    (λ p. rw (ne_eqb a b p) (ne_eqb (bit_xor a b) 0 (λ z. p (let s = xor_add_and a b in let l = and_le_l a b in let r = and_le_r a b in omega arith))))
