-- Offsets looked at as bits of a number: where the first set bit stands, and what eight bytes of marks, or one, tell of the offsets from
-- one on. Assumes nothing.
use Prim.Native.Nat.{ℕ, zero, suc, ◌+◌, ◌*◌, ◌-◌, ◌/◌, ◌%◌, ◌^◌, ◌≤◌, ◌<◌}
use mathlib.Core.Path.{◌≡◌, refl, sym, ap, ◌∙◌}
use mathlib.Core.Bool.{Bool, true, false, cond, not, false≢true}
use mathlib.Core.List.{List}
use native.Mathlib.Nat.{pow-suc, mul_assoc, mul_comm, one-mul, mod-le, mod-lt, mod-add-div}
use native.Mathlib.Omega.{arith}
use lib.Count.{count_trailing_zeros, trailing_le, under, ones}
use lib.Dec.{eqb}
use lib.ListN.{get_or}
use lib.Pow.{shr-shr, shr_le, shl_exact, pow_pos}
use borrow.Author.Tests.{not-true, not-false}
use Rattle.wire.specs.Answer.{bit}
use Rattle.wire.specs.Number.{le}
use Rattle.wire.proofs.Cases.{by_lt}
use Rattle.marks.specs.Offsets.{count_below, wanted, Looked}
use Rattle.marks.specs.Marks.{marked}
use Rattle.marks.specs.Marks.Layout.{by_bits}
use Rattle.marks.proofs.BitLaws.{digit, bit_digit, bit_none, ones_count}
use Rattle.marks.proofs.CountLaws.{count_ext}
use Rattle.marks.proofs.WholeLaws.{marked_in}

-- ---- the lowest set bit
low_case : (P : ℕ → Type 0) (n : ℕ) → (n % 2 ≡ 0 → P 0) → (n % 2 ≡ 1 → P 1) → P (n % 2)
low_case P n a b = go (n % 2) refl (omega arith)
  where
    go : (d : ℕ) → n % 2 ≡ d → d < 2 → P d
    go zero e l = a e
    go (suc zero) e l = b e
    go (suc (suc d)) e l = absurd (omega arith)

trailing_none : (k n j : ℕ) → j < count_trailing_zeros k n → digit j n ≡ false
unfolding count_trailing_zeros
trailing_none zero n j h = absurd (omega arith)
trailing_none (suc k) n zero h =
    low_case (λ d. zero < under d (count_trailing_zeros k (n / 2)) → digit zero n ≡ false) n (λ e u. rw e) (λ e u. absurd (omega arith)) h
trailing_none (suc k) n (suc j) h =
    low_case (λ d. suc j < under d (count_trailing_zeros k (n / 2)) → digit j (n / 2) ≡ false) n
    (λ e u. trailing_none k (n / 2) j (omega arith)) (λ e u. absurd (omega arith)) h

trailing_some : (k n : ℕ) → count_trailing_zeros k n < k → digit (count_trailing_zeros k n) n ≡ true
unfolding count_trailing_zeros
trailing_some zero n h = absurd (omega arith)
trailing_some (suc k) n h =
    low_case (λ d. under d (count_trailing_zeros k (n / 2)) < suc k → digit (under d (count_trailing_zeros k (n / 2))) n ≡ true) n
    (λ e u. trailing_some k (n / 2) (omega arith)) (λ e u. rw e) h

half_below : (n a : ℕ) → a < 2 ^ suc n → a / 2 < 2 ^ n
half_below n a h = let q : a < 2 ^ n * 2 = rw (pow-suc 2 n) at h in omega arith

pub trailing_below : (k n : ℕ) → n < 2 ^ k → (n ≡ 0 → ⊥) → count_trailing_zeros k n < k
unfolding count_trailing_zeros
trailing_below zero n h z = absurd (z (omega arith))
trailing_below (suc k) n h z =
    low_case (λ d. under d (count_trailing_zeros k (n / 2)) < suc k) n
    (λ e. let ih = trailing_below k (n / 2) (half_below k n h) (λ q. z (omega arith)) in omega arith) (λ e. omega arith)

-- ---- bits of a number shifted, cut and turned
digit_shift : (k j n : ℕ) → digit j (n / 2 ^ k) ≡ digit (k + j) n
digit_shift zero j n = let e : n / 1 ≡ n = omega arith in let i : zero + j ≡ j = omega arith in rw (e, i)
digit_shift (suc k) j n =
    let e : n / 2 ^ suc k ≡ n / 2 / 2 ^ k = ap (λ (i : ℕ). n / 2 ^ i) (one_add k) ∙ sym (shr-shr n 1 k) in
    let i : suc k + j ≡ suc (k + j) = omega arith in
    rw (e, i) (digit_shift k j (n / 2))
  where
    one_add : (k : ℕ) → suc k ≡ 1 + k
    one_add k = omega arith

digit_past : (k n j : ℕ) → n < 2 ^ k → k ≤ j → digit j n ≡ false
digit_past zero n zero h l = let e : n % 2 ≡ 0 = omega arith in rw e
digit_past zero n (suc j) h l = digit_past zero (n / 2) j (omega arith) (omega arith)
digit_past (suc k) n zero h l = absurd (omega arith)
digit_past (suc k) n (suc j) h l = digit_past k (n / 2) j (half_below k n h) (omega arith)

twice_times : (k r : ℕ) → 2 ^ suc k * r ≡ 2 * (2 ^ k * r)
twice_times k r = ap (λ (n : ℕ). n * r) (pow-suc 2 k ∙ mul_comm (2 ^ k) 2) ∙ mul_assoc 2 (2 ^ k) r

digit_low : (k j b r : ℕ) → j < k → digit j (b + 2 ^ k * r) ≡ digit j b
digit_low zero j b r h = absurd (omega arith)
digit_low (suc k) zero b r h =
    let twice = twice_times k r in
    let e : (b + 2 ^ suc k * r) % 2 ≡ b % 2 = omega (arith, twice) in rw e
digit_low (suc k) (suc j) b r h =
    let twice = twice_times k r in
    let e : (b + 2 ^ suc k * r) / 2 ≡ b / 2 + 2 ^ k * r = omega (arith, twice) in rw e (digit_low k j (b / 2) r (omega arith))

digit_not : (k full n j : ℕ) → full + 1 ≡ 2 ^ k → n < 2 ^ k → j < k → digit j (full - n) ≡ not (digit j n)
digit_not zero full n j e h l = absurd (omega arith)
digit_not (suc k) full n zero e h l =
    let twice : full + 1 ≡ 2 ^ k * 2 = e ∙ pow-suc 2 k in
    let most : n < 2 ^ k * 2 = rw (pow-suc 2 k) at h in
    low_case (λ d. eqb ((full - n) % 2) 1 ≡ not (eqb d 1)) n
    (λ z. let i : (full - n) % 2 ≡ 1 = omega (arith, twice, most) in rw i) (λ z. let i : (full - n) % 2 ≡ 0 = omega (arith, twice, most) in rw i)
digit_not (suc k) full n (suc j) e h l =
    let twice : full + 1 ≡ 2 ^ k * 2 = e ∙ pow-suc 2 k in
    let most : n < 2 ^ k * 2 = rw (pow-suc 2 k) at h in
    let i : (full - n) / 2 ≡ full / 2 - n / 2 = omega (arith, twice, most) in
    rw i (digit_not k (full / 2) (n / 2) j (omega (arith, twice)) (omega (arith, most)) (omega arith))

-- ---- bytes of marks as one number
number_below : (w : ℕ) (m : List ℕ) (at : ℕ) → ((i : ℕ) → get_or m i 0 < 256) → le w m at < 2 ^ (8 * w)
number_below zero m at b = omega arith
number_below (suc w) m at b =
    let first = b at in
    let ih = number_below w m (at + 1) b in
    let i : 8 * suc w ≡ suc (suc (suc (suc (suc (suc (suc (suc (8 * w)))))))) = omega arith in
    let e : 2 ^ (8 * suc w) ≡ 2 ^ (8 * w) * 256 = ap (λ (n : ℕ). 2 ^ n) i ∙ eight_times (8 * w) in
    rw e (omega (arith, first, ih))
  where
    eight_times : (k : ℕ) → 2 ^ suc (suc (suc (suc (suc (suc (suc (suc k))))))) ≡ 2 ^ k * 256
    eight_times k =
        rw (
          pow-suc 2 (suc (suc (suc (suc (suc (suc (suc k))))))),
          pow-suc 2 (suc (suc (suc (suc (suc (suc k)))))),
          pow-suc 2 (suc (suc (suc (suc (suc k))))),
          pow-suc 2 (suc (suc (suc (suc k)))),
          pow-suc 2 (suc (suc (suc k))),
          pow-suc 2 (suc (suc k)),
          pow-suc 2 (suc k),
          pow-suc 2 k,
        ) (omega arith)

digit_number : (w : ℕ) (m : List ℕ) (at j : ℕ) → ((i : ℕ) → get_or m i 0 < 256) → j < 8 * w → digit j (le w m at) ≡ marked by_bits m (8 * at + j)
digit_number zero m at j b l = absurd (omega arith)
digit_number (suc w) m at j b l =
    by_lt _ j 8
    (λ u. digit_low 8 j (get_or m at 0) (le w m (at + 1)) u ∙ sym (marked_in m at j u))
    (λ u. let first = b at in
    let i : j ≡ 8 + (j - 8) = omega arith in
    let q : (get_or m at 0 + 256 * le w m (at + 1)) / 2 ^ 8 ≡ le w m (at + 1) = omega (arith, first) in
    let k : 8 * (at + 1) + (j - 8) ≡ 8 * at + j = omega arith in
    ap (λ (n : ℕ). digit n (le (suc w) m at)) i ∙ sym (digit_shift 8 (j - 8) (le (suc w) m at)) ∙ ap (digit (j - 8)) q
    ∙ digit_number w m (at + 1) (j - 8) b (omega arith) ∙ ap (marked by_bits m) k)

-- ---- so many offsets of one byte, from one on
module _ (m : List ℕ) (start n : ℕ) (inside : start % 8 + n ≤ 8) where
  part_size : 1 * 2 ^ n % 2 ^ 64 ≡ 2 ^ n
  part_size = shl_exact {a = 1} 1 n 64 (omega arith) (omega arith) ∙ one-mul (2 ^ n)

  pub part_some : 0 < 1 * 2 ^ n % 2 ^ 64
  part_some = rw part_size (pow_pos n)

  pub part_byte : get_or m (start / 8) 0 < 256 → get_or m (start / 8) 0 / 2 ^ (start % 8) % (1 * 2 ^ n % 2 ^ 64) < 256
  part_byte small =
      let shifted = shr_le (get_or m (start / 8) 0) (start % 8) in
      let cut = mod-le (get_or m (start / 8) 0 / 2 ^ (start % 8)) (1 * 2 ^ n % 2 ^ 64) in omega (arith, small, shifted, cut)

  pub part_ones : ones (get_or m (start / 8) 0 / 2 ^ (start % 8) % (1 * 2 ^ n % 2 ^ 64)) ≡ count_below n (λ j. marked by_bits m (start + j))
  part_ones =
      ap (λ (t : ℕ). ones (x % t)) part_size ∙ ones_count n (x % 2 ^ n) (mod-lt x (pow_pos n))
      ∙ count_ext n _ _ (λ j h. sym (digit_low n j (x % 2 ^ n) (x / 2 ^ n) h) ∙ ap (digit j) whole ∙ digit_shift (start % 8) j (get_or m (start / 8) 0)
      ∙ sym (marked_in m (start / 8) (start % 8 + j) (omega arith)) ∙ ap (marked by_bits m) (here j))
    where
      x : ℕ
      x = get_or m (start / 8) 0 / 2 ^ (start % 8)

      whole : x % 2 ^ n + 2 ^ n * (x / 2 ^ n) ≡ x
      whole = mod-add-div x (2 ^ n)

      here : (j : ℕ) → 8 * (start / 8) + (start % 8 + j) ≡ start + j
      here j = omega arith

-- ---- what they tell of the offsets from i on
module _ (m : List ℕ) (i w full x : ℕ) (want : Bool) (small : (k : ℕ) → get_or m k 0 < 256) (some : 1 ≤ w) (top : full + 1 ≡ 2 ^ (8 * w))
    (e : x ≡ cond want (le w m (i / 8)) (full - le w m (i / 8))) where
  asked : (want : Bool) (j : ℕ) → j < 8 * w → digit j (cond want (le w m (i / 8)) (full - le w m (i / 8))) ≡ wanted want (marked by_bits m (8 * (i / 8) + j))
  asked true j l = digit_number w m (i / 8) j small l
  asked false j l = digit_not (8 * w) full (le w m (i / 8)) j top (number_below w m (i / 8) small) l ∙ ap not (digit_number w m (i / 8) j small l)

  below : (want : Bool) → cond want (le w m (i / 8)) (full - le w m (i / 8)) < 2 ^ (8 * w)
  below true = number_below w m (i / 8) small
  below false = omega (arith, top)

  pub look_bits : Looked (λ j. wanted want (marked by_bits m j)) i (8 * w - i % 8) (x / 2 ^ (i % 8))
  look_bits = (
    omega arith,
    (λ j l. let k : 8 * (i / 8) + (i % 8 + j) ≡ i + j = omega arith in
        bit_digit j (x / 2 ^ (i % 8)) ∙ digit_shift (i % 8) j x ∙ ap (digit (i % 8 + j)) e ∙ asked want (i % 8 + j) (omega arith) ∙ ap (λ (n : ℕ). wanted want (marked by_bits m n)) k),
    (λ j l. bit_digit j (x / 2 ^ (i % 8)) ∙ digit_shift (i % 8) j x ∙ ap (digit (i % 8 + j)) e
        ∙ digit_past (8 * w) (cond want (le w m (i / 8)) (full - le w m (i / 8))) (i % 8 + j) (below want) (omega arith)),
  )

-- ---- the first offset that passes the test, and that none does
module _ (f : ℕ → Bool) (i told bits : ℕ) (seen : Looked f i told bits) where
  pub seen_none : bits ≡ 0 → (j : ℕ) → i ≤ j → j < i + told → f j ≡ false
  seen_none z j l u =
      let k : i + (j - i) ≡ j = omega arith in
      ap f (sym k) ∙ sym (seen.1 (j - i) (omega arith)) ∙ ap (bit (j - i)) z ∙ bit_none (j - i)

  module _ (top : bits < 2 ^ 64) (some : bits ≡ 0 → ⊥) where
    first_set : bit (count_trailing_zeros 64 bits) bits ≡ true
    first_set = bit_digit (count_trailing_zeros 64 bits) bits ∙ trailing_some 64 bits (trailing_below 64 bits top some)

    first_told : count_trailing_zeros 64 bits < told
    first_told =
        by_lt _ (count_trailing_zeros 64 bits) told (λ l. l) (λ l. absurd (false≢true (sym (seen.2 (count_trailing_zeros 64 bits) l) ∙ first_set)))

    pub seen_before : (j : ℕ) → i ≤ j → j < i + count_trailing_zeros 64 bits → f j ≡ false
    seen_before j l u =
        let told = first_told in
        let k : i + (j - i) ≡ j = omega arith in
        ap f (sym k) ∙ sym (seen.1 (j - i) (omega arith)) ∙ bit_digit (j - i) bits ∙ trailing_none 64 bits (j - i) (omega arith)

    pub seen_first : f (i + count_trailing_zeros 64 bits) ≡ true
    seen_first = sym (seen.1 (count_trailing_zeros 64 bits) first_told) ∙ first_set

  -- the run of offsets that pass the test from one of them on, and the first after it that does not
  module _ (skip turned run : ℕ) (top : bits < 2 ^ 64) (t : turned ≡ 18446744073709551615 - bits / 2 ^ skip) (r : run ≡ count_trailing_zeros 64 turned) (in-sight : skip + run < told) where
    turned_digit : (k : ℕ) → k < 64 → digit k turned ≡ not (bit (skip + k) bits)
    turned_digit k l =
        let shifted = shr_le bits skip in
        ap (digit k) t ∙ digit_not 64 18446744073709551615 (bits / 2 ^ skip) k refl (omega (arith, shifted, top)) l
        ∙ ap not (digit_shift skip k bits ∙ sym (bit_digit (skip + k) bits))

    pub seen_run : (j : ℕ) → i + skip ≤ j → j < i + (skip + run) → f j ≡ true
    seen_run j l u =
        let most = trailing_le 64 turned in
        let k : i + (skip + (j - i - skip)) ≡ j = omega arith in
        ap f (sym k) ∙ sym (seen.1 (skip + (j - i - skip)) (omega arith))
        ∙ not-false _ (sym (turned_digit (j - i - skip) (omega arith)) ∙ trailing_none 64 turned (j - i - skip) (omega arith))

    pub seen_after : f (i + (skip + run)) ≡ false
    seen_after = sym (seen.1 (skip + run) in-sight) ∙ by_lt _ run 64 inside (λ l. bit_digit (skip + run) bits ∙ digit_past 64 bits (skip + run) top (omega arith))
      where
        inside : run < 64 → bit (skip + run) bits ≡ false
        inside l = not-true _ (sym (turned_digit run l) ∙ ap (λ (k : ℕ). digit k turned) r ∙ trailing_some 64 turned (rw r at l))
