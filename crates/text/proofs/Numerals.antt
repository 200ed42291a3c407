-- The decimal text of a number: its digits one by one, its value, and that reading it gives the number back.
-- Assumes nothing.
use Rattle.std.specs.Prelude.{Some}
use mathlib.Core.Path.{◌≡◌, refl, ◌∙◌, ap}
use mathlib.Core.Bool.{true}
use mathlib.Core.List.{List, [], ◌∷◌, ◌++◌}
use mathlib.Core.Logic.{⊎_elim}
use Prim.Native.Nat.{ℕ, zero, suc, ◌+◌, ◌*◌, ◌-◌, ◌/◌, ◌%◌, ◌^◌, ◌≤◌, ◌<◌}
use native.Mathlib.Nat.{pow-suc}
use native.Mathlib.Omega.{arith}
use borrow.Author.Tests.{lt-ltb, le-ltb, ltb-true, ltb-false, le-leb, ne_eqb}
use lib.Dec.{ltb}
use lib.ListN.{length, length-append}
use Rattle.text.specs.Decimal.{is_digit, all_digits, value_from, decimal_value_of, no_leading_zero, decimal_of, digits_text, decimal_text}
use Rattle.wire.proofs.Facts.{cases, and_left, and_right}

-- any bound above n gives the same digits
same_digits : (k m n : ℕ) → n < k → n < m → digits_text k n ≡ digits_text m n
same_digits zero m n h l = absurd (omega arith)
same_digits (suc k) zero n h l = absurd (omega arith)
same_digits (suc k) (suc m) n h l =
    ⊎_elim
    (λ e. rw e)
    (λ e. let b : 10 ≤ n = ltb-false n 10 e in rw e (ap (λ (t : List ℕ). t ++ ((48 + n % 10) ∷ [])) (same_digits k m (n / 10) (omega arith) (omega arith))))
    (cases (ltb n 10))

-- one digit
pub decimal_one : (n : ℕ) → n < 10 → decimal_text n ≡ (48 + n) ∷ []
unfolding decimal_text
decimal_one n h = rw (lt-ltb n 10 h)

-- the last digit stands after those of the tenth
pub decimal_more : (n : ℕ) → 10 ≤ n → decimal_text n ≡ decimal_text (n / 10) ++ ((48 + n % 10) ∷ [])
unfolding decimal_text
decimal_more n h = rw (le-ltb n 10 h) (ap (λ (t : List ℕ). t ++ ((48 + n % 10) ∷ [])) (same_digits n (suc (n / 10)) (n / 10) (omega arith) (omega arith)))

-- what holds of one digit, and of a digit more, holds of every number's text
module _ (P : ℕ → List ℕ → Type 0) (one : (n : ℕ) → n < 10 → P n ((48 + n) ∷ []))
    (more : (n : ℕ) (t : List ℕ) → 10 ≤ n → P (n / 10) t → P n (t ++ ((48 + n % 10) ∷ []))) where
  by_digits : (k n : ℕ) → n < k → P n (digits_text k n)
  by_digits zero n h = absurd (omega arith)
  by_digits (suc k) n h =
      ⊎_elim
      (λ e. rw e (one n (ltb-true n 10 e)))
      (λ e. let b : 10 ≤ n = ltb-false n 10 e in rw e (more n (digits_text k (n / 10)) b (by_digits k (n / 10) (omega arith))))
      (cases (ltb n 10))

  decimal_ind : (n : ℕ) → P n (decimal_text n)
  unfolding decimal_text
  decimal_ind n = by_digits (suc n) n (omega arith)

value_last : (a d : ℕ) (t : List ℕ) → value_from a (t ++ (d ∷ [])) ≡ value_from a t * 10 + (d - 48)
value_last a d [] = refl
value_last a d (x ∷ t) = value_last (a * 10 + (x - 48)) d t

digits_last : (d : ℕ) (t : List ℕ) → all_digits t ≡ true → is_digit d ≡ true → all_digits (t ++ (d ∷ [])) ≡ true
digits_last d [] a e = rw e
digits_last d (x ∷ t) a e = rw (and_left (is_digit x) (all_digits t) a) (digits_last d t (and_right (is_digit x) (all_digits t) a) e)

-- the digits have the number's value
decimal_value : (n : ℕ) → decimal_value_of (decimal_text n) ≡ n
decimal_value = decimal_ind (λ n t. decimal_value_of t ≡ n) (λ n h. omega arith) (λ n t h e. value_last 0 (48 + n % 10) t ∙ omega (arith, e))

digit_is : (d : ℕ) → d < 10 → is_digit (48 + d) ≡ true
digit_is d h = rw (le-leb 48 (48 + d) (omega arith), le-leb (48 + d) 57 (omega arith))

pub decimal_all_digits : (n : ℕ) → all_digits (decimal_text n) ≡ true
decimal_all_digits = decimal_ind (λ n t. all_digits t ≡ true) (λ n h. rw (digit_is n h)) (λ n t h e. digits_last (48 + n % 10) t e (digit_is (n % 10) (omega arith)))

-- a text whose first byte is not `0`
abbrev Leads : List ℕ → Type 0
Leads [] = ⊥
Leads (d ∷ ds) = d ≡ 48 → ⊥

leads_more : (t : List ℕ) (d : ℕ) → Leads t → Leads (t ++ (d ∷ []))
leads_more [] d h = absurd h
leads_more (x ∷ t) d h = h

leads_plain : (t : List ℕ) → Leads t → no_leading_zero t ≡ true
leads_plain [] h = absurd h
leads_plain (x ∷ []) h = refl
leads_plain (x ∷ y ∷ t) h = rw (ne_eqb x 48 h)

-- above 0 the first digit is not 0
leads : (n : ℕ) → 0 < n → Leads (decimal_text n)
leads = decimal_ind (λ n t. 0 < n → Leads t) (λ n h l e. omega arith) (λ n t h f l. leads_more t (48 + n % 10) (f (omega arith)))

-- no leading zero
decimal_plain : (n : ℕ) → no_leading_zero (decimal_text n) ≡ true
decimal_plain zero = rw (decimal_one 0 (omega arith))
decimal_plain (suc n) = leads_plain (decimal_text (suc n)) (leads (suc n) (omega arith))

-- read back, the text gives the number
pub decimal_back : (limit n : ℕ) → n ≤ limit → decimal_of limit (decimal_text n) ≡ Some n
decimal_back limit n h = rw (decimal_plain n, decimal_all_digits n, decimal_value n, le-leb n limit h)

-- a number below a power of ten has at most so many digits
pub decimal_length : (k n : ℕ) → n < 10 ^ suc k → length (decimal_text n) ≤ suc k
decimal_length zero n h = rw (decimal_one n h) (omega arith)
decimal_length (suc k) n h =
    ⊎_elim
    (λ e. rw (decimal_one n (ltb-true n 10 e)) (omega arith))
    (λ e. let b : 10 ≤ n = ltb-false n 10 e in
    rw (decimal_more n b) (omega (arith, length-append (decimal_text (n / 10)) ((48 + n % 10) ∷ []), decimal_length k (n / 10) (tenth n (10 ^ suc k) (rw (pow-suc 10 (suc k)) at h)))))
    (cases (ltb n 10))
  where
    tenth : (n p : ℕ) → n < p * 10 → n / 10 < p
    tenth n p h = omega arith
