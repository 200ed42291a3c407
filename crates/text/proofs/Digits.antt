-- Digits up to an end byte, taken one after the other.
-- Assumes nothing.
use Rattle.std.specs.Prelude.{Option, Some, None}
use mathlib.Core.Path.{◌≡◌, refl, sym, ◌∙◌, ap}
use mathlib.Core.Bool.{Bool, true, false, cond}
use mathlib.Core.List.{List, [], ◌∷◌}
use Prim.Native.Nat.{ℕ, suc, ◌+◌, ◌*◌, ◌-◌, ◌≤◌, ◌<◌}
use native.Mathlib.Omega.{arith}
use borrow.Author.Tests.{eq-eqb, ne_eqb, le-leb, lt-leb, leb-true, leb-false}
use lib.Dec.{eqb, leb}
use lib.ListN.{length, drop, get_or}
use Rattle.text.specs.Words.{contains, index_of, up_to}
use Rattle.text.specs.Decimal.{is_digit, all_digits, value_from, digits_from, digits_at, decimal_at, no_leading_zero, placed, ended_by}
use Rattle.wire.proofs.Facts.{and_left, and_right}
use Rattle.text.proofs.Lists.{either_way, at_next, at_end}

grows : (n : ℕ) (ds : List ℕ) → n ≤ value_from n ds
grows n [] = omega arith
grows n (d ∷ ds) = omega (arith, grows (n * 10 + (d - 48)) ds)

-- the same, byte by byte: i is the position of the text's first byte, and n the number so far
abbrev pub scan : ℕ → ℕ → ℕ → ℕ → List ℕ → Option (ℕ × ℕ)
scan limit end n i [] = None
scan limit end n i (b ∷ bs) =
    cond (eqb b end) (Some (n, i + 1)) (cond (is_digit b) (cond (leb (n * 10 + (b - 48)) limit) (scan limit end (n * 10 + (b - 48)) (i + 1) bs) None) None)

-- one byte: the end, no digit, a number above the limit, or a digit more
module _ (limit end n i b : ℕ) (bs : List ℕ) (h : n ≤ limit)
    (more : n * 10 + (b - 48) ≤ limit → scan limit end (n * 10 + (b - 48)) (i + 1) bs ≡ ended_by end (digits_from limit (n * 10 + (b - 48))) bs (i + 1)) where
  step : (x y z : Bool) → eqb b end ≡ x → is_digit b ≡ y → leb (n * 10 + (b - 48)) limit ≡ z → scan limit end n i (b ∷ bs) ≡ ended_by end (digits_from limit n) (b ∷ bs) i
  step true y z e d l = rw e (rw (le-leb n limit h) (ap (λ (k : ℕ). Some (n, k)) here))
    where
      here : i + 1 ≡ i + 0 + 1
      here = omega arith
  step false false z e d l = rw e (rw d (sym (either_way (contains end bs) None)))
  step false true true e d l =
      rw e (rw d (rw l (more (leb-true (n * 10 + (b - 48)) limit l) ∙ ap (λ (k : ℕ). cond (contains end bs) (placed (digits_from limit (n * 10 + (b - 48)) (up_to end bs)) k) None) next)))
    where
      next : i + 1 + index_of end bs + 1 ≡ i + suc (index_of end bs) + 1
      next = omega arith
  step false true false e d l =
      rw e (rw d (rw l (rw (lt-leb (value_from (n * 10 + (b - 48)) (up_to end bs)) limit (omega (arith, leb-false (n * 10 + (b - 48)) limit l, grows (n * 10 + (b - 48)) (up_to end bs))))
      (rw (either_way {A = Option ℕ} (all_digits (up_to end bs)) None) (sym (either_way (contains end bs) None))))))

pub scan_is : (limit end n i : ℕ) (t : List ℕ) → n ≤ limit → scan limit end n i t ≡ ended_by end (digits_from limit n) t i
scan_is limit end n i [] h = refl
scan_is limit end n i (b ∷ bs) h =
    step limit end n i b bs h (scan_is limit end (n * 10 + (b - 48)) (i + 1) bs) (eqb b end) (is_digit b) (leb (n * 10 + (b - 48)) limit) refl refl refl

pub digit_low : (b : ℕ) → is_digit b ≡ true → 48 ≤ b
digit_low b e = leb-true 48 b (and_left (leb 48 b) (leb b 57) e)

pub digit_high : (b : ℕ) → is_digit b ≡ true → b ≤ 57
digit_high b e = leb-true b 57 (and_right (leb 48 b) (leb b 57) e)

-- a turn of the loop, at the byte i
module _ (limit end n : ℕ) (s : List ℕ) (i : ℕ) (r : Option (ℕ × ℕ)) (h : i < length s) (v : scan limit end n i (drop i s) ≡ r) where
  pub turn_end : get_or s i 0 ≡ end → Some (n, i + 1) ≡ r
  turn_end e = rw (at_next s i h, eq-eqb _ _ e) at v

  module _ (e : get_or s i 0 ≡ end → ⊥) where
    pub turn_other : is_digit (get_or s i 0) ≡ false → None ≡ r
    turn_other d = rw (at_next s i h, ne_eqb _ _ e, d) at v

    module _ (d : is_digit (get_or s i 0) ≡ true) where
      pub turn_above : limit < n * 10 + (get_or s i 0 - 48) → None ≡ r
      turn_above l = rw (at_next s i h, ne_eqb _ _ e, d, lt-leb _ _ l) at v

      pub turn_digit : n * 10 + (get_or s i 0 - 48) ≤ limit → scan limit end (n * 10 + (get_or s i 0 - 48)) (i + 1) (drop (i + 1) s) ≡ r
      turn_digit l = rw (at_next s i h, ne_eqb _ _ e, d, le-leb _ _ l) at v

pub turn_none : (limit end n : ℕ) (s : List ℕ) (i : ℕ) (r : Option (ℕ × ℕ)) → length s ≤ i → scan limit end n i (drop i s) ≡ r → None ≡ r
turn_none limit end n s i r h v = rw (at_end s i h) at v

-- a decimal whose first byte is read: it ends at once, its first digit is not 0, or it is 0
plain_first_lem : (b : ℕ) (bs : List ℕ) → (b ≡ 48 → ⊥) → no_leading_zero (b ∷ bs) ≡ true
plain_first_lem b [] e = refl
plain_first_lem b (x ∷ bs) e = rw (ne_eqb b 48 e)

pub decimal_none : (limit end : ℕ) (s : List ℕ) (at : ℕ) → length s ≤ at → None ≡ decimal_at limit end s at
decimal_none limit end s at h = rw (at_end s at h)

module _ (limit end : ℕ) (s : List ℕ) (at : ℕ) (h : at < length s) where
  pub decimal_empty : get_or s at 0 ≡ end → None ≡ decimal_at limit end s at
  decimal_empty e = rw (at_next s at h, eq-eqb _ _ e)

  module _ (e : get_or s at 0 ≡ end → ⊥) where
    pub decimal_digits : (get_or s at 0 ≡ 48 → ⊥) → digits_at limit end s at ≡ decimal_at limit end s at
    decimal_digits z = rw (at_next s at h, ne_eqb _ _ e) (rw (plain_first_lem (get_or s at 0) (up_to end (drop (at + 1) s)) z))

    module _ (z : get_or s at 0 ≡ 48) where
      first : eqb 48 end ≡ false
      first = rw z at (ne_eqb _ _ e)

      pub decimal_alone : length s ≤ at + 1 → None ≡ decimal_at limit end s at
      decimal_alone l = rw (at_next s at h, z, first, at_end s (at + 1) l)

      pub decimal_zeros : at + 1 < length s → (get_or s (at + 1) 0 ≡ end → ⊥) → None ≡ decimal_at limit end s at
      decimal_zeros l f = rw (at_next s at h, z, first, at_next s (at + 1) l, ne_eqb _ _ f) (sym (either_way (contains end (drop (at + 1 + 1) s)) None))

      pub decimal_zero : at + 1 < length s → get_or s (at + 1) 0 ≡ end → Some (0, at + 1 + 1) ≡ decimal_at limit end s at
      decimal_zero l f = rw (at_next s at h, z, first, at_next s (at + 1) l, eq-eqb _ _ f) (rw (le-leb 0 limit (omega arith)))
