-- Texts stored into a buffer: digits from the last one back, hex digits and bytes from the first one on.
-- Assumes nothing.
use Rattle.std.specs.Prelude.{Some, None}
use Rattle.std.specs.List.{list_all}
use mathlib.Core.Path.{◌≡◌, refl, sym, ◌∙◌, ap}
use mathlib.Core.Bool.{Bool, true, false, not, ◌&&◌}
use mathlib.Core.List.{List, [], ◌∷◌, ◌++◌}
use mathlib.Core.Logic.{⊎_elim}
use Prim.Native.Nat.{ℕ, zero, suc, ◌+◌, ◌*◌, ◌-◌, ◌/◌, ◌%◌, ◌≤◌, ◌<◌}
use native.Mathlib.Omega.{arith}
use borrow.Author.Tests.{le-leb, lt-leb, leb-true, leb-false, eqb-false, eq-eqb, ne_eqb, not-true}
use lib.Dec.{leb, eqb}
use lib.ListN.{length, drop, get_or, set, length-append}
use lib.Seq.{sets, set_comm}
use Rattle.wire_writer.specs.Store.{Stored}
use Rattle.wire.proofs.Reading.{lacks, room}
use Rattle.wire_writer.proofs.Stores.{sets_append, stored_none}
use Rattle.text.specs.Decimal.{decimal_text}
use Rattle.text.specs.Hex.{hex_digit, hex_text, hex_value, all_hex, hex_bytes, hex_next, hex_after}
use Rattle.wire.proofs.Facts.{cases, and_left, and_right}
use Rattle.text.proofs.Lists.{at_next, at_end}
use Rattle.text.proofs.Numerals.{decimal_one, decimal_more}

-- one byte stored behind a run, before it or after it
set_past : (t l : List ℕ) (at j d : ℕ) → at + length t ≤ j → set (sets l at t) j d ≡ sets (set l j d) at t
set_past [] l at j d h = refl
set_past (x ∷ t) l at j d h =
    set_past t (set l at x) (suc at) j d (omega arith) ∙ ap (λ (m : List ℕ). sets m (suc at) t) (set_comm l at j x d (λ e. omega arith))

sets_last : (t l : List ℕ) (at d : ℕ) → sets l at (t ++ (d ∷ [])) ≡ sets (set l (at + length t) d) at t
sets_last t l at d = sym (sets_append t (d ∷ []) l at) ∙ set_past t l at (at + length t) d (omega arith)

-- how many digits
pub length_one : (n : ℕ) → n < 10 → length (decimal_text n) ≡ 1
length_one n h = rw (decimal_one n h)

pub length_more : (n : ℕ) → 10 ≤ n → length (decimal_text n) ≡ length (decimal_text (n / 10)) + 1
length_more n h = rw (decimal_more n h) (length-append (decimal_text (n / 10)) ((48 + n % 10) ∷ []))

-- the last digit stored, the rest is to be stored
pub digit_stored : (l r : List ℕ) (at n i : ℕ) → 10 ≤ n → i ≡ length (decimal_text n) → sets l at (decimal_text n) ≡ r
    → sets (set l (at + (i - 1)) (48 + n % 10)) at (decimal_text (n / 10)) ≡ r
digit_stored l r at n i h e v =
    let k : i - 1 ≡ length (decimal_text (n / 10)) = omega (arith, length_more n h) in
    rw k (sym (sets_last (decimal_text (n / 10)) l at (48 + n % 10)) ∙ ap (sets l at) (sym (decimal_more n h)) ∙ v)

pub digit_last : (l r : List ℕ) (at n : ℕ) → n < 10 → sets l at (decimal_text n) ≡ r → set l at (48 + n) ≡ r
digit_last l r at n h v = rw (decimal_one n h) at v

-- a byte as hex more
pub hex_stored : (s l r : List ℕ) (i at a b : ℕ) → i < length s → a ≡ hex_digit (get_or s i 0 / 16) → b ≡ hex_digit (get_or s i 0 % 16) → sets l (at + 2 * i) (hex_text (drop i s)) ≡ r
    → sets (set (set l (at + 2 * i) a) (at + 2 * i + 1) b) (at + 2 * (i + 1)) (hex_text (drop (i + 1) s)) ≡ r
hex_stored s l r i at a b h x y v =
    let k : suc (suc (at + 2 * i)) ≡ at + 2 * (i + 1) = omega arith in
    let j : suc (at + 2 * i) ≡ at + 2 * i + 1 = omega arith in
    rw (x, y, ← k, ← j) (rw (at_next s i h) at v)

pub hex_all : (s l r : List ℕ) (i p : ℕ) → length s ≤ i → sets l p (hex_text (drop i s)) ≡ r → l ≡ r
hex_all s l r i p h v = rw (at_end s i h) at v

-- a byte from two digits more
pub byte_stored : (s l r : List ℕ) (i at a b : ℕ) → i < length s / 2 → a ≡ hex_value (get_or s (2 * i) 0) → b ≡ hex_value (get_or s (2 * i + 1) 0)
    → sets l (at + i) (hex_bytes (drop (2 * i) s)) ≡ r → sets (set l (at + i) (16 * a + b)) (at + (i + 1)) (hex_bytes (drop (2 * (i + 1)) s)) ≡ r
byte_stored s l r i at a b h x y v =
    let j : suc (at + i) ≡ at + (i + 1) = omega arith in
    let k : 2 * i + 1 + 1 ≡ 2 * (i + 1) = omega arith in
    rw (x, y, ← j, ← k) (rw (at_next s (2 * i) (omega arith), at_next s (2 * i + 1) (omega arith)) at v)

pub bytes_all : (s l r : List ℕ) (i p : ℕ) → length s / 2 ≤ i → sets l p (hex_bytes (drop (2 * i) s)) ≡ r → l ≡ r
bytes_all s l r i p h v =
    ⊎_elim
    (λ e. rw (at_end s (2 * i) (leb-true (length s) (2 * i) e)) at v)
    (λ e. rw (at_next s (2 * i) (leb-false (length s) (2 * i) e), at_end s (2 * i + 1) (omega arith)) at v)
    (cases (leb (length s) (2 * i)))

-- of hex digits, each is a number below 16
digit_below : (s : List ℕ) (i : ℕ) → all_hex s ≡ true → i < length s → hex_value (get_or s i 0) ≡ 16 → ⊥
digit_below [] i a h = absurd (omega arith)
digit_below (b ∷ s) zero a h = eqb-false _ _ (not-true _ (and_left (not (eqb (hex_value b) 16)) (all_hex s) a))
digit_below (b ∷ s) (suc i) a h = digit_below s i (and_right (not (eqb (hex_value b) 16)) (all_hex s) a) (omega arith)

pub hex_digit_lem : (s : List ℕ) (i a : ℕ) → all_hex s ≡ true → i < length s → a ≡ hex_value (get_or s i 0) → a ≤ 16 → a ≤ 15
hex_digit_lem s i a t h e l = let z : a ≡ 16 → ⊥ = λ q. digit_below s i t h (sym e ∙ q) in omega arith

-- each byte is a hex digit, as `all` tests it
pub all_hex_is : (s : List ℕ) → list_all (λ b. not (eqb (hex_value b) 16)) s ≡ all_hex s
all_hex_is [] = refl
all_hex_is (b ∷ s) = ap (λ (t : Bool). not (eqb (hex_value b) 16) && t) (all_hex_is s)

-- what a put function did where the text fits: all of it
pub stored_all : (t l m : List ℕ) (at next : ℕ) → leb (at + length t) (length l) ≡ true → m ≡ sets l at t → next ≡ at + length t → Stored t l at m next
stored_all t l m at next e v n = record { stored = rw e v; after = rw e n }

pub hex_length : (s : List ℕ) → length (hex_text s) ≡ 2 * length s
hex_length [] = refl
hex_length (x ∷ s) = omega (arith, hex_length s)

pub bytes_length : (s : List ℕ) → length (hex_bytes s) ≡ length s / 2
bytes_length [] = refl
bytes_length (x ∷ []) = refl
bytes_length (x ∷ y ∷ s) = omega (arith, bytes_length s)

-- bytes put as hex: no room for as many bytes again, or for twice as many, or all stored. (b is the answer of `wire::has`.)
module _ (s l : List ℕ) (at : ℕ) (b : Bool) where
  pub hex_none : (k : ℕ) → k ≤ 2 * length s → b ≡ leb (at + k) (length l) → not b ≡ true → Stored (hex_text s) l at l at
  hex_none k h e t =
      let f : length l < at + k = leb-false (at + k) (length l) (lacks b (at + k) (length l) e t) in
      stored_none (hex_text s) l at (lt-leb (at + length (hex_text s)) (length l) (omega (arith, hex_length s)))

  module _ (e : b ≡ leb (at + length s + length s) (length l)) (t : not b ≡ false) where
    pub hex_room : at + 2 * length s ≤ length l
    hex_room = omega (arith, room b (at + length s + length s) (length l) e t)

    pub hex_put : (m : List ℕ) → m ≡ sets l at (hex_text s) → Stored (hex_text s) l at m (at + length s + length s)
    hex_put m v =
        stored_all (hex_text s) l m at (at + length s + length s) (le-leb (at + length (hex_text s)) (length l) (omega (arith, hex_length s, hex_room))) v (omega (arith, hex_length s))

-- the ways out of reading hex: an odd number of digits, another byte, no room, and all read
module _ (l : List ℕ) (at : ℕ) (s : List ℕ) where
  pub hex_odd : length s % 2 ≡ 1 → (None ≡ hex_next l at s) × (l ≡ hex_after l at s)
  hex_odd o = (rw (eq-eqb _ _ o), rw (eq-eqb _ _ o))

  module _ (o : length s % 2 ≡ 1 → ⊥) where
    pub hex_other : all_hex s ≡ false → (None ≡ hex_next l at s) × (l ≡ hex_after l at s)
    hex_other a = (rw (ne_eqb _ _ o, a), rw (ne_eqb _ _ o, a))

    module _ (a : all_hex s ≡ true) where
      pub hex_no_room : leb (at + length s / 2) (length l) ≡ false → (Some at ≡ hex_next l at s) × (l ≡ hex_after l at s)
      hex_no_room r = (rw (ne_eqb _ _ o, a, bytes_length s, r), rw (ne_eqb _ _ o, a, bytes_length s, r))

      pub hex_read : (m : List ℕ) → leb (at + length s / 2) (length l) ≡ true → m ≡ sets l at (hex_bytes s) → (Some (at + length s / 2) ≡ hex_next l at s) × (m ≡ hex_after l at s)
      hex_read m r e = (rw (ne_eqb _ _ o, a, bytes_length s, r), rw (ne_eqb _ _ o, a, bytes_length s, r) e)
