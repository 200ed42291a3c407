-- Laws of the marks. Those down to `layout-laws` are all that other files use of how a mark is held. Assumes nothing.
use Prim.Native.Nat.{ℕ, zero, suc, ◌+◌, ◌/◌, ◌%◌, ◌≤◌, ◌<◌}
use mathlib.Core.Path.{◌≡◌, refl, sym, ap, ◌∙◌}
use mathlib.Core.Bool.{Bool, true, false, cond, and-false, false≢true}
use mathlib.Core.List.{List}
use native.Mathlib.Nat.{not-suc-le-zero}
use native.Mathlib.Numerals.{add-one}
use native.Mathlib.Omega.{arith}
use lib.ListN.{length, get_or, set, replicate, length-set, get_or-replicate, length-replicate, get_or-eq_default}
use lib.Seq.{set-get_or, get_or-set_same, get_or-set_other}
use lib.Dec.{leb}
use borrow.Author.Tests.{lt-ltb, le-ltb, le-leb, lt-leb, eqb-true}
use Rattle.marks.specs.Offsets.{in_range}
use Rattle.marks.specs.Marks.{Layout, with_bit, marks_for, capacity, marked, mark_at, cleared, mark_if, mark_up_to, mark_all, marked_below}
use Rattle.marks.specs.Marks.Layout.{by_bytes, by_bits}
use Rattle.marks.specs.Layouts.{LayoutLaws}
use Rattle.wire.proofs.Cases.{by_bool, by_eq, by_lt}
use Rattle.marks.proofs.BitLaws.{bit_none, bit_same, bit_other, bit_again}

-- ---- what is true of either layout
pub marks_mono : (L : Layout) (a b : ℕ) → a ≤ b → marks_for L a ≤ marks_for L b
unfolding marks_for
marks_mono by_bytes a b h = h
marks_mono by_bits a b h = omega arith

pub marks_cover : (L : Layout) (t i : ℕ) (m : List ℕ) → i ≤ t → marks_for L t ≤ length m → i ≤ capacity L m
unfolding marks_for capacity
marks_cover by_bytes t i m l h = omega arith
marks_cover by_bits t i m l h = omega arith

pub marks_fit : (L : Layout) (n : ℕ) (m : List ℕ) → n ≤ capacity L m → marks_for L n ≤ length m
unfolding marks_for capacity
marks_fit by_bytes n m h = h
marks_fit by_bits n m h = omega arith

pub capacity_length : (L : Layout) (m k : List ℕ) → length m ≡ length k → capacity L m ≡ capacity L k
unfolding capacity
capacity_length by_bytes m k e = e
capacity_length by_bits m k e = rw e

length_mark_at : (L : Layout) (i : ℕ) (m : List ℕ) → length (mark_at L i m) ≡ length m
unfolding mark_at
length_mark_at by_bytes i m = length-set m i 1
length_mark_at by_bits i m = length-set m (i / 8) (with_bit (i % 8) (get_or m (i / 8) 0))

pub length_cleared : (m : List ℕ) → length (cleared m) ≡ length m
unfolding cleared
length_cleared m = length-replicate (length m) 0

cleared_zero : (m : List ℕ) (i : ℕ) → get_or (cleared m) i 0 ≡ 0
unfolding cleared
cleared_zero m i =
    by_lt _ i (length m) (λ l. get_or-replicate {A = ℕ} (length m) i 0 0 l)
    (λ l. get_or-eq_default {A = ℕ} (replicate (length m) 0) 0 {n = i} (rw (length-replicate {A = ℕ} (length m) 0) l))

pub marked_cleared : (L : Layout) (m : List ℕ) (i : ℕ) → marked L (cleared m) i ≡ false
unfolding marked
marked_cleared by_bytes m i = rw (cleared_zero m i)
marked_cleared by_bits m i = rw (cleared_zero m (i / 8)) (bit_none (i % 8))

-- no offset past the area is marked
pub marked_none : (L : Layout) (m : List ℕ) (i : ℕ) → capacity L m ≤ i → marked L m i ≡ false
unfolding marked capacity
marked_none by_bytes m i h = rw (get_or-eq_default {A = ℕ} m 0 {n = i} h)
marked_none by_bits m i h = rw (get_or-eq_default {A = ℕ} m 0 {n = i / 8} (omega arith)) (bit_none (i % 8))

mark_same : (L : Layout) (m : List ℕ) (i : ℕ) → i < capacity L m → marked L (mark_at L i m) i ≡ true
unfolding marked mark_at capacity
mark_same by_bytes m i h = rw (get_or-set_same m i 1 0 h)
mark_same by_bits m i h = rw (get_or-set_same m (i / 8) (with_bit (i % 8) (get_or m (i / 8) 0)) 0 (omega arith)) (bit_same (i % 8) (get_or m (i / 8) 0))

mark_other : (L : Layout) (m : List ℕ) (n i : ℕ) → n < capacity L m → (i ≡ n → ⊥) → marked L (mark_at L n m) i ≡ marked L m i
unfolding marked mark_at capacity
mark_other by_bytes m n i h ne = rw (get_or-set_other m n i 1 0 ne)
mark_other by_bits m n i h ne =
    by_eq _ (i / 8) (n / 8)
    (λ e. rw (e, get_or-set_same m (n / 8) (with_bit (n % 8) (get_or m (n / 8) 0)) 0 (omega arith))
    (bit_other (n % 8) (i % 8) (get_or m (n / 8) 0) (λ q. ne (omega arith))))
    (λ e. rw (get_or-set_other m (n / 8) (i / 8) (with_bit (n % 8) (get_or m (n / 8) 0)) 0 e))

mark_again : (L : Layout) (m : List ℕ) (n : ℕ) → marked L m n ≡ true → mark_at L n m ≡ m
unfolding marked mark_at
mark_again by_bytes m n e = ap (set m n) (sym (eqb-true (get_or m n 0) 1 e)) ∙ set-get_or m n 0
mark_again by_bits m n e = ap (set m (n / 8)) (bit_again (n % 8) (get_or m (n / 8) 0) e) ∙ set-get_or m (n / 8) 0

-- a turn of the code's
pub mark_chosen : (b : Bool) (i : ℕ) (m : List ℕ) → set m (i / 8) (cond b (with_bit (i % 8) (get_or m (i / 8) 0)) (get_or m (i / 8) 0)) ≡ mark_if by_bits b i m
unfolding mark_at
mark_chosen true i m = refl
mark_chosen false i m = set-get_or m (i / 8) 0

-- both layouts are what a layout has to be
pub layout_laws : (L : Layout) → LayoutLaws L
layout_laws L = record {
  more = marks_mono L;
  enough = marks_cover L;
  even = capacity_length L;
  none_past = marked_none L;
  none_cleared = marked_cleared L;
  length_stays = length_mark_at L;
  then_marked = mark_same L;
  others_stay = mark_other L;
  again_same = mark_again L;
}

-- ---- from here on nothing depends on how a mark is held
-- ---- the test of a range
pub range_below : (start end i : ℕ) → i < start → in_range start end i ≡ false
range_below start end i h = rw (lt-leb start i h)

pub range_in : (start end i : ℕ) → start ≤ i → i < end → in_range start end i ≡ true
range_in start end i h k = rw (le-leb start i h, lt-ltb i end k)

pub range_above : (start end i : ℕ) → end ≤ i → in_range start end i ≡ false
range_above start end i h = rw (le-ltb i end h) (and-false (leb start i))

module _ (L : Layout) where
  marks_room : (t i : ℕ) (m : List ℕ) → i < t → marks_for L t ≤ length m → i < capacity L m
  marks_room t i m l h = marks_cover L t (suc i) m l h

  length_mark_if : (b : Bool) (i : ℕ) (m : List ℕ) → length (mark_if L b i m) ≡ length m
  length_mark_if true i m = length_mark_at L i m
  length_mark_if false i m = refl

  length_mark_up_to : (n : ℕ) (f : ℕ → Bool) (m : List ℕ) → length (mark_up_to L n f m) ≡ length m
  length_mark_up_to zero f m = refl
  length_mark_up_to (suc n) f m = length_mark_if (f n) n (mark_up_to L n f m) ∙ length_mark_up_to n f m

  pub length_mark_all : (f : ℕ → Bool) (m : List ℕ) → length (mark_all L f m) ≡ length m
  unfolding mark_all
  length_mark_all f m = length_mark_up_to (capacity L m) f m

  capacity_mark_up_to : (n : ℕ) (f : ℕ → Bool) (m : List ℕ) → capacity L (mark_up_to L n f m) ≡ capacity L m
  capacity_mark_up_to n f m = capacity_length L (mark_up_to L n f m) m (length_mark_up_to n f m)

  -- a turn at n leaves every other offset, and n itself where the test fails
  if_keep : (n : ℕ) (b : Bool) (m : List ℕ) (i : ℕ) → n < capacity L m → (b ≡ true → i ≡ n → ⊥) → marked L (mark_if L b n m) i ≡ marked L m i
  if_keep n false m i h ne = refl
  if_keep n true m i h ne = mark_other L m n i h (ne refl)

  up_to_off : (n : ℕ) (f : ℕ → Bool) (m : List ℕ) (i : ℕ) → n ≤ capacity L m → f i ≡ false → marked L (mark_up_to L n f m) i ≡ marked L m i
  up_to_off zero f m i h e = refl
  up_to_off (suc n) f m i h e =
      if_keep n (f n) (mark_up_to L n f m) i (rw (capacity_mark_up_to n f m) (omega arith)) (λ q r. false≢true (sym e ∙ ap f r ∙ q))
      ∙ up_to_off n f m i (omega arith) e

  up_to_on : (n : ℕ) (f : ℕ → Bool) (m : List ℕ) (i : ℕ) → i < n → n ≤ capacity L m → f i ≡ true → marked L (mark_up_to L n f m) i ≡ true
  up_to_on zero f m i l h e = absurd (not-suc-le-zero l)
  up_to_on (suc n) f m i l h e =
      by_eq _ i n
      (λ q. let t : f n ≡ true = rw q at e in
      rw (q, t) (mark_same L (mark_up_to L n f m) n (rw (capacity_mark_up_to n f m) (omega arith))))
      (λ q. if_keep n (f n) (mark_up_to L n f m) i (rw (capacity_mark_up_to n f m) (omega arith)) (λ t r. q r)
      ∙ up_to_on n f m i (omega arith) (omega arith) e)

  -- marking all that pass the test: those are marked, and the others as before
  pub marked_on : (t : ℕ) (f : ℕ → Bool) (m : List ℕ) (i : ℕ) → i < t → marks_for L t ≤ length m → f i ≡ true → marked L (mark_all L f m) i ≡ true
  unfolding mark_all
  marked_on t f m i l h e = up_to_on (capacity L m) f m i (marks_room t i m l h) (omega arith) e

  pub marked_off : (f : ℕ → Bool) (m : List ℕ) (i : ℕ) → f i ≡ false → marked L (mark_all L f m) i ≡ marked L m i
  unfolding mark_all
  marked_off f m i e = up_to_off (capacity L m) f m i (omega arith) e

  -- loops: nothing below n, one turn, and nothing between i and the area's end
  pub marks_start : (n : ℕ) (f : ℕ → Bool) (m : List ℕ) → ((i : ℕ) → i < n → f i ≡ false) → mark_up_to L n f m ≡ m
  marks_start zero f m e = refl
  marks_start (suc n) f m e = rw (e n (omega arith)) (marks_start n f m (λ i h. e i (omega arith)))

  pub marks_step : (i : ℕ) (b : Bool) (f : ℕ → Bool) (m : List ℕ) → f i ≡ b → mark_up_to L (i + 1) f m ≡ mark_if L b i (mark_up_to L i f m)
  marks_step i b f m e = rw (add-one i, e)

  up_to_end : (n i : ℕ) (f : ℕ → Bool) (m : List ℕ) → i ≤ n → ((k : ℕ) → i ≤ k → k < n → f k ≡ false) → mark_up_to L n f m ≡ mark_up_to L i f m
  up_to_end zero i f m h e = let q : 0 ≡ i = omega arith in ap (λ (k : ℕ). mark_up_to L k f m) q
  up_to_end (suc n) i f m h e =
      by_eq _ i (suc n) (λ q. ap (λ (k : ℕ). mark_up_to L k f m) (sym q))
      (λ ne. rw (e n (omega arith) (omega arith)) (up_to_end n i f m (omega arith) (λ k a b. e k a (omega arith))))

  pub marks_end : (i : ℕ) (f : ℕ → Bool) (m : List ℕ) → i ≤ capacity L m → ((k : ℕ) → i ≤ k → k < capacity L m → f k ≡ false) → mark_up_to L i f m ≡ mark_all L f m
  unfolding mark_all
  marks_end i f m l e = sym (up_to_end (capacity L m) i f m l e)

  -- marking what is marked already changes nothing
  up_to_self : (n t : ℕ) (m : List ℕ) → mark_up_to L n (marked_below L t m) m ≡ m
  up_to_self zero t m = refl
  up_to_self (suc n) t m =
      rw (up_to_self n t m) (by_bool _ (marked_below L t m n) (λ e. rw e (mark_again L m n (both_right e))) (λ e. rw e))
    where
      both_right : marked_below L t m n ≡ true → marked L m n ≡ true
      both_right e = by_lt _ n t (λ l. rw (lt-ltb n t l) at e) (λ l. absurd (false≢true (rw (le-ltb n t l) at e)))

  pub marks_self : (t : ℕ) (m : List ℕ) → mark_all L (marked_below L t m) m ≡ m
  unfolding mark_all
  marks_self t m = up_to_self (capacity L m) t m

  -- ---- what is marked below total
  pub marked_is : (t : ℕ) (m : List ℕ) (i : ℕ) → i < t → marked_below L t m i ≡ marked L m i
  marked_is t m i h = rw (lt-ltb i t h)

  pub marked_past : (t : ℕ) (m : List ℕ) (i : ℕ) → t ≤ i → marked_below L t m i ≡ false
  marked_past t m i h = rw (le-ltb i t h)
