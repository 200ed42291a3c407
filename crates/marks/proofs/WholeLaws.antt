-- Whole bytes of marks by bits: the eight offsets of a byte, and eight bytes as one number. Assumes nothing.
use Prim.Native.Nat.{ℕ, zero, suc, ◌+◌, ◌*◌, ◌-◌, ◌/◌, ◌%◌, ◌^◌, ◌≤◌, ◌<◌}
use mathlib.Core.Path.{◌≡◌, refl, sym, ap, ap₂, ◌∙◌, subst}
use mathlib.Core.Bool.{Bool, true, false, not, ◌&&◌, ◌||◌, or-true, or-false}
use mathlib.Core.List.{List, [], ◌++◌}
use native.Mathlib.Omega.{arith}
use lib.Bits.{bit_or, or_lt}
use lib.Count.{ones, ones-le, ones_cat, ones-ones}
use lib.ListN.{length, get_or, set, take, drop, replicate, length-set, length-drop, get_or-eq_default}
use Rattle.std.proofs.lemmas.List.{length-replicate}
use Rattle.std.proofs.lemmas.List.Edits.{fill_from_more, paste_all}
use lib.Seq.{paste, paste-zero, drop-drop, ext_get_or, get_or-set_same, get_or-set_other, length-take-le, get_or-take, get_or-drop}
use lib.Dec.{leb, eqb}
use borrow.Author.Tests.{ne_eqb, eq-eqb, eqb-true, le-leb}
use Rattle.wire.specs.Constants.{CUT_SHORT}
use Rattle.wire.specs.Number.{le}
use Rattle.wire.specs.Answer.{item}
use Rattle.wire.specs.Answer.Answer.{got, refused}
use Rattle.marks.specs.Offsets.{any_from, count_below, count_from, in_range_and, always}
use Rattle.marks.specs.Marks.{with_bit, marks_for, capacity, marked, mark_at, mark_if, mark_up_to, mark_all}
use Rattle.marks.specs.Marks.Layout.{by_bits}
use Rattle.wire.proofs.Cases.{by_bool, by_eq, by_lt}
use Rattle.wire.proofs.Facts.{and_left, and_right}
use Rattle.marks.proofs.OffsetLaws.{every_all, from_none, none_from, from_more}
use Rattle.marks.proofs.BitLaws.{digit, bit_digit, digit_none, digit_or, digit_same_all, with_byte, or_none_lem, ones_count}
use Rattle.marks.proofs.MarkLaws.{marked_on, marked_off, length_mark_all}
use Rattle.marks.proofs.CountLaws.{count_ext, count_most, count_more, cut_start, cut_on, cut_in, cut_below, cut_above}

-- ---- the first whole byte from an offset on, and how many offsets an area has
pub first_byte : (n r : ℕ) → r ≡ marks_for by_bits n → (n ≤ 8 * r) × (8 * r < n + 8)
unfolding marks_for
first_byte n r e = (omega arith, omega arith)

pub capacity_bytes : (m : List ℕ) → capacity by_bits m ≡ 8 * length m
unfolding capacity
capacity_bytes m = omega arith

-- ---- the offset j of byte k is its bit j
pub marked_in : (m : List ℕ) (k j : ℕ) → j < 8 → marked by_bits m (8 * k + j) ≡ digit j (get_or m k 0)
unfolding marked
marked_in m k j h =
    let q : (8 * k + j) / 8 ≡ k = omega arith in
    let r : (8 * k + j) % 8 ≡ j = omega arith in
    rw (q, r) (bit_digit j (get_or m k 0))

pub marked_by : (m : List ℕ) (i : ℕ) → marked by_bits m i ≡ digit (i % 8) (get_or m (i / 8) 0)
unfolding marked
marked_by m i = bit_digit (i % 8) (get_or m (i / 8) 0)

-- ---- bytes stay bytes
small_set : (m : List ℕ) (k x : ℕ) → ((i : ℕ) → get_or m i 0 < 256) → x < 256 → (i : ℕ) → get_or (set m k x) i 0 < 256
small_set m k x small h i =
    by_lt _ i (length m)
    (λ l. by_eq _ i k (λ q. let e : k < length m = rw q at l in rw (q, get_or-set_same m k x 0 e) h) (λ q. rw (get_or-set_other m k i x 0 q) (small i)))
    (λ l. rw (get_or-eq_default {A = ℕ} (set m k x) 0 {n = i} (rw (length-set m k x) l)) (omega arith))

small_mark_at : (n : ℕ) (b : Bool) (m : List ℕ) → ((i : ℕ) → get_or m i 0 < 256) → (i : ℕ) → get_or (mark_if by_bits b n m) i 0 < 256
unfolding mark_at
small_mark_at n true m small i = small_set m (n / 8) (with_bit (n % 8) (get_or m (n / 8) 0)) small (with_byte (n % 8) _ (omega arith) (small (n / 8))) i
small_mark_at n false m small i = small i

small_mark_up_to : (n : ℕ) (f : ℕ → Bool) (m : List ℕ) → ((i : ℕ) → get_or m i 0 < 256) → (i : ℕ) → get_or (mark_up_to by_bits n f m) i 0 < 256
small_mark_up_to zero f m small i = small i
small_mark_up_to (suc n) f m small i = small_mark_at n (f n) (mark_up_to by_bits n f m) (small_mark_up_to n f m small) i

small_mark_all : (f : ℕ → Bool) (m : List ℕ) → ((i : ℕ) → get_or m i 0 < 256) → (i : ℕ) → get_or (mark_all by_bits f m) i 0 < 256
unfolding mark_all
small_mark_all f m small = small_mark_up_to (capacity by_bits m) f m small

-- areas with the same marks are the same
marks_same : (m n : List ℕ) → length m ≡ length n → ((i : ℕ) → get_or m i 0 < 256) → ((i : ℕ) → get_or n i 0 < 256) → ((i : ℕ) → i / 8 < length m → marked by_bits m i ≡ marked by_bits n i) → m ≡ n
marks_same m n l small little e =
    ext_get_or 0 m n l
    (λ k h. digit_same_all 8 (get_or m k 0) (get_or n k 0) (small k) (little k)
    (λ j q. let r : (8 * k + j) / 8 ≡ k = omega arith in sym (marked_in m k j q) ∙ e (8 * k + j) (rw r h) ∙ marked_in n k j q))

-- ---- a byte stored whole: it has the bits that were set, and those of the offsets that pass the test
module _ (m : List ℕ) (k x : ℕ) (f : ℕ → Bool) (room : k < length m) (small : (i : ℕ) → get_or m i 0 < 256) (byte : x < 256)
    (bits : (j : ℕ) → j < 8 → digit j x ≡ (digit j (get_or m k 0) || f (8 * k + j))) where
  area : (i : ℕ) → i / 8 ≡ k → marks_for by_bits (i + 1) ≤ length m
  unfolding marks_for
  area i q = omega arith

  at_byte : (i : ℕ) → i / 8 ≡ k → marked by_bits (set m k x) i ≡ marked by_bits (mark_all by_bits (in_range_and f (8 * k) (8 * (k + 1))) m) i
  at_byte i q =
      let h : 8 * k + i % 8 ≡ i = omega arith in
      let here = cut_in f (8 * k) (8 * (k + 1)) i (omega arith) (omega arith) in
      let stored : marked by_bits (set m k x) i ≡ (digit (i % 8) (get_or m k 0) || f i) =
      marked_by (set m k x) i ∙ ap (λ (n : ℕ). digit (i % 8) (get_or (set m k x) n 0)) q ∙ ap (digit (i % 8)) (get_or-set_same m k x 0 room) ∙ bits (i % 8) (omega arith)
      ∙ ap (λ (n : ℕ). digit (i % 8) (get_or m k 0) || f n) h in
      by_bool _ (f i)
      (λ t. stored ∙ ap (◌||◌ (digit (i % 8) (get_or m k 0))) t ∙ or-true (digit (i % 8) (get_or m k 0))
      ∙ sym (marked_on by_bits (i + 1) _ m i (omega arith) (area i q) (here ∙ t)))
      (λ t. stored ∙ ap (◌||◌ (digit (i % 8) (get_or m k 0))) t ∙ or-false (digit (i % 8) (get_or m k 0)) ∙ ap (λ (n : ℕ). digit (i % 8) (get_or m n 0)) (sym q) ∙ sym (marked_by m i)
      ∙ sym (marked_off by_bits _ m i (here ∙ t)))

  elsewhere : (i : ℕ) → (i / 8 ≡ k → ⊥) → marked by_bits (set m k x) i ≡ marked by_bits (mark_all by_bits (in_range_and f (8 * k) (8 * (k + 1))) m) i
  elsewhere i q =
      marked_by (set m k x) i ∙ ap (digit (i % 8)) (get_or-set_other m k (i / 8) x 0 q) ∙ sym (marked_by m i)
      ∙ sym (marked_off by_bits _ m i (by_lt _ i (8 * k) (λ l. cut_below f (8 * k) (8 * (k + 1)) i l) (λ l. cut_above f (8 * k) (8 * (k + 1)) i (past i q l))))
    where
      past : (i : ℕ) → (i / 8 ≡ k → ⊥) → 8 * k ≤ i → 8 * (k + 1) ≤ i
      past i q l = omega arith

  set_byte : set m k x ≡ mark_all by_bits (in_range_and f (8 * k) (8 * (k + 1))) m
  set_byte =
      marks_same (set m k x) (mark_all by_bits (in_range_and f (8 * k) (8 * (k + 1))) m) (length-set m k x ∙ sym (length_mark_all by_bits _ m))
      (small_set m k x small byte) (small_mark_all (in_range_and f (8 * k) (8 * (k + 1))) m small)
      (λ i h. by_eq _ (i / 8) k (at_byte i) (elsewhere i))

-- every offset of a byte
full_set : (m : List ℕ) (k : ℕ) → k < length m → ((i : ℕ) → get_or m i 0 < 256) → set m k 255 ≡ mark_all by_bits (in_range_and always (8 * k) (8 * (k + 1))) m
full_set m k h small =
    set_byte m k 255 always h small (omega arith) (λ j l. every_all 8 (λ i. digit i 255) refl j l ∙ sym (or-true (digit j (get_or m k 0))))

-- every offset of some bytes, which are filled
full_run : (m : List ℕ) (first n : ℕ) → first + n ≤ length m → ((i : ℕ) → get_or m i 0 < 256)
    → paste m first (replicate n 255) n ≡ mark_all by_bits (in_range_and always (8 * first) (8 * (first + n))) m
full_run m first zero h small =
    let e : 8 * (first + 0) ≡ 8 * first = omega arith in sym (paste-zero m first []) ∙ sym (rw e (cut_start by_bits always (8 * first) m))
full_run m first (suc n) h small =
    let held = full_run m first n (omega arith) small in
    let same : length (paste m first (replicate n 255) n) ≡ length m = ap length held ∙ length_mark_all by_bits _ m in
    let on : n + 1 ≡ suc n = omega arith in
    let up : first + n + 1 ≡ first + (n + 1) = omega arith in
    let all : paste m first (replicate (n + 1) 255) (n + 1) ≡ mark_all by_bits (in_range_and always (8 * first) (8 * (first + n + 1))) m =
    cut_on by_bits always (8 * first) m (8 * (first + n)) (8 * (first + n + 1)) (paste m first (replicate n 255) n) _ (omega arith) (omega arith) held
    (sym (fill_from_more m first n 255 (omega arith))
    ∙ full_set (paste m first (replicate n 255) n) (first + n) (omega (arith, same)) (λ i. subst (λ (l : List ℕ). get_or l i 0 < 256) (sym held) (small_mark_all _ m small i))) in
    subst (λ (k : ℕ). paste m first (replicate k 255) k ≡ mark_all by_bits (in_range_and always (8 * first) (8 * (first + k))) m) on
    (all ∙ ap (λ (k : ℕ). mark_all by_bits (in_range_and always (8 * first) (8 * k)) m) up)

pub filled : (m : List ℕ) (first last : ℕ) (b : List ℕ) → first ≤ last → last ≤ length m → ((i : ℕ) → get_or m i 0 < 256) → {n : ℕ} → n ≡ last - first → b ≡ replicate n 255
    → take first m ++ (b ++ drop (last - first) (drop first m)) ≡ mark_all by_bits (in_range_and always (8 * first) (8 * last)) m
filled m first last b h l small {n} e q =
    let up : first + (last - first) ≡ last = omega arith in
    ap (λ (x : List ℕ). take first m ++ (x ++ drop (last - first) (drop first m))) (q ∙ ap (λ (k : ℕ). replicate k 255) e)
    ∙ ap (λ (x : List ℕ). take first m ++ (replicate (last - first) 255 ++ x)) (drop-drop (last - first) first m)
    ∙ sym (paste_all m first (replicate (last - first) 255) (last - first) (sym (length-replicate (last - first) 255)))
    ∙ full_run m first (last - first) (omega arith) small
    ∙ ap (λ (k : ℕ). mark_all by_bits (in_range_and always (8 * first) (8 * k)) m) up

-- those that are marked in another area
pub or_byte : (m o : List ℕ) (k : ℕ) → k < length m → ((i : ℕ) → get_or m i 0 < 256) → ((i : ℕ) → get_or o i 0 < 256)
    → set m k (bit_or (get_or m k 0) (get_or o k 0)) ≡ mark_all by_bits (in_range_and (marked by_bits o) (8 * k) (8 * (k + 1))) m
or_byte m o k h small little =
    set_byte m k (bit_or (get_or m k 0) (get_or o k 0)) (marked by_bits o) h small (or_lt 8 (get_or m k 0) (get_or o k 0) (small k) (little k))
    (λ j l. digit_or j (get_or m k 0) (get_or o k 0) ∙ ap (◌||◌ (digit j (get_or m k 0))) (sym (marked_in o k j l)))

-- ---- counting
byte_ones : (m : List ℕ) (k : ℕ) → get_or m k 0 < 256 → ones (get_or m k 0) ≡ count_below 8 (λ j. marked by_bits m (8 * k + j))
byte_ones m k h = ones_count 8 (get_or m k 0) h ∙ count_ext 8 _ _ (λ j l. sym (marked_in m k j l))

number_ones : (w : ℕ) (m : List ℕ) (k : ℕ) → ((i : ℕ) → get_or m i 0 < 256) → ones (le w m k) ≡ count_below (8 * w) (λ j. marked by_bits m (8 * k + j))
number_ones zero m k small = let z = ones-le 0 0 (omega arith) in omega arith
number_ones (suc w) m k small =
    let q : get_or m k 0 + 256 * le w m (k + 1) ≡ le w m (k + 1) * 2 ^ 8 + get_or m k 0 = omega arith in
    let r : 8 * suc w ≡ 8 + 8 * w = omega arith in
    let more = count_more 8 (8 * w) (λ j. marked by_bits m (8 * k + j)) in
    let rest = number_ones w m (k + 1) small ∙ count_ext (8 * w) _ _ (λ j h. let e : 8 * (k + 1) + j ≡ 8 * k + (8 + j) = omega arith in ap (marked by_bits m) e) in
    let first = byte_ones m k (small k) in
    let both = ap ones q ∙ ones_cat 8 (le w m (k + 1)) (get_or m k 0) (small k) in
    let z : ones (get_or m k 0 + 256 * le w m (k + 1)) ≡ count_below (8 + 8 * w) (λ j. marked by_bits m (8 * k + j)) = omega arith in
    z ∙ ap (λ (n : ℕ). count_below n (λ j. marked by_bits m (8 * k + j))) (sym r)

eight_most : (m : List ℕ) (k n : ℕ) → ((i : ℕ) → get_or m i 0 < 256) → n ≡ le 8 m k → ones n ≤ 64
eight_most m k n small e =
    subst (λ (t : ℕ). t ≤ 64) (sym (ap ones e ∙ number_ones 8 m k small)) (count_most 64 (λ j. marked by_bits m (8 * k + j)))

-- counted up to a, and c more
count_on : (a c t n d : ℕ) (f : ℕ → Bool) → t ≡ a + c → n ≡ count_below a f → d ≡ count_below c (λ j. f (a + j)) → n + d ≡ count_below t f
count_on a c t n d f q e r = ap₂ ◌+◌ e r ∙ sym (count_more a c f) ∙ ap (λ (k : ℕ). count_below k f) (sym q)

-- 32 bytes as four numbers
module _ (m : List ℕ) (at a b c d : ℕ) (small : (i : ℕ) → get_or m i 0 < 256) (p : a ≡ le 8 m at) (q : b ≡ le 8 m (at + 8)) (r : c ≡ le 8 m (at + 16)) (s : d ≡ le 8 m (at + 24)) where
  one_of_four : (n x : ℕ) → x ≡ le 8 m (at + n) → ones x ≡ count_below 64 (λ j. marked by_bits m (8 * at + (8 * n + j)))
  one_of_four n x e =
      ap ones e ∙ number_ones 8 m (at + n) small ∙ count_ext 64 _ _ (λ j h. let t : 8 * (at + n) + j ≡ 8 * at + (8 * n + j) = omega arith in ap (marked by_bits m) t)

  pub four_ones : ones a + ones b + ones c + ones d ≡ count_from (marked by_bits m) (8 * at) 256
  unfolding count_from
  four_ones =
      count_on 192 64 256 (ones a + ones b + ones c) (ones d) (λ j. marked by_bits m (8 * at + j)) refl
      (count_on 128 64 192 (ones a + ones b) (ones c) (λ j. marked by_bits m (8 * at + j)) refl
      (count_on 64 64 128 (ones a) (ones b) (λ j. marked by_bits m (8 * at + j)) refl (ap ones p ∙ number_ones 8 m at small) (one_of_four 8 b q))
      (one_of_four 16 c r))
      (one_of_four 24 d s)

  pub four_most : ones a + ones b + ones c + ones d ≤ 256
  four_most = omega (arith, eight_most m at a small p, eight_most m (at + 8) b small q, eight_most m (at + 16) c small r, eight_most m (at + 24) d small s)

  pub four_full : (eqb a 18446744073709551615 && eqb b 18446744073709551615 && eqb c 18446744073709551615 && eqb d 18446744073709551615) ≡ true → 256 ≡ count_from (marked by_bits m) (8 * at) 256
  four_full t =
      let x = and_left (eqb a 18446744073709551615 && eqb b 18446744073709551615 && eqb c 18446744073709551615) (eqb d 18446744073709551615) t in
      let y = and_left (eqb a 18446744073709551615 && eqb b 18446744073709551615) (eqb c 18446744073709551615) x in
      let i = full a (and_left (eqb a 18446744073709551615) (eqb b 18446744073709551615) y) in
      let j = full b (and_right (eqb a 18446744073709551615) (eqb b 18446744073709551615) y) in
      let k = full c (and_right (eqb a 18446744073709551615 && eqb b 18446744073709551615) (eqb c 18446744073709551615) x) in
      let l = full d (and_right (eqb a 18446744073709551615 && eqb b 18446744073709551615 && eqb c 18446744073709551615) (eqb d 18446744073709551615) t) in
      let z : 256 ≡ ones a + ones b + ones c + ones d = omega (arith, i, j, k, l) in
      z ∙ four_ones
    where
      full : (n : ℕ) → eqb n 18446744073709551615 ≡ true → ones n ≡ 64
      full n e = ap ones (eqb-true n 18446744073709551615 e) ∙ ones-ones 64

-- one step of 32 bytes
pub four_step : (m : List ℕ) (first k n d : ℕ) → n ≡ count_below (256 * k) (λ j. marked by_bits m (8 * first + j))
    → d ≡ count_from (marked by_bits m) (8 * (first + 32 * k)) 256 → n + d ≡ count_below (256 * (k + 1)) (λ j. marked by_bits m (8 * first + j))
unfolding count_from
four_step m first k n d e q =
    count_on (256 * k) 256 (256 * (k + 1)) n d (λ j. marked by_bits m (8 * first + j)) (omega arith) e (q ∙ count_ext 256 _ _ (λ j h. ap (marked by_bits m) (later j)))
  where
    later : (j : ℕ) → 8 * (first + 32 * k) + j ≡ 8 * first + (256 * k + j)
    later j = omega arith

-- one byte more
module _ (m : List ℕ) (first k n d : ℕ) (small : (i : ℕ) → get_or m i 0 < 256) where
  pub byte_step : first ≤ k → n ≡ count_below (8 * (k - first)) (λ j. marked by_bits m (8 * first + j)) → d ≡ ones (get_or m k 0)
      → n + d ≡ count_below (8 * (k + 1 - first)) (λ j. marked by_bits m (8 * first + j))
  byte_step h e q =
      count_on (8 * (k - first)) 8 (8 * (k + 1 - first)) n d (λ j. marked by_bits m (8 * first + j)) (omega arith) e
      (q ∙ byte_ones m k (small k) ∙ count_ext 8 _ _ (λ j l. ap (marked by_bits m) (later j)))
    where
      later : (j : ℕ) → 8 * k + j ≡ 8 * first + (8 * (k - first) + j)
      later j = omega arith

-- 32 bytes at a time, and then byte by byte
pub whole_join : (m : List ℕ) (first last fours n d : ℕ) → first + 32 * fours ≤ last → n ≡ count_below (256 * fours) (λ j. marked by_bits m (8 * first + j))
    → d ≡ count_below (8 * (last - (first + 32 * fours))) (λ j. marked by_bits m (8 * (first + 32 * fours) + j)) → n + d ≡ count_below (8 * (last - first)) (λ j. marked by_bits m (8 * first + j))
whole_join m first last fours n d h e q =
    count_on (256 * fours) (8 * (last - (first + 32 * fours))) (8 * (last - first)) n d (λ j. marked by_bits m (8 * first + j)) (omega arith) e
    (q ∙ count_ext (8 * (last - (first + 32 * fours))) _ _ (λ j l. ap (marked by_bits m) (later j)))
  where
    later : (j : ℕ) → 8 * (first + 32 * fours) + j ≡ 8 * first + (256 * fours + j)
    later j = omega arith

-- ---- whether any is marked
byte_any : (m : List ℕ) (k : ℕ) → get_or m k 0 < 256 → not (eqb (get_or m k 0) 0) ≡ any_from (8 * k) (8 * (k + 1)) (marked by_bits m)
byte_any m k h =
    by_eq _ (get_or m k 0) 0
    (λ z. rw (eq-eqb (get_or m k 0) 0 z) (sym (from_none (8 * k) (8 * (k + 1)) (marked by_bits m)
    (λ i l q. let e : i / 8 ≡ k = omega arith in marked_by m i ∙ ap (λ (n : ℕ). digit (i % 8) (get_or m n 0)) e ∙ ap (digit (i % 8)) z ∙ digit_none (i % 8)))))
    (λ z. rw (ne_eqb (get_or m k 0) 0 z) (by_bool _ (any_from (8 * k) (8 * (k + 1)) (marked by_bits m)) (λ t. sym t) (λ t. absurd (z (digit_same_all 8 (get_or m k 0) 0 h (omega arith)
    (λ j l. sym (marked_in m k j l) ∙ none_from (8 * k) (8 * (k + 1)) (marked by_bits m) t (8 * k + j) (omega arith) (omega arith) ∙ sym (digit_none j)))))))

pub any_step : (m : List ℕ) (first k any : ℕ) → first ≤ k → get_or m k 0 < 256 → not (eqb any 0) ≡ any_from (8 * first) (8 * k) (marked by_bits m)
    → not (eqb (bit_or any (get_or m k 0)) 0) ≡ any_from (8 * first) (8 * (k + 1)) (marked by_bits m)
any_step m first k any h small e =
    ap not (or_none_lem any (get_or m k 0)) ∙ either (eqb any 0) (eqb (get_or m k 0) 0)
    ∙ ap₂ ◌||◌ e (byte_any m k small) ∙ sym (from_more (8 * first) (8 * k) (8 * (k + 1)) (marked by_bits m) (omega arith) (omega arith))
  where
    either : (a b : Bool) → not (a && b) ≡ (not a || not b)
    either true b = refl
    either false b = refl

-- ---- eight bytes of a slice read as a slice of their own
le_ext : (w : ℕ) (s t : List ℕ) (a b : ℕ) → ((j : ℕ) → j < w → get_or s (a + j) 0 ≡ get_or t (b + j) 0) → le w s a ≡ le w t b
le_ext zero s t a b e = refl
le_ext (suc w) s t a b e =
    let p : a ≡ a + 0 = omega arith in
    let q : b + 0 ≡ b = omega arith in
    let first : get_or s a 0 ≡ get_or t b 0 = ap (λ (k : ℕ). get_or s k 0) p ∙ e 0 (omega arith) ∙ ap (λ (k : ℕ). get_or t k 0) q in
    ap₂ (λ (x y : ℕ). x + 256 * y) first (le_ext w s t (a + 1) (b + 1) (λ j h. ap (λ (k : ℕ). get_or s k 0) (later a j) ∙ e (suc j) (omega arith) ∙ ap (λ (k : ℕ). get_or t k 0) (sym (later b j))))
  where
    later : (n j : ℕ) → n + 1 + j ≡ n + suc j
    later n j = omega arith

pub eight_part : (s : List ℕ) (at n : ℕ) → n ≡ 8 → at + 8 ≤ length s → item 8 (take n (drop at s)) 0 ≡ got (le 8 s at) 8
eight_part s at n e h =
    let l : length (take n (drop at s)) ≡ 8 = length-take-le n (drop at s) (rw (length-drop at s) (omega arith)) ∙ e in
    let f : leb 8 (length (take n (drop at s))) ≡ true = le-leb 8 (length (take n (drop at s))) (omega arith) in
    let q : le 8 (take n (drop at s)) 0 ≡ le 8 s at =
    le_ext 8 (take n (drop at s)) s 0 at
    (λ j k. let z : 0 + j ≡ j = omega arith in ap (λ (i : ℕ). get_or (take n (drop at s)) i 0) z ∙ get_or-take n (drop at s) j 0 (omega arith) ∙ get_or-drop at s j 0) in
    rw f (ap (λ (x : ℕ). got x 8) q)

pub part_not_short : (s : List ℕ) (at : ℕ) → refused CUT_SHORT 0 ≡ got (le 8 s at) 8 → ⊥
part_not_short s at e = let z : ◌≡◌ {A = ℕ} 0 1 = cc in omega arith

pub part_number : (s : List ℕ) (at v next : ℕ) → got v next ≡ got (le 8 s at) 8 → v ≡ le 8 s at
part_number s at v next e = cc
