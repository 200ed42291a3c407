-- The first offset that passes a test. Assumes nothing.
use Prim.Native.Nat.{ℕ, zero, suc, ◌+◌, ◌-◌, ◌*◌, ◌/◌, ◌%◌, ◌^◌, ◌≤◌, ◌<◌}
use mathlib.Core.Path.{◌≡◌, refl, sym, ap, ◌∙◌}
use mathlib.Core.Bool.{Bool, true, false, cond, not, false≢true}
use mathlib.Core.List.{List}
use native.Mathlib.Omega.{arith}
use lib.Count.{count_trailing_zeros}
use lib.ListN.{get_or}
use borrow.Author.Tests.{not-true, not-false}
use native.Mathlib.Nat.{add-zero, pow-suc}
use Rattle.wire.specs.Number.{le}
use Rattle.wire.proofs.Cases.{by_bool, by_eq, by_lt}
use Rattle.marks.specs.Offsets.{first_passing, next_passing, wanted, Looked}
use Rattle.marks.specs.Marks.{marked}
use Rattle.marks.specs.Marks.Layout.{by_bits}
use Rattle.marks.proofs.OffsetLaws.{every_all}
use Rattle.marks.proofs.BitLaws.{digit, digit_none}
use Rattle.marks.proofs.WholeLaws.{marked_by}
use Rattle.marks.proofs.LookLaws.{seen_before, seen_first, seen_run, seen_after}

-- what r is: no offset from i up to it passes the test, and r does where it is below n
pub record Next (f : ℕ → Bool) (n i r : ℕ) : Type 0 where
  pub from : i ≤ r
  pub upto : n < r → r ≡ i
  pub none : (j : ℕ) → i ≤ j → j < r → f j ≡ false
  pub some : r < n → f r ≡ true

first_next : (f : ℕ → Bool) (n k i : ℕ) → k ≡ n - i → Next f n i (first_passing f k i)
unfolding first_passing
first_next f n zero i e = record { from = omega arith; upto = λ l. refl; none = λ j l u. absurd (omega arith); some = λ l. absurd (omega arith) }
first_next f n (suc k) i e =
    by_bool _ (f i)
    (λ t. rw t (record { from = omega arith; upto = λ l. refl; none = λ j l u. absurd (omega arith); some = λ l. t }))
    (λ t. rw t (later t (first_passing f k (i + 1)) (first_next f n k (i + 1) (omega arith))))
  where
    later : f i ≡ false → (r : ℕ) → Next f n (i + 1) r → Next f n i r
    later t r h = let l = h.from in record {
      from = omega arith;
      upto = λ u. let q = h.upto u in absurd (omega arith);
      none = λ j a b. by_eq _ j i (λ q. rw q t) (λ q. h.none j (omega arith) b);
      some = h.some;
    }

pub next_next : (f : ℕ → Bool) (n i : ℕ) → Next f n i (next_passing f n i)
next_next f n i = first_next f n (n - i) i refl

-- and there is one only
one_next : (f : ℕ → Bool) (n i r q : ℕ) → Next f n i r → Next f n i q → r < q → ⊥
one_next f n i r q h g l =
    by_lt _ r n (λ u. false≢true (sym (g.none r h.from l) ∙ h.some u))
    (λ u. let a = h.from in let e = g.upto (omega arith) in omega arith)

pub next_is : (f : ℕ → Bool) (n i r : ℕ) → Next f n i r → r ≡ next_passing f n i
next_is f n i r h =
    by_lt _ r (next_passing f n i) (λ l. absurd (one_next f n i r (next_passing f n i) h (next_next f n i) l))
    (λ l. by_lt _ (next_passing f n i) r (λ u. absurd (one_next f n i (next_passing f n i) r (next_next f n i) h u)) (λ u. omega arith))

-- ---- a whole byte of marks that are alike
alike_none : (m : List ℕ) (k j : ℕ) → get_or m k 0 ≡ 0 → 8 * k ≤ j → j < 8 * k + 8 → marked by_bits m j ≡ false
alike_none m k j e l u =
    let q : j / 8 ≡ k = omega arith in
    marked_by m j ∙ ap (λ (n : ℕ). digit (j % 8) (get_or m n 0)) q ∙ ap (digit (j % 8)) e ∙ digit_none (j % 8)

alike_all : (m : List ℕ) (k j : ℕ) → get_or m k 0 ≡ 255 → 8 * k ≤ j → j < 8 * k + 8 → marked by_bits m j ≡ true
alike_all m k j e l u =
    let q : j / 8 ≡ k = omega arith in
    marked_by m j ∙ ap (λ (n : ℕ). digit (j % 8) (get_or m n 0)) q ∙ ap (digit (j % 8)) e ∙ every_all 8 (λ i. digit i 255) refl (j % 8) (omega arith)

-- ---- eight bytes of them
zero_bytes : (w : ℕ) (m : List ℕ) (at : ℕ) → le w m at ≡ 0 → (k : ℕ) → k < w → get_or m (at + k) 0 ≡ 0
zero_bytes zero m at e k l = absurd (omega arith)
zero_bytes (suc w) m at e zero l = ap (λ (i : ℕ). get_or m i 0) (add-zero at) ∙ (let z : get_or m at 0 ≡ 0 = omega arith in z)
zero_bytes (suc w) m at e (suc k) l =
    let z : le w m (at + 1) ≡ 0 = omega arith in
    let i : at + suc k ≡ at + 1 + k = omega arith in
    ap (λ (j : ℕ). get_or m j 0) i ∙ zero_bytes w m (at + 1) z k (omega arith)

full_bytes : (w : ℕ) (m : List ℕ) (at : ℕ) → ((i : ℕ) → get_or m i 0 < 256) → le w m at + 1 ≡ 256 ^ w → (k : ℕ) → k < w → get_or m (at + k) 0 ≡ 255
full_bytes zero m at b e k l = absurd (omega arith)
full_bytes (suc w) m at b e zero l =
    let first : get_or m at 0 < 256 = b at in
    let whole : get_or m at 0 + 256 * le w m (at + 1) + 1 ≡ 256 ^ w * 256 = e ∙ pow-suc 256 w in
    let z : get_or m at 0 ≡ 255 = omega (arith, first, whole) in
    ap (λ (i : ℕ). get_or m i 0) (add-zero at) ∙ z
full_bytes (suc w) m at b e (suc k) l =
    let first : get_or m at 0 < 256 = b at in
    let whole : get_or m at 0 + 256 * le w m (at + 1) + 1 ≡ 256 ^ w * 256 = e ∙ pow-suc 256 w in
    let z : le w m (at + 1) + 1 ≡ 256 ^ w = omega (arith, first, whole) in
    let i : at + suc k ≡ at + 1 + k = omega arith in
    ap (λ (j : ℕ). get_or m j 0) i ∙ full_bytes w m (at + 1) b z k (omega arith)

pub alike_eight : (m : List ℕ) (i : ℕ) (want : Bool) → ((k : ℕ) → get_or m k 0 < 256) → i % 8 ≡ 0 → le 8 m (i / 8) ≡ cond want 0 18446744073709551615 → (j : ℕ) → i ≤ j → j < i + 64
    → wanted want (marked by_bits m j) ≡ false
alike_eight m i true b z e j l u =
    let k : j / 8 ≡ i / 8 + (j / 8 - i / 8) = omega arith in
    let q : get_or m (j / 8) 0 ≡ 0 = ap (λ (n : ℕ). get_or m n 0) k ∙ zero_bytes 8 m (i / 8) e (j / 8 - i / 8) (omega arith) in
    alike_none m (j / 8) j q (omega arith) (omega arith)
alike_eight m i false b z e j l u =
    let k : j / 8 ≡ i / 8 + (j / 8 - i / 8) = omega arith in
    let full : le 8 m (i / 8) + 1 ≡ 256 ^ 8 = ap (λ (n : ℕ). n + 1) e in
    let q : get_or m (j / 8) 0 ≡ 255 = ap (λ (n : ℕ). get_or m n 0) k ∙ full_bytes 8 m (i / 8) b full (j / 8 - i / 8) (omega arith) in
    ap not (alike_all m (j / 8) j q (omega arith) (omega arith))

-- ---- offsets past the area are not marked
module _ (f : ℕ → Bool) (stop end most : ℕ) (below : stop ≤ end) (full : stop < end → stop ≡ most) (past : (i : ℕ) → most ≤ i → f i ≡ false)
    (from r : ℕ) where
  pub next_within : r ≡ next_passing f stop from → r < stop → r ≡ next_passing f end from
  next_within e l = next_is f end from r (go (rw (sym e) at (next_next f stop from)))
    where
      go : Next f stop from r → Next f end from r
      go h = record { from = h.from; upto = λ z. absurd (omega arith); none = h.none; some = λ z. h.some l }

  pub next_past : r ≡ next_passing f stop from → stop ≤ r → r < end → end ≡ next_passing f end from
  next_past e l u = next_is f end from end (go (rw (sym e) at (next_next f stop from)))
    where
      go : Next f stop from r → Next f end from end
      go h = let a = h.from in record {
        from = omega arith;
        upto = λ z. absurd (omega arith);
        none = λ j x y. by_lt _ j r (λ z. h.none j x z) (λ z. let q = full (omega arith) in past j (omega arith));
        some = λ z. absurd (omega arith);
      }

  pub next_end : r ≡ next_passing f stop from → end ≤ r → r ≡ next_passing f end from
  next_end e u = next_is f end from r (go (rw (sym e) at (next_next f stop from)))
    where
      go : Next f stop from r → Next f end from r
      go h = record { from = h.from; upto = λ z. h.upto (omega arith); none = h.none; some = λ z. absurd (omega arith) }

pub next_none_past : (f : ℕ → Bool) (stop end most : ℕ) → stop ≤ end → (stop < end → stop ≡ most) → ((i : ℕ) → most ≤ i → f i ≡ false)
    → (from r : ℕ) → r ≡ next_passing (λ i. not (f i)) stop from → r ≡ next_passing (λ i. not (f i)) end from
next_none_past f stop end most below full past from r e = next_is (λ i. not (f i)) end from r (go (rw (sym e) at (next_next (λ i. not (f i)) stop from)))
  where
    go : Next (λ i. not (f i)) stop from r → Next (λ i. not (f i)) end from r
    go h = record {
      from = h.from;
      upto = λ z. h.upto (omega arith);
      none = h.none;
      some = λ z. by_lt _ r stop (λ l. h.some l) (λ l. let q = full (omega arith) in ap not (past r (omega arith)));
    }

-- ---- a run of offsets that do not pass the test, seen whole in one look: where it starts, and where it ends
module _ (g : ℕ → Bool) (from end told bits skip run : ℕ) (seen : Looked (λ j. not (g j)) from told bits) (top : bits < 2 ^ 64) (some : bits ≡ 0 → ⊥) (s : skip ≡ count_trailing_zeros 64 bits)
    (r : run ≡ count_trailing_zeros 64 (18446744073709551615 - bits / 2 ^ skip)) (in-sight : skip + run < told) (room : from + (skip + run) < end) where
  gap_start : from + skip ≡ next_passing (λ i. not (g i)) end from
  gap_start = next_is (λ i. not (g i)) end from (from + skip) (record {
    from = omega arith;
    upto = λ l. absurd (omega arith);
    none = λ j l u. seen_before (λ i. not (g i)) from told bits seen top some j l (omega arith);
    some = λ l. ap (λ (k : ℕ). not (g (from + k))) s ∙ seen_first (λ i. not (g i)) from told bits seen top some;
  })

  gap_end : from + (skip + run) ≡ next_passing g end (next_passing (λ i. not (g i)) end from)
  gap_end = next_is g end (from + skip) (from + (skip + run)) (record {
    from = omega arith;
    upto = λ l. absurd (omega arith);
    none = λ j l u. not-true (g j) (seen_run (λ i. not (g i)) from told bits seen skip (18446744073709551615 - bits / 2 ^ skip) run top refl r in-sight j l u);
    some = λ l. not-false _ (seen_after (λ i. not (g i)) from told bits seen skip (18446744073709551615 - bits / 2 ^ skip) run top refl r in-sight);
  }) ∙ ap (next_passing g end) gap_start

  gap_some : 1 ≤ run
  gap_some =
      by_eq _ run 0
      (λ z. let q : from + (skip + run) ≡ from + skip = omega (arith, z) in
      absurd (false≢true (sym (seen_after (λ i. not (g i)) from told bits seen skip (18446744073709551615 - bits / 2 ^ skip) run top refl r in-sight)
      ∙ ap (λ (k : ℕ). not (g k)) q ∙ ap (λ (k : ℕ). not (g (from + k))) s ∙ seen_first (λ i. not (g i)) from told bits seen top some)))
      (λ z. omega (arith, z))

  pub gap_seen : (from + skip < from + skip + run) × (from + skip < end) × (from + skip ≡ next_passing (λ i. not (g i)) end from)
      × (from + skip + run ≡ next_passing g end (next_passing (λ i. not (g i)) end from))
  gap_seen = let q : from + skip + run ≡ from + (skip + run) = omega arith in (omega (arith, gap_some), omega arith, gap_start, q ∙ gap_end)
