-- Laws of counting offsets, and what marking adds. Assumes nothing.
use Prim.Native.Nat.{ℕ, zero, suc, ◌+◌, ◌-◌, ◌≤◌, ◌<◌}
use mathlib.Core.Path.{◌≡◌, refl, sym, ap, ap₂, ◌∙◌}
use mathlib.Core.Bool.{Bool, true, false, cond, not, ◌&&◌, and-false}
use mathlib.Core.List.{List}
use lib.ListN.{length}
use native.Mathlib.Omega.{arith}
use lib.Dec.{leb, ltb, eqb}
use borrow.Author.Tests.{lt-ltb, le-ltb, le-leb, eq-eqb, ne_eqb}
use Rattle.marks.specs.Offsets.{in_range, any_from, all_below, count_below, in_range_and, always}
use Rattle.marks.specs.Marks.{Layout, capacity, marked, mark_if, mark_up_to, mark_all, marked_below, all_marked, cleared, count_marked, new_marks, marks_for}
use Rattle.wire.proofs.Cases.{by_bool, by_eq, by_lt}
use Rattle.marks.proofs.OffsetLaws.{all_every, every_all, any_between, none_from}
use Rattle.marks.proofs.MarkLaws.{capacity_length, length_mark_all, marked_on, marked_off, marked_none, marked_cleared, range_below, range_in, range_above, marks_start, marks_end, marks_step, marks_cover}

-- ---- counting
pub count_ext : (n : ℕ) (f g : ℕ → Bool) → ((i : ℕ) → i < n → f i ≡ g i) → count_below n f ≡ count_below n g
count_ext zero f g e = refl
count_ext (suc n) f g e = rw (e n (omega arith), count_ext n f g (λ i h. e i (omega arith)))

pub count_none : (n : ℕ) (f : ℕ → Bool) → ((i : ℕ) → i < n → f i ≡ false) → count_below n f ≡ 0
count_none zero f e = refl
count_none (suc n) f e = rw (e n (omega arith)) (let h = count_none n f (λ i h. e i (omega arith)) in omega arith)

pub count_most : (n : ℕ) (f : ℕ → Bool) → count_below n f ≤ n
count_most zero f = omega arith
count_most (suc n) f = let h = count_most n f in by_bool _ (f n) (λ t. rw t (omega arith)) (λ t. rw t (omega arith))

-- what passes one of two tests that never hold together
count_both : (n : ℕ) (f g h : ℕ → Bool) → ((i : ℕ) → i < n → cond (h i) 1 0 ≡ cond (f i) 1 0 + cond (g i) 1 0) → count_below n h ≡ count_below n f + count_below n g
count_both zero f g h e = refl
count_both (suc n) f g h e = let a = e n (omega arith) in let b = count_both n f g h (λ i l. e i (omega arith)) in omega arith

-- two runs, the second behind the first
pub count_more : (n c : ℕ) (f : ℕ → Bool) → count_below (n + c) f ≡ count_below n f + count_below c (λ j. f (n + j))
count_more n zero f = let q : n + 0 ≡ n = omega arith in ap (λ (k : ℕ). count_below k f) q ∙ (let z : count_below n f ≡ count_below n f + 0 = omega arith in z)
count_more n (suc c) f =
    let q : n + suc c ≡ suc (n + c) = omega arith in
    let ih = count_more n c f in
    ap (λ (k : ℕ). count_below k f) q ∙ (let z : cond (f (n + c)) 1 0 + count_below (n + c) f ≡ count_below n f + (cond (f (n + c)) 1 0 + count_below c (λ j. f (n + j))) = omega arith in z)

-- counted up to i, and then from i up to j
count_run : (i j n d : ℕ) (f : ℕ → Bool) → i ≤ j → n ≡ count_below i f → d ≡ count_below (j - i) (λ k. f (i + k)) → n + d ≡ count_below j f
count_run i j n d f h e q =
    let all : i + (j - i) ≡ j = omega arith in
    ap₂ ◌+◌ e q ∙ sym (count_more i (j - i) f) ∙ ap (λ (k : ℕ). count_below k f) all

-- counted from a up to b, and then from b up to c
pub count_join : (a b c n d : ℕ) (f : ℕ → Bool) → a ≤ b → b ≤ c → n ≡ count_below (b - a) (λ j. f (a + j)) → d ≡ count_below (c - b) (λ j. f (b + j)) → n + d ≡ count_below (c - a) (λ j. f (a + j))
count_join a b c n d f h l e q =
    ap₂ ◌+◌ e (q ∙ count_ext (c - b) _ _ (λ j k. ap f (later j))) ∙ sym (count_more (b - a) (c - b) (λ j. f (a + j))) ∙ ap (λ (k : ℕ). count_below k (λ j. f (a + j))) all
  where
    later : (j : ℕ) → b + j ≡ a + (b - a + j)
    later j = omega arith

    all : b - a + (c - b) ≡ c - a
    all = omega arith

-- counted from the start on
pub count_start : (n : ℕ) (f : ℕ → Bool) → count_below (n - 0) (λ j. f (0 + j)) ≡ count_below n f
count_start n f =
    let q : n - 0 ≡ n = omega arith in
    ap (λ (k : ℕ). count_below k (λ j. f (0 + j))) q ∙ count_ext n (λ j. f (0 + j)) f (λ j h. let e : 0 + j ≡ j = omega arith in ap f e)

-- one more of a run
pub count_next : (start i n d : ℕ) (f : ℕ → Bool) → start ≤ i → n ≡ count_below (i - start) (λ j. f (start + j)) → d ≡ cond (f i) 1 0 → n + d ≡ count_below (i + 1 - start) (λ j. f (start + j))
count_next start i n d f h e q =
    let k : i + 1 - start ≡ suc (i - start) = omega arith in
    let here : start + (i - start) ≡ i = omega arith in
    let x : ◌≡◌ {A = ℕ} (cond (f (start + (i - start))) 1 0) (cond (f i) 1 0) = ap (λ (t : ℕ). cond (f t) 1 0) here in
    (let z : n + d ≡ cond (f (start + (i - start))) 1 0 + count_below (i - start) (λ j. f (start + j)) = omega arith in z)
    ∙ sym (ap (λ (t : ℕ). count_below t (λ j. f (start + j))) k)

-- nothing from a up to b
pub count_between : (a b : ℕ) (f : ℕ → Bool) → a ≤ b → ((k : ℕ) → a ≤ k → k < b → f k ≡ false) → count_below b f ≡ count_below a f
count_between a zero f h e = let q : 0 ≡ a = omega arith in ap (λ (n : ℕ). count_below n f) q
count_between a (suc b) f h e =
    by_eq _ a (suc b) (λ q. ap (λ (n : ℕ). count_below n f) (sym q))
    (λ ne. rw (e b (omega arith) (omega arith)) (let ih = count_between a b f (omega arith) (λ k l m. e k l (omega arith)) in omega arith))

-- none passes where the count is 0, and all where it is as many as there are
pub count_zero : (n : ℕ) (f : ℕ → Bool) → count_below n f ≡ 0 → (i : ℕ) → i < n → f i ≡ false
count_zero zero f e i h = absurd (omega arith)
count_zero (suc n) f e i h =
    by_bool _ (f n)
    (λ t. let x : 1 + count_below n f ≡ 0 = rw t at e in absurd (omega arith))
    (λ t. by_eq _ i n (λ q. rw q t) (λ ne. let x : 0 + count_below n f ≡ 0 = rw t at e in count_zero n f (omega arith) i (omega arith)))

pub count_each : (n : ℕ) (f : ℕ → Bool) → count_below n f ≡ n → (i : ℕ) → i < n → f i ≡ true
count_each zero f e i h = absurd (omega arith)
count_each (suc n) f e i h =
    by_bool _ (f n)
    (λ t. by_eq _ i n (λ q. rw q t) (λ ne. let c : count_below n f ≡ n = (let x : 1 + count_below n f ≡ suc n = rw t at e in omega arith) in count_each n f c i (omega arith)))
    (λ t. let x : 0 + count_below n f ≡ suc n = rw t at e in let m = count_most n f in absurd (omega arith))

-- all pass exactly if as many pass as there are
count_full : (n : ℕ) (f : ℕ → Bool) → eqb (count_below n f) n ≡ all_below n f
count_full n f =
    by_bool _ (all_below n f) (λ a. eq-eqb (count_below n f) n (every n f (every_all n f a)) ∙ sym a)
    (λ a. ne_eqb (count_below n f) n (λ e. absurd (not_all n f e a)) ∙ sym a)
  where
    every : (n : ℕ) (f : ℕ → Bool) → ((i : ℕ) → i < n → f i ≡ true) → count_below n f ≡ n
    every zero f e = refl
    every (suc n) f e = rw (e n (omega arith)) (let h = every n f (λ i h. e i (omega arith)) in omega arith)

    not_all : (n : ℕ) (f : ℕ → Bool) → count_below n f ≡ n → all_below n f ≡ false → ⊥
    not_all n f e a = let z : ◌≡◌ {A = Bool} true false = sym (all_every n f (count_each n f e)) ∙ a in let q : ◌≡◌ {A = ℕ} 0 1 = cc in omega arith

-- ---- the offsets from a up to b that pass a test
pub cut_below : (f : ℕ → Bool) (a b i : ℕ) → i < a → in_range_and f a b i ≡ false
cut_below f a b i h = rw (range_below a b i h)

pub cut_above : (f : ℕ → Bool) (a b i : ℕ) → b ≤ i → in_range_and f a b i ≡ false
cut_above f a b i h = rw (range_above a b i h)

pub cut_in : (f : ℕ → Bool) (a b i : ℕ) → a ≤ i → i < b → in_range_and f a b i ≡ f i
cut_in f a b i h k = rw (range_in a b i h k)

-- below b it does not matter how far it goes beyond b; from b on it does not matter where it started
cut_end : (f : ℕ → Bool) (a b c i : ℕ) → i < b → b ≤ c → in_range_and f a b i ≡ in_range_and f a c i
cut_end f a b c i h k = rw (lt-ltb i b h, lt-ltb i c (omega arith))

cut_from : (f : ℕ → Bool) (a b c i : ℕ) → a ≤ b → b ≤ i → in_range_and f b c i ≡ in_range_and f a c i
cut_from f a b c i h k = rw (le-leb b i k, le-leb a i (omega arith))

module _ (L : Layout) where
  up_to_ext : (n : ℕ) (f g : ℕ → Bool) (m : List ℕ) → ((i : ℕ) → i < n → f i ≡ g i) → mark_up_to L n f m ≡ mark_up_to L n g m
  up_to_ext zero f g m e = refl
  up_to_ext (suc n) f g m e = rw (e n (omega arith), up_to_ext n f g m (λ i h. e i (omega arith)))

  pub all_same : (f g : ℕ → Bool) (m : List ℕ) → ((i : ℕ) → i < capacity L m → f i ≡ g i) → mark_all L f m ≡ mark_all L g m
  unfolding mark_all
  all_same f g m e = up_to_ext (capacity L m) f g m e

  pub new_same : (f g : ℕ → Bool) (m : List ℕ) → ((i : ℕ) → i < capacity L m → f i ≡ g i) → new_marks L f m ≡ new_marks L g m
  unfolding new_marks
  new_same f g m e = count_ext (capacity L m) _ _ (λ i h. ap (λ (b : Bool). b && not (marked L m i)) (e i h))

  module _ (f : ℕ → Bool) (a b c : ℕ) (ab : a ≤ b) (bc : b ≤ c) where
    up_to_cut : (n : ℕ) (m : List ℕ) → mark_up_to L n (in_range_and f b c) (mark_up_to L n (in_range_and f a b) m) ≡ mark_up_to L n (in_range_and f a c) m
    up_to_cut zero m = refl
    up_to_cut (suc n) m =
        by_lt _ n b
        (λ h. rw (cut_below f b c n h)
        (marks_start L n (in_range_and f b c) _ (λ k l. cut_below f b c k (omega arith))
        ∙ ap₂ (λ (t : Bool) (x : List ℕ). mark_if L t n x) (cut_end f a b c n h bc) (up_to_ext n (in_range_and f a b) (in_range_and f a c) m (λ k l. cut_end f a b c k (omega arith) bc))))
        (λ h. rw (cut_above f a b n h)
        (ap₂ (λ (t : Bool) (x : List ℕ). mark_if L t n x) (cut_from f a b c n ab h) (up_to_cut n m)))

    cut_marks : (m : List ℕ) → mark_all L (in_range_and f b c) (mark_all L (in_range_and f a b) m) ≡ mark_all L (in_range_and f a c) m
    unfolding mark_all
    cut_marks m =
        ap (λ (n : ℕ). mark_up_to L n (in_range_and f b c) (mark_up_to L (capacity L m) (in_range_and f a b) m))
        (capacity_length L (mark_up_to L (capacity L m) (in_range_and f a b) m) m (length_mark_all L (in_range_and f a b) m))
        ∙ up_to_cut (capacity L m) m

  -- nothing yet, and one offset
  pub cut_start : (f : ℕ → Bool) (a : ℕ) (m : List ℕ) → mark_all L (in_range_and f a a) m ≡ m
  unfolding mark_all
  cut_start f a m = marks_start L (capacity L m) (in_range_and f a a) m (λ i h. by_lt _ i a (λ l. cut_below f a a i l) (λ l. cut_above f a a i l))

  module _ (f : ℕ → Bool) (i : ℕ) (m : List ℕ) (room : i < capacity L m) where
    one_mark : mark_all L (in_range_and f i (i + 1)) m ≡ mark_if L (f i) i m
    one_mark =
        sym (marks_end L (i + 1) (in_range_and f i (i + 1)) m (omega arith) (λ k h l. cut_above f i (i + 1) k h))
        ∙ marks_step L i (f i) (in_range_and f i (i + 1)) m (cut_in f i (i + 1) i (omega arith) (omega arith))
        ∙ ap (mark_if L (f i) i) (marks_start L i (in_range_and f i (i + 1)) m (λ k h. cut_below f i (i + 1) k h))

-- ---- loops: what was marked from start up to i, and then from i up to j
module _ (L : Layout) (f : ℕ → Bool) (start : ℕ) (before : List ℕ) where
  pub cut_on : (i j : ℕ) (m k : List ℕ) → start ≤ i → i ≤ j → m ≡ mark_all L (in_range_and f start i) before → k ≡ mark_all L (in_range_and f i j) m → k ≡ mark_all L (in_range_and f start j) before
  cut_on i j m k h l e q = q ∙ ap (mark_all L (in_range_and f i j)) e ∙ cut_marks L f start i j h l before

  pub cut_next : (i : ℕ) (m k : List ℕ) (on : Bool) → start ≤ i → i < capacity L m → m ≡ mark_all L (in_range_and f start i) before → on ≡ f i → k ≡ mark_if L on i m
      → k ≡ mark_all L (in_range_and f start (i + 1)) before
  cut_next i m k on h l e t q = cut_on i (i + 1) m k h (omega arith) e (q ∙ ap (λ (b : Bool). mark_if L b i m) t ∙ sym (one_mark L f i m l))

-- what is new of a range is what was not marked of it
module _ (L : Layout) (m : List ℕ) (a b : ℕ) (ab : a ≤ b) (room : b ≤ capacity L m) where
  pub new_range : new_marks L (in_range_and always a b) m ≡ b - a - count_below (b - a) (λ j. marked L m (a + j))
  unfolding new_marks
  new_range =
      let all = count_both (b - a) (λ j. marked L m (a + j)) (λ j. not (marked L m (a + j))) always (λ j h. either (marked L m (a + j))) in
      let full = count_every (b - a) in
      let cut = count_between b (capacity L m) g room (λ k h l. rw (cut_above always a b k h)) in
      let two = count_run a b (count_below a g) _ g ab refl refl in
      let none = count_none a g (λ k h. rw (cut_below always a b k h)) in
      let same = count_ext (b - a) (λ j. g (a + j)) (λ j. not (marked L m (a + j))) (λ j h. rw (cut_in always a b (a + j) (omega arith) (omega arith))) in
      let z : count_below (capacity L m) g ≡ b - a - count_below (b - a) (λ j. marked L m (a + j)) = omega arith in z
    where
      g : ℕ → Bool
      g k = in_range_and always a b k && not (marked L m k)

      either : (t : Bool) → ◌≡◌ {A = ℕ} 1 (cond t 1 0 + cond (not t) 1 0)
      either true = refl
      either false = refl

      count_every : (n : ℕ) → count_below n always ≡ n
      count_every zero = refl
      count_every (suc n) = let ih = count_every n in let z : 1 + count_below n always ≡ suc n = omega arith in z

-- no more are new than there are offsets up to where the test holds
pub new_most : (L : Layout) (t : ℕ) (f : ℕ → Bool) (m : List ℕ) (n : ℕ) → t ≤ capacity L m → ((i : ℕ) → t ≤ i → f i ≡ false) → n ≡ new_marks L f m → n ≤ t
unfolding new_marks
new_most L t f m n room above e =
    let cut = count_between t (capacity L m) (λ i. f i && not (marked L m i)) room (λ k h l. rw (above k h)) in
    let most = count_most t (λ i. f i && not (marked L m i)) in
    let q : n ≡ count_below (capacity L m) (λ i. f i && not (marked L m i)) = e in
    omega arith

-- where none of the area's offsets passes the test
pub none_new : (L : Layout) (f : ℕ → Bool) (m : List ℕ) → ((i : ℕ) → i < capacity L m → f i ≡ false) → (m ≡ mark_all L f m) × (0 ≡ new_marks L f m)
unfolding mark_all new_marks
none_new L f m e = (sym (marks_start L (capacity L m) f m e), sym (count_none (capacity L m) _ (λ i h. rw (e i h))))

-- ---- offsets past the area are not marked
module _ (L : Layout) (m : List ℕ) (start stop end : ℕ) (below : stop ≤ end) (full : stop < end → stop ≡ capacity L m) where
  pub area_any : any_from start stop (marked L m) ≡ any_from start end (marked L m)
  area_any =
      sym (any_between stop end (λ i. leb start i && marked L m i) below
      (λ k h l. let e = full (omega arith) in rw (marked_none L m k (omega arith)) (and-false (leb start k))))

  pub area_count : count_below (stop - start) (λ j. marked L m (start + j)) ≡ count_below (end - start) (λ j. marked L m (start + j))
  area_count =
      sym (count_between (stop - start) (end - start) (λ j. marked L m (start + j)) (omega arith)
      (λ k h l. let e = full (omega arith) in marked_none L m (start + k) (omega arith)))

-- ---- where a loop ends by the area, the offsets past it play no part
module _ (start end stop most k : ℕ) (below : stop ≤ end) (full : stop < end → stop ≡ most) (inside : k < most) where
  past_end : stop ≤ k → end ≤ k
  past_end h = by_lt _ k end (λ l. let e = full (omega arith) in absurd (omega arith)) (λ l. l)

  pub run_end : in_range_and always start stop k ≡ in_range start end k
  run_end =
      by_lt _ k stop
      (λ h. rw (lt-ltb k stop h, lt-ltb k end (omega arith)) (both (leb start k)))
      (λ h. cut_above always start stop k h ∙ sym (range_above start end k (past_end h)))
    where
      both : (b : Bool) → (b && true) && true ≡ b && true
      both true = refl
      both false = refl

  pub run_none : stop ≤ start → in_range_and always start start k ≡ in_range start end k
  run_none h =
      by_lt _ k start
      (λ l. cut_below always start start k l ∙ sym (range_below start end k l))
      (λ l. cut_above always start start k l ∙ sym (range_above start end k (past_end (omega arith))))

-- the same of the marks of another area o: a loop up to stop, which is n or where either area ends
pub run_marked : (L : Layout) (o : List ℕ) (n inner stop most k : ℕ) → inner ≤ n → (inner < n → inner ≡ most) → stop ≤ inner → (stop < inner → stop ≡ capacity L o) → k < most
    → in_range_and (marked L o) 0 stop k ≡ marked_below L n o k
run_marked L o n inner stop most k w e v q inside =
    by_lt _ k stop
    (λ h. cut_in (marked L o) 0 stop k (omega arith) h ∙ sym (rw (lt-ltb k n (omega arith))))
    (λ h. cut_above (marked L o) 0 stop k h ∙ sym (by_lt _ k n
    (λ l. let deep : k < inner = by_lt _ k inner (λ z. z) (λ z. let full = e (omega arith) in absurd (omega arith)) in
    let full = q (omega arith) in rw (marked_none L o k (omega arith)) (and-false (ltb k n)))
    (λ l. rw (le-ltb k n l))))

-- ---- how many are marked
module _ (L : Layout) where
  pub marked_most : (t : ℕ) (m : List ℕ) → count_marked L t m ≤ t
  unfolding count_marked
  marked_most t m = count_most t (marked L m)

  pub count_cleared : (t : ℕ) (m : List ℕ) → count_marked L t (cleared m) ≡ 0
  unfolding count_marked
  count_cleared t m = count_none t (marked L (cleared m)) (λ i h. marked_cleared L m i)

  -- all are marked exactly if as many are as there are
  pub count_all : (t : ℕ) (m : List ℕ) → eqb (count_marked L t m) t ≡ all_marked L t m
  unfolding count_marked all_marked
  count_all t m = count_full t (marked L m)

  -- marking adds what was not marked
  pub count_put : (t : ℕ) (f : ℕ → Bool) (m : List ℕ) → marks_for L t ≤ length m → ((i : ℕ) → t ≤ i → f i ≡ false) → count_marked L t (mark_all L f m) ≡ count_marked L t m + new_marks L f m
  unfolding count_marked new_marks
  count_put t f m room above =
      count_both t (marked L m) (λ i. f i && not (marked L m i)) (marked L (mark_all L f m)) (λ i h. each i h (f i) refl)
      ∙ ap (λ (n : ℕ). count_below t (marked L m) + n) (sym (count_between t (capacity L m) (λ i. f i && not (marked L m i)) (marks_cover L t t m (omega arith) room) (λ k h l. rw (above k h))))
    where
      each : (i : ℕ) → i < t → (b : Bool) → f i ≡ b → cond (marked L (mark_all L f m) i) 1 0 ≡ cond (marked L m i) 1 0 + cond (f i && not (marked L m i)) 1 0
      each i h true e = rw (marked_on L t f m i h room e, e) (by_bool _ (marked L m i) (λ q. rw q) (λ q. rw q))
      each i h false e = rw (marked_off L f m i e, e) (let z : ◌≡◌ {A = ℕ} (cond (marked L m i) 1 0) (cond (marked L m i) 1 0 + 0) = omega arith in z)

-- what is marked already is not new
pub new_again : (L : Layout) (t : ℕ) (m : List ℕ) → new_marks L (marked_below L t m) m ≡ 0
unfolding new_marks
new_again L t m = count_none (capacity L m) _ (λ i h. each (ltb i t) (marked L m i))
  where
    each : (a b : Bool) → ((a && b) && not b) ≡ false
    each true true = refl
    each true false = refl
    each false b = refl

-- where none of the offsets of a range is marked, each of them is new
pub new_none : (L : Layout) (m : List ℕ) (a b : ℕ) → a ≤ b → b ≤ capacity L m → any_from a b (marked L m) ≡ false → new_marks L (in_range a b) m ≡ b - a
new_none L m a b h area none =
    let zero = count_none (b - a) (λ j. marked L m (a + j)) (λ j l. none_from a b (marked L m) none (a + j) (omega arith) (omega arith)) in
    let all = new_range L m a b h area in
    new_same L (in_range a b) (in_range_and always a b) m (λ k l. sym (run_end a b b (capacity L m) k (omega arith) (λ z. absurd (omega arith)) l)) ∙ omega arith
