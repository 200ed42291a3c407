-- Laws of what two areas cover: what a view laid into them makes of it, and what is handed out of a full one. Assumes nothing.
use Prim.Native.Nat.{ℕ, ◌+◌, ◌-◌, ◌≤◌, ◌<◌}
use mathlib.Core.Path.{◌≡◌, refl, sym, ap, ap₂, ◌∙◌, fun_ext}
use mathlib.Core.Bool.{Bool, true, false, cond, ◌&&◌, false≢true}
use mathlib.Core.List.{List}
use mathlib.Core.Option
use mathlib.Core.Option.{Option, some, none, or_else}
use native.Mathlib.Omega.{arith}
use lib.ListN.{length, get_or, take}
use lib.Bits.{bit_or, bit_xor}
use lib.Dec.{eqb}
use lib.Seq.{ext_get_or, get_or-take, length-take-le}
use borrow.Author.Tests.{le-leb, lt-leb}
use Rattle.reassembly.specs.Views.{View, is_some, has, only_if, data_view, nowhere, both_views, differs, clash, full, bytes_below, overlaid}
use Rattle.marks.specs.Offsets.{any_from, all_below, count_below}
use Rattle.marks.specs.Marks.{Layout, marks_for, marked, cleared, mark_all, marked_below, all_marked}
use Rattle.reassembly.specs.Areas.{marked_view}
use Rattle.wire.proofs.Cases.{by_lt}
use Rattle.reassembly.proofs.ViewLaws.{length_tab, get_d_tab, length_laid, get_d_laid, has_only, data_at_lem, data_below, differs_none, differs_same, none_clash, clash_data, differs_at, full_some, first_none, first_known}
use Rattle.marks.proofs.OffsetLaws.{any_ext, all_ext, all_step, every_all, from_none, none_from, from_ext, from_zero}
use Rattle.marks.proofs.BitLaws.{or_none_lem, xor_none}
use Rattle.marks.proofs.CountLaws.{count_zero, count_each}
use Rattle.marks.proofs.MarkLaws.{marked_is, marked_past, marked_on, marked_off, marked_cleared, marks_self}

-- a clash is one from the start on
pub clash_whole : (n : ℕ) (v w : View) → clash n v w ≡ any_from 0 n (λ k. differs (v k) (w k))
unfolding clash
clash_whole n v w = sym (from_zero n (λ k. differs (v k) (w k)))

-- a turn of comparing bytes without an exit
pub same_step : (other x y j : ℕ) (f : ℕ → Bool) → eqb other 0 ≡ all_below j f → eqb x y ≡ f j → eqb (bit_or other (bit_xor x y)) 0 ≡ all_below (j + 1) f
same_step other x y j f e t = or_none_lem other (bit_xor x y) ∙ ap₂ ◌&&◌ e (xor_none x y ∙ t) ∙ sym (all_step j f)

module _ (L : Layout) where
  pub marked_below_lem : (total : ℕ) (p m : List ℕ) (i : ℕ) → i < total → marked_view L total p m i ≡ only_if (marked L m i) (get_or p i 0)
  unfolding marked_view
  marked_below_lem total p m i h = rw (marked_is L total m i h)

  pub marked_above : (total : ℕ) (p m : List ℕ) (i : ℕ) → total ≤ i → marked_view L total p m i ≡ none
  unfolding marked_view
  marked_above total p m i h = rw (marked_past L total m i h)

  pub has_marked : (total : ℕ) (p m : List ℕ) → has (marked_view L total p m) ≡ marked_below L total m
  unfolding marked_view
  has_marked total p m = has_only (marked_below L total m) (λ i. get_or p i 0)

  -- the byte that a turn stores
  pub chosen : (total : ℕ) (q k : List ℕ) (i x : ℕ) → i < total → cond (marked L k i) (get_or q i 0) x ≡ Option.get_or (marked_view L total q k i) x
  chosen total q k i x h = rw (marked_below_lem total q k i h) (pick (marked L k i))
    where
      pick : (b : Bool) → cond b (get_or q i 0) x ≡ Option.get_or (only_if b (get_or q i 0)) x
      pick true = refl
      pick false = refl

  -- ---- what the code tests at an offset is what the views say there
  clash_step_data : (total : ℕ) (p m : List ℕ) (at : ℕ) (d : List ℕ) (j : ℕ) → at + j < total → j < length d
      → differs_at (marked_view L total p m) at d j ≡ differs (only_if (marked L m (at + j)) (get_or p (at + j) 0)) (some (get_or d j 0))
  clash_step_data total p m at d j h k = rw (marked_below_lem total p m (at + j) h, data_at_lem at d j k)

  pub clash_step_marked : (total : ℕ) (p m q n : List ℕ) (i : ℕ) → i < total
      → differs (marked_view L total p m i) (marked_view L total q n i) ≡ differs (only_if (marked L m i) (get_or p i 0)) (only_if (marked L n i) (get_or q i 0))
  clash_step_marked total p m q n i h = rw (marked_below_lem total p m i h, marked_below_lem total q n i h)

  -- a chunk's data meets the same bytes below its own end as below total
  pub clash_total : (total : ℕ) (p m : List ℕ) (at : ℕ) (d : List ℕ) → at + length d ≤ total
      → clash (at + length d) (marked_view L (at + length d) p m) (data_view at d) ≡ clash total (marked_view L total p m) (data_view at d)
  clash_total total p m at d fits =
      clash_data (at + length d) (marked_view L (at + length d) p m) at d (omega arith)
      ∙ any_ext (length d) _ _ (λ j h. clash_step_data (at + length d) p m at d j (omega arith) h ∙ sym (clash_step_data total p m at d j (omega arith) h))
      ∙ sym (clash_data total (marked_view L total p m) at d fits)

  -- the test at an offset of a chunk's data
  pub data_test : (total : ℕ) (p m : List ℕ) (at : ℕ) (d : List ℕ) (k : ℕ) → at ≤ k → k < total → k < at + length d
      → differs (marked_view L total p m k) (data_view at d k) ≡ differs (only_if (marked L m k) (get_or p k 0)) (some (get_or d (k - at) 0))
  data_test total p m at d k h l u =
      let q : at + (k - at) ≡ k = omega arith in
      rw q at (clash_step_data total p m at d (k - at) (omega arith) (omega arith))

  -- a chunk's data clashes from its own offset on
  pub clash_from : (p m : List ℕ) (at : ℕ) (d : List ℕ)
      → clash (at + length d) (marked_view L (at + length d) p m) (data_view at d) ≡ any_from at (at + length d) (λ k. differs (marked_view L (at + length d) p m k) (data_view at d k))
  unfolding clash
  clash_from p m at d =
      any_ext (at + length d) _ _ (λ k h. by_lt _ k at
      (λ l. rw (lt-leb at k l, data_below at d k l) (differs_none (marked_view L (at + length d) p m k))) (λ l. rw (le-leb at k l)))

  -- where nothing is marked, or the bytes are the same, a run of a chunk's data meets no other byte
  module _ (total : ℕ) (p m : List ℕ) (at : ℕ) (d : List ℕ) (a b : ℕ) (low : at ≤ a) (high : b ≤ at + length d) (all : b ≤ total) where
    pub run_free : any_from a b (marked L m) ≡ false → any_from a b (λ k. differs (marked_view L total p m k) (data_view at d k)) ≡ false
    run_free e =
        from_none a b _ (λ k h l. data_test total p m at d k (omega arith) (omega arith) (omega arith) ∙ rw (none_from a b (marked L m) e k h l))

    pub run_equal : all_below (b - a) (λ j. eqb (get_or p (a + j) 0) (get_or d (a - at + j) 0)) ≡ true
        → any_from a b (λ k. differs (marked_view L total p m k) (data_view at d k)) ≡ false
    run_equal e =
        from_none a b _
        (λ k h l. data_test total p m at d k (omega arith) (omega arith) (omega arith) ∙ differs_same (marked L m k) true (get_or p k 0) (get_or d (k - at) 0) (equal k h l))
      where
        equal : (k : ℕ) → a ≤ k → k < b → eqb (get_or p k 0) (get_or d (k - at) 0) ≡ true
        equal k h l =
            let q : a + (k - a) ≡ k = omega arith in
            let r : a - at + (k - a) ≡ k - at = omega arith in
            ap₂ (λ (x y : ℕ). eqb (get_or p x 0) (get_or d y 0)) (sym q) (sym r) ∙ every_all (b - a) (λ j. eqb (get_or p (a + j) 0) (get_or d (a - at + j) 0)) e (k - a) (omega arith)

  -- the same of two areas
  module _ (total : ℕ) (p m q n : List ℕ) (a b : ℕ) (all : b ≤ total) where
    pub both_free : any_from a b (marked L m) ≡ false → any_from a b (λ k. differs (marked_view L total p m k) (marked_view L total q n k)) ≡ false
    both_free e = from_none a b _ (λ k h l. clash_step_marked total p m q n k (omega arith) ∙ rw (none_from a b (marked L m) e k h l))

    pub both_idle : any_from a b (marked L n) ≡ false → any_from a b (λ k. differs (marked_view L total p m k) (marked_view L total q n k)) ≡ false
    both_idle e =
        from_none a b _ (λ k h l. clash_step_marked total p m q n k (omega arith) ∙ rw (none_from a b (marked L n) e k h l) (differs_none (only_if (marked L m k) (get_or p k 0))))

    pub both_equal : all_below (b - a) (λ j. eqb (get_or p (a + j) 0) (get_or q (a + j) 0)) ≡ true
        → any_from a b (λ k. differs (marked_view L total p m k) (marked_view L total q n k)) ≡ false
    both_equal e =
        from_none a b _
        (λ k h l. clash_step_marked total p m q n k (omega arith) ∙ differs_same (marked L m k) (marked L n k) (get_or p k 0) (get_or q k 0) (equal k h l))
      where
        equal : (k : ℕ) → a ≤ k → k < b → eqb (get_or p k 0) (get_or q k 0) ≡ true
        equal k h l =
            let z : a + (k - a) ≡ k = omega arith in
            ap (λ (x : ℕ). eqb (get_or p x 0) (get_or q x 0)) (sym z) ∙ every_all (b - a) (λ j. eqb (get_or p (a + j) 0) (get_or q (a + j) 0)) e (k - a) (omega arith)

  -- a run's test does not see how far the views go beyond it
  pub data_run : (t u : ℕ) (p m : List ℕ) (at : ℕ) (d : List ℕ) (a b : ℕ) → at ≤ a → b ≤ at + length d → b ≤ t → b ≤ u
      → any_from a b (λ k. differs (marked_view L t p m k) (data_view at d k)) ≡ any_from a b (λ k. differs (marked_view L u p m k) (data_view at d k))
  data_run t u p m at d a b low high h l =
      from_ext a b _ _ (λ k x y. data_test t p m at d k (omega arith) (omega arith) (omega arith) ∙ sym (data_test u p m at d k (omega arith) (omega arith) (omega arith)))

  pub both_run : (t u : ℕ) (p m q n : List ℕ) (a b : ℕ) → b ≤ t → b ≤ u
      → any_from a b (λ k. differs (marked_view L t p m k) (marked_view L t q n k)) ≡ any_from a b (λ k. differs (marked_view L u p m k) (marked_view L u q n k))
  both_run t u p m q n a b h l =
      from_ext a b _ _ (λ k x y. clash_step_marked t p m q n k (omega arith) ∙ sym (clash_step_marked u p m q n k (omega arith)))

  -- a run of which none, or all, is marked
  pub source_none : (t : ℕ) (q n : List ℕ) (a b : ℕ) → b ≤ t → count_below (b - a) (λ j. marked L n (a + j)) ≡ 0 → (i : ℕ) → a ≤ i → i < b → marked_view L t q n i ≡ none
  source_none t q n a b h e i l u =
      let z : a + (i - a) ≡ i = omega arith in
      marked_below_lem t q n i (omega arith) ∙ rw (ap (marked L n) (sym z) ∙ count_zero (b - a) (λ j. marked L n (a + j)) e (i - a) (omega arith))

  pub source_all : (t : ℕ) (q n : List ℕ) (a b : ℕ) → b ≤ t → count_below (b - a) (λ j. marked L n (a + j)) ≡ b - a → (i : ℕ) → a ≤ i → i < b → marked_view L t q n i ≡ some (get_or q i 0)
  source_all t q n a b h e i l u =
      let z : a + (i - a) ≡ i = omega arith in
      marked_below_lem t q n i (omega arith) ∙ rw (ap (marked L n) (sym z) ∙ count_each (b - a) (λ j. marked L n (a + j)) e (i - a) (omega arith))

  -- ---- a view laid in
  put_none : (t : ℕ) (v : View) (p m : List ℕ) (i : ℕ) → i < t → t ≤ length p → v i ≡ none → marked_view L t (overlaid v p) (mark_all L (has v) m) i ≡ marked_view L t p m i
  put_none t v p m i l hp e =
      let a : get_or (overlaid v p) i 0 ≡ get_or p i 0 = get_d_laid v p i (omega arith) ∙ ap (λ (o : Option ℕ). Option.get_or o (get_or p i 0)) e in
      marked_below_lem t (overlaid v p) (mark_all L (has v) m) i l ∙ rw (a, marked_off L (has v) m i (ap is_some e)) (sym (marked_below_lem t p m i l))

  put_some : (t : ℕ) (v : View) (p m : List ℕ) (i x : ℕ) → i < t → t ≤ length p → marks_for L t ≤ length m → v i ≡ some x → marked_view L t (overlaid v p) (mark_all L (has v) m) i ≡ some x
  put_some t v p m i x l hp hm e =
      let a : get_or (overlaid v p) i 0 ≡ x = get_d_laid v p i (omega arith) ∙ ap (λ (o : Option ℕ). Option.get_or o (get_or p i 0)) e in
      marked_below_lem t (overlaid v p) (mark_all L (has v) m) i l ∙ rw (a, marked_on L t (has v) m i l hm (ap is_some e))

  -- laying a view in that differs nowhere: what is covered then is both
  pub view_put : (t : ℕ) (v : View) (p m : List ℕ) → t ≤ length p → marks_for L t ≤ length m → ((i : ℕ) → t ≤ i → v i ≡ none) → clash t (marked_view L t p m) v ≡ false
      → marked_view L t (overlaid v p) (mark_all L (has v) m) ≡ both_views (marked_view L t p m) v
  unfolding or_else
  view_put t v p m hp hm above free =
      fun_ext (λ i. by_lt _ i t (λ l. below i l (v i) refl)
      (λ l. marked_above t (overlaid v p) (mark_all L (has v) m) i l ∙ sym (ap₂ or_else (marked_above t p m i l) (above i l))))
    where
      below : (i : ℕ) → i < t → (o : Option ℕ) → v i ≡ o → marked_view L t (overlaid v p) (mark_all L (has v) m) i ≡ both_views (marked_view L t p m) v i
      below i l none e = put_none t v p m i l hp e ∙ sym (ap (or_else (marked_view L t p m i)) e ∙ first_none (marked_view L t p m i))
      below i l (some x) e =
          put_some t v p m i x l hp hm e
          ∙ sym (ap (or_else (marked_view L t p m i)) e ∙ first_known (marked_view L t p m i) x (ap (differs (marked_view L t p m i)) (sym e) ∙ none_clash t (marked_view L t p m) v free i l))

  -- cleared marks cover nothing
  pub cleared_nowhere : (t : ℕ) (p m : List ℕ) → marked_view L t p (cleared m) ≡ nowhere
  cleared_nowhere t p m =
      fun_ext (λ i. by_lt _ i t (λ l. marked_below_lem t p (cleared m) i l ∙ rw (marked_cleared L m i)) (λ l. marked_above t p (cleared m) i l))

  -- laying in what is covered already changes no byte
  pub laid_self : (t : ℕ) (p m : List ℕ) → overlaid (marked_view L t p m) p ≡ p
  laid_self t p m =
      ext_get_or 0 (overlaid (marked_view L t p m) p) p (length_laid (marked_view L t p m) p)
      (λ i h. let k : i < length p = rw length_laid at h in
      get_d_laid (marked_view L t p m) p i k
      ∙ by_lt _ i t (λ l. rw (marked_below_lem t p m i l) (same (marked L m i) (get_or p i 0))) (λ l. rw (marked_above t p m i l)))
    where
      same : (b : Bool) (x : ℕ) → Option.get_or (only_if b x) x ≡ x
      same true x = refl
      same false x = refl

  pub marks_again : (t : ℕ) (p m : List ℕ) → mark_all L (has (marked_view L t p m)) m ≡ m
  marks_again t p m = rw (has_marked t p m) (marks_self L t m)

  -- ---- a full one
  pub full_marked : (n : ℕ) (p m : List ℕ) → full n (marked_view L n p m) ≡ all_marked L n m
  unfolding all_marked full
  full_marked n p m = ap (all_below n) (has_marked n p m) ∙ all_ext n _ _ (λ i h. marked_is L n m i h)

  pub full_bytes : (t : ℕ) (p m : List ℕ) → t ≤ length p → full t (marked_view L t p m) ≡ true → take t p ≡ bytes_below t (marked_view L t p m)
  full_bytes t p m h e =
      ext_get_or 0 (take t p) (bytes_below t (marked_view L t p m)) (length-take-le t p h ∙ sym (length_tab t _))
      (λ i k. let l : i < t = rw (length-take-le t p h) at k in
      get_or-take t p i 0 l ∙ sym (get_d_tab t (λ i. Option.get_or (marked_view L t p m i) 0) i 0 l ∙ byte i l (full_some t (marked_view L t p m) e i l)))
    where
      at_mark : (b : Bool) (x : ℕ) → is_some (only_if b x) ≡ true → Option.get_or (only_if b x) 0 ≡ x
      at_mark true x e = refl
      at_mark false x e = absurd (false≢true e)

      byte : (i : ℕ) → i < t → has (marked_view L t p m) i ≡ true → Option.get_or (marked_view L t p m i) 0 ≡ get_or p i 0
      byte i l q = rw (marked_below_lem t p m i l) (at_mark (marked L m i) (get_or p i 0) (rw (marked_below_lem t p m i l) at q))
