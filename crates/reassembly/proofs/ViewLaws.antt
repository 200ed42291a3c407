-- Laws of views and of lists that a view is laid into. What is laid in from low offsets to high ones goes by the equation
-- `payload ≡ overlaid (up_to i v) payload₀`: `laid-start`, `laid-step` and `laid_end` are its steps. Assumes nothing.
use Prim.Native.Nat.{ℕ, zero, suc, ◌+◌, ◌-◌, ◌≤◌, ◌<◌}
use mathlib.Core.Path.{◌≡◌, refl, sym, ap, ◌∙◌, fun_ext}
use mathlib.Core.Bool.{Bool, true, false, cond, not, ◌&&◌}
use mathlib.Core.List.{List, [], ◌++◌, ◌∷◌}
use mathlib.Core.Option
use mathlib.Core.Option.{Option, some, none, or_else}
use native.Mathlib.Nat.{le_of_suc-le-suc, le_of_lt, le_refl, not-suc-le-zero}
use native.Mathlib.Numerals.{add-one}
use native.Mathlib.Omega.{arith}
use lib.ListN.{length, get_or, set, take, drop, length-set, length-drop}
use lib.Seq.{sets, take-length, take-suc, length-take-le, get_or-take, get_or-drop, ext_get_or, get_or-set_same, get_or-set_other}
use lib.Dec.{ltb, eqb}
use borrow.Author.Tests.{lt-ltb, le-ltb, le-leb, lt-leb, eqb-true, not-false}
use Rattle.reassembly.specs.Views.{View, tabulate, is_some, has, only_if, data_view, bytes_view, between, nowhere, both_views, differs, clash, full, overlaid}
use Rattle.marks.specs.Offsets.{any_below, in_range}
use Rattle.wire.proofs.Cases.{by_bool, by_eq, by_lt}
use Rattle.wire_writer.proofs.Stores.{sets_append, put_in}
use Rattle.marks.proofs.OffsetLaws.{any_none, all_every, none_any, every_all}

-- ---- lists by their elements
pub length_tab : (n : ℕ) (f : ℕ → ℕ) → length (tabulate n f) ≡ n
length_tab zero f = refl
length_tab (suc n) f = ap suc (length_tab n (λ i. f (suc i)))

pub get_d_tab : (n : ℕ) (f : ℕ → ℕ) (i d : ℕ) → i < n → get_or (tabulate n f) i d ≡ f i
get_d_tab zero f i d h = absurd (not-suc-le-zero h)
get_d_tab (suc n) f zero d h = refl
get_d_tab (suc n) f (suc i) d h = get_d_tab n (λ k. f (suc k)) i d (le_of_suc-le-suc h)

pub length_laid : (v : View) (p : List ℕ) → length (overlaid v p) ≡ length p
unfolding overlaid
length_laid v p = length_tab (length p) _

pub get_d_laid : (v : View) (p : List ℕ) (i : ℕ) → i < length p → get_or (overlaid v p) i 0 ≡ Option.get_or (v i) (get_or p i 0)
unfolding overlaid
get_d_laid v p i h = get_d_tab (length p) _ i 0 h

-- two views that agree below the length are laid in alike
laid_ext : (v w : View) (p : List ℕ) → ((i : ℕ) → i < length p → v i ≡ w i) → overlaid v p ≡ overlaid w p
laid_ext v w p e =
    ext_get_or 0 (overlaid v p) (overlaid w p) (simp length_laid)
    (λ i h. let k : i < length p = rw length_laid at h in
    get_d_laid v p i k ∙ ap (λ (o : Option ℕ). Option.get_or o (get_or p i 0)) (e i k) ∙ sym (get_d_laid w p i k))

-- a view below n
abbrev pub up_to : ℕ → View → View
up_to n v i = cond (ltb i n) (v i) none

up_to_below : (n : ℕ) (v : View) (i : ℕ) → i < n → up_to n v i ≡ v i
up_to_below n v i h = rw (lt-ltb i n h)

up_to_above : (n : ℕ) (v : View) (i : ℕ) → n ≤ i → up_to n v i ≡ none
up_to_above n v i h = rw (le-ltb i n h)

laid_start : (v : View) (p : List ℕ) (n : ℕ) → ((i : ℕ) → i < n → v i ≡ none) → p ≡ overlaid (up_to n v) p
laid_start v p n e =
    ext_get_or 0 p (overlaid (up_to n v) p) (simp length_laid)
    (λ i h. sym (get_d_laid (up_to n v) p i h ∙ ap (λ (o : Option ℕ). Option.get_or o (get_or p i 0)) (nothing i)))
  where
    nothing : (i : ℕ) → up_to n v i ≡ none
    nothing i = by_lt _ i n (λ l. up_to_below n v i l ∙ e i l) (λ l. up_to_above n v i l)

laid_end : (v : View) (p : List ℕ) (n : ℕ) → ((i : ℕ) → n ≤ i → v i ≡ none) → overlaid (up_to n v) p ≡ overlaid v p
laid_end v p n e =
    laid_ext (up_to n v) v p
    (λ i h. by_lt _ i n (λ l. up_to_below n v i l) (λ l. up_to_above n v i l ∙ sym (e i l)))

-- below n + 1 is below n and at n
up_to_more : (n : ℕ) (v : View) (i : ℕ) → (i ≡ n → ⊥) → up_to (n + 1) v i ≡ up_to n v i
up_to_more n v i ne =
    by_lt _ i n (λ l. up_to_below (n + 1) v i (omega arith) ∙ sym (up_to_below n v i l))
    (λ l. up_to_above (n + 1) v i (omega arith) ∙ sym (up_to_above n v i l))

-- a turn stores the view's byte at n, or what stands there
laid_step : (v : View) (p : List ℕ) (n x : ℕ) → n < length p → x ≡ Option.get_or (v n) (get_or p n 0) → set (overlaid (up_to n v) p) n x ≡ overlaid (up_to (n + 1) v) p
laid_step v p n x hn e =
    ext_get_or 0 (set (overlaid (up_to n v) p) n x) (overlaid (up_to (n + 1) v) p) (simp (length-set, length_laid))
    (λ i h. let k : i < length p = simp (length-set, length_laid) at h in
    by_eq _ i n
    (λ q. rw q
    (get_or-set_same (overlaid (up_to n v) p) n x 0 (simp length_laid hn) ∙ e
    ∙ sym (get_d_laid (up_to (n + 1) v) p n hn ∙ ap (λ (o : Option ℕ). Option.get_or o (get_or p n 0)) (up_to_below (n + 1) v n (omega arith)))))
    (λ ne. get_or-set_other (overlaid (up_to n v) p) n i x 0 ne
    ∙ get_d_laid (up_to n v) p i k
    ∙ ap (λ (o : Option ℕ). Option.get_or o (get_or p i 0)) (sym (up_to_more n v i ne))
    ∙ sym (get_d_laid (up_to (n + 1) v) p i k)))

-- ---- a view laid in by runs: `payload ≡ overlaid (between start i v) payload₀`
-- nothing of it
pub run_none : (v : View) (p : List ℕ) (a b : ℕ) → ((i : ℕ) → a ≤ i → i < b → v i ≡ none) → p ≡ overlaid (between a b v) p
run_none v p a b e =
    ext_get_or 0 p (overlaid (between a b v) p) (simp length_laid)
    (λ i h. sym (get_d_laid (between a b v) p i h ∙ ap (λ (o : Option ℕ). Option.get_or o (get_or p i 0)) (nothing i)))
  where
    nothing : (i : ℕ) → between a b v i ≡ none
    nothing i =
        by_lt _ i a (λ l. rw (lt-leb a i l))
        (λ l. by_lt _ i b (λ k. rw (le-leb a i l, lt-ltb i b k) (e i l k)) (λ k. rw (le-leb a i l, le-ltb i b k)))

-- a view that agrees there
pub run_same : (v w : View) (p : List ℕ) (a b : ℕ) → ((i : ℕ) → a ≤ i → i < b → v i ≡ w i) → overlaid (between a b v) p ≡ overlaid (between a b w) p
run_same v w p a b e =
    laid_ext (between a b v) (between a b w) p
    (λ i h. by_lt _ i a (λ l. rw (lt-leb a i l)) (λ l. by_lt _ i b (λ k. rw (le-leb a i l, lt-ltb i b k) (e i l k)) (λ k. rw (le-leb a i l, le-ltb i b k))))

-- all of it
pub run_whole : (v : View) (p : List ℕ) (b : ℕ) → ((i : ℕ) → b ≤ i → v i ≡ none) → overlaid (between 0 b v) p ≡ overlaid v p
run_whole v p b e =
    laid_ext (between 0 b v) v p
    (λ i h. by_lt _ i b (λ k. rw (le-leb 0 i (omega arith), lt-ltb i b k)) (λ k. rw (le-leb 0 i (omega arith), le-ltb i b k) (sym (e i k))))

-- one run behind another
pub run_more : (v : View) (p q k : List ℕ) (a b c : ℕ) → a ≤ b → b ≤ c → q ≡ overlaid (between a b v) p → k ≡ overlaid (between b c v) q → k ≡ overlaid (between a c v) p
run_more v p q k a b c ab bc e f =
    f ∙ ap (overlaid (between b c v)) e
    ∙ ext_get_or 0 (overlaid (between b c v) (overlaid (between a b v) p)) (overlaid (between a c v) p) (simp length_laid)
    (λ i h. let l : i < length p = simp length_laid at h in
    get_d_laid (between b c v) (overlaid (between a b v) p) i (simp length_laid l)
    ∙ ap (Option.get_or (between b c v i)) (get_d_laid (between a b v) p i l) ∙ each i (get_or p i 0) ∙ sym (get_d_laid (between a c v) p i l))
  where
    each : (i x : ℕ) → Option.get_or (between b c v i) (Option.get_or (between a b v i) x) ≡ Option.get_or (between a c v i) x
    each i x =
        by_lt _ i b
        (λ h. rw (lt-leb b i h, lt-ltb i b h, lt-ltb i c (omega arith)))
        (λ h. rw (le-ltb i b h, le-leb b i h, le-leb a i (omega arith)))

-- a turn stores the view's byte at i, or what stands there
pub run_turn : (v : View) (p q : List ℕ) (a i x : ℕ) → a ≤ i → i < length p → q ≡ overlaid (between a i v) p → x ≡ Option.get_or (v i) (get_or q i 0) → set q i x ≡ overlaid (between a (i + 1) v) p
run_turn v p q a i x h l e t =
    run_more v p q (set q i x) a i (i + 1) h (omega arith) e
    (ext_get_or 0 (set q i x) (overlaid (between i (i + 1) v) q) (simp (length-set, length_laid))
    (λ j k. let m : j < length q = simp length-set at k in
    by_eq _ j i
    (λ z. rw z (get_or-set_same q i x 0 (rw (ap length e ∙ length_laid (between a i v) p) l) ∙ t ∙ sym (get_d_laid (between i (i + 1) v) q i (rw z at m)
    ∙ ap (λ (o : Option ℕ). Option.get_or o (get_or q i 0)) (here refl))))
    (λ z. get_or-set_other q i j x 0 z ∙ sym (get_d_laid (between i (i + 1) v) q j m ∙ ap (λ (o : Option ℕ). Option.get_or o (get_or q j 0)) (elsewhere j z)))))
  where
    here : i ≡ i → between i (i + 1) v i ≡ v i
    here q = rw (le-leb i i (omega arith), lt-ltb i (i + 1) (omega arith))

    elsewhere : (j : ℕ) → (j ≡ i → ⊥) → between i (i + 1) v j ≡ none
    elsewhere j z = by_lt _ j i (λ y. rw (lt-leb i j y)) (λ y. rw (le-leb i j y, le-ltb j (i + 1) (omega arith)))

-- ---- a chunk's data
pub data_at_lem : (at : ℕ) (d : List ℕ) (j : ℕ) → j < length d → data_view at d (at + j) ≡ some (get_or d j 0)
unfolding data_view
data_at_lem at d j h =
    let q : at + j - at ≡ j = omega arith in
    rw (le-leb at (at + j) (omega arith), lt-ltb (at + j) (at + length d) (omega arith), q)

pub data_below : (at : ℕ) (d : List ℕ) (i : ℕ) → i < at → data_view at d i ≡ none
unfolding data_view
data_below at d i h = rw (lt-leb at i h)

pub data_above : (at : ℕ) (d : List ℕ) (i : ℕ) → at + length d ≤ i → data_view at d i ≡ none
unfolding data_view
data_above at d i h = rw (le-leb at i (omega arith), le-ltb i (at + length d) h)

-- a run of bytes stored at its offset, as far as its first j bytes, and whole
-- a run one byte longer
run_step : (src l : List ℕ) (at i : ℕ) → i < length src → set (sets l at (take i src)) (at + i) (get_or src i 0) ≡ sets l at (take (i + 1) src)
run_step src l at i h =
    let e : take (i + 1) src ≡ take i src ++ (get_or src i 0 ∷ []) = rw add-one (take-suc src i 0 h) in
    ap (λ (k : ℕ). set (sets l at (take i src)) (at + k) (get_or src i 0)) (sym (length-take-le i src (le_of_lt h)))
    ∙ sets_append (take i src) (get_or src i 0 ∷ []) l at ∙ ap (sets l at) (sym e)

laid_front : (d p : List ℕ) (at j : ℕ) → j ≤ length d → at + length d ≤ length p → sets p at (take j d) ≡ overlaid (up_to (at + j) (data_view at d)) p
laid_front d p at zero h k = laid_start (data_view at d) p (at + 0) (λ i l. data_below at d i (omega arith))
laid_front d p at (suc j) h k =
    let l : j < length d = omega arith in
    let byte = ap (λ (o : Option ℕ). Option.get_or o (get_or p (at + j) 0)) (data_at_lem at d j l) in
    ap (λ (n : ℕ). sets p at (take n d)) (sym (add-one j)) ∙ sym (run_step d p at j l) ∙ ap (λ (q : List ℕ). set q (at + j) (get_or d j 0)) (laid_front d p at j (omega arith) k)
    ∙ laid_step (data_view at d) p (at + j) (get_or d j 0) (omega arith) (sym byte) ∙ ap (λ (n : ℕ). overlaid (up_to n (data_view at d)) p) (omega arith)

pub laid_data : (d p : List ℕ) (at : ℕ) → at + length d ≤ length p → sets p at d ≡ overlaid (data_view at d) p
laid_data d p at k =
    ap (sets p at) (sym (take-length d)) ∙ laid_front d p at (length d) (le_refl (length d)) k
    ∙ laid_end (data_view at d) p (at + length d) (λ i h. data_above at d i h)

-- bytes of another area copied into the same places
pub copied : (start end n : ℕ) (b f p q : List ℕ) → start ≤ end → end ≤ length p → end ≤ length f → n ≡ end - start → b ≡ take n (drop start f)
    → q ≡ take start p ++ (b ++ drop n (drop start p)) → q ≡ overlaid (between start end (bytes_view f)) p
copied start end n b f p q o k h en eb eq =
    let w : length b ≡ n = ap length eb ∙ length-take-le n (drop start f) (omega (arith, length-drop start f, h, en)) in
    let u : start + length b ≡ end = omega arith in
    eq ∙ put_in b p start n (sym w) (omega arith) ∙ laid_data b p start (omega arith) ∙ laid_ext (data_view start b) (between start end (bytes_view f)) p (λ i l. same i u w)
  where
    same : (i : ℕ) → start + length b ≡ end → length b ≡ n → data_view start b i ≡ between start end (bytes_view f) i
    same i u w =
        by_lt _ i start
        (λ l. data_below start b i l ∙ rw (lt-leb start i l))
        (λ l. by_lt _ i end
        (λ m. let j : start + (i - start) ≡ i = omega arith in
        let byte : get_or b (i - start) 0 ≡ get_or f i 0 =
        ap (λ (x : List ℕ). get_or x (i - start) 0) eb ∙ get_or-take n (drop start f) (i - start) 0 (omega arith) ∙ get_or-drop start f (i - start) 0
        ∙ ap (λ (k : ℕ). get_or f k 0) j in
        ap (data_view start b) (sym j) ∙ data_at_lem start b (i - start) (omega arith) ∙ ap some byte ∙ rw (le-leb start i l, lt-ltb i end m))
        (λ m. data_above start b i (omega arith) ∙ rw (le-leb start i l, le-ltb i end m)))

some_only : (b : Bool) (x : ℕ) → is_some (only_if b x) ≡ b
some_only true x = refl
some_only false x = refl

pub has_only : (f : ℕ → Bool) (g : ℕ → ℕ) → has (λ i. only_if (f i) (g i)) ≡ f
has_only f g = fun_ext (λ i. some_only (f i) (g i))

pub has_data : (at : ℕ) (d : List ℕ) → has (data_view at d) ≡ in_range at (at + length d)
unfolding data_view
has_data at d = has_only (in_range at (at + length d)) (λ i. get_or d (i - at) 0)

-- ---- full
pub full_some : (n : ℕ) (v : View) → full n v ≡ true → (i : ℕ) → i < n → has v i ≡ true
unfolding full
full_some n v e i h = every_all n (has v) e i h

pub full_all : (n : ℕ) (v : View) → ((i : ℕ) → i < n → has v i ≡ true) → full n v ≡ true
unfolding full
full_all n v e = all_every n (has v) e

-- ---- clashes
-- the same byte, or none, differs nowhere
pub differs_same : (b c : Bool) (x y : ℕ) → eqb x y ≡ true → differs (only_if b x) (only_if c y) ≡ false
differs_same true true x y e = ap not e
differs_same true false x y e = refl
differs_same false c x y e = refl

pub differs_none : (o : Option ℕ) → differs o none ≡ false
differs_none (some x) = refl
differs_none none = refl

pub differs_known : (b c : Bool) (x y : ℕ) → (b && c && not (eqb x y)) ≡ differs (only_if b x) (only_if c y)
differs_known true true x y = refl
differs_known true false x y = refl
differs_known false c x y = refl

pub clash_none : (n : ℕ) (v w : View) → ((i : ℕ) → i < n → differs (v i) (w i) ≡ false) → clash n v w ≡ false
unfolding clash
clash_none n v w e = any_none n _ e

pub none_clash : (n : ℕ) (v w : View) → clash n v w ≡ false → (i : ℕ) → i < n → differs (v i) (w i) ≡ false
unfolding clash
none_clash n v w e i h = none_any n _ e i h

-- the test at each of a chunk's bytes
abbrev pub differs_at : View → ℕ → List ℕ → ℕ → Bool
differs_at v at d j = differs (v (at + j)) (data_view at d (at + j))

-- a chunk's data clashes at one of its own offsets, or nowhere
pub clash_data : (n : ℕ) (v : View) (at : ℕ) (d : List ℕ) → at + length d ≤ n → clash n v (data_view at d) ≡ any_below (length d) (differs_at v at d)
unfolding clash
clash_data n v at d fits =
    by_bool _ (any_below (length d) (differs_at v at d))
    (λ t. by_bool _ (any_below n (λ i. differs (v i) (data_view at d i))) (λ u. u ∙ sym t)
    (λ u. u ∙ sym (any_none (length d) (differs_at v at d) (λ j h. none_any n (λ i. differs (v i) (data_view at d i)) u (at + j) (omega arith)))))
    (λ t. any_none n _ (outside t) ∙ sym t)
  where
    outside : any_below (length d) (differs_at v at d) ≡ false → (i : ℕ) → i < n → differs (v i) (data_view at d i) ≡ false
    outside t i h =
        by_lt _ i at (λ l. rw (data_below at d i l) (differs_none (v i)))
        (λ l. by_lt _ i (at + length d)
        (λ u. let q : at + (i - at) ≡ i = omega arith in
        rw q at (none_any (length d) (differs_at v at d) t (i - at) (omega arith)))
        (λ u. rw (data_above at d i u) (differs_none (v i))))

-- ---- views put together
pub first_none : (o : Option ℕ) → or_else o none ≡ o
unfolding or_else
first_none (some x) = refl
first_none none = refl

pub first_known : (o : Option ℕ) (x : ℕ) → differs o (some x) ≡ false → or_else o (some x) ≡ some x
unfolding or_else
first_known (some y) x e = ap some (eqb-true y x (not-false (eqb y x) e))
first_known none x e = refl

pub joined_nowhere : (v : View) → both_views nowhere v ≡ v
unfolding or_else
joined_nowhere v = refl
