-- The round trips of a probe's body: read as it was written, and what was read is what stands there.
-- Assumes nothing.
use Rattle.std.specs.Prelude.{Option, Some, None}
use mathlib.Core.Path.{◌≡◌, refl, sym, ap, subst, ◌∙◌}
use mathlib.Core.Bool.{Bool, true, false, cond}
use mathlib.Core.List.{List, [], ◌++◌, append_assoc, append-nil}
use Prim.Native.Nat.{ℕ, zero, suc, ◌+◌, ◌*◌, ◌-◌, ◌≤◌, ◌<◌}
use native.Mathlib.Nat.{zero-add}
use native.Mathlib.Omega.{arith}
use lib.Dec.{eqb, leb, ltb}
use lib.IntN.{pos, negsuc}
use lib.ListN.{length, take, drop, length-append, length-drop, drop_of_length-le}
use lib.Seq.{length-take-le}
use borrow.Author.Tests.{le-leb, lt-leb, lt-ltb, leb-false, ltb-true, ltb-false, eqb-true, eqb-false, eq-eqb}
use Rattle.wire.specs.Number.{le, le_bytes, signed}
use Rattle.wire.specs.Answer.{Answer, got, refused, Reader, item, ruled, run, each}
use Rattle.wire.specs.Items.{length_of, length_item}
use Rattle.wire.specs.declared.Length.{Length}
use Rattle.wire.proofs.Numbers.{length_le_bytes}
use Rattle.wire.proofs.Reading.{got_value, got_next, not_got, invert}
use Rattle.wire.proofs.Places.{placed, alone, within, within_refused}
use Rattle.wire.proofs.Steady.{Steady}
use Rattle.wire_writer.specs.Fits.{Bytes}
use Rattle.wire_writer.proofs.Trip.{At, Reads, first, second, fits_at, run_is, le_at, item_is, ruled_is}
use Rattle.wire_writer.proofs.Back.{Back, join, part_at, rest_is, end_fits, item_back, run_back, ruled_back, map_back}
use Rattle.wire_writer.proofs.Refusals.{passed, held}
use Rattle.plain_value.specs.Plain.{after_length, by_length, string}
use Rattle.probe.specs.declared.body.Probe.{Probe}
use Rattle.probe.specs.Body.{probe_type_rule, information_rule, listed_ids, listed_strings, id_list_at, string_list_at, meta_data_at, writers_at, group_probe_at, includes_at, connections_at, probe_of, information_at, probe_at, probe_body_at}
use Rattle.probe.specs.Items.{count_in}
use Rattle.probe.specs.Put.{information_of, probe_head_bytes, list_count_bytes, parts_bytes, probe_bytes, id_list_rule, strings_end, strings_rule, string_list_rule, probe_body_refusal, FitsProbe, list_in}
use Rattle.probe.proofs.Steadily.{strings_steady, body_ended}

-- ---- read as it was written

-- a count
module _ (s : List ℕ) (m : ℕ) where
  length_there : (k : ℕ) → k < 4294967296 → At s m (le_bytes 4 k) → length_item s m ≡ got (length_of (signed 4 k)) (m + 4)
  length_there k h a =
      let fits : m + 4 ≤ length s = omega (arith, fits_at s m (le_bytes 4 k) a, length_le_bytes 4 k) in
      rw (le-leb (m + 4) (length s) fits, le_at 4 k m h s a)

  count_there : (k : ℕ) → k < 2147483648 → At s m (le_bytes 4 k) → length_item s m ≡ got (Length.Of k) (m + 4)
  count_there k h a = length_there k (omega arith) a ∙ rw (lt-ltb k 2147483648 h)

  null_there : At s m (le_bytes 4 4294967295) → length_item s m ≡ got Length.Null (m + 4)
  null_there a = length_there 4294967295 (omega arith) a

-- what a steady reader reads of bytes alone, it reads wherever they stand
steady_is : {A : Type 0} {r : Reader A} → Steady r → (m : ℕ) (b : List ℕ) (x : A) → r b 0 ≡ got x (length b) → Reads r m b x
steady_is f m b x q s a = rw (a.2, sym a.3) (placed f a.0 b a.1 q)

-- a list that is null has no bytes
null_list : (r : ℕ → Reader (Option ℕ)) (list : List ℕ) (m : ℕ) → length list ≡ 0 → Reads (by_length (λ s at. got None at) r) m (le_bytes 4 4294967295 ++ list) None
null_list r list m z s a =
    let c = le_bytes 4 4294967295 in
    let e : m + 4 ≡ m + length (c ++ list) = omega (arith, length-append c list, length_le_bytes 4 4294967295) in
    rw (null_there s m (first s m c list a)) (ap (λ (j : ℕ). got None j) e)

-- one of n elements
some_list : (r : ℕ → Reader (Option ℕ)) (n : ℕ) (list : List ℕ) (m : ℕ) → n < 2147483648 → Reads (r n) (m + 4) list (Some n)
    → Reads (by_length (λ s at. got None at) r) m (le_bytes 4 n ++ list) (Some n)
some_list r n list m h f s a =
    let c = le_bytes 4 n in
    let l : length c ≡ 4 = length_le_bytes 4 n in
    let at-list : At s (m + 4) list = subst (λ (j : ℕ). At s (m + j) list) l (second s m c list a) in
    let e : m + 4 + length list ≡ m + length (c ++ list) = omega (arith, length-append c list) in
    rw (count_there s m n h (first s m c list a), f s at-list) (ap (λ (j : ℕ). got (Some n) j) e)

ids_are : (l : Option ℕ) (list : List ℕ) (m : ℕ) → id_list_rule l (length list) ≡ 0 → Reads id_list_at m (list_count_bytes l ++ list) l
ids_are None list m h = null_list listed_ids list m (eqb-true (length list) 0 (held (eqb (length list) 0) 5 h))
ids_are (Some n) list m h =
    let q = passed (leb 2147483648 n) 5 (cond (eqb (length list) (2 * n)) 0 6) h in
    let e : length list ≡ 2 * n = eqb-true (length list) (2 * n) (held (eqb (length list) (2 * n)) 5 q.1) in
    some_list listed_ids n list m (leb-false 2147483648 n q.0) (λ s a. rw (run_is (2 * n) (m + 4) list e s a))

-- strings that are not refused are all of their list
strings_whole : (n : ℕ) (list : List ℕ) → strings_rule n list ≡ 0 → (n < 2147483648) × (each string n list 0 ≡ got tt (length list))
strings_whole n list h = go (each string n list 0) refl h
  where
    go : (x : Answer (Unit {0})) → each string n list 0 ≡ x → strings_end n (length list) x ≡ 0 → (n < 2147483648) × (each string n list 0 ≡ got tt (length list))
    go (got tt end) e q =
        let a = passed (leb 2147483648 n) 5 (cond (eqb end (length list)) 0 6) q in
        (leb-false 2147483648 n a.0, e ∙ ap (got tt) (eqb-true end (length list) (held (eqb end (length list)) 5 a.1)))
    go (refused k place) e q = absurd (omega (arith, (within_refused (strings_steady n) list 0 (omega arith) e).0, q))

strings_are : (l : Option ℕ) (list : List ℕ) (m : ℕ) → string_list_rule l list ≡ 0 → Reads string_list_at m (list_count_bytes l ++ list) l
strings_are None list m h = null_list listed_strings list m (eqb-true (length list) 0 (held (eqb (length list) 0) 5 h))
strings_are (Some n) list m h =
    let q = strings_whole n list h in
    some_list listed_strings n list m q.0 (λ s a. rw (steady_is (strings_steady n) (m + 4) list tt q.1 s a))

-- what follows an InformationType
parts_are : (p : Probe) (list : List ℕ) (m : ℕ) → FitsProbe p → probe_body_refusal list p ≡ 0 → Reads (probe_of (information_of p)) m (parts_bytes list p) p
parts_are (Probe.MetaData l) list m f h s a = rw (ids_are l list m h s a)
parts_are (Probe.Writers l) list m f h s a = rw (ids_are l list m h s a)
parts_are (Probe.Group g b) list m f h s a =
    let x = le_bytes 2 g in
    let y = le_bytes 1 b in
    let p = item_is 2 g m f.0 s (first s m x y a) in
    let q = item_is 1 b (m + length x) f.1 s (second s m x y a) in
    let e : m + length x + length y ≡ m + length (x ++ y) = omega (arith, length-append x y) in
    rw (p, q) (ap (λ (j : ℕ). got (Probe.Group g b) j) e)
parts_are (Probe.Connections l g w) list m f h s a =
    let c = list_count_bytes l in
    let x = le_bytes 1 g in
    let y = le_bytes 1 w in
    let z : c ++ (list ++ (x ++ y)) ≡ (c ++ list) ++ (x ++ y) = sym (append_assoc c list (x ++ y)) in
    let a2 : At s m ((c ++ list) ++ (x ++ y)) = subst (At s m) z a in
    let b = second s m (c ++ list) (x ++ y) a2 in
    let o = strings_are l list m h s (first s m (c ++ list) (x ++ y) a2) in
    let p = item_is 1 g (m + length (c ++ list)) f.0 s (first s (m + length (c ++ list)) x y b) in
    let q = item_is 1 w (m + length (c ++ list) + length x) f.1 s (second s (m + length (c ++ list)) x y b) in
    let e : m + length (c ++ list) + length x + length y ≡ m + length (c ++ (list ++ (x ++ y))) =
    omega (arith, ap length z, length-append (c ++ list) (x ++ y), length-append x y) in
    rw (o, p, q) (ap (λ (j : ℕ). got (Probe.Connections l g w) j) e)

information_passes : (p : Probe) → (information_rule (information_of p) ≡ 0) × (information_of p < 256)
information_passes (Probe.MetaData l) = (refl, omega arith)
information_passes (Probe.Writers l) = (refl, omega arith)
information_passes (Probe.Group g b) = (refl, omega arith)
information_passes (Probe.Connections l g w) = (refl, omega arith)

-- wherever the bytes of a probe stand that is not refused, that probe is read
pub probe_is : (p : Probe) (list : List ℕ) (m : ℕ) → FitsProbe p → probe_body_refusal list p ≡ 0 → Reads probe_at m (probe_bytes list p) p
unfolding probe_at
probe_is p list m f h s a =
    let x = le_bytes 1 1 in
    let y = le_bytes 1 (information_of p) in
    let z = parts_bytes list p in
    let i = information_passes p in
    let head = first s m (x ++ y) z a in
    let t = ruled_is 1 probe_type_rule 1 m (omega arith) refl s (first s m x y head) in
    let u = ruled_is 1 information_rule (information_of p) (m + length x) i.1 i.0 s (second s m x y head) in
    let l : m + length (x ++ y) ≡ m + length x + length y = omega (arith, length-append x y) in
    let v = parts_are p list (m + length x + length y) f h s (subst (λ (j : ℕ). At s j z) l (second s m (x ++ y) z a)) in
    let e : m + length x + length y + length z ≡ m + length ((x ++ y) ++ z) = omega (arith, length-append (x ++ y) z) in
    rw (t, u, v) (ap (λ (j : ℕ). got p j) e)

-- all of it: the body that was written
pub body_is : (p : Probe) (list : List ℕ) → FitsProbe p → probe_body_refusal list p ≡ 0 → probe_body_at (probe_bytes list p) 0 ≡ got p (length (probe_bytes list p))
body_is p list f h =
    let b = probe_bytes list p in
    rw (probe_is p list 0 f h b ([], [], sym (append-nil b), refl), zero-add (length b), eq-eqb (length b) (length b) refl)

-- ---- what was read is what stands there

-- the bytes of a count that was read
abbrev LengthBack : List ℕ → ℕ → ℕ → Length → Type 0
LengthBack s at next Length.Null = Back s at (le_bytes 4 4294967295) next
LengthBack s at next (Length.Of n) = Back s at (le_bytes 4 n) next × (n < 2147483648)
LengthBack s at next Length.Negative = Unit {0}

length_back : (s : List ℕ) (at : ℕ) (l : Length) (next : ℕ) → Bytes s → length_item s at ≡ got l next → LengthBack s at next l
length_back s at l next b h = go (leb (at + 4) (length s)) refl h
  where
    -- of a number v of 4 bytes
    below : (v k : ℕ) → v < 4294967296 → 2147483648 ≤ v → k ≡ 4294967295 - v → Back s at (le_bytes 4 v) next → LengthBack s at next (length_of (negsuc k))
    below v zero h g e x = let z : v ≡ 4294967295 = omega arith in subst (λ (n : ℕ). Back s at (le_bytes 4 n) next) z x
    below v (suc k) h g e x = tt

    by_sign : (v : ℕ) (t : Bool) → ltb v 2147483648 ≡ t → v < 4294967296 → Back s at (le_bytes 4 v) next
        → LengthBack s at next (length_of (cond t (pos v) (negsuc (4294967295 - v))))
    by_sign v true e h x = (x, ltb-true v 2147483648 e)
    by_sign v false e h x = below v (4294967295 - v) h (ltb-false v 2147483648 e) refl x

    go : (t : Bool) → leb (at + 4) (length s) ≡ t → cond t (got (length_of (signed 4 (le 4 s at))) (at + 4)) (refused 1 at) ≡ got l next → LengthBack s at next l
    go true e q =
        let v = le 4 s at in
        let i : item 4 s at ≡ got v next = rw e (ap (λ (j : ℕ). got v j) (got_next q)) in
        let x = item_back 4 s at v next b i in
        subst (LengthBack s at next) (got_value q) (by_sign v (ltb v 2147483648) refl x.1 x.0)
    go false e q = absurd (not_got q)

four : (n : ℕ) {s : List ℕ} {at next : ℕ} → Back s at (le_bytes 4 n) next → next ≡ at + 4
four n x = omega (arith, x.1, length_le_bytes 4 n)

-- a list: its count, and the bytes up to its end, of which its rule says nothing
module _ (s : List ℕ) (at : ℕ) (l : Option ℕ) (next : ℕ) (b : Bytes s) (h : at ≤ length s) where
  -- the bytes of a list between its count and its end
  abbrev ListBack : (Option ℕ → List ℕ → ℕ) → (Option ℕ → ℕ) → Type 0
  ListBack rule size = (next ≡ at + 4 + size l) × (at + 4 + size l ≤ length s) × (Back s at (list_count_bytes l ++ take (size l) (drop (at + 4) s)) next)
      × (rule l (take (size l) (drop (at + 4) s)) ≡ 0)

  part_long : (n : ℕ) → at + 4 + n ≤ length s → length (take n (drop (at + 4) s)) ≡ n
  part_long n k = length-take-le n (drop (at + 4) s) (omega (arith, length-drop (at + 4) s))

  listed : (v n : ℕ) (start : ℕ) → Back s at (le_bytes 4 v) start → at + 4 + n ≤ length s → next ≡ start + n → Back s at (le_bytes 4 v ++ take n (drop (at + 4) s)) next
  listed v n start x k e =
      let f : start ≡ at + 4 = four v x in
      let g : at + 4 + n ≡ next = omega arith in
      join s at (le_bytes 4 v) start (take n (drop (at + 4) s)) next x
      (subst (λ (j : ℕ). Back s start (take n (drop (at + 4) s)) j) g (subst (λ (j : ℕ). Back s j (take n (drop (at + 4) s)) (at + 4 + n)) (sym f) (part_at s (at + 4) n k)))

  ids_back : id_list_at s at ≡ got l next → ListBack (λ l b. id_list_rule l (length b)) (λ l. 2 * count_in l)
  ids_back q =
      let i = invert (length_item s at) (λ c start. after_length (λ s at. got None at) listed_ids at c s start) q in
      go i.0 i.1 (length_back s at i.0 i.1 b i.2) i.3
    where
      go : (c : Length) (start : ℕ) → LengthBack s at start c → after_length (λ s at. got None at) listed_ids at c s start ≡ got l next
          → ListBack (λ l b. id_list_rule l (length b)) (λ l. 2 * count_in l)
      go Length.Null start x k =
          let e : start ≡ next = got_next k in
          let f : start ≡ at + 4 = four 4294967295 x in
          let y : at + 4 + 0 ≤ length s = omega (arith, end_fits s at (le_bytes 4 4294967295) start x) in
          let n0 : next ≡ start + 0 = omega arith in
          subst (λ (z : Option ℕ). (next ≡ at + 4 + 2 * count_in z) × (at + 4 + 2 * count_in z ≤ length s)
          × (Back s at (list_count_bytes z ++ take (2 * count_in z) (drop (at + 4) s)) next) × (id_list_rule z (length (take (2 * count_in z) (drop (at + 4) s))) ≡ 0)) (got_value k)
          (omega arith, y, listed 4294967295 0 start x y n0, rw (part_long 0 y))
      go (Length.Of n) start x k =
          let r = map_back (run (2 * n)) (λ u. Some n) s start l next k in
          let u = run_back (2 * n) s start r.0 next r.1 in
          let f : start ≡ at + 4 = four n x.0 in
          let y : at + 4 + 2 * n ≤ length s = omega (arith, u.2) in
          subst (λ (z : Option ℕ). (next ≡ at + 4 + 2 * count_in z) × (at + 4 + 2 * count_in z ≤ length s)
          × (Back s at (list_count_bytes z ++ take (2 * count_in z) (drop (at + 4) s)) next) × (id_list_rule z (length (take (2 * count_in z) (drop (at + 4) s))) ≡ 0)) r.2
          (omega (arith, u.1), y, listed n (2 * n) start x.0 y u.1, rw (part_long (2 * n) y, lt-leb 2147483648 n x.1, eq-eqb (2 * n) (2 * n) refl))
      go Length.Negative start x k = absurd (not_got k)

  strings_back : string_list_at s at ≡ got l next → ListBack string_list_rule (λ l. next - (at + 4))
  strings_back q =
      let i = invert (length_item s at) (λ c start. after_length (λ s at. got None at) listed_strings at c s start) q in
      go i.0 i.1 (length_back s at i.0 i.1 b i.2) i.3
    where
      go : (c : Length) (start : ℕ) → LengthBack s at start c → after_length (λ s at. got None at) listed_strings at c s start ≡ got l next → ListBack string_list_rule (λ l. next - (at + 4))
      go Length.Null start x k =
          let e : start ≡ next = got_next k in
          let f : start ≡ at + 4 = four 4294967295 x in
          let y : at + 4 + (next - (at + 4)) ≤ length s = omega (arith, end_fits s at (le_bytes 4 4294967295) start x) in
          let n0 : next ≡ start + (next - (at + 4)) = omega arith in
          let z0 : next - (at + 4) ≡ 0 = omega arith in
          subst (λ (z : Option ℕ). (next ≡ at + 4 + (next - (at + 4))) × (at + 4 + (next - (at + 4)) ≤ length s)
          × (Back s at (list_count_bytes z ++ take (next - (at + 4)) (drop (at + 4) s)) next) × (string_list_rule z (take (next - (at + 4)) (drop (at + 4) s)) ≡ 0)) (got_value k)
          (omega arith, y, listed 4294967295 (next - (at + 4)) start x y n0, rw (part_long (next - (at + 4)) y, z0))
      go (Length.Of n) start x k =
          let r = map_back (each string n) (λ u. Some n) s start l next k in
          let f : start ≡ at + 4 = four n x.0 in
          let o : start ≤ length s = end_fits s at (le_bytes 4 n) start x.0 in
          let w = within (strings_steady n) s start o r.1 in
          let y : at + 4 + (next - (at + 4)) ≤ length s = omega (arith, w.0, w.1) in
          let n0 : next ≡ start + (next - (at + 4)) = omega (arith, w.0) in
          let aln : each string n (take (next - (at + 4)) (drop (at + 4) s)) 0 ≡ got tt (next - (at + 4)) =
          subst (λ (j : ℕ). each string n (take (next - j) (drop j s)) 0 ≡ got tt (next - j)) f (alone (strings_steady n) s start o r.1) in
          subst (λ (z : Option ℕ). (next ≡ at + 4 + (next - (at + 4))) × (at + 4 + (next - (at + 4)) ≤ length s)
          × (Back s at (list_count_bytes z ++ take (next - (at + 4)) (drop (at + 4) s)) next) × (string_list_rule z (take (next - (at + 4)) (drop (at + 4) s)) ≡ 0)) r.2 (
            omega (arith, w.0),
            y,
            listed n (next - (at + 4)) start x.0 y n0,
            rw (aln, lt-leb 2147483648 n x.1, part_long (next - (at + 4)) y, eq-eqb (next - (at + 4)) (next - (at + 4)) refl),
          )
      go Length.Negative start x k = absurd (not_got k)

-- the ids or strings behind a count that stands at a position
abbrev list_from : List ℕ → ℕ → Probe → List ℕ
list_from s at (Probe.MetaData l) = take (2 * count_in l) (drop (at + 4) s)
list_from s at (Probe.Writers l) = take (2 * count_in l) (drop (at + 4) s)
list_from s at (Probe.Group g b) = []
list_from s at (Probe.Connections l g w) = take (length s - 2 - (at + 4)) (drop (at + 4) s)

from_is : (s : List ℕ) (at : ℕ) (p : Probe) → list_from s (at + 2) p ≡ list_in s at p
from_is s at (Probe.MetaData l) = let e : at + 2 + 4 ≡ at + 6 = omega arith in ap (λ (j : ℕ). take (2 * count_in l) (drop j s)) e
from_is s at (Probe.Writers l) = let e : at + 2 + 4 ≡ at + 6 = omega arith in ap (λ (j : ℕ). take (2 * count_in l) (drop j s)) e
from_is s at (Probe.Group g b) = refl
from_is s at (Probe.Connections l g w) = let e : at + 2 + 4 ≡ at + 6 = omega arith in ap (λ (j : ℕ). take (length s - 2 - j) (drop j s)) e

-- what follows an InformationType t
module _ (s : List ℕ) (at : ℕ) (p : Probe) (next : ℕ) (b : Bytes s) (h : at ≤ length s) (whole : next ≡ length s) where
  abbrev PartsOf : ℕ → Probe → Type 0
  PartsOf t z = (information_of z ≡ t) × (Back s at (parts_bytes (list_from s at z) z) next) × (probe_body_refusal (list_from s at z) z ≡ 0)

  connections_back : (t : ℕ) → t ≡ 5 → connections_at s at ≡ got p next → PartsOf t p
  connections_back t e q =
      let i = invert (string_list_at s at) (λ l n. includes_at l s n) q in
      let l = i.0 in
      let n1 = i.1 in
      let j = invert (item 1 s n1) (λ g n. _) i.3 in
      let k = map_back (item 1) (λ w. Probe.Connections l j.0 w) s j.1 p next j.3 in
      let o = strings_back s at l n1 b h i.2 in
      let x = item_back 1 s n1 j.0 j.1 b j.2 in
      let y = item_back 1 s j.1 k.0 next b k.1 in
      let gx = le_bytes 1 j.0 in
      let wy = le_bytes 1 k.0 in
      let z : n1 + 2 ≡ length s = omega (arith, x.0.1, y.0.1, length_le_bytes 1 j.0, length_le_bytes 1 k.0) in
      let m : n1 - (at + 4) ≡ length s - 2 - (at + 4) = omega arith in
      let c = list_count_bytes l in
      let list = take (length s - 2 - (at + 4)) (drop (at + 4) s) in
      let o2 : Back s at (c ++ list) n1 = subst (λ (i : ℕ). Back s at (c ++ take i (drop (at + 4) s)) n1) m o.2 in
      let r2 : string_list_rule l list ≡ 0 = subst (λ (i : ℕ). string_list_rule l (take i (drop (at + 4) s)) ≡ 0) m o.3 in
      let all = join s at (c ++ list) n1 (gx ++ wy) next o2 (join s n1 gx j.1 wy next x.0 y.0) in
      subst (PartsOf t) k.2 (sym e, subst (λ (d : List ℕ). Back s at d next) (append_assoc c list (gx ++ wy)) all, r2)

  group_back : (t : ℕ) → t ≡ 4 → group_probe_at s at ≡ got p next → PartsOf t p
  group_back t e q =
      let j = invert (item 2 s at) (λ g n. _) q in
      let k = map_back (item 1) (λ w. Probe.Group j.0 w) s j.1 p next j.3 in
      let x = item_back 2 s at j.0 j.1 b j.2 in
      let y = item_back 1 s j.1 k.0 next b k.1 in
      subst (PartsOf t) k.2 (sym e, join s at (le_bytes 2 j.0) j.1 (le_bytes 1 k.0) next x.0 y.0, refl)

  parts_back : (t : ℕ) → information_rule t ≡ 0 → probe_of t s at ≡ got p next → PartsOf t p
  parts_back t r q = go (eqb t 2) (eqb t 3) (eqb t 4) refl refl refl q
    where
      last : eqb t 2 ≡ false → eqb t 3 ≡ false → eqb t 4 ≡ false → t ≡ 5
      last e2 e3 e4 =
          let a = passed (eqb t 1) 3 _ r in
          let b = passed (ltb t 2) 2 _ a.1 in
          let c = passed (ltb 5 t) 2 _ b.1 in
          let x : 2 ≤ t = ltb-false t 2 b.0 in
          let y : t ≤ 5 = ltb-false 5 t c.0 in
          let n2 : t ≡ 2 → ⊥ = eqb-false t 2 e2 in
          let n3 : t ≡ 3 → ⊥ = eqb-false t 3 e3 in
          let n4 : t ≡ 4 → ⊥ = eqb-false t 4 e4 in
          omega arith

      go : (t2 t3 t4 : Bool) → eqb t 2 ≡ t2 → eqb t 3 ≡ t3 → eqb t 4 ≡ t4 → cond t2 meta_data_at (cond t3 writers_at (cond t4 group_probe_at connections_at)) s at ≡ got p next → PartsOf t p
      go true t3 t4 e2 e3 e4 k =
          let y = map_back id_list_at Probe.MetaData s at p next k in
          let o = ids_back s at y.0 next b h y.1 in
          subst (PartsOf t) y.2 (sym (eqb-true t 2 e2), o.2, o.3)
      go false true t4 e2 e3 e4 k =
          let y = map_back id_list_at Probe.Writers s at p next k in
          let o = ids_back s at y.0 next b h y.1 in
          subst (PartsOf t) y.2 (sym (eqb-true t 3 e3), o.2, o.3)
      go false false true e2 e3 e4 k = group_back t (eqb-true t 4 e4) k
      go false false false e2 e3 e4 k = connections_back t (last e2 e3 e4) k

type_one : (v : ℕ) → probe_type_rule v ≡ 0 → v ≡ 1
type_one v h = go (eqb v 1) refl (eqb v 2) h
  where
    go : (t : Bool) → eqb v 1 ≡ t → (u : Bool) → ◌≡◌ {A = ℕ} (cond t 0 (cond u 4 3)) 0 → v ≡ 1
    go true e u q = eqb-true v 1 e
    go false e true q = absurd (omega (arith, q))
    go false e false q = absurd (omega (arith, q))

-- an accepted body, written again from its parts as they were read, is not refused and is the same bytes
pub body_back : (s : List ℕ) (at : ℕ) (p : Probe) (n : ℕ) → Bytes s → at ≤ length s → probe_body_at s at ≡ got p n
    → (probe_body_refusal (list_in s at p) p ≡ 0) × (probe_bytes (list_in s at p) p ≡ drop at s)
unfolding probe_at
body_back s at p n b h q =
    let e = body_ended s at p n q in
    let T = invert (ruled 1 probe_type_rule s at) (λ v m. information_at s m) e.0 in
    let tr = ruled_back 1 probe_type_rule s at T.0 T.1 T.2 in
    let ti = item_back 1 s at T.0 T.1 b tr.0 in
    let one : T.0 ≡ 1 = type_one T.0 tr.1 in
    let I = invert (ruled 1 information_rule s T.1) (λ t m. probe_of t s m) T.3 in
    let ir = ruled_back 1 information_rule s T.1 I.0 I.1 I.2 in
    let ii = item_back 1 s T.1 I.0 I.1 b ir.0 in
    let two : I.1 ≡ at + 2 = omega (arith, ti.0.1, ii.0.1, length_le_bytes 1 T.0, length_le_bytes 1 I.0) in
    let fits : at + 2 ≤ length s = omega (arith, end_fits s T.1 (le_bytes 1 I.0) I.1 ii.0) in
    let of2 : probe_of I.0 s (at + 2) ≡ got p n = ap (probe_of I.0 s) (sym two) ∙ I.3 in
    let o = parts_back s (at + 2) p n b fits e.1 I.0 ir.1 of2 in
    let head : Back s at (probe_head_bytes p) (at + 2) =
    subst (λ (j : ℕ). Back s at (probe_head_bytes p) j) two
    (subst (λ (v : ℕ). Back s at (le_bytes 1 v ++ le_bytes 1 (information_of p)) I.1) one
    (join s at (le_bytes 1 T.0) T.1 (le_bytes 1 (information_of p)) I.1 ti.0 (subst (λ (v : ℕ). Back s T.1 (le_bytes 1 v) I.1) (sym o.0) ii.0))) in
    let all = join s at (probe_head_bytes p) (at + 2) (parts_bytes (list_from s (at + 2) p) p) n head o.1 in
    let same : drop at s ≡ probe_bytes (list_from s (at + 2) p) p =
    rest_is s at (probe_bytes (list_from s (at + 2) p) p) n all ∙ ap (λ (l : List ℕ). probe_bytes (list_from s (at + 2) p) p ++ l) (drop_of_length-le s {i = n} (omega (arith, e.1))) ∙ append-nil _ in
    subst (λ (l : List ℕ). (probe_body_refusal l p ≡ 0) × (probe_bytes l p ≡ drop at s)) (from_is s at p) (o.2, sym same)
