-- All chunks of a payload, taken in in any order, complete it and hand it out.
-- Assumes nothing.
use Prim.Native.Nat.{ℕ, ◌+◌, ◌*◌, ◌-◌, ◌/◌, ◌≤◌, ◌<◌}
use mathlib.Core.Path.{◌≡◌, refl, sym, ap, ap₂, ◌∙◌}
use mathlib.Core.Bool.{Bool, true, false, false≢true}
use mathlib.Core.List.{List, [], ◌∷◌}
use mathlib.Core.Logic.{◌⊎◌, inl, inr, ⊎_elim}
use mathlib.Core.Option
use mathlib.Core.Option.{some, none, or_else}
use native.Mathlib.Nat.{div-mul-le_self, lt-div-mul-add}
use native.Mathlib.Omega.{arith}
use lib.ListN.{length, get_or, take, drop, length-take}
use lib.Seq.{get_or-take, get_or-drop, ext_get_or}
use borrow.Author.Tests.{le-leb, lt-ltb, eq-eqb}
use Rattle.chunk.specs.Cutting.{cut_data, chunk_bytes, cut_rule}
use Rattle.wire.specs.Answer.{got}
use Rattle.chunk.specs.Datagram.{place_of, chunk_at, chunk_data}
use Rattle.chunk.proofs.CutLaws.{cuts, cut_wrote, data_most, data_full}
use Rattle.chunk.proofs.ReadBack.{cut_place, datagram_back, data_back}
use Rattle.reassembly.specs.Views.{View, has, is_some, differs, data_view, both_views, bytes_below}
use Rattle.marks.specs.Offsets.{in_range}
use Rattle.reassembly.specs.Record.{Identity, Partial, Good}
use Rattle.reassembly.specs.Machine.{State, view_in, judge, accept, is_complete, state_of, alone, reading_verdict, reply_of, whole, machine_replies, machine_final, if_accepted}
use Rattle.reassembly.specs.Machine.State.{idle, held}
use Rattle.reassembly.specs.Machine.Call.{Ask, HandOut}
use Rattle.reassembly.specs.Machine.Reply.{said, handed}
use Rattle.reassembly.specs.Calls.{final}
use Rattle.reassembly.specs.Reading.{chunk_message, reading_at}
use Rattle.reassembly.specs.Reading.Reading.{chunk}
use Rattle.reassembly.specs.Verdict.{Verdict, Done}
use Rattle.wire.proofs.Cases.{by_lt}
use Rattle.reassembly.proofs.JudgeLaws.{reading_got}
use Rattle.reassembly.proofs.ViewLaws.{length_tab, get_d_tab, data_at_lem, data_below, data_above, has_data, full_all, clash_none}
use Rattle.reassembly.proofs.SameLaws.{same_message_yes}
use Rattle.reassembly_laws.specs.Cutting.{Arrival, takings, dones, IsChunk, IsCut, Only, Among, AllArrive, Restored}
use Rattle.reassembly.proofs.Following
use Rattle.reassembly_laws.proofs.Demand3.{any_list}

-- what holds of each arrival
only_all : {P Q : ℕ → Arrival → Type 0} → ((k : ℕ) (a : Arrival) → P k a → Q k a) → (l : List Arrival) → Only P l → Only Q l
only_all f [] o = tt
only_all f (a ∷ l) o = ((o.0.0, f o.0.0 a o.0.1), only_all f l o.1)

among_all : {P Q : ℕ → Arrival → Type 0} → ((k : ℕ) (a : Arrival) → P k a → Q k a) → (k : ℕ) (l : List Arrival) → Among P k l → Among Q k l
among_all f k [] m = absurd m
among_all f k (a ∷ l) m = ⊎_elim (λ e. inl (f k a e)) (λ e. inr (among_all f k l e)) m

module _ (id : Identity) (p : List ℕ) (size : ℕ) where
  -- what chunk k brings
  abbrev brings_at : ℕ → View
  brings_at k = data_view (k * size) (cut_data p size k)

  -- a view of bytes of the payload only
  abbrev PartOf : View → Type 0
  PartOf v = (i : ℕ) → (v i ≡ none) ⊎ ((v i ≡ some (get_or p i 0)) × (i < length p))

  part_chunk : (k : ℕ) → PartOf (brings_at k)
  part_chunk k i =
      let at = k * size in
      let d = cut_data p size k in
      by_lt _ i at (λ h. inl (data_below at d i h))
      (λ h.
      let e : at + (i - at) ≡ i = omega arith in
      by_lt _ (i - at) (length d)
      (λ l.
      let s : i - at < size = omega (arith, length-take size (drop at p)) in
      let g : get_or d (i - at) 0 ≡ get_or p i 0 = get_or-take size (drop at p) (i - at) 0 s ∙ get_or-drop at p (i - at) 0 ∙ ap (λ (j : ℕ). get_or p j 0) e in
      let w : i < length p = omega (arith, data_most p size k) in
      inr (sym (ap (data_view at d) e) ∙ data_at_lem at d (i - at) l ∙ ap some g, w))
      (λ l. inl (data_above at d i (omega arith))))

  part_joined : (v w : View) → PartOf v → PartOf w → PartOf (both_views v w)
  unfolding or_else
  part_joined v w f g i = ⊎_elim (λ e. rw e (g i)) (λ e. inr (rw e.0, e.1)) (f i)

  part_agrees : (v w : View) → PartOf v → PartOf w → (i : ℕ) → differs (v i) (w i) ≡ false
  part_agrees v w f g i =
      ⊎_elim (λ e. rw e)
      (λ e. ⊎_elim (λ q. rw (e.0, q)) (λ q. rw (e.0, q.0, eq-eqb (get_or p i 0) (get_or p i 0) refl)) (g i))
      (f i)

  -- a machine that holds bytes of the payload only
  abbrev OfPayload : State → Type 0
  OfPayload idle = Unit {0}
  OfPayload (held m v) = (m ≡ id) × PartOf v

  -- a chunk taken in by a machine with an area of n bytes
  module _ (n : ℕ) (room : id.total ≤ n) where
    chunk_done : (s : State) → OfPayload s → (w : View) → PartOf w → judge n s (held id w) ≡ Done
    chunk_done idle o w g = rw (le-leb id.total n room)
    chunk_done (held m v) o w g =
        rw (le-leb id.total n room, same_message_yes m id o.0, clash_none m.total v w (λ i h. part_agrees v w o.1 g i))

    chunk_of : (s : State) → OfPayload s → (w : View) → PartOf w → OfPayload (accept s (held id w))
    chunk_of idle o w g = (refl, g)
    chunk_of (held m v) o w g = (o.0, part_joined v w o.1 g)

    chunk_covers : (s : State) (w : View) (i : ℕ) → has w i ≡ true → has (view_in (accept s (held id w))) i ≡ true
    unfolding or_else
    chunk_covers idle w i h = h
    chunk_covers (held m v) w i h = go (v i) refl
      where
        go : (o : mathlib.Core.Option.Option ℕ) → v i ≡ o → is_some (or_else (v i) (w i)) ≡ true
        go (some x) e = rw e
        go none e = rw e h

    chunk_keeps : (s : State) (w : View) (i : ℕ) → has (view_in s) i ≡ true → has (view_in (accept s (held id w))) i ≡ true
    unfolding or_else
    chunk_keeps idle w i h = absurd (false≢true h)
    chunk_keeps (held m v) w i h = go (v i) refl h
      where
        go : (o : mathlib.Core.Option.Option ℕ) → v i ≡ o → is_some (v i) ≡ true → is_some (or_else (v i) (w i)) ≡ true
        go (some x) e q = rw e
        go none e q = absurd (false≢true (rw e at q))

    -- what an arrival brings
    chunk_alone_lem : (k : ℕ) (a : Arrival) → IsChunk id p size k a → alone (reading_at a.sizes a.datagram) ≡ held id (brings_at k)
    chunk_alone_lem k a c = rw c.reads (ap (λ (m : Identity). held m (brings_at k)) c.same)

    chunk_verdict : (k : ℕ) (a : Arrival) → IsChunk id p size k a → (s : State) → reading_verdict n s (reading_at a.sizes a.datagram) ≡ judge n s (held id (brings_at k))
    chunk_verdict k a c s = rw c.reads (ap (λ (m : Identity). judge n s (held m (brings_at k))) c.same)

    -- ---- any list of arrivals
    record Walked (l : List Arrival) (s : State) : Type 0 where
      pub answers : machine_replies n (takings l) s ≡ dones l
      pub of : OfPayload (machine_final n (takings l) s)
      pub keeps : (i : ℕ) → has (view_in s) i ≡ true → has (view_in (machine_final n (takings l) s)) i ≡ true
      pub brings : (k : ℕ) → Among (IsChunk id p size) k l → (i : ℕ) → has (brings_at k) i ≡ true → has (view_in (machine_final n (takings l) s)) i ≡ true

    walk : (l : List Arrival) → Only (IsChunk id p size) l → (s : State) → OfPayload s → Walked l s
    walk [] o s h = record { answers = refl; of = h; keeps = λ i q. q; brings = λ k m. absurd m }
    walk (a ∷ l) o s h =
        let k = o.0.0 in
        let c = o.0.1 in
        let v : reading_verdict n s (reading_at a.sizes a.datagram) ≡ Done = chunk_verdict k a c s ∙ chunk_done s h (brings_at k) (part_chunk k) in
        let t : if_accepted (reading_verdict n s (reading_at a.sizes a.datagram)) s (accept s (alone (reading_at a.sizes a.datagram))) ≡ accept s (held id (brings_at k)) =
        ap₂ (λ (x : Verdict) (y : State). if_accepted x s (accept s y)) v (chunk_alone_lem k a c) in
        let w = walk l o.1 (accept s (held id (brings_at k))) (chunk_of s h (brings_at k) (part_chunk k)) in
        let f : machine_final n (takings (a ∷ l)) s ≡ machine_final n (takings l) (accept s (held id (brings_at k))) = ap (machine_final n (takings l)) t in
        record {
          answers = ap₂ ◌∷◌ (ap reply_of v) (ap (machine_replies n (takings l)) t ∙ w.answers);
          of = rw f w.of;
          keeps = λ i q. rw f (w.keeps i (chunk_keeps s (brings_at k) i q));
          brings = λ j m i q. rw f
              (⊎_elim
              (λ e.
              let same : brings_at j ≡ brings_at k = ap view_in (sym (chunk_alone_lem j a e) ∙ chunk_alone_lem k a c) in
              w.keeps i (chunk_covers s (brings_at k) i (rw same at q)))
              (λ e. w.brings j e i q) m);
        }

    -- ---- all of the chunks
    module _ (size-some : 1 ≤ size) (filled : 1 ≤ length p) (long : id.total ≡ length p) where
      -- the chunk that a byte belongs to covers it
      chunk_has : (i : ℕ) → i < length p → (i / size * size < length p) × (has (brings_at (i / size)) i ≡ true)
      chunk_has i h =
          let k = i / size in
          let l : k * size ≤ i = div-mul-le_self i size in
          let u : i < k * size + size = lt-div-mul-add {a = i} {b = size} size-some in
          let f : i - k * size < length (cut_data p size k) = data_full p size k (i - k * size) (omega arith) (omega arith) in
          let r : in_range (k * size) (k * size + length (cut_data p size k)) i ≡ true = rw (le-leb (k * size) i l) (lt-ltb i (k * size + length (cut_data p size k)) (omega arith)) in
          (omega arith, ap (λ (g : ℕ → Bool). g i) (has_data (k * size) (cut_data p size k)) ∙ r)

      covered_complete : (s : State) → OfPayload s → ((i : ℕ) → i < length p → has (view_in s) i ≡ true) → (is_complete s ≡ true) × (whole s ≡ p)
      covered_complete idle o h = absurd (false≢true (h 0 filled))
      covered_complete (held m v) o h =
          let t : m.total ≡ length p = ap (λ (x : Identity). x.total) o.0 ∙ long in (
            full_all m.total v (λ i l. h i (omega arith)),
            ext_get_or 0 (bytes_below m.total v) p (length_tab m.total _ ∙ t)
                (λ i l.
                let j : i < m.total = rw (length_tab m.total (λ i. Option.get_or (v i) 0)) at l in
                get_d_tab m.total (λ i. Option.get_or (v i) 0) i 0 j
                ∙ ⊎_elim (λ e. absurd (false≢true (rw e at (h i (omega arith))))) (λ e. rw e.0) (o.1 i)),
          )

  -- ---- WHAT CUTTING WROTE, after an accepted chunk's envelope, reads as that chunk
  cut_is_chunk : (k : ℕ) (a : Arrival) → id.total ≡ length p → IsCut id p size k a → IsChunk id p size k a
  cut_is_chunk k a long w =
      let s = a.datagram in
      let n = id.origin.number in
      let hn : n < 65536 = w.cut.2 in
      let y = cut_wrote p n size k w.buffer w.n (sym w.cut.0) in
      let accepted : cut_rule (length p) size k ≡ 0 = y.rule in
      let payload : drop w.at s ≡ chunk_bytes p n size k = w.payload ∙ ap (take w.n) w.cut.1 ∙ y.bytes in
      let c = place_of w.message.envelope w.message.places.publisher_end (cut_place p n size k hn accepted w.at) in
      let e : chunk_at a.sizes s ≡ got c (length s) = datagram_back p n size k hn accepted a.sizes s w.message w.at w.envelope w.chunk payload in
      let d : chunk_data (chunk_at a.sizes s) s ≡ cut_data p size k = data_back p n size k hn accepted a.sizes s w.message w.at w.envelope w.chunk payload in
      let t : length p ≡ id.total = sym long in
      let d₂ : chunk_data (got c (length s)) s ≡ cut_data p size k = rw e at d in
      record {
        message = chunk_message c s;
        same = λ i. record { origin = record { publisher = w.publisher i; group = w.group i; writer = w.writer i; number = id.origin.number }; total = t i };
        reads = reading_got a.sizes s c (length s) e ∙ ap (chunk (chunk_message c s) (k * size)) d₂;
        inside = (cuts (length p) size k accepted).inside;
      }

  -- ---- ALL CHUNKS OF A PAYLOAD, taken in in any order by a sound, just emptied partial whose area is at least that long, some of them more
  -- than once: every taking in is accepted, complete is said, and the payload is handed out
  pub all_chunks_restore : (l : List Arrival) → AllArrive id p size (IsChunk id p size) l → (s : Partial) → Good s → s.rec.started ≡ false → length p ≤ length s.payload → Restored p l s
  all_chunks_restore l all s ok e room =
      let n = length s.payload in
      let r : id.total ≤ n = omega (arith, all.total) in
      let w = walk n r l all.only idle tt in
      let h = any_list (takings l) s ok e in
      let covers : (i : ℕ) → i < length p → has (view_in (machine_final n (takings l) idle)) i ≡ true =
      λ i u. let c = chunk_has n r all.some all.filled all.total i u in w.brings (i / size) (all.each (i / size) c.0) i c.1 in
      let d = covered_complete n r all.some all.filled all.total (machine_final n (takings l) idle) w.of covers in
      let c : is_complete (state_of (final (takings l) s)) ≡ true = rw h.partial_is d.0 in
      record {
        accepted = h.replies_are ∙ w.answers;
        says_complete_lem = (Following.follow (final (takings l) s) h.stays_good Ask).reply ∙ ap said c;
        hands_out = (Following.follow (final (takings l) s) h.stays_good HandOut).reply ∙ rw c (ap handed (ap whole h.partial_is ∙ d.1));
      }

  -- ---- A PAYLOAD CUT AND RESTORED: the same of datagrams with what cutting wrote for the chunks
  pub all_cuts_restore : (l : List Arrival) → AllArrive id p size (IsCut id p size) l → (s : Partial) → Good s → s.rec.started ≡ false → length p ≤ length s.payload
      → Restored p l s
  all_cuts_restore l all =
      let f : (k : ℕ) (a : Arrival) → IsCut id p size k a → IsChunk id p size k a = λ k a w. cut_is_chunk k a all.total w in
      all_chunks_restore l
      (record { some = all.some; filled = all.filled; total = all.total; only = only_all f l all.only; each = λ k h. among_all f k l (all.each k h) })
