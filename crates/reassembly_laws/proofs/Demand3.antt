-- Demand 3. Each theorem speaks of the definitions that the contracts of src/operations.rt cite. Assumes nothing.
use Prim.Native.Nat.{ℕ, ◌+◌, ◌≤◌}
use mathlib.Core.Path.{◌≡◌, refl, sym, ap, ap₂, subst, ◌∙◌}
use mathlib.Core.Logic.{◌↔◌, inl, inr}
use mathlib.Core.Bool.{Bool, true, false, cond, false≢true}
use mathlib.Core.List.{List, [], ◌∷◌, ◌++◌}
use native.Mathlib.Omega.{arith}
use lib.ListN.{length, take}
use lib.Seq.{length-take-le}
use Rattle.marks.specs.Marks.{Layout, new_marks}
use Rattle.marks.proofs.CountLaws.{new_again}
use Rattle.reassembly.specs.Views.{has, data_view}
use Rattle.reassembly.specs.Record.{Partial, sound, Good}
use Rattle.reassembly.specs.Reading.{Reading, GoodChunk, GoodReading, reading_at}
use Rattle.reassembly.specs.Reading.Reading.{chunk}
use Rattle.reassembly.specs.Machine.{Call, Reply, handed_of, State, view_in, view_of, state_of, alone, between, is_complete, machine_replies, machine_final, brought, AllOf}
use Rattle.reassembly.specs.Machine.State.{idle, held}
use Rattle.reassembly.specs.Machine.Call.{Empty, Take, Combine, Ask, HandOut}
use Rattle.reassembly.specs.Machine.Reply.{done, said, handed, refused}
use Rattle.reassembly.specs.Judge.{Complete, Equal, judge_reading, judge_combine}
use Rattle.reassembly.specs.Operations.{step_by, with_new, put, put_reading, take_in, combine, ask_complete, judge_hand_out, if_done, hand_out}
use Rattle.reassembly.specs.Calls.{replies, final, answers, leaves}
use Rattle.reassembly.specs.declared.record.Message.{Message}
use Rattle.reassembly.specs.Verdict.{Verdict, Done, Refused}
use Rattle.reassembly_laws.specs.AnyList.{AnyList, reply_at, HandsOut}
use Rattle.reassembly_laws.specs.Alone.{chunk_alone, IsAlone, AsPartial}
use Rattle.reassembly_laws.specs.Combining.{EqualRoom, EitherOrder, EitherGrouping, some_disagree, left_verdict, right_verdict}
use borrow.Author.Tests.{eq-eqb, ne_eqb}
use Rattle.wire.proofs.Cases.{by_bool, by_eq}
use Rattle.reassembly.proofs.ViewLaws.{full_some, full_all}
use Rattle.reassembly.proofs.AreaLaws.{has_marked, laid_self, marks_again}
use Rattle.reassembly.proofs.JudgeLaws
use Rattle.reassembly.proofs.CallLaws.{one_verdict}
use Rattle.reassembly_laws.proofs.Alone
use Rattle.reassembly_laws.proofs.Numbers.{equal_right, equal_self}
use Rattle.reassembly_laws.proofs.StateLaws
use Rattle.reassembly.proofs.Following
use Rattle.reassembly.proofs.Bringing
use Rattle.reassembly_laws.proofs.Combining
use Rattle.reassembly_laws.proofs.Combining.{Pair, Three, Room}

-- ---- any list of calls from a good partial; n is the area's length, and from is what the machine starts with
record Followed (n : ℕ) (ks : List Call) (s : Partial) (from : State) : Type 0 where
  replies_are : replies ks s ≡ machine_replies n ks from
  partial_is : state_of (final ks s) ≡ machine_final n ks from
  stays_good : Good (final ks s)
  room_stays : length (final ks s).payload ≡ n

followed_from : (ks : List Call) (s : Partial) → Good s → Followed (length s.payload) ks s (state_of s)
followed_from [] s ok = record { replies_are = refl; partial_is = refl; stays_good = ok; room_stays = refl }
followed_from (k ∷ ks) s ok =
    let f = Following.follow s ok k in
    let h = followed_from ks (leaves k s) f.good in
    record {
      replies_are = ap₂ ◌∷◌ f.reply (h.replies_are ∙ ap₂ (λ (n : ℕ) (t : State). machine_replies n ks t) f.room f.state);
      partial_is = h.partial_is ∙ ap₂ (λ (n : ℕ) (t : State). machine_final n ks t) f.room f.state;
      stays_good = h.stays_good;
      room_stays = h.room_stays ∙ f.room;
    }

followed : (ks : List Call) (s : Partial) → Good s → s.rec.started ≡ false → Followed (length s.payload) ks s idle
followed ks s ok e =
    let q : state_of s ≡ idle = rw e in
    rw q at (followed_from ks s ok)

-- the reply to a call inside the list is its answer on what the calls before it left
reply_inside : (before : List Call) (k : Call) (after : List Call) (s : Partial) → reply_at (replies (before ++ (k ∷ after)) s) (length before) ≡ answers k (final before s)
reply_inside [] k after s = refl
reply_inside (b ∷ before) k after s = reply_inside before k after (leaves b s)

is_complete_lem : (b : Bool) → cond b Done (Refused 15 0) ≡ Done → b ≡ true
is_complete_lem true q = refl
is_complete_lem false q = absurd (JudgeLaws.refused_done 15 0 q)

module _ (ks : List Call) (s : Partial) (ok : Good s) (e : s.rec.started ≡ false) (p : List ℕ) (a : AllOf p (brought (length s.payload) ks idle [])) where
  -- what was brought is of the payload p
  whole_is : is_complete (state_of (final ks s)) ≡ true → hand_out (final ks s) ≡ p
  whole_is c =
      let n = length s.payload in
      let h = followed ks s ok e in
      let d : is_complete (machine_final n ks idle) ≡ true = rw h.partial_is at c in
      let f : Bringing.Filled (machine_final n ks idle) = rw h.partial_is at (Bringing.filled (final ks s) h.stays_good.is_sound) in
      Following.hand_bytes (final ks s) h.stays_good c
      ∙ rw h.partial_is (Bringing.whole_of p (brought n ks idle []) (machine_final n ks idle) a (Bringing.log_all n ks idle [] Bringing.log_none) f d)

  hands_out : HandsOut p (answers HandOut (final ks s))
  hands_out =
      let g = (followed ks s ok e).stays_good in
      by_bool _ (is_complete (state_of (final ks s)))
      (λ c. inl (rw (Following.hand_is (final ks s) g, c) (ap handed (whole_is c))))
      (λ c. inr (rw (Following.hand_is (final ks s) g, c)))

-- ---- ANY LIST OF CALLS from a good, just emptied partial
pub any_list : (ks : List Call) (s : Partial) → Good s → s.rec.started ≡ false → AnyList ks s
any_list ks s ok e =
    let h = followed ks s ok e in
    record {
      replies_are = h.replies_are;
      partial_is = h.partial_is;
      stays_good = h.stays_good;
      room_stays = h.room_stays;
      covered_exactly = λ i x. rw h.partial_is ((Bringing.log_all (length s.payload) ks idle [] Bringing.log_none).bytes i x);
      one_payload = λ before after p q a.
          subst (HandsOut p) (sym (ap (λ (l : List Call). reply_at (replies l s) (length before)) q ∙ reply_inside before HandOut after s)) (hands_out before s ok e p a);
    }

-- ---- COMPLETE, and handing out accepted, exactly if started and covered at every byte below total
complete_is : (s : Partial) → (is_complete (state_of s) ≡ true) ↔ Complete s
complete_is s = (
  λ e. by_bool _ s.rec.started
      (λ h. (h, λ i l. rw h (full_some s.rec.message.total (view_of s) (rw h at e) i l)))
      (λ h. absurd (false≢true (rw h at e))),
  λ p. rw p.0 (full_all s.rec.message.total (view_of s) (λ i l. rw p.0 at (p.1 i l))),
)

-- "complete" is said from the number: exactly when a started one's number is its total, of any sound partial
pub complete_by_number : (s : Partial) → sound s ≡ true → (answers Ask s ≡ said true) ↔ ((s.rec.started ≡ true) × (s.rec.covered ≡ s.rec.message.total))
unfolding ask_complete
complete_by_number s e = (
  λ q. by_bool _ s.rec.started
      (λ t. (t, by_eq _ s.rec.covered s.rec.message.total (λ h. h) (λ h. absurd (no_yes (rw (e, t, ne_eqb s.rec.covered s.rec.message.total h) at q)))))
      (λ t. absurd (no_yes (rw (e, t) at q))),
  λ p. rw (e, p.0, eq-eqb s.rec.covered s.rec.message.total p.1),
)
  where
    no_yes : said false ≡ said true → ⊥
    no_yes q = let z : ◌≡◌ {A = ℕ} 0 1 = cc in omega arith

pub complete_exactly : (s : Partial) → Good s → (answers Ask s ≡ said true) ↔ Complete s
complete_exactly s ok = (
  λ e. (complete_is s).0 (is_yes (is_complete (state_of s)) (sym (Following.follow s ok Ask).reply ∙ e)),
  λ p. (Following.follow s ok Ask).reply ∙ ap said ((complete_is s).1 p),
)
  where
    told : Reply → Bool → Bool
    told (said b) c = b
    told done c = c
    told (handed l) c = c
    told (refused n p) c = c

    is_yes : (b : Bool) → said b ≡ said true → b ≡ true
    is_yes b q = ap (λ (r : Reply). told r b) q

hand_done : (s : Partial) → judge_hand_out s ≡ Done → answers HandOut s ≡ handed (take s.rec.message.total s.payload)
unfolding hand_out
hand_done s e = rw e

pub hand_out_exactly : (s : Partial) → Good s → (answers HandOut s ≡ handed (take s.rec.message.total s.payload)) ↔ Complete s
hand_out_exactly s ok = (
  λ e. (complete_is s).0 (is_complete_lem (is_complete (state_of s)) (sym (Following.hand_is s ok) ∙ accepted (judge_hand_out s) _ _ e)),
  λ p. hand_done s (Following.hand_is s ok ∙ rw ((complete_is s).1 p)),
)
  where
    accepted : (v : Verdict) (l k : List ℕ) → handed_of v l ≡ handed k → v ≡ Done
    accepted Done l k e = refl
    accepted (Refused n p) l k e = let z : ◌≡◌ {A = ℕ} 0 1 = cc in absurd (omega arith)

-- the part handed out has total bytes where it is accepted, and none where it is refused: a payload is never empty
pub handed_length : (s : Partial) → judge_hand_out s ≡ Done → (length (hand_out s) ≡ s.rec.message.total) × (1 ≤ s.rec.message.total)
unfolding hand_out
handed_length s e =
    let ok = JudgeLaws.hand_sound s e in
    let h = JudgeLaws.hand_started s e in
    (rw e (length-take-le s.rec.message.total s.payload (JudgeLaws.sound_total s ok h)), JudgeLaws.sound_some s ok h)

pub handed_nothing : (s : Partial) (n p : ℕ) → answers HandOut s ≡ refused n p → hand_out s ≡ []
unfolding hand_out
handed_nothing s n p e = go (judge_hand_out s) _ _ e
  where
    go : (v : Verdict) (l k : List ℕ) → handed_of v l ≡ refused n p → if_done v k ≡ []
    go Done l k q = let z : ◌≡◌ {A = ℕ} 0 1 = cc in absurd (omega arith)
    go (Refused x y) l k q = refl

-- ---- COMBINING TWO gives equal results in either order, or the same refusal
pub combine_order : (a b : Partial) → Pair a b → EitherOrder a b
combine_order a b w =
    let same : (combine a b).verdict ≡ (combine b a).verdict = Combining.verdict_between a b w.first w.second w.room ∙ StateLaws.between_comm (state_of a) (state_of b)
    ∙ sym (Combining.verdict_between b a w.second w.first w.back) in
    record {
      same_verdict = same;
      equal = λ e. equal_right (combine a b).after (combine b a).after (Combining.combined_good a b w.first) (Combining.combined_good b a w.second)
          (Combining.done_state a b w.first e
          ∙ StateLaws.accept_comm (state_of a) (state_of b) (Combining.done_agree a b w.first w.second w.room e)
          ∙ sym (Combining.done_state b a w.second (sym same ∙ e)));
    }

-- areas of equal length meet what is asked
pub equal_areas : (a b : Partial) → Good a → Good b → EqualRoom a b → Pair a b
equal_areas a b ga gb e = record { first = ga; second = gb; room = Combining.equal_room a b gb e; back = Combining.equal_room b a ga (sym e) }

pub three_equal_areas : (a b c : Partial) → Good a → Good b → Good c → EqualRoom a b → EqualRoom b c → Three a b c
three_equal_areas a b c ga gb gc ab bc = record {
  first = ga;
  second = gb;
  third = gc;
  ab = Combining.equal_room a b gb ab;
  bc = Combining.equal_room b c gc bc;
  ac = Combining.equal_room a c gc (ab ∙ bc);
}

-- ---- ONE NOT STARTED changes nothing, not even an uncovered byte
pub combine_not_started : (a b : Partial) → Good a → Good b → b.rec.started ≡ false → combine a b ≡ record { verdict = Done; after = a }
combine_not_started a b ga gb e = JudgeLaws.combine_done_idle a b (JudgeLaws.combine_idle a b ga.is_sound gb.is_sound e) e

-- what is marked already is not new
nothing_new : (a : Partial) → with_new a.rec (new_marks a.layout (has (view_of a)) a.marks) ≡ a.rec
nothing_new a =
    let z : a.rec.covered + new_marks a.layout (has (view_of a)) a.marks ≡ a.rec.covered =
    (let n = ap (λ (f : ℕ → Bool). new_marks a.layout f a.marks) (has_marked a.layout a.rec.message.total a.payload a.marks)
    ∙ new_again a.layout a.rec.message.total a.marks in omega arith) in
    λ i. record { started = a.rec.started; message = a.rec.message; covered = z i }

-- ---- AN EQUAL ONE changes nothing, not even an uncovered byte
pub combine_equal : (a b : Partial) → Good a → Good b → Equal a b → combine a b ≡ record { verdict = Done; after = a }
combine_equal a b ga gb w =
    let q = w.states in
    by_bool _ b.rec.started
    (λ e. by_bool _ a.rec.started
    (λ f.
    let v : view_of b ≡ view_of a = sym (rw (e, f) at (ap view_in q)) in
    JudgeLaws.combine_done a b done e ∙ ap (λ (t : Partial). record { verdict = Done; after = t }) (unchanged f v))
    (λ f. absurd (false≢true (rw (e, f) at (ap is_held q)))))
    (λ e. combine_not_started a b ga gb e)
  where
    is_held : State → Bool
    is_held idle = false
    is_held (held m v) = true

    room : Room a b
    room = rw w.states at (Combining.own_room a ga)

    done : judge_combine a b ≡ Done
    done = Combining.judged_between a b ga gb room ∙ ap (between (state_of a)) (sym w.states) ∙ StateLaws.agree_done (state_of a) (state_of a) (StateLaws.agree_refl (state_of a))

    unchanged : a.rec.started ≡ true → view_of b ≡ view_of a → put b.rec.message (view_of b) a ≡ a
    unchanged f v =
        Following.put_started b.rec.message (view_of b) a f
        ∙ rw v (λ i. record {
          rec = nothing_new a i;
          layout = a.layout;
          payload = laid_self a.layout a.rec.message.total a.payload a.marks i;
          marks =
              marks_again a.layout a.rec.message.total a.payload a.marks i;
        })

-- ---- THREE IN EITHER GROUPING give equal results, or both are refused, and that exactly if two of the three disagree
pub combine_groupings : (a b c : Partial) → Three a b c → EitherGrouping a b c
combine_groupings a b c w = record {
  left = Combining.refused_exactly (left_verdict a b c) (some_disagree a b c) (λ e. agree (Combining.left_pairs a b c w e)) (λ e. Combining.pairs_left a b c w (pairs e));
  right = Combining.refused_exactly (right_verdict a b c) (some_disagree a b c) (λ e. agree (Combining.right_pairs a b c w e)) (λ e. Combining.pairs_right a b c w (pairs e));
  equal = λ e. equal_right _ _ (Combining.combined_good (combine a b).after c (Combining.combined_good a b w.first)) (Combining.combined_good a (combine b c).after w.first)
      (Combining.pairs_equal a b c w (pairs e));
}
  where
    pairs : some_disagree a b c ≡ false → Combining.Pairwise a b c
    pairs = Combining.pairwise a b c w

    agree : Combining.Pairwise a b c → some_disagree a b c ≡ false
    agree = Combining.pairwise_agree a b c w

-- ---- TAKING IN A CHUNK with no fault of its own equals combining with a partial that is that chunk alone: same answer, equal results, and
-- the same bytes in both areas
chunk_as_partial : (s f : Partial) → Good s → Good f → (m : Message) (at : ℕ) (d : List ℕ) → GoodChunk m at (length d) → state_of f ≡ alone (chunk m at d)
    → AsPartial (take_in s (chunk m at d)) (combine s f)
chunk_as_partial s f ok okf m at d o q = go (judge_reading s (chunk m at d)) refl
  where
    go : (v : Verdict) → judge_reading s (chunk m at d) ≡ v → AsPartial (take_in s (chunk m at d)) (combine s f)
    go (Refused n p) e =
        let x = JudgeLaws.take_refused s (chunk m at d) n p e in
        let y = JudgeLaws.combine_refused s f n p (sym (Alone.judged s f ok okf m at d q) ∙ e) in
        record { verdict = rw (x, y); equal = rw (x, y) (equal_self s); payload = rw (x, y); marks = rw (x, y) }
    go Done e =
        let x = JudgeLaws.take_done s (chunk m at d) e in
        let y = Alone.combined s f ok okf m at d q e in
        record {
          verdict = rw (x, y);
          equal = equal_right _ _ (Following.take_stepped s ok (chunk m at d) o).good (Combining.combined_good s f ok)
              (Alone.taken_state s ok m at d o e ∙ sym (Alone.combined_state s f ok okf m at d q e));
          payload = rw (x, y) (Alone.put_payload s m f.rec.message (data_view at d));
          marks = rw (x, y) (Alone.put_marks s m f.rec.message (data_view at d));
        }

-- with its own record in areas of equal length, all is the same: answer, record and every byte
take_is_combine : (s : Partial) → Good s → (m : Message) (at : ℕ) (d : List ℕ) → GoodChunk m at (length d) → m.total ≤ length s.payload
    → take_in s (chunk m at d) ≡ combine s (chunk_alone s.layout (length s.payload) m at d)
unfolding put
take_is_combine s ok m at d o room = go (judge_reading s (chunk m at d)) refl
  where
    okf : Good (chunk_alone s.layout (length s.payload) m at d)
    okf = Alone.chunk_alone_good s.layout (length s.payload) m at d o room

    q : state_of (chunk_alone s.layout (length s.payload) m at d) ≡ alone (chunk m at d)
    q = Alone.chunk_alone_is s.layout (length s.payload) m at d o room

    go : (v : Verdict) → judge_reading s (chunk m at d) ≡ v → take_in s (chunk m at d) ≡ combine s (chunk_alone s.layout (length s.payload) m at d)
    go (Refused n p) e = JudgeLaws.take_refused s (chunk m at d) n p e ∙ sym (JudgeLaws.combine_refused s _ n p (sym (Alone.judged s _ ok okf m at d q) ∙ e))
    go Done e = JudgeLaws.take_done s (chunk m at d) e ∙ sym (Alone.combined s _ ok okf m at d q e)

-- ---- so for a datagram that reads as a chunk: bytes are its data, at is its offset
module _ (sizes d : List ℕ) (m : Message) (at : ℕ) (bytes : List ℕ) (reads : reading_at sizes d ≡ chunk m at bytes) where
  good_chunk : GoodChunk m at (length bytes)
  good_chunk = subst GoodReading reads (JudgeLaws.reading_proper sizes d)

  pub datagram_as_partial : (s f : Partial) → Good s → Good f → state_of f ≡ alone (reading_at sizes d) → AsPartial (take_in s (reading_at sizes d)) (combine s f)
  datagram_as_partial s f ok okf q = rw reads (chunk_as_partial s f ok okf m at bytes good_chunk (q ∙ ap alone reads))

  -- a partial that is that chunk alone exists wherever there is room for its total
  pub datagram_alone : (L : Layout) (n : ℕ) → m.total ≤ n → IsAlone (reading_at sizes d) n (chunk_alone L n m at bytes)
  datagram_alone L n room = record {
    good = Alone.chunk_alone_good L n m at bytes good_chunk room;
    room = Alone.chunk_alone_room L n m at bytes good_chunk room;
    is = Alone.chunk_alone_is L n m at bytes good_chunk room ∙ ap alone (sym reads);
  }

  pub datagram_is_combine : (s : Partial) → Good s → m.total ≤ length s.payload
      → take_in s (reading_at sizes d) ≡ combine s (chunk_alone s.layout (length s.payload) m at bytes)
  datagram_is_combine s ok room = ap (take_in s) reads ∙ take_is_combine s ok m at bytes good_chunk room

-- ---- EVERY REFUSAL leaves the record and both areas as they were
step_refused_lem : (v : Verdict) (s t : Partial) (n p : ℕ) → (step_by v s t).verdict ≡ Refused n p → (step_by v s t).after ≡ s
step_refused_lem Done s t n p e = absurd (JudgeLaws.refused_done n p (sym e))
step_refused_lem (Refused k q) s t n p e = refl

pub refused_take : (s : Partial) (x : Reading) (n p : ℕ) → (take_in s x).verdict ≡ Refused n p → (take_in s x).after ≡ s
unfolding take_in
refused_take s x n p e = step_refused_lem (judge_reading s x) s (put_reading x s) n p e

pub refused_combine : (s f : Partial) (n p : ℕ) → (combine s f).verdict ≡ Refused n p → (combine s f).after ≡ s
unfolding combine
refused_combine s f n p e = step_refused_lem (judge_combine s f) s _ n p e

-- of all five calls
pub refused_leaves : (k : Call) (s : Partial) (n p : ℕ) → answers k s ≡ refused n p → leaves k s ≡ s
refused_leaves Empty s n p e = let z : ◌≡◌ {A = ℕ} 0 1 = cc in absurd (omega arith)
refused_leaves (Take d sizes) s n p e = refused_take s (reading_at sizes d) n p (one_verdict _ (Refused n p) e)
refused_leaves (Combine f) s n p e = refused_combine s f n p (one_verdict _ (Refused n p) e)
refused_leaves Ask s n p e = refl
refused_leaves HandOut s n p e = refl
