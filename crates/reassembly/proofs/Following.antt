-- Each call on a good partial answers as the plain machine does, and leaves a good partial that is equal to what the machine keeps.
-- Assumes nothing.
use Prim.Native.Nat.{ℕ, ◌+◌, ◌≤◌}
use mathlib.Core.Path.{◌≡◌, refl, sym, ap, ◌∙◌}
use mathlib.Core.Bool.{Bool, true, false, cond, not, or-true, false≢true}
use mathlib.Core.List.{List}
use mathlib.Core.Option.{none}
use native.Mathlib.Omega.{arith}
use lib.ListN.{length}
use lib.Dec.{eqb}
use borrow.Author.Tests.{le-leb, eq-eqb}
use Rattle.reassembly.specs.Views.{View, clash, full, is_some, has, data_view, both_views, nowhere, overlaid}
use Rattle.marks.specs.Marks.{Layout, marks_for, cleared, mark_all, count_marked, new_marks}
use Rattle.reassembly.specs.Areas.{marked_view}
use Rattle.publisher_id.specs.PublisherRecord.{publisher_fits}
use Rattle.reassembly.specs.Record.{Identity, identity_of, Partial, sound_by, marked_count, Good}
use Rattle.reassembly.specs.Reading.{Reading, reading_at, GoodReading}
use Rattle.reassembly.specs.Reading.Reading.{chunk, refusal}
use Rattle.reassembly.specs.Machine.{State, judge, accept, is_complete, view_of, state_of, alone, reading_verdict, Call, reply_of, handed_of, verdict_of, whole, says, if_accepted, keeps}
use Rattle.reassembly.specs.Machine.State.{idle, held}
use Rattle.reassembly.specs.Machine.Call.{Empty, Take, Combine, Ask, HandOut}
use Rattle.reassembly.specs.Machine.Reply.{said}
use Rattle.reassembly.specs.Judge.{judge_reading, judge_combine}
use Rattle.reassembly.specs.Calls.{said_of, answers, leaves}
use Rattle.reassembly.specs.Operations.{Step, begun_marks, with_new, put, take_in, combine, emptied, yes_no, says_complete, ask_complete, number_right, judge_hand_out, hand_out}
use Rattle.reassembly.specs.declared.record.Message.{Message}
use Rattle.reassembly.specs.declared.record.PartialRecord.{PartialRecord}
use Rattle.reassembly.specs.Verdict.{Verdict, Done, Refused}
use Rattle.wire.proofs.Cases.{by_bool}
use Rattle.reassembly.proofs.ViewLaws.{length_laid, data_above, clash_none, joined_nowhere}
use Rattle.marks.proofs.MarkLaws.{length_cleared, length_mark_all}
use Rattle.marks.proofs.CountLaws.{count_put, count_cleared, count_all, marked_most}
use Rattle.reassembly.proofs.AreaLaws.{marked_above, cleared_nowhere, view_put, full_marked, full_bytes}
use Rattle.reassembly.proofs.SameLaws.{same_message_true}
use Rattle.reassembly.proofs.JudgeLaws

-- a message that a sound partial of n bytes can have
pub record GoodMessage (m : Message) (n : ℕ) : Type 0 where
  pub some : 1 ≤ m.total
  pub room : m.total ≤ n
  pub publisher : publisher_fits m.origin.publisher ≡ true

fit_sound : (L : Layout) (r : PartialRecord) (n k : ℕ) → marks_for L n ≡ k → GoodMessage r.message n → r.covered ≤ r.message.total → sound_by L r n k ≡ true
unfolding sound_by
fit_sound L r n k e f c =
    rw (eq-eqb (marks_for L n) k e, le-leb 1 r.message.total f.some, le-leb r.message.total n f.room, le-leb r.covered r.message.total c, f.publisher)
    (or-true (not r.started))

-- ---- bytes put into a good partial
module _ (m : Message) (v : View) (s : Partial) where
  pub put_started : s.rec.started ≡ true
      → put m v s ≡ record { rec = with_new s.rec (new_marks s.layout (has v) s.marks); layout = s.layout; payload = overlaid v s.payload; marks = mark_all s.layout (has v) s.marks }
  unfolding put
  put_started e = rw e

  put_idle : s.rec.started ≡ false
      → put m v s ≡ record {
        rec = record { started = true; message = m; covered = 0 + new_marks s.layout (has v) (cleared s.marks) };
        layout = s.layout;
        payload = overlaid v s.payload;
        marks = mark_all s.layout (has v) (cleared s.marks);
      }
  unfolding put
  put_idle e = rw e

-- a partial whose parts are known
good_by : (x : Partial) (k : PartialRecord) (L : Layout) (p z : List ℕ) → x ≡ record { rec = k; layout = L; payload = p; marks = z } → marks_for L (length p) ≡ length z
    → GoodMessage k.message (length p)
    → k.covered ≡ count_marked L k.message.total z → Good x
good_by x k L p z e l f c =
    rw e (record { is_sound = fit_sound L k (length p) (length z) l f (rw c (marked_most L k.message.total z)); is_right = λ t. c })

module _ (m : Message) (v : View) (s : Partial) (ok : Good s) (fit : GoodMessage m (length s.payload)) where
  put_lengths : (length (put m v s).payload ≡ length s.payload) × (length (put m v s).marks ≡ length s.marks)
  unfolding put
  put_lengths = (length_laid v s.payload, length_mark_all s.layout (has v) (begun_marks s.rec s.marks) ∙ JudgeLaws.length_begun s.rec s.marks _ refl)

  pub put_good : ((i : ℕ) → m.total ≤ i → v i ≡ none) → judge (length s.payload) (state_of s) (held (identity_of m) v) ≡ Done → Good (put m v s)
  put_good above met =
      by_bool _ s.rec.started
      (λ e.
      let t = s.rec.message.total in
      let k = identity_of s.rec.message in
      let met₁ = JudgeLaws.judge_meets (length s.payload) (held k (view_of s)) (identity_of m) v (rw e at met) in
      let same : t ≡ m.total = ap (λ (x : Identity). x.total) (same_message_true k (identity_of m) (JudgeLaws.meet_same k (identity_of m) (view_of s) v met₁)) in
      let u : t ≤ length s.payload = JudgeLaws.sound_total s ok.is_sound e in
      let p = length_laid v s.payload in
      let z = length_mark_all s.layout (has v) s.marks in
      let room = JudgeLaws.sound_marks s ok.is_sound t u in
      good_by (put m v s) _ s.layout _ _ (put_started m v s e) (ap (marks_for s.layout) p ∙ JudgeLaws.sound_lengths s ok.is_sound ∙ sym z)
      (record { some = JudgeLaws.sound_some s ok.is_sound e; room = rw p u; publisher = JudgeLaws.sound_publisher s ok.is_sound e })
      (ap (λ (n : ℕ). n + new_marks s.layout (has v) s.marks) (ok.is_right e) ∙ sym (count_put s.layout t (has v) s.marks room (λ i h. ap is_some (above i (omega arith))))))
      (λ e.
      let p = length_laid v s.payload in
      let z = length_mark_all s.layout (has v) (cleared s.marks) ∙ length_cleared s.marks in
      let room : marks_for s.layout m.total ≤ length (cleared s.marks) = rw (length_cleared s.marks) (JudgeLaws.sound_marks s ok.is_sound m.total fit.room) in
      good_by (put m v s) _ s.layout _ _ (put_idle m v s e) (ap (marks_for s.layout) p ∙ JudgeLaws.sound_lengths s ok.is_sound ∙ sym z)
      (record { some = fit.some; room = rw p fit.room; publisher = fit.publisher })
      (ap (λ (n : ℕ). n + new_marks s.layout (has v) (cleared s.marks)) (sym (count_cleared s.layout m.total s.marks))
      ∙ sym (count_put s.layout m.total (has v) (cleared s.marks) room (λ i h. ap is_some (above i h)))))

  pub put_state : ((i : ℕ) → m.total ≤ i → v i ≡ none) → judge (length s.payload) (state_of s) (held (identity_of m) v) ≡ Done → state_of (put m v s) ≡ accept (state_of s) (held (identity_of m) v)
  put_state above met =
      by_bool _ s.rec.started
      (λ e.
      let t = s.rec.message.total in
      let k = identity_of s.rec.message in
      let met₁ = JudgeLaws.judge_meets (length s.payload) (held k (view_of s)) (identity_of m) v (rw e at met) in
      let same : t ≡ m.total = ap (λ (x : Identity). x.total) (same_message_true k (identity_of m) (JudgeLaws.meet_same k (identity_of m) (view_of s) v met₁)) in
      let u : t ≤ length s.payload = JudgeLaws.sound_total s ok.is_sound e in
      rw (put_started m v s e, e)
      (ap (held k) (view_put s.layout t v s.payload s.marks u (JudgeLaws.sound_marks s ok.is_sound t u)
      (λ i h. above i (omega arith)) (JudgeLaws.meet_free k (identity_of m) (view_of s) v met₁))))
      (λ e.
      let t = m.total in
      let z = cleared s.marks in
      let none-held : marked_view s.layout t s.payload z ≡ nowhere = cleared_nowhere s.layout t s.payload s.marks in
      let free : clash t (marked_view s.layout t s.payload z) v ≡ false = rw none-held (clash_none t nowhere v (λ i h. refl)) in
      let room : marks_for s.layout t ≤ length z = rw (length_cleared s.marks) (JudgeLaws.sound_marks s ok.is_sound t fit.room) in
      rw (put_idle m v s e, e)
      (ap (held (identity_of m)) (view_put s.layout t v s.payload z fit.room room above free ∙ ap (λ (w : View). both_views w v) none-held ∙ joined_nowhere v)))

-- ---- a step that brings t, judged by v
pub record Stepped (s : Partial) (x : Step) (v : Verdict) (t : State) : Type 0 where
  pub verdict : x.verdict ≡ v
  pub state : state_of x.after ≡ if_accepted v (state_of s) (accept (state_of s) t)
  pub good : Good x.after
  pub room : length x.after.payload ≡ length s.payload

module _ (s : Partial) (ok : Good s) (x : Step) (v : Verdict) (t : State) where
  step_refused_lem : (n p : ℕ) → x ≡ record { verdict = Refused n p; after = s } → v ≡ Refused n p → Stepped s x v t
  step_refused_lem n p e f = record { verdict = rw (e, f); state = rw (e, f); good = rw e ok; room = rw e }

  step_idle : x ≡ record { verdict = Done; after = s } → v ≡ Done → t ≡ idle → Stepped s x v t
  step_idle e f g = record { verdict = rw (e, f); state = rw (e, f, g); good = rw e ok; room = rw e }

  step_put : (m : Message) (w : View) → GoodMessage m (length s.payload) → ((i : ℕ) → m.total ≤ i → w i ≡ none) → judge (length s.payload) (state_of s) (held (identity_of m) w) ≡ Done
      → x ≡ record { verdict = Done; after = put m w s } → v ≡ Done → t ≡ held (identity_of m) w → Stepped s x v t
  step_put m w fit above met e f g = record {
    verdict = rw (e, f);
    state = rw (e, f, g) (put_state m w s ok fit above met);
    good = rw e (put_good m w s ok fit above met);
    room = rw e (put_lengths m w s ok fit).0;
  }

module _ (s : Partial) (ok : Good s) where
  -- ---- taking in
  pub take_stepped : (x : Reading) → GoodReading x → Stepped s (take_in s x) (reading_verdict (length s.payload) (state_of s) x) (alone x)
  take_stepped (refusal k p) o =
      step_refused_lem s ok _ _ _ k p
      (JudgeLaws.take_refused s (refusal k p) k p (JudgeLaws.reading_judged s (refusal k p) ok.is_sound)) refl
  take_stepped (chunk m at d) o = go (judge_reading s (chunk m at d)) refl
    where
      judged : judge_reading s (chunk m at d) ≡ judge (length s.payload) (state_of s) (held (identity_of m) (data_view at d))
      judged = JudgeLaws.reading_judged s (chunk m at d) ok.is_sound

      go : (v : Verdict) → judge_reading s (chunk m at d) ≡ v → Stepped s (take_in s (chunk m at d)) (reading_verdict (length s.payload) (state_of s) (chunk m at d)) (alone (chunk m at d))
      go (Refused k p) e = step_refused_lem s ok _ _ _ k p (JudgeLaws.take_refused s (chunk m at d) k p e) (sym judged ∙ e)
      go Done e =
          let met = sym judged ∙ e in
          let fit : GoodMessage m (length s.payload) =
          record { some = o.some; room = JudgeLaws.judge_fits (length s.payload) (state_of s) (identity_of m) (data_view at d) met; publisher = o.publisher } in
          step_put s ok _ _ _ m (data_view at d) fit (λ i h. data_above at d i (omega (arith, o.fits))) met (JudgeLaws.take_done s (chunk m at d) e) met refl

  -- ---- combining
  pub source_verdict : (f : Partial) → judge_combine s f ≡ verdict_of (length s.payload) (Combine f) (state_of s)
  unfolding judge_combine
  source_verdict f = rw ok.is_sound

  pub combine_stepped : (f : Partial) → Stepped s (combine s f) (verdict_of (length s.payload) (Combine f) (state_of s)) (state_of f)
  combine_stepped f = go (judge_combine s f) refl
    where
      go : (v : Verdict) → judge_combine s f ≡ v → Stepped s (combine s f) (verdict_of (length s.payload) (Combine f) (state_of s)) (state_of f)
      go (Refused k p) e = step_refused_lem s ok _ _ _ k p (JudgeLaws.combine_refused s f k p e) (sym (source_verdict f) ∙ e)
      go Done e =
          by_bool _ f.rec.started
          (λ h.
          let g = JudgeLaws.combine_source_sound s f e in
          let met = JudgeLaws.combine_met s f e h in
          let fit : GoodMessage f.rec.message (length s.payload) =
          record {
            some = JudgeLaws.sound_some f g h;
            room = JudgeLaws.judge_fits (length s.payload) (state_of s) (identity_of f.rec.message) (view_of f) met;
            publisher =
                JudgeLaws.sound_publisher f g h;
          } in
          step_put s ok _ _ _ f.rec.message (view_of f) fit
          (λ i l. marked_above f.layout f.rec.message.total f.payload f.marks i l) met (JudgeLaws.combine_done s f e h) (sym (source_verdict f) ∙ e) (rw h))
          (λ h. step_idle s ok _ _ _ (JudgeLaws.combine_done_idle s f e h) (sym (source_verdict f) ∙ e) (rw h))

  -- ---- asking and handing out
  -- complete is said from the number as it is from what is covered
  says_is : says_complete s ≡ is_complete (state_of s)
  says_is =
      by_bool _ s.rec.started
      (λ e. rw e
      (ap (λ (n : ℕ). eqb n s.rec.message.total) (ok.is_right e)
      ∙ count_all s.layout s.rec.message.total s.marks ∙ sym (full_marked s.layout s.rec.message.total s.payload s.marks)))
      (λ e. rw e)

  right_is : number_right s ≡ true
  right_is =
      by_bool _ s.rec.started (λ e. rw e (eq-eqb (marked_count s) s.rec.covered (sym (ok.is_right e)))) (λ e. rw e)

  ask_is : ask_complete s ≡ yes_no (is_complete (state_of s))
  unfolding ask_complete
  ask_is = rw ok.is_sound (ap yes_no says_is)

  pub hand_is : judge_hand_out s ≡ cond (is_complete (state_of s)) Done (Refused 15 0)
  unfolding judge_hand_out
  hand_is = rw (ok.is_sound, right_is) (ap (λ (b : Bool). cond b Done (Refused 15 0)) says_is)

  pub hand_bytes : is_complete (state_of s) ≡ true → hand_out s ≡ whole (state_of s)
  unfolding hand_out
  hand_bytes e =
      by_bool _ s.rec.started
      (λ h.
      let f : full s.rec.message.total (view_of s) ≡ true = rw h at e in
      rw (hand_is, e, h) (full_bytes s.layout s.rec.message.total s.payload s.marks (JudgeLaws.sound_total s ok.is_sound h) f))
      (λ h. rw (hand_is, e, h) (absurd (false≢true (rw h at e))))

-- ---- one call
pub record Follows (k : Call) (s : Partial) : Type 0 where
  pub reply : answers k s ≡ says (length s.payload) k (state_of s)
  pub state : state_of (leaves k s) ≡ keeps (length s.payload) k (state_of s)
  pub good : Good (leaves k s)
  pub room : length (leaves k s).payload ≡ length s.payload

module _ (s : Partial) (ok : Good s) where
  follow_empty : Follows Empty s
  unfolding emptied sound_by
  follow_empty = record {
    reply = refl;
    state = refl;
    good = record {
      is_sound = rw (eq-eqb (marks_for s.layout (length s.payload)) (length s.marks) (JudgeLaws.sound_lengths s ok.is_sound));
      is_right = λ t. absurd (false≢true t);
    };
    room = refl;
  }

  follow_take : (d sizes : List ℕ) → Follows (Take d sizes) s
  follow_take d sizes =
      let t = take_stepped s ok (reading_at sizes d) (JudgeLaws.reading_proper sizes d) in
      record { reply = ap reply_of t.verdict; state = t.state; good = t.good; room = t.room }

  follow_combine : (f : Partial) → Follows (Combine f) s
  follow_combine f =
      let t = combine_stepped s ok f in
      record { reply = ap reply_of t.verdict; state = t.state; good = t.good; room = t.room }

  follow_ask : Follows Ask s
  follow_ask = record { reply = ap said_of (ask_is s ok) ∙ by_case (is_complete (state_of s)); state = refl; good = ok; room = refl }
    where
      by_case : (b : Bool) → said_of (yes_no b) ≡ said b
      by_case true = refl
      by_case false = refl

  follow_hand : Follows HandOut s
  follow_hand = record {
    reply = by_bool _ (is_complete (state_of s)) (λ e. rw (hand_is s ok, e) (ap (handed_of Done) (hand_bytes s ok e))) (λ e. rw (hand_is s ok, e));
    state = refl;
    good = ok;
    room = refl;
  }

  pub follow : (k : Call) → Follows k s
  follow Empty = follow_empty
  follow (Take d sizes) = follow_take d sizes
  follow (Combine f) = follow_combine f
  follow Ask = follow_ask
  follow HandOut = follow_hand
