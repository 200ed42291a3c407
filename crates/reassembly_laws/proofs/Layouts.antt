-- Any history of calls gives the same answers, covered bytes and payload area in either layout. Assumes nothing.
use Prim.Native.Nat.{ℕ, ◌<◌}
use mathlib.Core.Path.{◌≡◌, refl, sym, ap, ap₂, ◌∙◌, fun_ext}
use mathlib.Core.Bool.{Bool, true, false}
use mathlib.Core.List.{List, ◌∷◌}
use native.Mathlib.Omega.{arith}
use lib.ListN.{length, get_or, replicate, length-replicate}
use lib.Dec.{eqb}
use borrow.Author.Tests.{eq-eqb}
use Rattle.reassembly.specs.Views.{View, has, only_if, overlaid}
use Rattle.marks.specs.Marks.{Layout, marks_for, marked, cleared, count_marked}
use Rattle.marks.proofs.CountLaws.{count_ext}
use Rattle.reassembly.specs.Record.{identity_of, Partial, sound_by, Good}
use Rattle.reassembly.specs.Reading.{Reading, reading_at}
use Rattle.reassembly.specs.Reading.Reading.{chunk, refusal}
use Rattle.reassembly.specs.Machine.{State, view_in, view_of, state_of, Call, says, keeps}
use Rattle.reassembly.specs.Machine.State.{held}
use Rattle.reassembly.specs.Judge.{judge_reading, judge_combine}
use Rattle.reassembly.specs.Calls.{answers, leaves}
use Rattle.reassembly.specs.Operations.{Step, step_by, begun, put, put_reading, take_in, combine, emptied}
use Rattle.reassembly.specs.declared.record.Message.{Message}
use Rattle.reassembly.specs.declared.record.PartialRecord.{PartialRecord}
use Rattle.reassembly.specs.Verdict.{Verdict, Done, Refused}
use Rattle.reassembly_laws.specs.Layouts.{SameButMarks, SameCall, SameCalls, SameHistory, in_layout}
use Rattle.reassembly_laws.specs.Layouts.SameCalls.{none, next}
use Rattle.wire.proofs.Facts.{and_right}
use Rattle.wire.proofs.Cases.{by_bool, by_lt}
use Rattle.marks.proofs.MarkLaws.{marked_cleared, length_mark_all, marked_on, marked_off}
use Rattle.reassembly.proofs.AreaLaws.{marked_below_lem, marked_above}
use Rattle.reassembly.proofs.JudgeLaws
use Rattle.reassembly.proofs.Following
use Rattle.reassembly_laws.proofs.Equality.{view_by}
use Rattle.reassembly_laws.proofs.Numbers.{equal_right}

module _ (s t : Partial) (same : SameButMarks s t) where
  same_started : (b : Bool) → s.rec.started ≡ b → t.rec.started ≡ b
  same_started b e = ap (λ (r : PartialRecord). r.started) (sym same.rec) ∙ e

  same_view : s.rec.started ≡ true → view_of s ≡ view_of t
  same_view e =
      fun_ext (λ i. view_by s.layout s.rec.message.total s.payload s.marks i
      ∙ ap₂ only_if (rw (e, same_started true e) at (same.covered i)) (ap (λ (p : List ℕ). get_or p i 0) same.payload)
      ∙ sym (view_by t.layout t.rec.message.total t.payload t.marks i))

  same_state : state_of s ≡ state_of t
  same_state =
      by_bool _ s.rec.started
      (λ e. rw (e, same_started true e) (ap₂ held (ap (λ (r : PartialRecord). identity_of r.message) same.rec) (same_view e)))
      (λ e. rw (e, same_started false e))

-- ---- two steps: the same answer, record and payload area
record SameStep (x y : Step) : Type 0 where
  verdict : x.verdict ≡ y.verdict
  rec : x.after.rec ≡ y.after.rec
  payload : x.after.payload ≡ y.after.payload

module _ (s t : Partial) (same : SameButMarks s t) where
  -- by one verdict and of the same bytes
  same_step : (v w : Verdict) (a b : Partial) → v ≡ w → (v ≡ Done → a.rec ≡ b.rec) → a.payload ≡ b.payload → SameStep (step_by v s a) (step_by w t b)
  same_step Done w a b e r p = rw (sym e) (record { verdict = refl; rec = r refl; payload = p })
  same_step (Refused n q) w a b e r p = rw (sym e) (record { verdict = refl; rec = same.rec; payload = same.payload })

  put_rec : (m k : Message) (v w : View) → m ≡ k → (put m v s).rec.covered ≡ (put k w t).rec.covered → (put m v s).rec ≡ (put k w t).rec
  unfolding put
  put_rec m k v w e c =
      let b = ap₂ begun same.rec e in
      λ i. record { started = (b i).started; message = (b i).message; covered = c i }

  put_on : (m : Message) (v : View) → (put m v s).rec.started ≡ true
  unfolding put
  put_on m v = by_bool _ s.rec.started (λ e. rw e) (λ e. rw e)

  put_payload : (m k : Message) (v w : View) → v ≡ w → (put m v s).payload ≡ (put k w t).payload
  unfolding put
  put_payload m k v w e = ap₂ overlaid e same.payload

  same_judged : (x : Reading) → judge_reading s x ≡ judge_reading t x
  unfolding judge_reading
  same_judged x = rw (same.sound, same_state s t same, same.payload)

  same_source : (f g : Partial) → SameButMarks f g → judge_combine s f ≡ judge_combine t g
  unfolding judge_combine
  same_source f g o = rw (same.sound, o.sound, same_state s t same, same_state f g o, same.payload)

  -- the numbers of covered bytes afterwards are the same where one is started
  abbrev SameNumber : Step → Step → Type 0
  SameNumber x y = x.after.rec.started ≡ true → x.after.rec.covered ≡ y.after.rec.covered

  same_take : (x : Reading) → SameNumber (take_in s x) (take_in t x) → SameStep (take_in s x) (take_in t x)
  unfolding take_in
  same_take x num = same_step (judge_reading s x) (judge_reading t x) (put_reading x s) (put_reading x t) (same_judged x) (after_rec x num) (after_payload x)
    where
      after_rec : (x : Reading) → SameNumber (step_by (judge_reading s x) s (put_reading x s)) (step_by (judge_reading t x) t (put_reading x t)) → judge_reading s x ≡ Done
          → (put_reading x s).rec ≡ (put_reading x t).rec
      after_rec (chunk m at d) n e = put_rec m m _ _ refl ((rw (e, sym (same_judged (chunk m at d)) ∙ e) at n) (put_on m _))
      after_rec (refusal k p) n e = same.rec

      after_payload : (x : Reading) → (put_reading x s).payload ≡ (put_reading x t).payload
      after_payload (chunk m at d) = put_payload m m _ _ refl
      after_payload (refusal n p) = same.payload

  same_combine : (f g : Partial) → SameButMarks f g → SameNumber (combine s f) (combine t g) → SameStep (combine s f) (combine t g)
  unfolding combine
  same_combine f g o num =
      same_step (judge_combine s f) (judge_combine t g) _ _ (same_source f g o)
      (λ d. by_bool _ f.rec.started
      (λ e. rw (e, same_started f g o true e)
      (put_rec _ _ _ _ (ap (λ (r : PartialRecord). r.message) o.rec) ((rw (d, sym (same_source f g o) ∙ d, e, same_started f g o true e) at num) (put_on _ _))))
      (λ e. rw (e, same_started f g o false e) same.rec))
      (by_bool _ f.rec.started (λ e. rw (e, same_started f g o true e) (put_payload _ _ _ _ (same_view f g o e))) (λ e. rw (e, same_started f g o false e) same.payload))

-- ---- one call
-- the machine takes both for the same
same_says : (n : ℕ) (k l : Call) (x : State) → SameCall k l → says n k x ≡ says n l x
same_says n _ _ x SameCall.same_empty = refl
same_says n _ _ x (SameCall.same_take d z) = refl
same_says n _ _ x (SameCall.same_combine f g o) = rw (o.sound, same_state f g o)
same_says n _ _ x SameCall.same_ask = refl
same_says n _ _ x SameCall.same_hand_out = refl

same_keeps : (n : ℕ) (k l : Call) (x : State) → SameCall k l → keeps n k x ≡ keeps n l x
same_keeps n _ _ x SameCall.same_empty = refl
same_keeps n _ _ x (SameCall.same_take d z) = refl
same_keeps n _ _ x (SameCall.same_combine f g o) = rw (o.sound, same_state f g o)
same_keeps n _ _ x SameCall.same_ask = refl
same_keeps n _ _ x SameCall.same_hand_out = refl

module _ (s t : Partial) (same : SameButMarks s t) where
  abbrev SameLeft : Call → Call → Type 0
  SameLeft k l = (leaves k s).rec.started ≡ true → (leaves k s).rec.covered ≡ (leaves l t).rec.covered

  leaves_rec : (k l : Call) → SameCall k l → SameLeft k l → (leaves k s).rec ≡ (leaves l t).rec
  leaves_rec _ _ SameCall.same_empty n = ap emptied same.rec
  leaves_rec _ _ (SameCall.same_take d z) n = (same_take s t same (reading_at z d) n).rec
  leaves_rec _ _ (SameCall.same_combine f g o) n = (same_combine s t same f g o n).rec
  leaves_rec _ _ SameCall.same_ask n = same.rec
  leaves_rec _ _ SameCall.same_hand_out n = same.rec

  leaves_payload : (k l : Call) → SameCall k l → SameLeft k l → (leaves k s).payload ≡ (leaves l t).payload
  leaves_payload _ _ SameCall.same_empty n = same.payload
  leaves_payload _ _ (SameCall.same_take d z) n = (same_take s t same (reading_at z d) n).payload
  leaves_payload _ _ (SameCall.same_combine f g o) n = (same_combine s t same f g o n).payload
  leaves_payload _ _ SameCall.same_ask n = same.payload
  leaves_payload _ _ SameCall.same_hand_out n = same.payload

  module _ (ok : Good s) (ok' : Good t) (k l : Call) (c : SameCall k l) where
    same_room : length s.payload ≡ length t.payload
    same_room = ap length same.payload

    same_reply : answers k s ≡ answers l t
    same_reply =
        (Following.follow s ok k).reply ∙ ap₂ (λ (n : ℕ) (x : State). says n k x) same_room (same_state s t same)
        ∙ same_says (length t.payload) k l (state_of t) c ∙ sym (Following.follow t ok' l).reply

    left_state : state_of (leaves k s) ≡ state_of (leaves l t)
    left_state =
        (Following.follow s ok k).state ∙ ap₂ (λ (n : ℕ) (x : State). keeps n k x) same_room (same_state s t same)
        ∙ same_keeps (length t.payload) k l (state_of t) c ∙ sym (Following.follow t ok' l).state

    number : SameLeft k l
    number = (equal_right (leaves k s) (leaves l t) (Following.follow s ok k).good (Following.follow t ok' l).good left_state).numbers

    same_left : SameButMarks (leaves k s) (leaves l t)
    same_left = record {
      rec = leaves_rec k l c number;
      payload = leaves_payload k l c number;
      sound = (Following.follow s ok k).good.is_sound ∙ sym (Following.follow t ok' l).good.is_sound;
      covered = λ i. ap (λ (x : State). has (view_in x) i) left_state;
    }

-- ---- ANY HISTORY gives the same answers, and the same record, payload area and covered bytes
same_history : (ks ls : List Call) (s t : Partial) → SameCalls ks ls → SameButMarks s t → Good s → Good t → SameHistory ks ls s t
same_history _ _ s t none same ok ok' = record { answered = refl; left = same }
same_history _ _ s t (next k l ks ls c cs) same ok ok' =
    let h = same_history ks ls (leaves k s) (leaves l t) cs (same_left s t same ok ok' k l c) (Following.follow s ok k).good (Following.follow t ok' l).good in
    record { answered = ap₂ ◌∷◌ (same_reply s t same ok ok' k l c) h.answered; left = h.left }

-- ---- FROM EMPTYING: sound partials with one record, not started, and one payload area, whatever their marks are
emptied_same : (s t : Partial) → Good s → Good t → s.rec ≡ t.rec → s.payload ≡ t.payload → s.rec.started ≡ false → SameButMarks s t
emptied_same s t ok ok' r p e =
    let e' : t.rec.started ≡ false = ap (λ (x : PartialRecord). x.started) (sym r) ∙ e in
    record { rec = r; payload = p; sound = ok.is_sound ∙ sym ok'.is_sound; covered = λ i. rw (e, e') }

pub same_from_emptying : (ks ls : List Call) (s t : Partial) → SameCalls ks ls → Good s → Good t → s.rec ≡ t.rec → s.payload ≡ t.payload → s.rec.started ≡ false → SameHistory ks ls s t
same_from_emptying ks ls s t c ok ok' r p e = same_history ks ls s t c (emptied_same s t ok ok' r p e) ok ok'

-- ---- THERE IS ONE: a sound partial with its marks in another layout is sound, and the same but for the form of its marks
marked_blank : (L : Layout) (n i : ℕ) → marked L (replicate n 0) i ≡ false
unfolding cleared
marked_blank L n i = rw (length-replicate {A = ℕ} n 0) at (marked_cleared L (replicate n 0) i)

module _ (L : Layout) (s : Partial) (ok : Good s) where
  blank : List ℕ
  blank = replicate (marks_for L (length s.payload)) 0

  length_blank : length blank ≡ marks_for L (length s.payload)
  unfolding blank
  length_blank = length-replicate {A = ℕ} (marks_for L (length s.payload)) 0

  marked_same : (i : ℕ) → i < length s.payload → marked s.layout s.marks i ≡ marked L (in_layout L s).marks i
  unfolding blank
  marked_same i h =
      by_bool _ (marked s.layout s.marks i)
      (λ e. e ∙ sym (marked_on L (length s.payload) (marked s.layout s.marks) blank i h (rw length_blank (omega arith)) e))
      (λ e. e ∙ sym (marked_off L (marked s.layout s.marks) blank i e ∙ marked_blank L (marks_for L (length s.payload)) i))

  in_layout_good : Good (in_layout L s)
  unfolding blank sound_by count_marked
  in_layout_good =
      let e : marks_for L (length s.payload) ≡ length (in_layout L s).marks = sym (length_mark_all L (marked s.layout s.marks) blank ∙ length_blank) in
      record {
        is_sound = rw (eq-eqb _ _ e) (and_right (eqb (marks_for s.layout (length s.payload)) (length s.marks)) _ ok.is_sound);
        is_right = λ t. ok.is_right t ∙ count_ext s.rec.message.total _ _ (λ i h. marked_same i (omega (arith, JudgeLaws.sound_total s ok.is_sound t)));
      }

  view_same : s.rec.started ≡ true → view_of s ≡ view_of (in_layout L s)
  view_same e =
      fun_ext (λ i. by_lt _ i s.rec.message.total
      (λ l. marked_below_lem s.layout _ s.payload s.marks i l
      ∙ ap (λ (b : Bool). only_if b (get_or s.payload i 0)) (marked_same i (omega (arith, JudgeLaws.sound_total s ok.is_sound e)))
      ∙ sym (marked_below_lem L _ s.payload (in_layout L s).marks i l))
      (λ l. marked_above s.layout _ s.payload s.marks i l ∙ sym (marked_above L _ s.payload (in_layout L s).marks i l)))

  pub in_layout_same : SameButMarks s (in_layout L s)
  in_layout_same = record {
    rec = refl;
    payload = refl;
    sound = ok.is_sound ∙ sym in_layout_good.is_sound;
    covered = λ i. by_bool _ s.rec.started (λ e. rw e (ap (λ (v : View). has v i) (view_same e))) (λ e. rw e);
  }
