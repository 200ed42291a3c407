-- Covered bytes stay, whatever is accepted without emptying, also where the number of covered bytes is not right.
-- Assumes nothing.
use Prim.Native.Nat.{ℕ}
use mathlib.Core.Path.{◌≡◌, refl, ap, ◌∙◌}
use mathlib.Core.Bool.{Bool, true, false, cond, not, ◌&&◌, ◌||◌, false≢true}
use mathlib.Core.Option.{some, or_else}
use mathlib.Core.List.{List, [], ◌∷◌}
use borrow.Author.Tests.{le-leb}
use lib.Dec.{leb, eqb}
use lib.ListN.{length}
use Rattle.wire.proofs.Cases.{by_bool}
use Rattle.marks.specs.Marks.{marks_for}
use Rattle.marks.proofs.CountLaws.{marked_most}
use Rattle.publisher_id.specs.PublisherRecord.{publisher_fits}
use Rattle.reassembly.specs.Record.{Identity, Partial, sound, sound_by, marked_count, Good}
use Rattle.reassembly.specs.Views.{View}
use Rattle.reassembly.specs.Reading.{Reading, reading_at}
use Rattle.reassembly.specs.Reading.Reading.{chunk, refusal}
use Rattle.reassembly.specs.Machine.{Call, State, state_of, view_of, verdict_of, brings, accept, if_accepted, keeps, judge, reading_verdict}
use Rattle.reassembly.specs.Machine.State.{idle, held}
use Rattle.reassembly.specs.Machine.Call.{Empty, Take, Combine, Ask, HandOut}
use Rattle.reassembly.specs.Calls.{leaves, final}
use Rattle.reassembly.specs.Judge.{judge_reading, judge_combine}
use Rattle.reassembly.specs.Operations.{step_by, put, put_reading, take_in, combine}
use Rattle.reassembly.specs.Verdict.{Verdict}
use Rattle.reassembly.proofs.Following
use Rattle.acceptance.specs.Salvage.{NoEmptying}

-- t keeps what the machine holds for message m, and every byte of the view v
abbrev pub Keeps : Identity → View → State → Type 0
Keeps m v t = (w : View) × (t ≡ held m w) × ((i x : ℕ) → v i ≡ some x → w i ≡ some x)

accepted : (m : Identity) (v : View) (d : Verdict) (b : State) → Keeps m v (if_accepted d (held m v) (accept (held m v) b))
unfolding or_else
accepted m v Verdict.Done idle = (v, refl, λ i x e. e)
accepted m v Verdict.Done (held k w) = (_, refl, λ i x e. rw e refl)
accepted m v (Verdict.Refused n p) b = (v, refl, λ i x e. e)

one_call : (n : ℕ) (k : Call) (m : Identity) (v : View) → NoEmptying (k ∷ []) → Keeps m v (keeps n k (held m v))
one_call n Empty m v h = absurd h
one_call n (Take d sizes) m v h = accepted m v (verdict_of n (Take d sizes) (held m v)) (brings (Take d sizes))
one_call n (Combine f) m v h = accepted m v (verdict_of n (Combine f) (held m v)) (brings (Combine f))
one_call n Ask m v h = (v, refl, λ i x e. e)
one_call n HandOut m v h = (v, refl, λ i x e. e)

-- ---- the same partial with the right number
abbrev numbered : Partial → Partial
numbered s = record {
  rec = record { started = s.rec.started; message = s.rec.message; covered = marked_count s };
  layout = s.layout;
  payload = s.payload;
  marks = s.marks;
}

whatever_number : (a st c d e p : Bool) → (a && (not st || (c && (d && (e && p))))) ≡ true → (a && (not st || (c && (d && (true && p))))) ≡ true
whatever_number true false c d e p q = refl
whatever_number true true true true true p q = q
whatever_number true true true true false p q = absurd (false≢true q)
whatever_number true true true false e p q = absurd (false≢true q)
whatever_number true true false d e p q = absurd (false≢true q)
whatever_number false st c d e p q = absurd (false≢true q)

numbered_good : (s : Partial) → sound s ≡ true → Good (numbered s)
unfolding sound_by
numbered_good s ok = record {
  is_sound =
      rw (le-leb (marked_count s) s.rec.message.total (marked_most s.layout s.rec.message.total s.marks))
      (whatever_number (eqb (marks_for s.layout (length s.payload)) (length s.marks)) s.rec.started (leb 1 s.rec.message.total) (leb s.rec.message.total (length s.payload))
      (leb s.rec.covered s.rec.message.total) (publisher_fits s.rec.message.origin.publisher) ok);
  is_right = λ on. refl;
}

-- what a call leaves of both: the same state, and a payload area that is as long
pub record Alike (s t : Partial) : Type 0 where
  pub states : state_of s ≡ state_of t
  pub long : length s.payload ≡ length t.payload

module _ (s : Partial) (ok : sound s ≡ true) (on : s.rec.started ≡ true) where
  step_alike : (d : Verdict) (r : Reading) → Alike (step_by d s (put_reading r s)).after (step_by d (numbered s) (put_reading r (numbered s))).after
  unfolding put
  step_alike Verdict.Done (chunk m at d) = record { states = rw on; long = refl }
  step_alike Verdict.Done (refusal n p) = record { states = refl; long = refl }
  step_alike (Verdict.Refused n p) r = record { states = refl; long = refl }

  join_alike : (d : Verdict) (f : Partial) (b : Bool) → Alike (step_by d s (cond b (put f.rec.message (view_of f) s) s)).after
      (step_by d (numbered s) (cond b (put f.rec.message (view_of f) (numbered s)) (numbered s))).after
  unfolding put
  join_alike Verdict.Done f true = record { states = rw on; long = refl }
  join_alike Verdict.Done f false = record { states = refl; long = refl }
  join_alike (Verdict.Refused n p) f b = record { states = refl; long = refl }

  take_alike : (r : Reading) → Alike (take_in s r).after (take_in (numbered s) r).after
  unfolding take_in judge_reading
  take_alike r = rw (ok, (numbered_good s ok).is_sound) (step_alike (reading_verdict (length s.payload) (state_of s) r) r)

  combine_alike : (f : Partial) → Alike (combine s f).after (combine (numbered s) f).after
  unfolding combine judge_combine
  combine_alike f = rw (ok, (numbered_good s ok).is_sound) (join_alike (cond (sound f) (judge (length s.payload) (state_of s) (state_of f)) (Verdict.Refused 12 0)) f f.rec.started)

  leaves_alike : (k : Call) → NoEmptying (k ∷ []) → Alike (leaves k s) (leaves k (numbered s))
  leaves_alike Empty h = absurd h
  leaves_alike (Take d sizes) h = take_alike (reading_at sizes d)
  leaves_alike (Combine f) h = combine_alike f
  leaves_alike Ask h = record { states = refl; long = refl }
  leaves_alike HandOut h = record { states = refl; long = refl }

-- one that is not sound stays as it is
take_stays : (s : Partial) (r : Reading) → sound s ≡ false → (take_in s r).after ≡ s
unfolding take_in judge_reading
take_stays s r e = rw e

combine_stays : (s f : Partial) → sound s ≡ false → (combine s f).after ≡ s
unfolding combine judge_combine
combine_stays s f e = rw e

unsound_stays : (k : Call) (s : Partial) → sound s ≡ false → NoEmptying (k ∷ []) → leaves k s ≡ s
unsound_stays Empty s e h = absurd h
unsound_stays (Take d sizes) s e h = take_stays s (reading_at sizes d) e
unsound_stays (Combine f) s e h = combine_stays s f e
unsound_stays Ask s e h = refl
unsound_stays HandOut s e h = refl

held_started : (s : Partial) (m : Identity) (v : View) → state_of s ≡ held m v → s.rec.started ≡ true
held_started s m v e = by_bool _ s.rec.started (λ b. b) (λ b. absurd (false≢true (ap is_held (rw b at e))))
  where
    is_held : State → Bool
    is_held idle = false
    is_held (held k w) = true

call_keeps : (k : Call) (s : Partial) (m : Identity) (v : View) → NoEmptying (k ∷ []) → state_of s ≡ held m v
    → Keeps m v (state_of (leaves k s)) × (length (leaves k s).payload ≡ length s.payload)
call_keeps k s m v h e =
    by_bool _ (sound s)
    (λ ok. let on = held_started s m v e in
    let a = leaves_alike s ok on k h in
    let g = Following.follow (numbered s) (numbered_good s ok) k in
    let (w, b, stays) = one_call (length s.payload) k m v h in
    ((w, a.states ∙ g.state ∙ ap (keeps (length s.payload) k) e ∙ b, stays), a.long ∙ g.room))
    (λ no. rw (unsound_stays k s no h) ((v, e, λ i x q. q), refl))

first_of : (k : Call) (ks : List Call) → NoEmptying (k ∷ ks) → NoEmptying (k ∷ []) × NoEmptying ks
first_of Empty ks h = absurd h
first_of (Take d sizes) ks h = (tt, h)
first_of (Combine f) ks h = (tt, h)
first_of Ask ks h = (tt, h)
first_of HandOut ks h = (tt, h)

pub all_calls : (ks : List Call) (s : Partial) (m : Identity) (v : View) → NoEmptying ks → state_of s ≡ held m v
    → Keeps m v (state_of (final ks s)) × (length (final ks s).payload ≡ length s.payload)
all_calls [] s m v h e = ((v, e, λ i x q. q), refl)
all_calls (k ∷ ks) s m v h e =
    let (one, rest) = first_of k ks h in
    let ((w, a, b), g) = call_keeps k s m v one e in
    let (z, r) = all_calls ks (leaves k s) m w rest a in
    let (y, c, d) = z in
    ((y, c, λ i x q. d i x (b i x q)), r ∙ g)
