-- Each call is refused by its own numbers only. Assumes nothing.
use Prim.Native.Nat.{ℕ}
use mathlib.Core.Path.{◌≡◌, refl, subst}
use mathlib.Core.Logic.{inl, inr}
use mathlib.Core.Bool.{Bool, true, false, cond, ◌&&◌}
use mathlib.Core.List.{List, [], ◌∷◌}
use lib.Dec.{leb}
use Rattle.reassembly.specs.Views.{clash}
use Rattle.reassembly.specs.Record.{same_message, Partial, sound}
use Rattle.reassembly.specs.Reading.{Reading, reading_at}
use Rattle.reassembly.specs.Reading.Reading.{chunk, refusal}
use Rattle.reassembly.specs.Machine.{Call, Reply, reply_of, handed_of, State, state_of, alone, judge, reading_verdict}
use Rattle.reassembly.specs.Machine.State.{idle, held}
use Rattle.reassembly.specs.Machine.Call.{Empty, Take, Combine, Ask, HandOut}
use Rattle.reassembly.specs.Machine.Reply.{done, said, handed, refused}
use Rattle.reassembly.specs.Judge.{judge_reading, judge_combine}
use Rattle.reassembly.specs.Operations.{step_by, take_in, combine, yes_no, says_complete, ask_complete, number_right, judge_hand_out}
use Rattle.reassembly.specs.Calls.{said_of, answers}
use Rattle.reassembly.specs.Verdict.{Completeness}
use Rattle.reassembly.specs.Verdict.{Verdict, Done, Refused}
use Rattle.reassembly_laws.specs.Refusing.{ByNumber, MayRefuse}

-- a verdict, or a reply, that is no refusal, or one of those that pass
data Passes (P : ℕ → ℕ → Type 0) : Verdict → Type 0 where
  fine : Passes P Done
  by : (n p : ℕ) → P n p → Passes P (Refused n p)

abbrev Replies : (ℕ → ℕ → Type 0) → Reply → Type 0
Replies P done = Unit {0}
Replies P (said b) = Unit {0}
Replies P (handed l) = Unit {0}
Replies P (refused n p) = P n p

module _ (P : ℕ → ℕ → Type 0) where
  passes_if : (b : Bool) (v w : Verdict) → Passes P v → Passes P w → Passes P (cond b v w)
  passes_if true v w h k = h
  passes_if false v w h k = k

  passes_step : (v : Verdict) (s t : Partial) → Passes P v → Passes P (step_by v s t).verdict
  passes_step Done s t h = h
  passes_step (Refused n p) s t h = h

  replied : (v : Verdict) → Passes P v → Replies P (reply_of v)
  replied _ Passes.fine = tt
  replied _ (Passes.by n p h) = h

  handed_out : (v : Verdict) (l : List ℕ) → Passes P v → Replies P (handed_of v l)
  handed_out _ l Passes.fine = tt
  handed_out _ l (Passes.by n p h) = h

  -- 11, 13 and 14
  judge_passes : P 11 0 → P 13 0 → P 14 0 → (n : ℕ) (s t : State) → Passes P (judge n s t)
  judge_passes room other byte n s idle = Passes.fine
  judge_passes room other byte n idle (held m v) = passes_if (leb m.total n) _ _ Passes.fine (Passes.by 11 0 room)
  judge_passes room other byte n (held k w) (held m v) =
      passes_if (leb m.total n) _ _
      (passes_if (same_message k m) _ _ (passes_if (clash k.total w v) _ _ (Passes.by 14 0 byte) Passes.fine) (Passes.by 13 0 other))
      (Passes.by 11 0 room)

abbrev four : List ℕ
four = 12 ∷ 11 ∷ 13 ∷ 14 ∷ []

combine_passes : (s f : Partial) → Passes (ByNumber four) (judge_combine s f)
unfolding judge_combine
combine_passes s f =
    passes_if (ByNumber four) (sound s && sound f) _ _ (judge_passes (ByNumber four) (refl, refl) (refl, refl) (refl, refl) _ (state_of s) (state_of f)) (Passes.by 12 0 (refl, refl))

module _ (d sizes : List ℕ) where
  abbrev Taken : ℕ → ℕ → Type 0
  Taken = MayRefuse (Take d sizes)

  reading_passes : (n : ℕ) (s : State) (x : Reading) → reading_at sizes d ≡ x → Passes Taken (reading_verdict n s x)
  reading_passes n s (chunk m at b) e =
      judge_passes Taken (inl (refl, refl)) (inl (refl, refl)) (inl (refl, refl)) n s (alone (chunk m at b))
  reading_passes n s (refusal k p) e = Passes.by k p (inr e)

  take_passes : (s : Partial) → Passes Taken (judge_reading s (reading_at sizes d))
  unfolding judge_reading
  take_passes s = passes_if Taken (sound s) _ _ (reading_passes _ (state_of s) (reading_at sizes d) refl) (Passes.by 12 0 (inl (refl, refl)))

ask_passes : (s : Partial) → Replies (ByNumber (12 ∷ [])) (said_of (ask_complete s))
unfolding ask_complete
ask_passes s = go (sound s) (says_complete s)
  where
    go : (b c : Bool) → Replies (ByNumber (12 ∷ [])) (said_of (cond b (yes_no c) (Completeness.Unsaid 12 0)))
    go true true = tt
    go true false = tt
    go false c = (refl, refl)

hand_passes : (s : Partial) → Passes (ByNumber (12 ∷ 15 ∷ [])) (judge_hand_out s)
unfolding judge_hand_out
hand_passes s = go (sound s) (number_right s) (says_complete s)
  where
    go : (b r c : Bool) → Passes (ByNumber (12 ∷ 15 ∷ [])) (cond b (cond r (cond c Done (Refused 15 0)) (Refused 12 0)) (Refused 12 0))
    go true true true = Passes.fine
    go true true false = Passes.by 15 0 (refl, refl)
    go true false c = Passes.by 12 0 (refl, refl)
    go false r c = Passes.by 12 0 (refl, refl)

passing : (k : Call) (s : Partial) → Replies (MayRefuse k) (answers k s)
unfolding take_in combine
passing Empty s = tt
passing (Take d sizes) s = replied (MayRefuse (Take d sizes)) _ (passes_step (MayRefuse (Take d sizes)) (judge_reading s (reading_at sizes d)) s _ (take_passes d sizes s))
passing (Combine f) s = replied (ByNumber four) _ (passes_step (ByNumber four) (judge_combine s f) s _ (combine_passes s f))
passing Ask s = ask_passes s
passing HandOut s = handed_out (ByNumber (12 ∷ 15 ∷ [])) (judge_hand_out s) _ (hand_passes s)

-- ---- THE NUMBERS AND PLACES of each call's refusals
pub may_refuse : (k : Call) (s : Partial) (n p : ℕ) → answers k s ≡ refused n p → MayRefuse k n p
may_refuse k s n p e = subst (Replies (MayRefuse k)) e (passing k s)
