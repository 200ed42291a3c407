-- A partial that is a chunk alone: what combining with it answers and leaves, and that there is one. Assumes nothing.
use Prim.Native.Nat.{ℕ, ◌≤◌}
use mathlib.Core.Path.{◌≡◌, refl, sym, ap, ◌∙◌}
use mathlib.Core.Bool.{Bool, true, false, false≢true}
use mathlib.Core.List.{List}
use native.Mathlib.Omega.{arith}
use lib.ListN.{length, replicate, length-replicate}
use borrow.Author.Tests.{le-leb, eq-eqb}
use Rattle.reassembly.specs.Views.{View, data_view}
use Rattle.marks.specs.Marks.{Layout, marks_for}
use Rattle.reassembly.specs.Record.{Partial, sound_by, Good}
use Rattle.reassembly.specs.Reading.{GoodChunk}
use Rattle.reassembly.specs.Reading.Reading.{chunk}
use Rattle.reassembly.specs.Machine.{State, view_in, judge, accept, view_of, state_of, alone, if_accepted}
use Rattle.reassembly.specs.Machine.State.{idle, held}
use Rattle.reassembly.specs.Judge.{judge_reading, judge_combine}
use Rattle.reassembly.specs.Operations.{put, take_in, combine}
use Rattle.reassembly.specs.declared.record.Message.{Message}
use Rattle.reassembly.specs.Verdict.{Verdict, Done}
use Rattle.wire.proofs.Cases.{by_bool}
use Rattle.reassembly.proofs.ViewLaws.{data_above, length_laid}
use Rattle.reassembly.proofs.JudgeLaws
use Rattle.reassembly_laws.specs.Alone.{chunk_alone}
use Rattle.reassembly.proofs.Following
use Rattle.reassembly_laws.proofs.Combining

-- the areas do not depend on the message
pub put_payload : (s : Partial) (m k : Message) (v : View) → (put m v s).payload ≡ (put k v s).payload
unfolding put
put_payload s m k v = refl

pub put_marks : (s : Partial) (m k : Message) (v : View) → (put m v s).marks ≡ (put k v s).marks
unfolding put
put_marks s m k v = refl

pub taken_state : (s : Partial) → Good s → (m : Message) (at : ℕ) (d : List ℕ) → GoodChunk m at (length d) → judge_reading s (chunk m at d) ≡ Done
    → state_of (take_in s (chunk m at d)).after ≡ accept (state_of s) (alone (chunk m at d))
taken_state s ok m at d o e =
    (Following.take_stepped s ok (chunk m at d) o).state
    ∙ ap (λ (v : Verdict). if_accepted v (state_of s) (accept (state_of s) (alone (chunk m at d)))) (sym (JudgeLaws.reading_judged s (chunk m at d) ok.is_sound) ∙ e)

module _ (s f : Partial) (ok : Good s) (okf : Good f) (m : Message) (at : ℕ) (d : List ℕ) (q : state_of f ≡ alone (chunk m at d)) where
  pub judged : judge_reading s (chunk m at d) ≡ judge_combine s f
  judged =
      JudgeLaws.reading_judged s (chunk m at d) ok.is_sound ∙ ap (judge (length s.payload) (state_of s)) (sym q)
      ∙ sym (JudgeLaws.combine_judged s f ok.is_sound okf.is_sound)

  on : f.rec.started ≡ true
  on = by_bool _ f.rec.started (λ e. e) (λ e. absurd (false≢true (rw e at (ap is_held q))))
    where
      is_held : State → Bool
      is_held idle = false
      is_held (held k w) = true

  view : view_of f ≡ data_view at d
  view = rw on at (ap view_in q)

  pub combined : judge_reading s (chunk m at d) ≡ Done → combine s f ≡ record { verdict = Done; after = put f.rec.message (data_view at d) s }
  combined e = JudgeLaws.combine_done s f (sym judged ∙ e) on ∙ ap (λ (v : View). record { verdict = Done; after = put f.rec.message v s }) view

  pub combined_state : judge_reading s (chunk m at d) ≡ Done → state_of (combine s f).after ≡ accept (state_of s) (alone (chunk m at d))
  combined_state e =
      Combining.done_state s f ok (Combining.combined_verdict s f ok ∙ sym judged ∙ e) ∙ ap (accept (state_of s)) q

-- ---- there is one, in areas of n bytes
module _ (L : Layout) (n : ℕ) (m : Message) (at : ℕ) (d : List ℕ) (o : GoodChunk m at (length d)) (room : m.total ≤ n) where
  base : Partial
  base = record { rec = record { started = false; message = m; covered = 0 }; layout = L; payload = replicate n 0; marks = replicate (marks_for L n) 0 }

  base_good : Good base
  unfolding base sound_by
  base_good = record {
    is_sound =
        rw (eq-eqb (marks_for L (length {A = ℕ} (replicate n 0))) (length {A = ℕ} (replicate (marks_for L n) 0))
        (ap (marks_for L) (length-replicate {A = ℕ} n 0) ∙ sym (length-replicate {A = ℕ} (marks_for L n) 0)));
    is_right = λ t. absurd (false≢true t);
  }

  base_fit : Following.GoodMessage m (length base.payload)
  unfolding base
  base_fit = record { some = o.some; room = rw (length-replicate {A = ℕ} n 0) room; publisher = o.publisher }

  pub chunk_alone_good : Good (chunk_alone L n m at d)
  unfolding base
  chunk_alone_good =
      Following.put_good m (data_view at d) base base_good base_fit (λ i h. data_above at d i (omega (arith, o.fits)))
      (rw (le-leb m.total (length {A = ℕ} (replicate n 0)) base_fit.room))

  pub chunk_alone_is : state_of (chunk_alone L n m at d) ≡ alone (chunk m at d)
  unfolding base
  chunk_alone_is =
      Following.put_state m (data_view at d) base base_good base_fit (λ i h. data_above at d i (omega (arith, o.fits)))
      (rw (le-leb m.total (length {A = ℕ} (replicate n 0)) base_fit.room))

  pub chunk_alone_room : length (chunk_alone L n m at d).payload ≡ n
  unfolding put
  chunk_alone_room = length_laid (data_view at d) (replicate n 0) ∙ length-replicate {A = ℕ} n 0
