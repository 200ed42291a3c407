-- The number of covered bytes: right numbers stay right, and of equal states they are equal. Assumes nothing.
use Prim.Native.Nat.{ℕ}
use mathlib.Core.Path.{◌≡◌, refl, sym, ap, subst, ◌∙◌}
use mathlib.Core.Bool.{Bool, true, false, false≢true}
use mathlib.Core.List.{List}
use Rattle.marks.specs.Offsets.{count_below}
use Rattle.marks.specs.Marks.{Layout, marked, marked_below, count_marked}
use Rattle.marks.proofs.MarkLaws.{marked_is}
use Rattle.marks.proofs.CountLaws.{count_ext}
use Rattle.reassembly.specs.Views.{has}
use Rattle.reassembly.specs.Areas.{marked_view}
use Rattle.reassembly.specs.Record.{Partial, sound, Right, Good}
use Rattle.reassembly.specs.Reading.{reading_at}
use Rattle.reassembly.specs.Machine.{State, state_of, Call}
use Rattle.reassembly.specs.Machine.State.{idle, held}
use Rattle.reassembly.specs.Machine.Call.{Empty, Take, Combine, Ask, HandOut}
use Rattle.reassembly.specs.Judge.{Equal}
use Rattle.reassembly.specs.Operations.{Step, emptied}
use Rattle.reassembly.specs.Calls.{leaves}
use Rattle.wire.proofs.Cases.{by_bool}
use Rattle.reassembly.proofs.AreaLaws.{has_marked}
use Rattle.reassembly.proofs.JudgeLaws
use Rattle.reassembly.proofs.Following

-- how many bytes a machine's state covers
abbrev count_in : State → ℕ
count_in idle = 0
count_in (held m v) = count_below m.total (has v)

count_view : (L : Layout) (t : ℕ) (p m : List ℕ) → count_marked L t m ≡ count_below t (has (marked_view L t p m))
unfolding count_marked
count_view L t p m =
    count_ext t (marked L m) (marked_below L t m) (λ i h. sym (marked_is L t m i h)) ∙ ap (count_below t) (sym (has_marked L t p m))

-- a right number is that of the bytes that the state covers
number_state : (s : Partial) → Good s → s.rec.started ≡ true → s.rec.covered ≡ count_in (state_of s)
number_state s ok e = ok.is_right e ∙ count_view s.layout s.rec.message.total s.payload s.marks ∙ sym (rw e)

same_on : (a b : Partial) → state_of a ≡ state_of b → a.rec.started ≡ true → b.rec.started ≡ true
same_on a b q e = by_bool _ b.rec.started (λ f. f) (λ f. absurd (false≢true (sym (rw (e, f) at (ap is_held q)))))
  where
    is_held : State → Bool
    is_held idle = false
    is_held (held m v) = true

-- of right numbers equal states are equal partials
pub equal_right : (a b : Partial) → Good a → Good b → state_of a ≡ state_of b → Equal a b
equal_right a b ga gb q = record {
  states = q;
  numbers = λ e. number_state a ga e ∙ ap count_in q ∙ sym (number_state b gb (same_on a b q e));
}

pub equal_self : (a : Partial) → Equal a a
equal_self a = record { states = refl; numbers = λ e. refl }

empty_right : (s : Partial) → Right (leaves Empty s)
unfolding emptied
empty_right s t = absurd (false≢true t)

-- ---- A RIGHT NUMBER STAYS RIGHT, whatever the call and its source, also of a partial that is not sound
pub right_stays : (k : Call) (s : Partial) → Right s → Right (leaves k s)
right_stays k s r =
    by_bool _ (sound s) (λ e. (Following.follow s (record { is_sound = e; is_right = r }) k).good.is_right) (λ e. unsound k e)
  where
    unsound : (k : Call) → sound s ≡ false → Right (leaves k s)
    unsound Empty e = empty_right s
    unsound (Take d sizes) e = subst (λ (x : Step). Right x.after) (sym (JudgeLaws.take_unsound s (reading_at sizes d) e)) r
    unsound (Combine f) e = subst (λ (x : Step). Right x.after) (sym (JudgeLaws.combine_refused s f 12 0 (JudgeLaws.combine_unsound s f e))) r
    unsound Ask e = r
    unsound HandOut e = r
