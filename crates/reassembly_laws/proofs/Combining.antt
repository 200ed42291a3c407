-- Good partials whose totals are not above the areas, combined: by their states alone. Assumes nothing.
use Prim.Native.Nat.{ℕ, ◌≤◌}
use mathlib.Core.Path.{◌≡◌, refl, sym, ap, ◌∙◌}
use mathlib.Core.Bool.{Bool, true, false, ◌||◌, true≢false}
use lib.ListN.{length}
use borrow.Author.Tests.{le-leb}
use Rattle.reassembly.specs.Record.{Partial, Good}
use Rattle.reassembly.specs.Machine.{State, between, judge, accept, state_of, if_accepted}
use Rattle.reassembly.specs.Machine.State.{idle, held}
use Rattle.reassembly.specs.Judge.{judge_combine}
use Rattle.reassembly.specs.Operations.{combine}
use Rattle.reassembly_laws.specs.Combining.{is_refused, on_done, disagree, some_disagree, left_verdict, left_result, right_verdict, right_result}
use Rattle.reassembly.specs.Verdict.{Verdict, Done, Refused}
use Rattle.wire.proofs.Cases.{by_bool}
use Rattle.reassembly.proofs.JudgeLaws.{refused_done, sound_total, combine_judged}
use Rattle.reassembly_laws.proofs.StateLaws
use Rattle.reassembly.proofs.Following.{source_verdict, combine_stepped}
use Rattle.reassembly.proofs.Bringing.{bounded}

-- what a machine holds is not longer than n bytes
abbrev pub FitsIn : ℕ → State → Type 0
FitsIn n idle = Unit {0}
FitsIn n (held m v) = m.total ≤ n

-- b's total is not above a's area: combining b into a is not refused by 11
abbrev pub Room : Partial → Partial → Type 0
Room a b = FitsIn (length a.payload) (state_of b)

-- what the law of order asks of two: both are sound, and neither's total is above the other's area. Of areas of unequal length one may be
-- too short for what the other holds; then 11 arises one way only.
pub record Pair (a b : Partial) : Type 0 where
  pub first : Good a
  pub second : Good b
  pub room : Room a b
  pub back : Room b a

-- what the law of grouping asks of three: all are sound, and no combining in either grouping is refused by 11
pub record Three (a b c : Partial) : Type 0 where
  pub first : Good a
  pub second : Good b
  pub third : Good c
  pub ab : Room a b
  pub bc : Room b c
  pub ac : Room a c

module _ (a b : Partial) (ga : Good a) where
  pub combined_verdict : (combine a b).verdict ≡ judge_combine a b
  combined_verdict = (combine_stepped a ga b).verdict ∙ sym (source_verdict a ga b)

  pub combined_good : Good (combine a b).after
  combined_good = (combine_stepped a ga b).good

  pub combined_room : length (combine a b).after.payload ≡ length a.payload
  combined_room = (combine_stepped a ga b).room

  pub done_state : (combine a b).verdict ≡ Done → state_of (combine a b).after ≡ accept (state_of a) (state_of b)
  done_state e =
      (combine_stepped a ga b).state
      ∙ ap (λ (v : Verdict). if_accepted v (state_of a) (accept (state_of a) (state_of b))) (sym (combine_stepped a ga b).verdict ∙ e)

-- what fits is refused by 13 and 14 only
fits_judged : (n : ℕ) (s t : State) → FitsIn n t → judge n s t ≡ between s t
fits_judged n s idle h = refl
fits_judged n s (held m v) h = rw (le-leb m.total n h)

fits_accepted : (n : ℕ) (s t : State) → FitsIn n s → FitsIn n t → FitsIn n (accept s t)
fits_accepted n idle idle h k = tt
fits_accepted n idle (held m v) h k = k
fits_accepted n (held l w) idle h k = h
fits_accepted n (held l w) (held m v) h k = h

-- what a sound partial holds fits its own area, and so any area that is equally long
pub own_room : (a : Partial) → Good a → Room a a
own_room a ga =
    by_bool _ a.rec.started (λ e. rw e (sound_total a ga.is_sound e)) (λ e. rw e tt)

pub equal_room : (a b : Partial) → Good b → length a.payload ≡ length b.payload → Room a b
equal_room a b gb e = rw e (own_room b gb)

module _ (a b : Partial) (ga : Good a) (gb : Good b) (room : Room a b) where
  pub judged_between : judge_combine a b ≡ between (state_of a) (state_of b)
  judged_between =
      combine_judged a b ga.is_sound gb.is_sound ∙ fits_judged (length a.payload) (state_of a) (state_of b) room

  pub verdict_between : (combine a b).verdict ≡ between (state_of a) (state_of b)
  verdict_between = combined_verdict a b ga ∙ judged_between

  pub done_agree : (combine a b).verdict ≡ Done → StateLaws.Agree (state_of a) (state_of b)
  done_agree e = StateLaws.done_agree (state_of a) (state_of b) (bounded a) (sym verdict_between ∙ e)

  pub agree_done : StateLaws.Agree (state_of a) (state_of b) → (combine a b).verdict ≡ Done
  agree_done g = verdict_between ∙ StateLaws.agree_done (state_of a) (state_of b) g

  -- not to disagree is to be accepted
  agree_accepts : disagree a b ≡ false → (combine a b).verdict ≡ Done
  agree_accepts e = verdict_between ∙ not_refused (between (state_of a) (state_of b)) e
    where
      not_refused : (v : Verdict) → is_refused v ≡ false → v ≡ Done
      not_refused Done q = refl
      not_refused (Refused n p) q = absurd (true≢false q)

  accepts_agree : (combine a b).verdict ≡ Done → disagree a b ≡ false
  accepts_agree e = ap is_refused (sym verdict_between ∙ e)

-- ---- three, in either grouping
done_first : (x y : Verdict) → on_done x y ≡ Done → x ≡ Done
done_first Done y e = refl
done_first (Refused n p) y e = e

done_second : (x y : Verdict) → on_done x y ≡ Done → y ≡ Done
done_second Done y e = e
done_second (Refused n p) y e = absurd (refused_done n p e)

done_both : (x y : Verdict) → x ≡ Done → y ≡ Done → on_done x y ≡ Done
done_both x y e f = rw e f

or_none_lem : (x y z : Bool) → (x || (y || z)) ≡ false → (x ≡ false) × (y ≡ false) × (z ≡ false)
or_none_lem true y z e = absurd (true≢false e)
or_none_lem false true z e = absurd (true≢false e)
or_none_lem false false z e = (refl, refl, e)

-- a verdict is refused exactly where the test holds
pub refused_exactly : (v : Verdict) (b : Bool) → (v ≡ Done → b ≡ false) → (b ≡ false → v ≡ Done) → is_refused v ≡ b
refused_exactly Done b f g = sym (f refl)
refused_exactly (Refused n p) true f g = refl
refused_exactly (Refused n p) false f g = absurd (refused_done n p (g refl))

-- no two of the three disagree
pub record Pairwise (a b c : Partial) : Type 0 where
  pub ab : (combine a b).verdict ≡ Done
  pub bc : (combine b c).verdict ≡ Done
  pub ac : (combine a c).verdict ≡ Done

module _ (a b c : Partial) (w : Three a b c) where
  ga : Good a
  ga = w.first

  gb : Good b
  gb = w.second

  gc : Good c
  gc = w.third

  pub pairwise : some_disagree a b c ≡ false → Pairwise a b c
  pairwise e =
      let h = or_none_lem (disagree a b) (disagree b c) (disagree a c) e in
      record { ab = agree_accepts a b ga gb w.ab h.0; bc = agree_accepts b c gb gc w.bc h.1; ac = agree_accepts a c ga gc w.ac h.2 }

  pub pairwise_agree : Pairwise a b c → some_disagree a b c ≡ false
  pairwise_agree p = rw (accepts_agree a b ga gb w.ab p.ab, accepts_agree b c gb gc w.bc p.bc) (accepts_agree a c ga gc w.ac p.ac)

  left_room : Room (combine a b).after c
  left_room = rw (combined_room a b ga) w.ac

  right_room : (combine b c).verdict ≡ Done → Room a (combine b c).after
  right_room e = rw (done_state b c gb e) (fits_accepted (length a.payload) (state_of b) (state_of c) w.ab w.ac)

  pub left_pairs : left_verdict a b c ≡ Done → Pairwise a b c
  left_pairs e =
      let e₁ : (combine a b).verdict ≡ Done = done_first (combine a b).verdict (combine (combine a b).after c).verdict e in
      let e₂ : (combine (combine a b).after c).verdict ≡ Done = done_second (combine a b).verdict (combine (combine a b).after c).verdict e in
      let g : StateLaws.Agree (accept (state_of a) (state_of b)) (state_of c) = rw (done_state a b ga e₁) at (done_agree (combine a b).after c (combined_good a b ga) gc left_room e₂) in
      record {
        ab = e₁;
        bc = agree_done b c gb gc w.bc (StateLaws.agree_right (state_of a) (state_of b) (state_of c) (done_agree a b ga gb w.ab e₁) g);
        ac = agree_done a c ga gc w.ac (StateLaws.agree_left (state_of a) (state_of b) (state_of c) g);
      }

  left_second : Pairwise a b c → (combine (combine a b).after c).verdict ≡ Done
  left_second p =
      agree_done (combine a b).after c (combined_good a b ga) gc left_room
      (rw (done_state a b ga p.ab)
      (StateLaws.agree_both (state_of a) (state_of b) (state_of c) (done_agree a c ga gc w.ac p.ac) (done_agree b c gb gc w.bc p.bc)))

  pub pairs_left : Pairwise a b c → left_verdict a b c ≡ Done
  pairs_left p = done_both _ _ p.ab (left_second p)

  pub right_pairs : right_verdict a b c ≡ Done → Pairwise a b c
  right_pairs e =
      let e₁ : (combine b c).verdict ≡ Done = done_first (combine b c).verdict (combine a (combine b c).after).verdict e in
      let e₂ : (combine a (combine b c).after).verdict ≡ Done = done_second (combine b c).verdict (combine a (combine b c).after).verdict e in
      let h : StateLaws.Agree (state_of a) (accept (state_of b) (state_of c)) = rw (done_state b c gb e₁) at (done_agree a (combine b c).after ga (combined_good b c gb) (right_room e₁) e₂) in
      let g = StateLaws.agree_comm (state_of a) (accept (state_of b) (state_of c)) h in
      record {
        ab = agree_done a b ga gb w.ab (StateLaws.agree_comm (state_of b) (state_of a) (StateLaws.agree_left (state_of b) (state_of c) (state_of a) g));
        bc = e₁;
        ac = agree_done a c ga gc w.ac (StateLaws.agree_comm (state_of c) (state_of a) (StateLaws.agree_right (state_of b) (state_of c) (state_of a) (done_agree b c gb gc w.bc e₁) g));
      }

  right_second : Pairwise a b c → (combine a (combine b c).after).verdict ≡ Done
  right_second p =
      let g = StateLaws.agree_both (state_of b) (state_of c) (state_of a)
      (StateLaws.agree_comm (state_of a) (state_of b) (done_agree a b ga gb w.ab p.ab)) (StateLaws.agree_comm (state_of a) (state_of c) (done_agree a c ga gc w.ac p.ac)) in
      agree_done a (combine b c).after ga (combined_good b c gb) (right_room p.bc)
      (rw (done_state b c gb p.bc) (StateLaws.agree_comm (accept (state_of b) (state_of c)) (state_of a) g))

  pub pairs_right : Pairwise a b c → right_verdict a b c ≡ Done
  pairs_right p = done_both _ _ p.bc (right_second p)

  pub pairs_equal : Pairwise a b c → state_of (left_result a b c) ≡ state_of (right_result a b c)
  pairs_equal p =
      done_state (combine a b).after c (combined_good a b ga) (left_second p)
      ∙ ap (λ (t : State). accept t (state_of c)) (done_state a b ga p.ab)
      ∙ StateLaws.accept_assoc (state_of a) (state_of b) (state_of c)
      ∙ sym (done_state a (combine b c).after ga (right_second p) ∙ ap (accept (state_of a)) (done_state b c gb p.bc))
