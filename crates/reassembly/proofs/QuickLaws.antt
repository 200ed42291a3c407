-- The ways out of src/quick.rt: each is what taking in says. Assumes nothing.
use Prim.Native.Nat.{ℕ, ◌+◌, ◌≤◌, ◌<◌}
use mathlib.Core.Path.{◌≡◌, refl, sym, ap, ◌∙◌}
use mathlib.Core.Bool.{Bool, true, false, cond, not}
use mathlib.Core.List.{List}
use native.Mathlib.Omega.{arith}
use lib.ListN.{length}
use borrow.Author.Tests.{le-leb, lt-leb}
use Rattle.marks.specs.Offsets.{in_range, any_from}
use Rattle.marks.specs.Marks.{in_use, marks_for, marked, mark_all, new_marks}
use Rattle.marks.proofs.MarkLaws.{marks_cover, range_above}
use Rattle.marks.proofs.CountLaws.{new_none, new_most}
use Rattle.publisher_id.specs.PublisherRecord.{publisher_fits}
use Rattle.reassembly.specs.Areas.{marked_view}
use Rattle.reassembly.specs.Views.{data_view, overlaid, clash}
use Rattle.reassembly.specs.Record.{identity_of, same_message, Partial, partial, sound_by, sound}
use Rattle.reassembly.specs.Reading.{GoodChunk}
use Rattle.reassembly.specs.Reading.Reading.{chunk}
use Rattle.reassembly.specs.Judge.{admission_of}
use Rattle.reassembly.specs.Operations.{step_of, take_in}
use Rattle.reassembly.specs.Quick.{record_with, held_record, more_of}
use Rattle.reassembly.specs.declared.judge.Admission.TheVariants as A
use Rattle.reassembly.specs.declared.quick.Held.{Held}
use Rattle.reassembly.specs.declared.record.Message.{Message}
use Rattle.reassembly.specs.declared.record.PartialRecord.{PartialRecord}
use Rattle.reassembly.specs.Verdict.{Done, at_zero}
use Rattle.std.specs.Prelude.{Option, Some, None, Result, Ok, Err}
use Rattle.wire.specs.Refusal.{reason_number}
use Rattle.wire.specs.declared.refusal.Reason.{Reason}
use Rattle.wire.specs.declared.refusal.Refusal.{Refusal}
use Rattle.wire.proofs.Cases.{by_bool}
use Rattle.reassembly.proofs.AreaLaws.{clash_from, run_free}
use Rattle.reassembly.proofs.JudgeLaws.{reading_admits, reading_same, take_refused, taken}

-- soundness looks at no text
pub sound_held : (h : Held) (t z : List ℕ) (x : PartialRecord) (b c : Bool) (n k : ℕ) → x ≡ record_with h (record { id = h.publisher; text = z }) → b ≡ sound_by in_use x n k → b ≡ c
    → sound_by in_use (held_record h t) n k ≡ c
unfolding sound_by publisher_fits
sound_held h t z x b c n k e q r = sym (q ∙ rw e) ∙ r

-- ---- marking a chunk's offsets
module _ (p m : List ℕ) (at : ℕ) (d : List ℕ) where
  abbrev end : ℕ
  end = at + length d

  abbrev clashes : List ℕ → Bool
  clashes z = clash end (marked_view in_use end p z) (data_view at d)

  abbrev AddedAs : Option ℕ → List ℕ → Type 0
  AddedAs r z = (r ≡ cond (clashes m) None (Some (new_marks in_use (in_range at end) m))) × (z ≡ cond (clashes m) m (mark_all in_use (in_range at end) m))

  -- what marking where none is marked tells
  module _ (b : Bool) (z : List ℕ) (eb : b ≡ not (any_from at end (marked in_use m)))
      (ez : z ≡ cond (not (any_from at end (marked in_use m))) (mark_all in_use (in_range at end) m) m) where
    none_marked : b ≡ true → any_from at end (marked in_use m) ≡ false
    none_marked t = by_bool _ (any_from at end (marked in_use m)) (λ e. absurd (true_is_false (sym t ∙ eb ∙ rw e))) (λ e. e)
      where
        true_is_false : true ≡ false → ⊥
        true_is_false e = let z : ◌≡◌ {A = ℕ} 0 1 = cc in omega arith

    pub added_all : marks_for in_use end ≤ length m → b ≡ true → AddedAs (Some (length d)) z
    added_all room t =
        let none = none_marked t in
        let free = clash_from in_use p m at d ∙ run_free in_use end p m at d at end (omega arith) (omega arith) (omega arith) none in
        let new = new_none in_use m at end (omega arith) (marks_cover in_use end end m (omega arith) room) none in
        rw free (ap Some (omega arith), ez ∙ rw none)

    pub not_added : b ≡ false → z ≡ m
    not_added t = ez ∙ rw (sym eb ∙ t)

  pub added_clash : (z : List ℕ) → z ≡ m → (b : Bool) → b ≡ clashes z → b ≡ true → AddedAs None z
  added_clash z e b q t = rw (ap clashes (sym e) ∙ sym q ∙ t) (refl, e)

  pub added_some : (z w : List ℕ) (n : ℕ) → z ≡ m → (b : Bool) → b ≡ clashes z → b ≡ false → w ≡ mark_all in_use (in_range at end) z → n ≡ new_marks in_use (in_range at end) z
      → AddedAs (Some n) w
  added_some z w n e b q t ew en =
      rw (ap clashes (sym e) ∙ sym q ∙ t) (ap Some (en ∙ ap (new_marks in_use (in_range at end)) e), ew ∙ ap (mark_all in_use (in_range at end)) e)

  -- ---- storing its bytes
  abbrev AddsAs : ℕ → Result ℕ Refusal → List ℕ → List ℕ → Type 0
  AddsAs covered r q z =
      (r ≡ cond (clashes m) (Err (at_zero Reason.ByteDiffers)) (Ok (covered + new_marks in_use (in_range at end) m))) × (q ≡ cond (clashes m) p (overlaid (data_view at d) p))
      × (z ≡ cond (clashes m) m (mark_all in_use (in_range at end) m))

  differ_added : (n : ℕ) → ◌≡◌ {A = Option ℕ} None (Some n) → ⊥
  differ_added n e = let z : ◌≡◌ {A = ℕ} 0 1 = cc in omega arith

  new_is : (n k : ℕ) → Some n ≡ Some k → n ≡ k
  new_is n k e = cc

  pub adds_clash : (covered : ℕ) (r : Option ℕ) (z : List ℕ) → AddedAs r z → r ≡ None → AddsAs covered (Err (at_zero Reason.ByteDiffers)) p z
  adds_clash covered r z (a, b) e =
      by_bool _ (clashes m)
      (λ t. rw t (refl, refl, b ∙ rw t))
      (λ t. absurd (differ_added _ (rw t at (sym e ∙ a))))

  pub adds_new : (covered n : ℕ) (r : Option ℕ) (q z : List ℕ) → AddedAs r z → r ≡ Some n → q ≡ overlaid (data_view at d) p → AddsAs covered (Ok (covered + n)) q z
  adds_new covered n r q z (a, b) e eq =
      by_bool _ (clashes m)
      (λ t. absurd (differ_added n (sym (rw t at (sym e ∙ a)))))
      (λ t. rw t (ap (λ (k : ℕ). Ok (covered + k)) (new_is _ _ (rw t at (sym e ∙ a))), eq, b ∙ rw t))

  pub added_most : (n : ℕ) (r : Option ℕ) (z : List ℕ) → AddedAs r z → r ≡ Some n → marks_for in_use end ≤ length m → n ≤ end
  added_most n r z (a, b) e room =
      by_bool _ (clashes m)
      (λ t. absurd (differ_added n (sym (rw t at (sym e ∙ a)))))
      (λ t. new_most in_use end (in_range at end) m n (marks_cover in_use end end m (omega arith) room) (λ i h. range_above at end i h) (new_is _ _ (rw t at (sym e ∙ a))))

-- ---- taking in
module _ (h : Held) (t p k : List ℕ) (m : Message) (at : ℕ) (d : List ℕ) where
  abbrev own : PartialRecord
  own = held_record h t

  abbrev before : Partial
  before = partial own p k

  module _ (ok : sound before ≡ true) where
    by_admission : (r : Refusal) → admission_of own (length p) m ≡ Err r → step_of (more_of (Err r) own) p k ≡ take_in before (chunk m at d)
    by_admission r e = sym (take_refused before (chunk m at d) (reason_number r.reason) r.place (reading_admits before m at d ok ∙ rw e))

    pub no_room : length p < m.total → step_of (more_of (Err (at_zero Reason.NoRoom)) own) p k ≡ take_in before (chunk m at d)
    unfolding admission_of
    no_room l = by_admission (at_zero Reason.NoRoom) (rw (lt-leb m.total (length p) l))

    module _ (l : m.total ≤ length p) where
      pub other_held : same_message (identity_of own.message) (identity_of m) ≡ false → step_of (more_of (Err (at_zero Reason.OtherMessage)) own) p k ≡ take_in before (chunk m at d)
      unfolding admission_of
      other_held e = by_admission (at_zero Reason.OtherMessage) (rw (le-leb m.total (length p) l, e))

      pub admits_held : same_message (identity_of own.message) (identity_of m) ≡ true → admission_of own (length p) m ≡ Ok A.Same
      unfolding admission_of
      admits_held e = rw (le-leb m.total (length p) l, e)

    pub took_more : GoodChunk m at (length d) → admission_of own (length p) m ≡ Ok A.Same → (r : Result ℕ Refusal) (q z : List ℕ) → AddsAs p k at d h.covered r q z
        → step_of (more_of r own) q z ≡ take_in before (chunk m at d)
    took_more o g r q z (a, b, c) =
        by_bool _ (clashes p k at d k)
        (λ e. rw (rw e at a, rw e at b, rw e at c) (sym (take_refused before (chunk m at d) 14 0 (rw e at (reading_same before m at d ok o g)))))
        (λ e. rw (rw e at a, rw e at b, rw e at c)
        (taken before m at d o (rw e at (reading_same before m at d ok o g)) Done own _ _ _ _ _ refl refl refl refl refl refl refl))
