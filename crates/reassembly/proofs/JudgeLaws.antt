-- One law for each way out of a judgement, and what an accepted call tells. Assumes nothing.
use Prim.Native.Nat.{ℕ, ◌+◌, ◌≤◌}
use mathlib.Core.Path.{◌≡◌, refl, sym, ap, ◌∙◌}
use mathlib.Core.Bool.{Bool, true, false, cond, ◌&&◌}
use mathlib.Core.List.{List}
use native.Mathlib.Omega.{arith}
use lib.ListN.{length, take, drop}
use lib.Dec.{leb, eqb}
use borrow.Author.Tests.{le-leb, leb-true, eqb-true}
use Rattle.reassembly.specs.Views.{View, data_view, clash, overlaid}
use Rattle.marks.specs.Offsets.{in_range}
use Rattle.marks.specs.Marks.{marks_for, mark_all, marked_below, new_marks}
use Rattle.reassembly.specs.Areas.{marked_view}
use Rattle.wire.specs.Answer.{Answer, got, refused}
use Rattle.publisher_id.specs.PublisherRecord.{publisher_fits, record_at}
use Rattle.publisher_id.specs.declared.publisher_record.PublisherRecord.{PublisherRecord}
use Rattle.chunk.specs.Datagram.{chunk_at}
use Rattle.chunk.specs.declared.datagram.ChunkPlace.{ChunkPlace}
use Rattle.chunk.proofs.Accepted
use Rattle.reassembly.specs.Record.{Identity, identity_of, same_message, Partial, sound_by, sound, marked_count}
use Rattle.reassembly.specs.Reading.{Reading, chunk_message, reading_by, reading_at, GoodChunk, GoodReading}
use Rattle.reassembly.specs.Reading.Reading.{chunk, refusal}
use Rattle.reassembly.specs.Machine.{State, judge, between, view_of, state_of, reading_verdict}
use Rattle.reassembly.specs.Machine.State.{held}
use Rattle.reassembly.specs.Judge.{admission_of, judge_reading, judge_combine}
use Rattle.reassembly.specs.Operations.{begun, begun_marks, with_new, put, put_reading, take_in, combine, yes_no, ask_complete, progress_of, judge_hand_out}
use Rattle.reassembly.specs.declared.judge.Admission.{Admission}
use Rattle.reassembly.specs.declared.judge.Admission.TheVariants as A
use Rattle.reassembly.specs.declared.record.Message.{Message}
use Rattle.reassembly.specs.declared.record.PartialRecord.{PartialRecord}
use Rattle.reassembly.specs.Verdict.{Completeness}
use Rattle.reassembly.specs.Verdict.{Progress}
use Rattle.reassembly.specs.Verdict.{Verdict, Done, Refused}
use Rattle.std.specs.Prelude.{Result, Ok, Err}
use Rattle.wire.specs.Refusal.{reason_number}
use Rattle.wire.specs.declared.refusal.Refusal.{Refusal}
use Rattle.wire.proofs.Cases.{by_bool}
use Rattle.wire.proofs.Facts.{and_left, and_right}
use Rattle.reassembly.proofs.ViewLaws.{has_data}
use Rattle.marks.proofs.MarkLaws.{marks_mono, length_cleared}
use Rattle.reassembly.proofs.AreaLaws.{clash_total, has_marked}
use Rattle.reassembly.proofs.SameLaws.{same_message_true}

pub refused_done : (n p : ℕ) → Refused n p ≡ Done → ⊥
refused_done n p e = let z : ◌≡◌ {A = ℕ} 0 1 = cc in omega arith

-- ---- soundness
module _ (s : Partial) (e : sound s ≡ true) where
  pub sound_lengths : marks_for s.layout (length s.payload) ≡ length s.marks
  unfolding sound_by
  sound_lengths = eqb-true (marks_for s.layout (length s.payload)) (length s.marks) (and_left (eqb (marks_for s.layout (length s.payload)) (length s.marks)) _ e)

  sound_started : s.rec.started ≡ true
      → (leb 1 s.rec.message.total &&
      (leb s.rec.message.total (length s.payload) && (leb s.rec.covered s.rec.message.total && publisher_fits s.rec.message.origin.publisher))) ≡ true
  unfolding sound_by
  sound_started h = rw h at (and_right (eqb (marks_for s.layout (length s.payload)) (length s.marks)) _ e)

  pub sound_some : s.rec.started ≡ true → 1 ≤ s.rec.message.total
  sound_some h = leb-true _ _ (and_left (leb 1 s.rec.message.total) _ (sound_started h))

  pub sound_total : s.rec.started ≡ true → s.rec.message.total ≤ length s.payload
  sound_total h = leb-true _ _ (and_left (leb s.rec.message.total (length s.payload)) _ (and_right (leb 1 s.rec.message.total) _ (sound_started h)))

  sound_rest : s.rec.started ≡ true → (leb s.rec.covered s.rec.message.total && publisher_fits s.rec.message.origin.publisher) ≡ true
  sound_rest h = and_right (leb s.rec.message.total (length s.payload)) _ (and_right (leb 1 s.rec.message.total) _ (sound_started h))

  pub sound_covered : s.rec.started ≡ true → s.rec.covered ≤ s.rec.message.total
  sound_covered h = leb-true _ _ (and_left (leb s.rec.covered s.rec.message.total) _ (sound_rest h))

  pub sound_publisher : s.rec.started ≡ true → publisher_fits s.rec.message.origin.publisher ≡ true
  sound_publisher h = and_right (leb s.rec.covered s.rec.message.total) _ (sound_rest h)

  pub sound_marks : (t : ℕ) → t ≤ length s.payload → marks_for s.layout t ≤ length s.marks
  sound_marks t h = let l = sound_lengths in omega (arith, marks_mono s.layout t (length s.payload) h)

-- ---- what a datagram reads as
module _ (sizes s : List ℕ) where
  pub reading_got : (c : ChunkPlace) (n : ℕ) → chunk_at sizes s ≡ got c n → reading_at sizes s ≡ chunk (chunk_message c s) c.payload.offset (take c.payload.length (drop c.payload.first s))
  unfolding reading_at
  reading_got c n e = rw e

  pub reading_refusal : (n p : ℕ) → chunk_at sizes s ≡ refused n p → reading_at sizes s ≡ refusal n p
  unfolding reading_at
  reading_refusal n p e = rw e

  -- an accepted chunk has no fault of its own
  proper_got : (c : ChunkPlace) (n : ℕ) → chunk_at sizes s ≡ got c n → GoodChunk (chunk_message c s) c.payload.offset (length (take c.payload.length (drop c.payload.first s)))
  unfolding publisher_fits
  proper_got c n e =
      let a = Accepted.accepted sizes s c n e in
      let l : length (take c.payload.length (drop c.payload.first s)) ≡ c.payload.length = rw e at (Accepted.data_length sizes s c n e) in
      record { publisher = le-leb _ _ a.publisher; some = a.sized.some; fits = rw l a.sized.fits }

  pub reading_proper : GoodReading (reading_at sizes s)
  unfolding reading_at
  reading_proper = go (chunk_at sizes s) refl
    where
      go : (x : Answer ChunkPlace) → chunk_at sizes s ≡ x → GoodReading (reading_by x s)
      go (got c n) e = proper_got c n e
      go (refused n p) e = tt

-- ---- bytes of a message met by a partial
abbrev pub admitted : Result Admission Refusal → Bool → Verdict
admitted (Err r) b = Refused (reason_number r.reason) r.place
admitted (Ok A.Fresh) b = Done
admitted (Ok A.Same) b = cond b (Refused 14 0) Done

judge_admits : (s : Partial) (n : ℕ) (m : Message) (v : View) → judge n (state_of s) (held (identity_of m) v) ≡ admitted (admission_of s.rec n m) (clash s.rec.message.total (view_of s) v)
unfolding admission_of
judge_admits s n m v =
    by_bool _ (leb m.total n)
    (λ e. by_bool _ s.rec.started
    (λ f. by_bool _ (same_message (identity_of s.rec.message) (identity_of m)) (λ g. rw (e, f, g)) (λ g. rw (e, f, g)))
    (λ f. rw (e, f)))
    (λ e. rw e)

-- what the same message tells
pub record Admits (r : PartialRecord) (n : ℕ) (m : Message) : Type 0 where
  pub room : m.total ≤ n
  pub started : r.started ≡ true
  pub same : identity_of r.message ≡ identity_of m

refused_same : (r : Refusal) → ◌≡◌ {A = Result Admission Refusal} (Err r) (Ok A.Same) → ⊥
refused_same r e = let z : ◌≡◌ {A = ℕ} 0 1 = cc in omega arith

fresh_same : ◌≡◌ {A = Result Admission Refusal} (Ok A.Fresh) (Ok A.Same) → ⊥
fresh_same e = let z : ◌≡◌ {A = ℕ} 0 1 = cc in omega arith

admits_same : (r : PartialRecord) (n : ℕ) (m : Message) → admission_of r n m ≡ Ok A.Same → Admits r n m
unfolding admission_of
admits_same r n m e =
    by_bool _ (leb m.total n)
    (λ e₁. by_bool _ r.started
    (λ e₂. by_bool _ (same_message (identity_of r.message) (identity_of m))
    (λ e₃. record { room = leb-true _ _ e₁; started = e₂; same = same_message_true _ _ e₃ })
    (λ e₃. absurd (refused_same _ (rw (e₁, e₂, e₃) at e))))
    (λ e₂. absurd (fresh_same (rw (e₁, e₂) at e))))
    (λ e₁. absurd (refused_same _ (rw e₁ at e)))

pub judge_fits : (n : ℕ) (s : State) (m : Identity) (v : View) → judge n s (held m v) ≡ Done → m.total ≤ n
judge_fits n s m v e =
    by_bool _ (leb m.total n) (λ t. leb-true _ _ t) (λ t. absurd (refused_done 11 0 (rw t at e)))

pub judge_meets : (n : ℕ) (s : State) (m : Identity) (v : View) → judge n s (held m v) ≡ Done → between s (held m v) ≡ Done
judge_meets n s m v e = rw (le-leb m.total n (judge_fits n s m v e)) at e

pub meet_same : (k m : Identity) (w v : View) → between (held k w) (held m v) ≡ Done → same_message k m ≡ true
meet_same k m w v e = by_bool _ (same_message k m) (λ t. t) (λ t. absurd (refused_done 13 0 (rw t at e)))

pub meet_free : (k m : Identity) (w v : View) → between (held k w) (held m v) ≡ Done → clash k.total w v ≡ false
meet_free k m w v e =
    by_bool _ (clash k.total w v) (λ t. absurd (refused_done 14 0 (rw (meet_same k m w v e, t) at e))) (λ t. t)

pub length_begun : (r : PartialRecord) (m n : List ℕ) → n ≡ begun_marks r m → length n ≡ length m
length_begun r m n e = ap length e ∙ by_bool _ r.started (λ t. rw t) (λ t. rw t (length_cleared m))

-- ---- taking in
module _ (s : Partial) (x : Reading) where
  reading_unsound : sound s ≡ false → judge_reading s x ≡ Refused 12 0
  unfolding judge_reading
  reading_unsound e = rw e

  pub reading_judged : sound s ≡ true → judge_reading s x ≡ reading_verdict (length s.payload) (state_of s) x
  unfolding judge_reading
  reading_judged e = rw e

  reading_sound : judge_reading s x ≡ Done → sound s ≡ true
  reading_sound e = by_bool _ (sound s) (λ t. t) (λ t. absurd (refused_done 12 0 (sym (reading_unsound t) ∙ e)))

  pub take_refused : (n p : ℕ) → judge_reading s x ≡ Refused n p → take_in s x ≡ record { verdict = Refused n p; after = s }
  unfolding take_in
  take_refused n p e = rw e

  pub take_done : judge_reading s x ≡ Done → take_in s x ≡ record { verdict = Done; after = put_reading x s }
  unfolding take_in
  take_done e = rw e

  pub take_unsound : sound s ≡ false → take_in s x ≡ record { verdict = Refused 12 0; after = s }
  take_unsound e = take_refused 12 0 (reading_unsound e)

-- a record of a chunk's message whose publisher was copied
pub message_is : (c : ChunkPlace) (s : List ℕ) (p : PublisherRecord) → p ≡ record_at c.publisher c.publisher_end s
    → ◌≡◌ {A = Message} (record { origin = record { publisher = p; group = c.group; writer = c.writer; number = c.payload.number }; total = c.payload.total }) (chunk_message c s)
message_is c s p e = λ i. record { origin = record { publisher = e i; group = c.group; writer = c.writer; number = c.payload.number }; total = c.payload.total }

module _ (s : Partial) (sizes d : List ℕ) where
  pub take_refusal : sound s ≡ true → (n p : ℕ) → chunk_at sizes d ≡ refused n p → take_in s (reading_at sizes d) ≡ record { verdict = Refused n p; after = s }
  take_refusal e n p q = take_refused s (reading_at sizes d) n p (reading_judged s (reading_at sizes d) e ∙ rw (reading_refusal sizes d n p q))

  -- the chunk of an accepted datagram, as the code hands it on
  module _ (c : ChunkPlace) (n : ℕ) (q : chunk_at sizes d ≡ got c n) (m : Message) (b : List ℕ) (em : m ≡ chunk_message c d) (eb : b ≡ take c.payload.length (drop c.payload.first d)) where
    pub handed_proper : GoodChunk m c.payload.offset (length b)
    handed_proper = rw (em, eb) (proper_got sizes d c n q)

    pub handed_taken : take_in s (chunk m c.payload.offset b) ≡ take_in s (reading_at sizes d)
    handed_taken = rw (em, eb, reading_got sizes d c n q)

module _ (s : Partial) (m : Message) (at : ℕ) (d : List ℕ) where
  pub reading_admits : sound s ≡ true → judge_reading s (chunk m at d) ≡ admitted (admission_of s.rec (length s.payload) m) (clash s.rec.message.total (view_of s) (data_view at d))
  reading_admits e =
      reading_judged s (chunk m at d) e ∙ judge_admits s (length s.payload) m (data_view at d)

  -- the same message: its bytes meet what is held
  module _ (e : sound s ≡ true) (o : GoodChunk m at (length d)) (g : admission_of s.rec (length s.payload) m ≡ Ok A.Same) where
    pub data_room : (at + length d ≤ length s.payload) × (marks_for s.layout (at + length d) ≤ length s.marks)
    data_room =
        let a = admits_same _ _ _ g in
        let h : at + length d ≤ length s.payload = omega (arith, a.room, o.fits) in
        (h, sound_marks s e _ h)

    pub reading_same : judge_reading s (chunk m at d) ≡ cond (clash (at + length d) (marked_view s.layout (at + length d) s.payload s.marks) (data_view at d)) (Refused 14 0) Done
    reading_same =
        let a = admits_same _ _ _ g in
        let t : s.rec.message.total ≡ m.total = ap (λ (m : Identity). m.total) a.same in
        let h : at + length d ≤ s.rec.message.total = omega (arith, o.fits) in
        reading_admits e ∙ rw g
        (ap (λ (b : Bool). cond b (Refused 14 0) Done) (sym (clash_total s.layout s.rec.message.total s.payload s.marks at d h)))

  -- an accepted chunk has room
  module _ (o : GoodChunk m at (length d)) (e : judge_reading s (chunk m at d) ≡ Done) where
    pub taken_room : (at + length d ≤ length s.payload) × (marks_for s.layout (at + length d) ≤ length s.marks)
    taken_room =
        let ok = reading_sound s (chunk m at d) e in
        let met : judge (length s.payload) (state_of s) (held (identity_of m) (data_view at d)) ≡ Done = sym (reading_judged s (chunk m at d) ok) ∙ e in
        let t : m.total ≤ length s.payload = judge_fits (length s.payload) (state_of s) (identity_of m) (data_view at d) met in
        let h : at + length d ≤ length s.payload = omega (arith, o.fits) in
        (h, sound_marks s ok _ h)

    pub taken : (v : Verdict) (k after : PartialRecord) (c : ℕ) (p z n : List ℕ) → v ≡ Done → k ≡ begun s.rec m → after ≡ with_new k c → p ≡ overlaid (data_view at d) s.payload
        → n ≡ begun_marks s.rec s.marks
        → z ≡ mark_all s.layout (in_range at (at + length d)) n → c ≡ new_marks s.layout (in_range at (at + length d)) n
        → record { verdict = v; after = record { rec = after; layout = s.layout; payload = p; marks = z } } ≡ take_in s (chunk m at d)
    unfolding put
    taken v k after c p z n ev ek ea ep en ez ec =
        rw (ev, ea, ek, ep, ez, ec, en, take_done s (chunk m at d) e, has_data at d)

-- ---- combining
module _ (s f : Partial) where
  pub combine_unsound : sound s ≡ false → judge_combine s f ≡ Refused 12 0
  unfolding judge_combine
  combine_unsound e = rw e

  pub combine_source_unsound : sound s ≡ true → sound f ≡ false → judge_combine s f ≡ Refused 12 0
  unfolding judge_combine
  combine_source_unsound e g = rw (e, g)

  pub combine_judged : sound s ≡ true → sound f ≡ true → judge_combine s f ≡ judge (length s.payload) (state_of s) (state_of f)
  unfolding judge_combine
  combine_judged e g = rw (e, g)

  pub combine_idle : sound s ≡ true → sound f ≡ true → f.rec.started ≡ false → judge_combine s f ≡ Done
  combine_idle e g h = combine_judged e g ∙ rw h

  pub combine_admits : sound s ≡ true → sound f ≡ true → f.rec.started ≡ true
      → judge_combine s f ≡ admitted (admission_of s.rec (length s.payload) f.rec.message) (clash s.rec.message.total (view_of s) (view_of f))
  combine_admits e g h = combine_judged e g ∙ rw h (judge_admits s (length s.payload) f.rec.message (view_of f))

  pub combine_sound : judge_combine s f ≡ Done → sound s ≡ true
  combine_sound e = by_bool _ (sound s) (λ t. t) (λ t. absurd (refused_done 12 0 (sym (combine_unsound t) ∙ e)))

  pub combine_source_sound : judge_combine s f ≡ Done → sound f ≡ true
  combine_source_sound e =
      by_bool _ (sound f) (λ t. t) (λ t. absurd (refused_done 12 0 (sym (combine_source_unsound (combine_sound e) t) ∙ e)))

  pub combine_met : judge_combine s f ≡ Done → f.rec.started ≡ true → judge (length s.payload) (state_of s) (held (identity_of f.rec.message) (view_of f)) ≡ Done
  combine_met e h = rw h at (sym (combine_judged (combine_sound e) (combine_source_sound e)) ∙ e)

  pub combine_refused : (n p : ℕ) → judge_combine s f ≡ Refused n p → combine s f ≡ record { verdict = Refused n p; after = s }
  unfolding combine
  combine_refused n p e = rw e

  pub combine_done_idle : judge_combine s f ≡ Done → f.rec.started ≡ false → combine s f ≡ record { verdict = Done; after = s }
  unfolding combine
  combine_done_idle e g = rw (e, g)

  pub combine_done : judge_combine s f ≡ Done → f.rec.started ≡ true → combine s f ≡ record { verdict = Done; after = put f.rec.message (view_of f) s }
  unfolding combine
  combine_done e g = rw (e, g)

  -- the same message: what both cover
  module _ (e : sound s ≡ true) (g : sound f ≡ true) (h : f.rec.started ≡ true) (i : admission_of s.rec (length s.payload) f.rec.message ≡ Ok A.Same) where
    pub covered_room : (f.rec.message.total ≤ length s.payload) × (marks_for s.layout f.rec.message.total ≤ length s.marks) × (f.rec.message.total ≤ length f.payload)
        × (marks_for f.layout f.rec.message.total ≤ length f.marks)
    covered_room =
        let a = (admits_same _ _ _ i).room in
        let t = sound_total f g h in
        (a, sound_marks s e _ a, t, sound_marks f g _ t)

    pub combine_same : judge_combine s f ≡ cond (clash f.rec.message.total (marked_view s.layout f.rec.message.total s.payload s.marks) (view_of f)) (Refused 14 0) Done
    combine_same =
        let t : s.rec.message.total ≡ f.rec.message.total = ap (λ (m : Identity). m.total) (admits_same _ _ _ i).same in
        combine_admits e g h ∙ rw i
        (ap (λ (n : ℕ). cond (clash n (marked_view s.layout n s.payload s.marks) (view_of f)) (Refused 14 0) Done) t)

  -- an accepted source fits
  module _ (e : judge_combine s f ≡ Done) (h : f.rec.started ≡ true) where
    pub combined_room : (f.rec.message.total ≤ length s.payload) × (marks_for s.layout f.rec.message.total ≤ length s.marks) × (f.rec.message.total ≤ length f.payload)
        × (marks_for f.layout f.rec.message.total ≤ length f.marks)
    combined_room =
        let a = judge_fits (length s.payload) (state_of s) (identity_of f.rec.message) (view_of f) (combine_met e h) in
        let t = sound_total f (combine_source_sound e) h in
        (a, sound_marks s (combine_sound e) _ a, t, sound_marks f (combine_source_sound e) _ t)

    pub combined : (v : Verdict) (k after : PartialRecord) (c : ℕ) (p m n : List ℕ) → v ≡ Done → k ≡ begun s.rec f.rec.message → after ≡ with_new k c → p ≡ overlaid (view_of f) s.payload
        → n ≡ begun_marks s.rec s.marks → m ≡ mark_all s.layout (marked_below f.layout f.rec.message.total f.marks) n
        → c ≡ new_marks s.layout (marked_below f.layout f.rec.message.total f.marks) n
        → record { verdict = v; after = record { rec = after; layout = s.layout; payload = p; marks = m } } ≡ combine s f
    unfolding put
    combined v k after c p m n ev ek ea ep en em ec =
        rw (ev, ea, ek, ep, em, ec, en, combine_done e h, has_marked f.layout f.rec.message.total f.payload f.marks)

-- ---- what is covered and what is added fit a word: areas are shorter than 2^63
module _ (s : Partial) (m : Message) (e : sound s ≡ true) (k : PartialRecord) (q : k ≡ begun s.rec m) where
  pub begun_covered : k.covered ≤ length s.payload
  begun_covered =
      by_bool _ s.rec.started
      (λ t. let z : k ≡ s.rec = q ∙ rw t in let c : k.covered ≡ s.rec.covered = ap (λ (x : PartialRecord). x.covered) z in
      omega (arith, sound_covered s e t, sound_total s e t))
      (λ t. let z : k ≡ record { started = true; message = m; covered = 0 } = q ∙ rw t in let c : k.covered ≡ 0 = ap (λ (x : PartialRecord). x.covered) z in omega arith)

-- ---- asking
module _ (s : Partial) where
  pub ask_unsound : sound s ≡ false → ask_complete s ≡ Completeness.Unsaid 12 0
  unfolding ask_complete
  ask_unsound e = rw e

  pub ask_idle : sound s ≡ true → s.rec.started ≡ false → ask_complete s ≡ Completeness.No
  unfolding ask_complete
  ask_idle e f = rw (e, f)

  pub ask_held : sound s ≡ true → s.rec.started ≡ true → (b : Bool) → eqb s.rec.covered s.rec.message.total ≡ b → ask_complete s ≡ yes_no b
  unfolding ask_complete
  ask_held e f b g = rw (e, f, g)

  -- ---- how far it is
  pub progress_unsound : sound s ≡ false → progress_of s ≡ Progress.Unknown 12 0
  unfolding progress_of
  progress_unsound e = rw e

  pub progress_idle : sound s ≡ true → s.rec.started ≡ false → progress_of s ≡ Progress.Is 0 0
  unfolding progress_of
  progress_idle e f = rw (e, f)

  pub progress_held : sound s ≡ true → s.rec.started ≡ true → progress_of s ≡ Progress.Is s.rec.covered s.rec.message.total
  unfolding progress_of
  progress_held e f = rw (e, f)

  -- ---- handing out
  pub hand_unsound : sound s ≡ false → judge_hand_out s ≡ Refused 12 0
  unfolding judge_hand_out
  hand_unsound e = rw e

  pub hand_idle : sound s ≡ true → s.rec.started ≡ false → judge_hand_out s ≡ Refused 15 0
  unfolding judge_hand_out
  hand_idle e f = rw (e, f)

  pub hand_wrong : sound s ≡ true → s.rec.started ≡ true → eqb (marked_count s) s.rec.covered ≡ false → judge_hand_out s ≡ Refused 12 0
  unfolding judge_hand_out
  hand_wrong e f g = rw (e, f, g)

  pub hand_held : sound s ≡ true → s.rec.started ≡ true → eqb (marked_count s) s.rec.covered ≡ true → (b : Bool) → eqb s.rec.covered s.rec.message.total ≡ b
      → judge_hand_out s ≡ cond b Done (Refused 15 0)
  unfolding judge_hand_out
  hand_held e f g b h = rw (e, f, g, h)

  pub hand_sound : judge_hand_out s ≡ Done → sound s ≡ true
  hand_sound e = by_bool _ (sound s) (λ t. t) (λ t. absurd (refused_done 12 0 (sym (hand_unsound t) ∙ e)))

  pub hand_started : judge_hand_out s ≡ Done → s.rec.started ≡ true
  hand_started e = by_bool _ s.rec.started (λ t. t) (λ t. absurd (refused_done 15 0 (sym (hand_idle (hand_sound e) t) ∙ e)))
