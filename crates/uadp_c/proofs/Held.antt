-- The ways out of the operations on a lent partial.
-- Assumes nothing.
use Prim.Native.Nat.{ℕ, ◌≤◌, ◌<◌, ◌^◌}
use mathlib.Core.Path.{◌≡◌, refl, ap, ap₂, sym, subst, ◌∙◌}
use mathlib.Core.Bool.{Bool, true, false, cond, ◌&&◌}
use mathlib.Core.List.{List, [], ◌∷◌}
use borrow.Author.Tests.{lt-ltb, le-ltb}
use lib.Dec.{eqb, ltb}
use lib.ListN.{length, take}
use Rattle.wire.specs.Number.{le_bytes}
use Rattle.wire_writer.specs.Store.{laid}
use Rattle.reassembly.specs.Record.{Partial, partial, sound, sound_by}
use Rattle.marks.specs.Marks.{marks_for, in_use}
use Rattle.reassembly.specs.Machine.{reply_of, handed_of}
use Rattle.reassembly.specs.Machine.Call.{Take, Combine, Ask, HandOut}
use Rattle.reassembly.specs.Judge.{judge_combine}
use Rattle.reassembly.specs.Calls.{Does, said_of, answers}
use Rattle.reassembly.specs.Reading.{reading_at}
use Rattle.reassembly.specs.Operations.{Step, step_of, step_by, take_in, combine, ask_complete, judge_hand_out, hand_out, progress_of}
use Rattle.reassembly.proofs.CallLaws.{one_said, handed_verdict, take_told, combine_told}
use Rattle.reassembly.specs.Quick.{held_record, more_of}
use Rattle.reassembly.specs.declared.quick.Held.{Held}
use Rattle.std.specs.Prelude.{Result, Ok, Err}
use Rattle.wire.specs.Refusal.{reason_number}
use Rattle.wire.specs.declared.refusal.Refusal.{Refusal}
use Rattle.reassembly.specs.declared.operations.Outcome.{Outcome}
use Rattle.reassembly.specs.declared.record.PartialRecord.{PartialRecord}
use Rattle.reassembly.specs.Verdict.{Verdict, Completeness, Progress, verdict_told, completeness_told, progress_told}
use Rattle.records.specs.Numbers.{number_at}
use Rattle.records.specs.Sizes.{PARTIAL_SIZE}
use Rattle.records.specs.Result.{result_of}
use Rattle.records.specs.Writers.{writers_in, sixteen, sizes_in}
use Rattle.partial_record.specs.Partial.{partial_in, partial_bytes, FitsRecord, started_in, text_in, asked_in}
use Rattle.partial_record.proofs.Asked.{asked_complete, asked_progress, asked_hand}
use Rattle.partial_record.proofs.Taken.{started_whole}
use Rattle.partial_record.proofs.Back.{covered_laid}
use Rattle.uadp_c.proofs.KeptRecord.{KeptStep, step_reads}
use native.Mathlib.Omega.{arith}
use Rattle.uadp_c.specs.Reassembling.{Steps, Lent, partial_of, lent, verdict_result, taken_over, record_by, step_in, source_of, emptied_record, complete_result, complete_in, hand_result, hand_in, progress_result, progress_in}

-- a record shorter than its layout
step_short : (r p m : List ℕ) (x : ℕ) (s : Step) → length r < PARTIAL_SIZE → x ≡ result_of 12 0 → lent x r p m ≡ step_in r p m s
step_short r p m x s h q = rw (lt-ltb (length r) PARTIAL_SIZE h) (ap (λ (y : ℕ). lent y r p m) q)

-- of a started record the number is stored, one that nothing was taken over into stays; else the record is stored
pub keeps_started : (r e : List ℕ) (k : PartialRecord) (n : ℕ) → n ≡ number_at r 0 → eqb n 1 ≡ true → e ≡ laid r 64 (le_bytes 8 k.covered) → e ≡ taken_over r k
keeps_started r e k n a t q = rw (subst (λ (x : ℕ). eqb x 1 ≡ true) a t) q

pub keeps_empty : (r : List ℕ) (k : PartialRecord) (n : ℕ) → n ≡ number_at r 0 → eqb n 1 ≡ false → k.started ≡ false → r ≡ taken_over r k
keeps_empty r k n a t h = rw (subst (λ (x : ℕ). eqb x 1 ≡ false) a t, h) refl

so : (b : Bool) (e x y : List ℕ) → b ≡ true → e ≡ x → e ≡ cond b x y
so b e x y h q = rw h q

pub takes_over : (r e : List ℕ) (k : PartialRecord) (n : ℕ) → n ≡ number_at r 0 → eqb n 1 ≡ false → k.started ≡ true → e ≡ laid r 0 (partial_bytes k)
    → e ≡ taken_over r k
takes_over r e k n a t h q = rw (subst (λ (x : ℕ). eqb x 1 ≡ false) a t) (so k.started e (laid r 0 (partial_bytes k)) r h q)

-- an outcome of the operation, stored
step_ends : (r p m r₂ p₂ m₂ : List ℕ) (x : ℕ) (o : Outcome) (v : Result (Unit {0}) Refusal) (s : Step) → PARTIAL_SIZE ≤ length r → step_of o p₂ m₂ ≡ s → o.verdict ≡ v
    → x ≡ verdict_result (verdict_told v) → r₂ ≡ record_by (verdict_told v) r o.rec → lent x r₂ p₂ m₂ ≡ step_in r p m s
step_ends r p m r₂ p₂ m₂ x o v s h q t a b =
    let w = verdict_told v in
    let y : lent x r₂ p₂ m₂ ≡ lent (verdict_result w) (record_by w r o.rec) p₂ m₂ =
    ap (λ (k : ℕ). lent k r₂ p₂ m₂) a ∙ ap (λ (k : List ℕ). lent (verdict_result w) k p₂ m₂) b in
    let z : lent x r₂ p₂ m₂ ≡ lent (verdict_result (verdict_told o.verdict)) (record_by (verdict_told o.verdict) r o.rec) p₂ m₂ =
    subst (λ (k : Verdict). lent x r₂ p₂ m₂ ≡ lent (verdict_result k) (record_by k r o.rec) p₂ m₂) (ap verdict_told (sym t)) y in
    subst (λ (k : Step). lent x r₂ p₂ m₂ ≡ step_in r p m k) q (rw (le-ltb (length r) PARTIAL_SIZE h) z)

-- with the sizes of a configuration, as they are handed on
pub with_sizes_lem : (c d r p m z l : List ℕ) (n : ℕ) (a : Lent) → n ≡ writers_in c → l ≡ sixteen 34 c → z ≡ take n l → Steps r p m (take_in (partial_of r p m) (reading_at z d)) a
    → Steps r p m (take_in (partial_of r p m) (reading_at (sizes_in c) d)) a
with_sizes_lem c d r p m z l n a en el ez q =
    subst (λ (y : List ℕ). Steps r p m (take_in (partial_of r p m) (reading_at y d)) a) (ez ∙ ap (λ (x : ℕ). take x l) en ∙ ap (λ (x : List ℕ). take (writers_in c) x) el) q

pub taken : (d r p m z p₂ m₂ : List ℕ) (k : PartialRecord) (o : Outcome) → k ≡ partial_in r → Does (Take d z) (partial k p m) (reply_of (verdict_told o.verdict)) (partial o.rec p₂ m₂)
    → step_of o p₂ m₂ ≡ take_in (partial_of r p m) (reading_at z d)
taken d r p m z p₂ m₂ k o f q = take_told (partial k p m) o p₂ m₂ d z q ∙ ap (λ (x : PartialRecord). take_in (partial x p m) (reading_at z d)) f

-- a started partial, its text lent
pub taken_further : (d r p m z p₂ m₂ t : List ℕ) (k : Held) (x y : Result ℕ Refusal) → k ≡ started_in r → t ≡ text_in r → (partial_in r).started ≡ true → x ≡ y
    → step_of (more_of x (held_record k t)) p₂ m₂ ≡ take_in (partial (held_record k t) p m) (reading_at z d)
    → step_of (more_of y (partial_in r)) p₂ m₂ ≡ take_in (partial_of r p m) (reading_at z d)
taken_further d r p m z p₂ m₂ t k x y ek et e v q =
    let own : held_record k t ≡ partial_in r = ap₂ held_record ek et ∙ started_whole r e in
    subst (λ (o : PartialRecord). step_of (more_of y o) p₂ m₂ ≡ take_in (partial o p m) (reading_at z d)) own
    (subst (λ (w : Result ℕ Refusal). step_of (more_of w (held_record k t)) p₂ m₂ ≡ take_in (partial (held_record k t) p m) (reading_at z d)) v q)

pub combined : (r p m g u w p₂ m₂ : List ℕ) (k j : PartialRecord) (o : Outcome) → PARTIAL_SIZE ≤ length g → k ≡ partial_in r → j ≡ partial_in g
    → Does (Combine (partial j u w)) (partial k p m) (reply_of (verdict_told o.verdict)) (partial o.rec p₂ m₂) → step_of o p₂ m₂ ≡ combine (partial_of r p m) (source_of g u w)
combined r p m g u w p₂ m₂ k j o h a b q =
    rw (le-ltb (length g) PARTIAL_SIZE h)
    (combine_told (partial k p m) (partial j u w) o p₂ m₂ q
    ∙ ap (λ (x : PartialRecord). combine (partial x p m) (partial j u w)) a ∙ ap (λ (x : PartialRecord). combine (partial_of r p m) (partial x u w)) b)

-- a source whose record is shorter than its layout is refused by 12
unsound_source : (s : Partial) (k : PartialRecord) → combine s (partial k [] (0 ∷ [])) ≡ record { verdict = Verdict.Refused 12 0; after = s }
unfolding combine judge_combine sound_by marks_for
unsound_source s k = go (sound s) _ _
  where
    go : (b : Bool) (v : Verdict) (t : Partial) → step_by (cond (b && false) v (Verdict.Refused 12 0)) s t ≡ record { verdict = Verdict.Refused 12 0; after = s }
    go true v t = refl
    go false v t = refl

pub combine_short : (g u w r p m : List ℕ) (x : ℕ) → length g < PARTIAL_SIZE → x ≡ result_of 12 0 → Steps r p m (combine (partial_of r p m) (source_of g u w)) (lent x r p m)
combine_short g u w r p m x h q = rw (lt-ltb (length g) PARTIAL_SIZE h, unsound_source (partial_of r p m) (partial_in g)) (record { bytes = go (ltb (length r) PARTIAL_SIZE); reads = λ l. refl })
  where
    go : (b : Bool) → lent x r p m ≡ cond b (lent (result_of 12 0) r p m) (lent (result_of 12 0) r p m)
    go true = ap (λ (y : ℕ). lent y r p m) q
    go false = ap (λ (y : ℕ). lent y r p m) q

pub emptied_told : (r e p m : List ℕ) (x : ℕ) → x ≡ result_of 0 0 → e ≡ emptied_record r → lent x e p m ≡ lent (result_of 0 0) (emptied_record r) p m
emptied_told r e p m x q h = ap (λ (y : ℕ). lent y e p m) q ∙ ap (λ (y : List ℕ). lent (result_of 0 0) y p m) h

pub progress_ends : (r p m : List ℕ) (x : ℕ) (k : PartialRecord) (a b : Result (ℕ × ℕ) Refusal) → PARTIAL_SIZE ≤ length r → k ≡ asked_in r → progress_told a ≡ progress_of (partial k p m) → a ≡ b
    → x ≡ progress_result (progress_told b)
    → x ≡ progress_in r (progress_of (partial_of r p m))
progress_ends r p m x k a b h e q t y =
    rw (le-ltb (length r) PARTIAL_SIZE h) (y ∙ ap progress_result (ap progress_told (sym t) ∙ q ∙ ap (λ (z : PartialRecord). progress_of (partial z p m)) e ∙ asked_progress r p m))

pub progress_short : (r : List ℕ) (x : ℕ) (a : Progress) → length r < PARTIAL_SIZE → x ≡ result_of 12 0 → x ≡ progress_in r a
progress_short r x a h q = rw (lt-ltb (length r) PARTIAL_SIZE h) q

pub complete_short : (r p m : List ℕ) (x : ℕ) (a : Completeness) → length r < PARTIAL_SIZE → x ≡ result_of 12 0 → lent x r p m ≡ lent (complete_in r a) r p m
complete_short r p m x a h q = rw (lt-ltb (length r) PARTIAL_SIZE h) (ap (λ (y : ℕ). lent y r p m) q)

pub complete_ends : (r p m : List ℕ) (x : ℕ) (k : PartialRecord) (a b : Result Bool Refusal) → PARTIAL_SIZE ≤ length r → k ≡ asked_in r
    → said_of (completeness_told a) ≡ answers Ask (partial k p m) → a ≡ b
    → x ≡ complete_result (completeness_told b) → lent x r p m ≡ lent (complete_in r (ask_complete (partial_of r p m))) r p m
complete_ends r p m x k a b h e q t y =
    let z : completeness_told b ≡ ask_complete (partial_of r p m) =
    ap completeness_told (sym t) ∙ one_said (completeness_told a) (ask_complete (partial k p m)) q ∙ ap (λ (i : PartialRecord). ask_complete (partial i p m)) e ∙ asked_complete r p m in
    rw (le-ltb (length r) PARTIAL_SIZE h) (ap (λ (v : ℕ). lent v r p m) (y ∙ ap complete_result z))

pub hand_short : (r p m : List ℕ) (x : ℕ) (v : Verdict) → length r < PARTIAL_SIZE → x ≡ result_of 12 0 → lent x r p m ≡ lent (hand_in r v) r p m
hand_short r p m x v h q = rw (lt-ltb (length r) PARTIAL_SIZE h) (ap (λ (y : ℕ). lent y r p m) q)

-- of the record it looks at the total alone
hand_result_lem : (r : List ℕ) (b : Verdict) → hand_result (asked_in r) b ≡ hand_result (partial_in r) b
hand_result_lem r Verdict.Done = refl
hand_result_lem r (Verdict.Refused n place) = refl

pub hand_ends : (r p m : List ℕ) (x : ℕ) (k : PartialRecord) (a b : Result (Unit {0}) Refusal) → PARTIAL_SIZE ≤ length r → k ≡ asked_in r
    → handed_of (verdict_told a) (hand_out (partial k p m)) ≡ answers HandOut (partial k p m)
    → a ≡ b
    → x ≡ hand_result k (verdict_told b) → lent x r p m ≡ lent (hand_in r (judge_hand_out (partial_of r p m))) r p m
hand_ends r p m x k a b h e q t y =
    let w = verdict_told b in
    let z : w ≡ judge_hand_out (partial_of r p m) =
    ap verdict_told (sym t) ∙ handed_verdict (partial k p m) (verdict_told a) q ∙ ap (λ (i : PartialRecord). judge_hand_out (partial i p m)) e ∙ asked_hand r p m in
    rw (le-ltb (length r) PARTIAL_SIZE h)
    (ap (λ (v : ℕ). lent v r p m) (y ∙ ap (λ (i : PartialRecord). hand_result i w) e ∙ hand_result_lem r w ∙ ap (λ (v : Verdict). hand_result (partial_in r) v) z))

-- ---- the calls that take a step, in full: the bytes, and what they are read as

-- no record of its layout's length
pub steps_short : (r p m : List ℕ) (x : ℕ) (s : Step) → length r < PARTIAL_SIZE → KeptStep (partial_in r) in_use s → x ≡ result_of 12 0 → Steps r p m s (lent x r p m)
steps_short r p m x s h k q = step_reads r p m s _ k (λ l. absurd (omega arith)) (step_short r p m x s h q)

pub steps_end : (r p m r₂ p₂ m₂ : List ℕ) (x : ℕ) (o : Outcome) (v : Result (Unit {0}) Refusal) (s : Step) → KeptStep (partial_in r) in_use s → FitsRecord o.rec → PARTIAL_SIZE ≤ length r
    → step_of o p₂ m₂ ≡ s → o.verdict ≡ v → x ≡ verdict_result (verdict_told v) → r₂ ≡ record_by (verdict_told v) r o.rec → Steps r p m s (lent x r₂ p₂ m₂)
steps_end r p m r₂ p₂ m₂ x o v s k f h q t a b =
    step_reads r p m s _ k (λ l. subst (λ (y : Step). FitsRecord y.after.rec) q f) (step_ends r p m r₂ p₂ m₂ x o v s h q t a b)

-- a refusal
pub steps_refused : (r p m p₂ m₂ : List ℕ) (x : ℕ) (f : Refusal) (k : PartialRecord) (s : Step) → KeptStep (partial_in r) in_use s → PARTIAL_SIZE ≤ length r
    → step_of (record { verdict = Err f; rec = k }) p₂ m₂ ≡ s → x ≡ result_of (reason_number f.reason) f.place → Steps r p m s (lent x r p₂ m₂)
steps_refused r p m p₂ m₂ x f k s kept h q a =
    let o : Outcome = record { verdict = Err f; rec = k } in
    let same : k ≡ partial_in r = (subst (KeptStep (partial_in r) in_use) (sym q) kept).kept in
    record {
      bytes = step_ends r p m r p₂ m₂ x o (Err f) s h q refl a refl;
      reads = λ l. ap (λ (y : PartialRecord). partial y p₂ m₂) (sym same) ∙ ap (λ (y : Step). y.after) q;
    }

-- a further chunk taken in: the number of covered bytes is stored
pub steps_further : (r p m r₂ p₂ m₂ : List ℕ) (x n : ℕ) (s : Step) → PARTIAL_SIZE ≤ length r → (partial_in r).started ≡ true → n < 256 ^ 8
    → step_of (more_of (Ok n) (partial_in r)) p₂ m₂ ≡ s → x ≡ result_of 0 0 → r₂ ≡ laid r 64 (le_bytes 8 n) → Steps r p m s (lent x r₂ p₂ m₂)
steps_further r p m r₂ p₂ m₂ x n s h e f q a b =
    record {
      bytes = step_ends r p m r₂ p₂ m₂ x (more_of (Ok n) (partial_in r)) (Ok tt) s h q refl a (rw e b);
      reads = λ l. ap (λ (y : List ℕ). partial_of y p₂ m₂) b ∙ ap (λ (y : PartialRecord). partial y p₂ m₂) (covered_laid r n l f) ∙ ap (λ (y : Step). y.after) q;
    }
