-- DEMAND 3 through the C interface: any list of calls on one lent partial. Each result is the plain machine's reply, and what is left in the lent bytes
-- is read as what the list leaves. The premises are the contracts of src/reassembling.rt, and a record and areas to begin with.
-- Assumes nothing.
use Prim.Native.Nat.{ℕ, zero, suc, ◌+◌, ◌%◌, ◌≤◌}
use mathlib.Core.Path.{◌≡◌, refl, ap, ap₂, sym, subst, ◌∙◌}
use mathlib.Core.Bool.{Bool, true, false, cond, false≢true}
use mathlib.Core.List.{List, [], ◌∷◌}
use mathlib.Core.Logic.{⊎_elim}
use native.Mathlib.Omega.{arith}
use borrow.Author.Tests.{le-ltb, eq-eqb}
use lib.Dec.{leb, ltb, eqb}
use lib.ListN.{length, get_or, take, replicate}
use lib.Seq.{sets, length-sets}
use Rattle.wire.specs.Number.{le, le_bytes}
use Rattle.wire.specs.Answer.{got, refused}
use Rattle.wire_writer.specs.Store.{laid}
use Rattle.network_message.specs.Payload.{value_or0}
use Rattle.marks.specs.Marks.{marks_for, in_use}
use Rattle.reassembly.specs.Record.{Partial, partial, sound_by, Good}
use Rattle.reassembly.specs.Reading.{reading_at}
use Rattle.reassembly.specs.Machine.{reply_of, handed_of}
use Rattle.reassembly.specs.Operations.{Step, take_in, combine, emptied, ask_complete, judge_hand_out, if_done, hand_out}
use Rattle.reassembly.specs.Calls.{said_of, answers, leaves, replies, final}
use Rattle.reassembly.specs.declared.record.PartialRecord.{PartialRecord}
use Rattle.reassembly.specs.Verdict.{Completeness, Done, Refused, Verdict}
use Rattle.wire.proofs.Cases.{by_bool}
use Rattle.reassembly_laws.proofs.Demand3 as machine
use Rattle.records.specs.Result.{result_of}
use Rattle.records.specs.Numbers.{number_at}
use Rattle.records.specs.Sizes.{PARTIAL_SIZE}
use Rattle.records.specs.Writers.{sizes_in}
use Rattle.partial_record.specs.Partial.{partial_in, partial_bytes}
use Rattle.uadp_c.specs.Reassembling.{source_of, Lent, lent, Steps, record_by, step_in, verdict_result, complete_result, hand_result}
use Rattle.uadp_c.specs.History.{LentCall, call_of, held_in, Called, AllCalled, calls_of, Tells, AllTell, last_of, Unchanged, Ready, LentList}
use Rattle.uadp_c.proofs.Emptied.{emptied_is}

-- ---- a record keeps its length
length_kept : (r : List ℕ) (at : ℕ) (b : List ℕ) → length (laid r at b) ≡ length r
length_kept r at b = go (leb (at + length b) (length r))
  where
    go : (t : Bool) → length (cond t (sets r at b) r) ≡ length r
    go true = length-sets r at b
    go false = refl

length_record : (v : Verdict) (r : List ℕ) (k : PartialRecord) → length (record_by v r k) ≡ length r
length_record (Refused n p) r k = refl
length_record Done r k = go (partial_in r).started k.started
  where
    go : (a b : Bool) → length (cond a (laid r 64 (le_bytes 8 k.covered)) (cond b (laid r 0 (partial_bytes k)) r)) ≡ length r
    go true b = length_kept r 64 (le_bytes 8 k.covered)
    go false true = length_kept r 0 (partial_bytes k)
    go false false = refl

-- ---- answers as results
-- the bytes handed out stand at the payload area's start
hand_told : (a : Lent) (s : Partial) (v : Verdict) → judge_hand_out s ≡ v → a.result ≡ hand_result s.rec v → a.payload ≡ s.payload → Tells a (handed_of v (hand_out s))
unfolding hand_out
hand_told a s Done e q p =
    let l = (machine.handed_length s e).0 in
    (q ∙ ap (result_of 0) (sym l), ap₂ take l p ∙ sym (ap (λ (v : Verdict). if_done v (take s.rec.message.total s.payload)) e))
hand_told a s (Refused n p) e q _ = q

verdict_tells : (a : Lent) (v : Verdict) → a.result ≡ verdict_result v → Tells a (reply_of v)
verdict_tells a Done q = q
verdict_tells a (Refused n p) q = q

complete_tells : (a : Lent) (x : Completeness) → a.result ≡ complete_result x → Tells a (said_of x)
complete_tells a Completeness.Yes q = q
complete_tells a Completeness.No q = q
complete_tells a (Completeness.Unsaid n p) q = q

-- ---- one call: its result is the reply of the partial that was lent, and what it leaves is read as what that call leaves
pub record One (k : LentCall) (b a : Lent) : Type 0 where
  pub result : Tells a (answers (call_of k) (held_in b))
  pub left : held_in a ≡ leaves (call_of k) (held_in b)
  pub long : PARTIAL_SIZE ≤ length a.rec

module _ (b a : Lent) (h : PARTIAL_SIZE ≤ length b.rec) where
  stepped : (s : Step) → Steps b.rec b.payload b.marks s a → Tells a (reply_of s.verdict) × (PARTIAL_SIZE ≤ length a.rec)
  stepped s w =
      let q : a ≡ lent (verdict_result s.verdict) (record_by s.verdict b.rec s.after.rec) s.after.payload s.after.marks =
      rw (le-ltb (length b.rec) PARTIAL_SIZE h) at w.bytes in
      (verdict_tells a s.verdict (ap (λ (x : Lent). x.result) q), omega (arith, ap (λ (x : Lent). length x.rec) q, length_record s.verdict b.rec s.after.rec))

  pub one : (k : LentCall) → Called k b a → One k b a
  one LentCall.Empty w = record {
    result = ap (λ (x : Lent). x.result) w;
    left = ap held_in w ∙ ap (λ (x : PartialRecord). partial x b.payload b.marks) (emptied_is b.rec);
    long = omega (arith, ap (λ (x : Lent). length x.rec) w, length_kept b.rec 0 (le_bytes 8 0));
  }
  one (LentCall.Take d c) w =
      let s = stepped (take_in (held_in b) (reading_at (sizes_in c) d)) w in
      record { result = s.0; left = w.reads h; long = s.1 }
  one (LentCall.Combine r p m) w =
      let s = stepped (combine (held_in b) (source_of r p m)) w in
      record { result = s.0; left = w.reads h; long = s.1 }
  one LentCall.Ask w =
      let q : a ≡ lent (complete_result (ask_complete (held_in b))) b.rec b.payload b.marks = rw (le-ltb (length b.rec) PARTIAL_SIZE h) at w in
      record { result = complete_tells a (ask_complete (held_in b)) (ap (λ (x : Lent). x.result) q); left = ap held_in q; long = omega (arith, ap (λ (x : Lent). length x.rec) q) }
  one LentCall.HandOut w =
      let q : a ≡ lent (hand_result (held_in b).rec (judge_hand_out (held_in b))) b.rec b.payload b.marks = rw (le-ltb (length b.rec) PARTIAL_SIZE h) at w in
      record {
        result = hand_told a (held_in b) (judge_hand_out (held_in b)) refl (ap (λ (x : Lent). x.result) q) (ap (λ (x : Lent). x.payload) q);
        left = ap held_in q;
        long =
            omega (arith, ap (λ (x : Lent). length x.rec) q);
      }

-- ---- any list of calls
record All (ks : List LentCall) (b : Lent) (ys : List Lent) : Type 0 where
  results : AllTell ys (replies (calls_of ks) (held_in b))
  left : held_in (last_of b ys) ≡ final (calls_of ks) (held_in b)

all : (ks : List LentCall) (b : Lent) (ys : List Lent) → PARTIAL_SIZE ≤ length b.rec → AllCalled ks b ys → All ks b ys
all [] b [] h w = record { results = tt; left = refl }
all [] b (a ∷ ys) h w = absurd w
all (k ∷ ks) b [] h w = absurd w
all (k ∷ ks) b (a ∷ ys) h w =
    let o = one b a h k w.0 in
    let r = all ks a ys o.long w.1 in
    record {
      results = (o.result, subst (λ (s : Partial). AllTell ys (replies (calls_of ks) s)) o.left r.results);
      left = r.left ∙ ap (final (calls_of ks)) o.left;
    }

-- ---- how a list begins: not started, and sound
zero_at : (n i : ℕ) → get_or {A = ℕ} (replicate n 0) i 0 ≡ 0
zero_at zero i = refl
zero_at (suc n) zero = refl
zero_at (suc n) (suc i) = zero_at n i

zeros_read : (w n at : ℕ) → le w (replicate n 0) at ≡ 0
zeros_read zero n at = refl
zeros_read (suc w) n at = rw (zero_at n at, zeros_read w n (at + 1))

zeroed_number : (n : ℕ) → eqb (number_at (replicate n 0) 0) 1 ≡ false
zeroed_number n = go (leb 8 (length {A = ℕ} (replicate n 0)))
  where
    go : (b : Bool) → eqb (value_or0 (cond b (got (le 8 (replicate n 0) 0) 8) (refused 1 0))) 1 ≡ false
    go true = ap (λ (x : ℕ). eqb x 1) (zeros_read 8 n 0)
    go false = refl

not_started : (b : Lent) → Ready b → (held_in b).rec.started ≡ false
unfolding emptied
not_started b w = ⊎_elim
    (λ e. ap (λ (r : List ℕ). eqb (number_at r 0) 1) e ∙ zeroed_number (length b.rec))
    (λ e. ap (λ (r : List ℕ). (partial_in r).started) e.1 ∙ ap (λ (k : PartialRecord). k.started) (emptied_is e.0))
    w.fresh

ready_good : (b : Lent) → Ready b → Good (held_in b)
unfolding sound_by
ready_good b w = record {
  is_sound = rw (eq-eqb (marks_for in_use (length b.payload)) (length b.marks) w.areas, not_started b w);
  is_right = λ t. absurd (false≢true (sym (not_started b w) ∙ t));
}

-- ---- ANY LIST OF CALLS on a lent partial: the plain machine's replies, and what it keeps
pub lent_list : (ks : List LentCall) (b : Lent) (ys : List Lent) → Ready b → AllCalled ks b ys → LentList ks b ys
lent_list ks b ys ready w =
    let r = all ks b ys ready.long w in
    let m = machine.any_list (calls_of ks) (held_in b) (ready_good b ready) (not_started b ready) in
    record { results = subst (AllTell ys) m.replies_are r.results; left = r.left; list = m }

-- ---- A REFUSAL leaves every lent byte as it was
module _ (b a : Lent) where
  as_before : (x : ℕ) → a ≡ lent x b.rec b.payload b.marks → Unchanged b a
  as_before x e = record { rec = ap (λ (y : Lent). y.rec) e; payload = ap (λ (y : Lent). y.payload) e; marks = ap (λ (y : Lent). y.marks) e }

  -- of a call that takes a step, where a refused step leaves the partial
  step_refused_lem : (s : Step) → ((n p : ℕ) → s.verdict ≡ Refused n p → s.after ≡ held_in b) → a ≡ step_in b.rec b.payload b.marks s → (a.result % 256 ≡ 0 → ⊥) → Unchanged b a
  step_refused_lem s kept e bad = by_bool _ (ltb (length b.rec) PARTIAL_SIZE) (λ t. as_before (result_of 12 0) (rw t at e)) (λ t. go s.verdict refl (rw t at e))
    where
      go : (v : Verdict) → s.verdict ≡ v → a ≡ lent (verdict_result s.verdict) (record_by s.verdict b.rec s.after.rec) s.after.payload s.after.marks
          → Unchanged b a
      go Done q w = absurd (bad (ap (λ (y : Lent). y.result % 256) w ∙ ap (λ (v : Verdict). verdict_result v % 256) q))
      go (Refused n p) q w =
          let k = kept n p q in
          record {
            rec = ap (λ (y : Lent). y.rec) w ∙ ap (λ (v : Verdict). record_by v b.rec s.after.rec) q;
            payload = ap (λ (y : Lent). y.payload) w ∙ ap (λ (t : Partial). t.payload) k;
            marks = ap (λ (y : Lent). y.marks) w ∙ ap (λ (t : Partial). t.marks) k;
          }

pub lent_refused : (k : LentCall) (b a : Lent) → Called k b a → (a.result % 256 ≡ 0 → ⊥) → Unchanged b a
lent_refused LentCall.Empty b a w bad = absurd (bad (ap (λ (y : Lent). y.result % 256) w))
lent_refused (LentCall.Take d c) b a w bad = step_refused_lem b a _ (machine.refused_take (held_in b) (reading_at (sizes_in c) d)) w.bytes bad
lent_refused (LentCall.Combine r p m) b a w bad = step_refused_lem b a _ (machine.refused_combine (held_in b) (source_of r p m)) w.bytes bad
lent_refused LentCall.Ask b a w bad = as_before b a _ w
lent_refused LentCall.HandOut b a w bad = as_before b a _ w
