-- By which numbers a step refuses that a caller named a byte for: measuring a value there, and the steps of salvaging.
-- Assumes nothing.
use Prim.Native.Nat.{ℕ, zero, suc, ◌+◌, ◌-◌, ◌≤◌, ◌<◌}
use mathlib.Core.Path.{◌≡◌, refl, sym, subst, ap, ◌∙◌}
use mathlib.Core.Bool.{Bool, true, false, cond, false≢true}
use mathlib.Core.List.{List}
use mathlib.Core.Logic.{inl, inr}
use native.Mathlib.Omega.{arith}
use borrow.Author.Tests.{lt-leb, eqb-true, ltb-false}
use lib.Dec.{eqb, leb, ltb}
use lib.ListN.{length, get_or}
use Rattle.wire.specs.Constants.{CUT_SHORT}
use Rattle.wire.specs.Answer.{Answer, Reader, got, refused, and_then}
use Rattle.wire.proofs.Cases.{by_bool, by_lt}
use Rattle.plain_value.specs.Width.{fixed, width_of}
use Rattle.value.specs.Value.{value_at, raw_at}
use Rattle.dataset_header.specs.Flags.{Valid, not_valid, valid, is_raw}
use Rattle.dataset_header.specs.declared.flags.Encoding.{Encoding}
use Rattle.dataset_header.specs.declared.flags.Kind.{Kind}
use Rattle.dataset_header.specs.declared.header.Header.{Header}
use Rattle.dataset_fields.specs.Fields.{encoded_at, field_at, zeros_at, padding_at}
use Rattle.dataset_fields.specs.declared.fields.Cursor.{Cursor}
use Rattle.dataset_fields.specs.declared.fields.Field.{Field}
use Rattle.dataset_message.specs.Message.{Message, count_to, after_header_to, opened_at, front_to, ended_at}
use Rattle.salvage.specs.Front.{Shown, shown, bad, ends, past_by, shown_by, shown_at, shown_step, last_by, next_shown, opens, open_at, front_shown}
use Rattle.std.specs.Prelude.{Err}
use Rattle.acceptance.proofs.Reasons.{number_of, place_of, is_refused}
use Rattle.acceptance.specs.Refusals.{Refusal, StepRefusal, value_refusals, message_refusals, end_refusals}
use Rattle.acceptance.proofs.Refusals.{Tells, with13, all_of, wider, wider_one, no_place, cond_tells, then_tells}
use Rattle.acceptance.proofs.Refusals.Tells.{gives, refuses}
use Rattle.acceptance.proofs.RefusedMessages.{message_others, value_lawful, field_lawful, header_tells, counted_lawful, zeros_tells}

-- what an answer tells where it is a refusal, of so many bytes, and of a byte that the caller named
abbrev pub ToldAt : {A : Type 0} → List ℕ → ℕ → ℕ → Answer A → Type 0
ToldAt numbers hi at (got a next) = Unit {0}
ToldAt numbers hi at (refused n place) = StepRefusal numbers n place hi at

-- within the bytes
pub within : {A : Type 0} {others : List ℕ} {hi : ℕ} {x : Answer A} (numbers : List ℕ) (at : ℕ) → all_of numbers (with13 others) ≡ true → Tells others hi x → ToldAt numbers hi at x
within numbers at a (gives h) = tt
within numbers at a (refuses r) = inl (wider a r)

-- ---- values at any position: past the end they are cut short there
value_past : (levels t : ℕ) (s : List ℕ) (at : ℕ) → length s < at → value_at levels t s at ≡ refused 1 at
unfolding value_at
value_past zero t s at h = rw (lt-leb (at + 1) (length s) (omega arith))
value_past (suc levels) t s at h = by_bool _ (eqb t 23) (λ b. rw (b, lt-leb (at + 1) (length s) (omega arith))) (λ b. rw (b, lt-leb (at + 1) (length s) (omega arith)))

pub value_told : (t : ℕ) (s : List ℕ) (at : ℕ) → ToldAt value_refusals (length s) at (value_at 100 t s at)
value_told t s at =
    by_lt _ (length s) at (λ h. subst (ToldAt value_refusals (length s) at) (sym (value_past 100 t s at h)) (inr (refl, refl)))
    (λ h. within value_refusals at refl ((value_lawful 100 t).tells s at h))

pub raw_told : (t : ℕ) (s : List ℕ) (at : ℕ) → ToldAt value_refusals (length s) at (raw_at t s at)
raw_told t s at =
    by_bool _ (fixed t)
    (λ b. by_bool _ (leb (at + width_of t) (length s)) (λ l. rw (b, l) tt) (λ l. rw (b, l) (inr (refl, refl))))
    (λ b. rw b (inr (refl, refl)))

-- ---- a field at any position
wider_told : {A : Type 0} (hi at : ℕ) (x : Answer A) → ToldAt value_refusals hi at x → ToldAt message_refusals hi at x
wider_told hi at (got a next) t = tt
wider_told hi at (refused n place) (inl r) = inl (wider refl r)
wider_told hi at (refused n place) (inr r) = inr (wider_one value_refusals message_refusals refl n r.0, r.1)

then_told : {A B : Type 0} (hi at : ℕ) (x : Answer A) (k : A → ℕ → B) → ToldAt message_refusals hi at x → ToldAt message_refusals hi at (and_then x (λ a next. got (k a next) next))
then_told hi at (got a next) k t = tt
then_told hi at (refused n place) k t = t

encoded_told : (e : Encoding) (types : List ℕ) (k : ℕ) (s : List ℕ) (at : ℕ) → ToldAt message_refusals (length s) at (encoded_at e types k s at)
encoded_told Encoding.Variant types k s at = wider_told (length s) at (value_at 100 24 s at) (value_told 24 s at)
encoded_told Encoding.RawData types k s at =
    by_bool _ (leb (length types) k) (λ b. rw b (inl (no_place 8 refl))) (λ b. rw b (wider_told (length s) at (raw_at (get_or types k 0) s at) (raw_told (get_or types k 0) s at)))
encoded_told Encoding.DataValue types k s at = wider_told (length s) at (value_at 100 23 s at) (value_told 23 s at)

field_told : (delta : Bool) (e : Encoding) (types : List ℕ) (k : ℕ) (s : List ℕ) (at : ℕ) → ToldAt message_refusals (length s) at (field_at delta e types k s at)
field_told true e types k s at =
    by_lt _ (length s) at (λ h. rw (lt-leb (at + 2) (length s) (omega arith)) (inr (refl, refl)))
    (λ h. within message_refusals at refl ((field_lawful true e types k).tells s at h))
field_told false e types k s at = then_told (length s) at (encoded_at e types k s at) _ (encoded_told e types k s at)

padding_told : (s : List ℕ) (at : ℕ) → ToldAt message_refusals (length s) at (padding_at s at)
unfolding zeros_at
padding_told s at =
    by_lt _ (length s) at (λ h. let none : length s - at ≡ 0 = omega arith in rw none tt)
    (λ h. within message_refusals at refl (zeros_tells (length s - at) s at (omega arith)))

-- ---- the end of a message that was opened
zeros_told : (n : ℕ) (s : List ℕ) (at named : ℕ) → at + n ≤ length s → ToldAt end_refusals (length s) named (zeros_at n s at)
unfolding zeros_at
zeros_told zero s at named h = tt
zeros_told (suc n) s at named h =
    by_bool _ (eqb (get_or s at 0) 0) (λ b. rw b (zeros_told n s (at + 1) named (omega arith)))
    (λ b. rw b (inl (record { one = refl; nowhere = λ z. absurd (false≢true z); inside = omega arith })))

pub ended_told : (c : Cursor) (s : List ℕ) → ToldAt end_refusals (length s) c.at (ended_at c s)
ended_told c s = by_bool _ (ltb (length s) c.at) (λ b. rw b (inr (refl, refl))) (λ b. by_bool _ (ltb c.next c.count) (λ l. rw (b, l) (inr (refl, refl))) (λ l. rw (b, l) (after b)))
  where
    padded : (x : Answer (Unit {0})) → ToldAt end_refusals (length s) c.at x → ToldAt end_refusals (length s) c.at (and_then x (λ _ z. got (tt {0}) c.at))
    padded (got u z) t = tt
    padded (refused n place) t = t

    after : ltb (length s) c.at ≡ false → ToldAt end_refusals (length s) c.at (and_then (padding_at s c.at) (λ _ z. got (tt {0}) c.at))
    after b =
        let l : c.at ≤ length s = ltb-false (length s) c.at b in
        padded (padding_at s c.at) (zeros_told (length s - c.at) s c.at c.at (omega arith))

-- ---- what the front shows is refused as the front itself
abbrev is_bad : {A : Type 0} → Shown A → Bool
is_bad (shown a next) = false
is_bad (bad n place) = true
is_bad ends = false

abbrev bad_number : {A : Type 0} → Shown A → ℕ
bad_number (shown a next) = 0
bad_number (bad n place) = n
bad_number ends = 0

abbrev bad_place : {A : Type 0} → Shown A → ℕ
bad_place (shown a next) = 0
bad_place (bad n place) = place
bad_place ends = 0

same_refusal : {hi at m p n place : ℕ} → m ≡ n → p ≡ place → StepRefusal message_refusals m p hi at → StepRefusal message_refusals n place hi at
same_refusal {hi} {at} e q r = rw (sym e, sym q) r

shown_told : {A : Type 0} (hi at : ℕ) (x y : Answer A) → ToldAt message_refusals hi at x → (n place : ℕ) → shown_by x y ≡ bad n place → StepRefusal message_refusals n place hi at
shown_told hi at (got a next) y t n place e = absurd (false≢true (ap is_bad e))
shown_told {A} hi at (refused m p) y t n place e = go (eqb m CUT_SHORT) refl (past_by p y) e
  where
    go : (b : Bool) → eqb m CUT_SHORT ≡ b → (z : Bool) → ◌≡◌ {A = Shown A} (cond b (cond z (bad CUT_SHORT p) ends) (bad m p)) (bad n place) → StepRefusal message_refusals n place hi at
    go true cut true q = same_refusal (eqb-true m CUT_SHORT cut ∙ ap bad_number q) (ap bad_place q) t
    go true cut false q = absurd (false≢true (ap is_bad q))
    go false cut z q = same_refusal (ap bad_number q) (ap bad_place q) t

-- ---- opening the covered front
pub front_tells : (total : ℕ) (types f : List ℕ) → Tells message_others (length f) (front_to total types f)
front_tells total types f = then_tells (header_tells f) go
  where
    count : (k : Kind) (raw : Bool) (at : ℕ) → at ≤ length f → Tells message_others (length f) (count_to total k raw types f at)
    count Kind.Key raw at h = cond_tells (leb total at) (gives h) ((counted_lawful raw types).tells f at h)
    count Kind.Delta raw at h = (counted_lawful false types).tells f at h
    count Kind.Event raw at h = (counted_lawful raw types).tells f at h
    count Kind.KeepAlive raw at h = gives h

    go : (h : Valid Header) (at : ℕ) → at ≤ length f → Tells message_others (length f) (after_header_to total opened_at h types f at)
    go not_valid at u = gives {next = 0} (omega arith)
    go (valid h) at u = then_tells (count h.kind (is_raw h.encoding) at u) (λ n first v. gives v)

pub opening_told : (total : ℕ) (types f s : List ℕ) (n place : ℕ) → open_at total types f s ≡ Err (n, place) → Refusal message_refusals n place (length f)
opening_told total types f s n place e = go (front_shown total types f s) refl e
  where
    inside : StepRefusal message_refusals n place (length f) 0 → Refusal message_refusals n place (length f)
    inside (inl r) = r
    inside (inr r) = record { one = r.0; nowhere = λ z. r.1; inside = rw r.1 (omega arith) }

    go : (v : Shown (Valid Message)) → front_shown total types f s ≡ v → opens v ≡ Err (n, place) → Refusal message_refusals n place (length f)
    go (shown not_valid at) q i = absurd (false≢true (ap is_refused i))
    go (shown (valid m) at) q i = absurd (false≢true (ap is_refused i))
    go (bad a b) q i =
        inside (shown_told (length f) 0 (front_to total types f) (front_to total types s) (within message_refusals 0 refl (front_tells total types f)) n place
        (rw (sym (ap number_of i), sym (ap place_of i)) q))
    go ends q i = absurd (false≢true (ap is_refused i))

-- ---- a step from field to field
pub step_shown_told : (types f s : List ℕ) (c : Cursor) (n place : ℕ) → next_shown types f s c ≡ Err (n, place) → StepRefusal message_refusals n place (length f) c.at
step_shown_told types f s c n place e =
    by_bool _ (leb c.count c.next) (λ b. last (padding_at f c.at) (padding_told f c.at) (rw b at e)) (λ b. step (shown_at read f s c.at) refl (rw b at e))
  where
    read : Reader Field
    read = field_at c.delta c.encoding types c.next

    last : (x : Answer (Unit {0})) → ToldAt message_refusals (length f) c.at x → last_by x ≡ Err (n, place) → StepRefusal message_refusals n place (length f) c.at
    last (got u z) t i = absurd (false≢true (ap is_refused i))
    last (refused a b) t i = same_refusal (ap number_of i) (ap place_of i) t

    step : (v : Shown Field) → shown_at read f s c.at ≡ v → shown_step c v ≡ Err (n, place) → StepRefusal message_refusals n place (length f) c.at
    step (shown x end) q i = absurd (false≢true (ap is_refused i))
    step (bad a b) q i =
        shown_told (length f) c.at (read f c.at) (read s c.at) (field_told c.delta c.encoding types c.next f c.at) n place
        (rw (sym (ap number_of i), sym (ap place_of i)) q)
    step ends q i = absurd (false≢true (ap is_refused i))
