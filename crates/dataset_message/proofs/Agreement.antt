-- The walk with the cursor and the reading of the whole message agree, field by field; a field that is accepted is never empty.
-- Assumes nothing.
use Prim.Native.Nat.{ℕ, zero, suc, ◌+◌, ◌≤◌, ◌<◌}
use mathlib.Core.Path.{◌≡◌, refl, ap, sym, ◌∙◌}
use mathlib.Core.Bool.{Bool, true, false}
use mathlib.Core.List.{List}
use native.Mathlib.Nat.{add-zero, zero-add}
use native.Mathlib.Numerals.{add-one}
use native.Mathlib.Omega.{arith}
use lib.Dec.{leb}
use lib.ListN.{length}
use borrow.Author.Tests.{le-leb, lt-leb, leb-true, leb-false, le-ltb}
use Rattle.dataset_fields.specs.Fields.{field_at, fields_at, padding_at, next_field_at, walk_at, cursor_before}
use Rattle.dataset_header.specs.declared.header.Header.{Header}
use Rattle.dataset_header.specs.Flags.{Valid, not_valid, valid, is_delta, is_raw}
use Rattle.dataset_header.specs.Header.{message_header_at}
use Rattle.dataset_message.specs.Message.{Message, count_at, end_at, body_at, after_header, message_at, nth_at}
use Rattle.dataset_header.specs.declared.flags.Encoding.{Encoding}
use Rattle.dataset_fields.specs.declared.fields.Field.{Field}
use Rattle.dataset_fields.specs.declared.fields.Cursor.{Cursor}
use Rattle.wire.specs.Answer.{Answer, got, refused, and_then}
use Rattle.wire.proofs.Reading.{got_value, got_next, invert}
use Rattle.dataset_fields.proofs.Inside.{field_inside, Inside}

abbrev done : ℕ → Answer (Unit {0})
done z = got tt z

module _ (delta : Bool) (encoding : Encoding) (types s : List ℕ) where
  -- the last of n + 1 fields comes after the first n
  fields_snoc : (n k p : ℕ) → fields_at delta encoding types (suc n) k s p
      ≡ and_then (fields_at delta encoding types n k s p) (λ _ q. and_then (field_at delta encoding types (k + n) s q) (λ _ r. done r))
  unfolding fields_at
  fields_snoc zero k p = ap (λ (j : ℕ). and_then (field_at delta encoding types j s p) (λ _ r. done r)) (sym (add-zero k))
  fields_snoc (suc n) k p = go (field_at delta encoding types k s p) (λ r. fields_snoc n (k + 1) r)
    where
      same : (r : ℕ) → and_then (fields_at delta encoding types n (k + 1) s r) (λ _ q. and_then (field_at delta encoding types (k + 1 + n) s q) (λ _ z. done z))
          ≡ and_then (fields_at delta encoding types n (k + 1) s r) (λ _ q. and_then (field_at delta encoding types (k + suc n) s q) (λ _ z. done z))
      same r = let e : k + 1 + n ≡ k + suc n =
          omega arith in ap (λ (j : ℕ). and_then (fields_at delta encoding types n (k + 1) s r) (λ _ q. and_then (field_at delta encoding types j s q) (λ _ z. done z))) e

      go : (x : Answer Field) → ((r : ℕ)
          → fields_at delta encoding types (suc n) (k + 1) s r ≡ and_then (fields_at delta encoding types n (k + 1) s r)
          (λ _ q. and_then (field_at delta encoding types (k + 1 + n) s q) (λ _ z. done z)))
          → and_then x (λ _ r. fields_at delta encoding types (suc n) (k + 1) s r)
          ≡ and_then (and_then x (λ _ r. fields_at delta encoding types n (k + 1) s r)) (λ _ q. and_then (field_at delta encoding types (k + suc n) s q) (λ _ z. done z))
      go (got f r) ih = ih r ∙ same r
      go (refused m z) ih = refl

-- an accepted field at the end of some, taken apart
snoc_got : (x : Answer (Unit {0})) (g : ℕ → Answer Field) (e : ℕ) → and_then x (λ _ q. and_then (g q) (λ _ r. done r)) ≡ got tt e
    → (q : ℕ) × (f : Field) × (x ≡ got tt q) × (g q ≡ got f e)
snoc_got x g e h =
    let a = invert x (λ _ q. and_then (g q) (λ _ r. done r)) h in
    let b = invert (g a.1) (λ _ r. done r) a.3 in
    (a.1, b.0, a.2, b.2 ∙ ap (λ (n : ℕ). got b.0 n) (got_next b.3))

start_is : (c : Cursor) (types s : List ℕ) (q : ℕ) → c.next ≡ 0 → fields_at c.delta c.encoding types zero 0 s c.at ≡ got tt q → got c c.at ≡ got (cursor_before c zero q) q
unfolding fields_at
start_is c types s q z h =
    let e : c.at ≡ q = got_next h in
    λ i. got (record { encoding = c.encoding; delta = c.delta; next = z i; count = c.count; at = e i }) (e i)

-- Of a cursor c before its first field whose fields are accepted, ending at e, what the walk gives.
module _ (c : Cursor) (types s : List ℕ) where
  abbrev passed : ℕ → Answer (Unit {0})
  passed n = fields_at c.delta c.encoding types n 0 s c.at

  abbrev field : ℕ → ℕ → Answer Field
  field k q = field_at c.delta c.encoding types k s q

  last_field : (n e : ℕ) → passed (suc n) ≡ got tt e → (q : ℕ) × (f : Field) × (passed n ≡ got tt q) × (field n q ≡ got f e)
  last_field n e h =
      snoc_got (passed n) (field n) e
      (ap (λ (j : ℕ). and_then (passed n) (λ _ q. and_then (field j q) (λ _ r. done r))) (sym (zero-add n)) ∙ sym (fields_snoc c.delta c.encoding types s n 0 c.at) ∙ h)

  -- one step, at a field that is accepted
  step_is : (k q e : ℕ) (f : Field) → k < c.count → field k q ≡ got f e → next_field_at (cursor_before c k q) types s ≡ got (record { field = f; cursor = cursor_before c (k + 1) e }) e
  step_is k q e f l h =
      let i = field_inside c.delta c.encoding types k s q f e h in
      rw (le-ltb (length s) q i.starts, lt-leb c.count k l, h)

  -- k steps
  walk_is : (k q : ℕ) → k ≤ c.count → c.next ≡ 0 → passed k ≡ got tt q → walk_at c types k s ≡ got (cursor_before c k q) q
  unfolding walk_at
  walk_is zero q l z h = start_is c types s q z h
  walk_is (suc k) q l z h =
      let a = last_field k q h in
      rw (walk_is k a.0 (omega arith) z a.2, step_is k a.0 q a.1 l a.3) (ap (λ (j : ℕ). got (cursor_before c j q) q) (add-one k))

  -- every field below one that is passed is passed too
  passed_below : (n e k : ℕ) → k ≤ n → passed n ≡ got tt e → (q : ℕ) × (passed k ≡ got tt q)
  passed_below zero e k l h = let z : k ≡ zero = omega arith in (e, ap passed z ∙ h)
  passed_below (suc n) e k l h = go (λ m. let a = last_field n e h in passed_below n a.0 k m a.2) (leb k n) refl
    where
      go : (k ≤ n → (q : ℕ) × (passed k ≡ got tt q)) → (b : Bool) → leb k n ≡ b → (q : ℕ) × (passed k ≡ got tt q)
      go ih true t = ih (leb-true k n t)
      go ih false t = let m : n < k = leb-false k n t in let z : k ≡ suc n = omega arith in (e, ap passed z ∙ h)

-- What the walk from the cursor c says of field k, beside what lookup says of it: it starts at `at` and is `place`; the cursor is
-- before it after k steps, steps over it to `end`, and lookup gives the same place.
pub record Agrees (c : Cursor) (types s : List ℕ) (k : ℕ) : Type 0 where
  pub at : ℕ
  pub end : ℕ
  pub place : Field
  pub inside : Inside s at place end
  pub walked : walk_at c types k s ≡ got (cursor_before c k at) at
  pub stepped : next_field_at (cursor_before c k at) types s ≡ got (record { field = place; cursor = cursor_before c (k + 1) end }) end
  pub looked_up : nth_at c types k s ≡ got place end
  pub passed : fields_at c.delta c.encoding types k 0 s c.at ≡ got tt at
  pub passed_too : fields_at c.delta c.encoding types (suc k) 0 s c.at ≡ got tt end
  pub read : field_at c.delta c.encoding types k s at ≡ got place end

-- Stepping through all fields visits exactly the fields that reading the whole message accepts, in their order.
walk_agrees : (c : Cursor) (types s : List ℕ) (e : ℕ) → c.next ≡ 0 → fields_at c.delta c.encoding types c.count 0 s c.at ≡ got tt e
    → (k : ℕ) → k < c.count → Agrees c types s k
walk_agrees c types s e z h k l =
    let b = passed_below c types s c.count e (suc k) l h in
    let a = last_field c types s k b.0 b.1 in
    record {
      at = a.0;
      end = b.0;
      place = a.1;
      inside = field_inside c.delta c.encoding types k s a.0 a.1 b.0 a.3;
      walked = walk_is c types s k a.0 (omega arith) z a.2;
      stepped = step_is c types s k a.0 b.0 a.1 l a.3;
      looked_up = rw (lt-leb c.count k l, a.2, a.3);
      passed = a.2;
      passed_too = b.1;
      read = a.3;
    }

-- and a step after the last is 10
pub walk_ends : (c : Cursor) (types s : List ℕ) (q : ℕ) → q ≤ length s → next_field_at (cursor_before c c.count q) types s ≡ refused 10 0
walk_ends c types s q h = rw (le-ltb (length s) q h, le-leb c.count c.count (omega arith))

-- What an accepted message tells of its fields: they were passed from the cursor's byte to `end`, where its reading ends, and the cursor is
-- before the first; after them stands padding.
pub record Read (types s : List ℕ) (m : Message) (e : ℕ) : Type 0 where
  pub first : m.cursor.next ≡ 0
  pub passed : fields_at m.cursor.delta m.cursor.encoding types m.cursor.count 0 s m.cursor.at ≡ got tt m.end
  pub ends : m.end ≡ e
  pub padding : (z : ℕ) × (padding_at s m.end ≡ got tt z)

end_read : (h : Header) (c : Cursor) (types s : List ℕ) (m : Message) (e : ℕ) → c.next ≡ 0 → end_at h c types s ≡ got (valid m) e → Read types s m e
end_read h c types s m e z q =
    let a = invert (fields_at c.delta c.encoding types c.count 0 s c.at) (λ _ n. _) q in
    let b = invert (padding_at s a.1) (λ _ y. _) a.3 in
    let v : valid (record { header = h; cursor = c; end = a.1 }) ≡ valid m = got_value b.3 in
    let n : ◌≡◌ {A = Message} (record { header = h; cursor = c; end = a.1 }) m = cc in
    rw (sym n) (record { first = z; passed = a.2; ends = got_next b.3; padding = (b.1, b.2) })

body_read : (h : Header) (types s : List ℕ) (at : ℕ) (m : Message) (e : ℕ) → body_at h types s at ≡ got (valid m) e → Read types s m e
body_read h types s at m e q =
    let a = invert (count_at h.kind (is_raw h.encoding) types s at) (λ n first. _) q in
    end_read h (record { encoding = h.encoding; delta = is_delta h.kind; next = 0; count = a.0; at = a.1 }) types s m e refl a.3

header_read : (v : Valid Header) (types s : List ℕ) (at : ℕ) (m : Message) (e : ℕ) → after_header v types s at ≡ got (valid m) e → Read types s m e
header_read not_valid types s at m e q =
    let v : ◌≡◌ {A = Valid Message} not_valid (valid m) = got_value q in
    let z : ◌≡◌ {A = ℕ} 0 1 = cc in
    absurd (omega arith)
header_read (valid h) types s at m e q = body_read h types s at m e q

pub message_read : (types s : List ℕ) (m : Message) (e : ℕ) → message_at types s ≡ got (valid m) e → Read types s m e
message_read types s m e q =
    let a = invert (message_header_at s 0) (λ v at. _) q in
    header_read a.0 types s a.1 m e a.3

-- the header of an accepted message is the one that was read
body_header : (v : Valid Header) (types s : List ℕ) (at : ℕ) (m : Message) (e : ℕ) → after_header v types s at ≡ got (valid m) e → v ≡ valid m.header
body_header not_valid types s at m e q =
    let v : ◌≡◌ {A = Valid Message} not_valid (valid m) = got_value q in
    let z : ◌≡◌ {A = ℕ} 0 1 = cc in
    absurd (omega arith)
body_header (valid h) types s at m e q =
    let a = invert (count_at h.kind (is_raw h.encoding) types s at) (λ n first. _) q in
    let c : Cursor = record { encoding = h.encoding; delta = is_delta h.kind; next = 0; count = a.0; at = a.1 } in
    let b = invert (fields_at c.delta c.encoding types c.count 0 s c.at) (λ _ n. _) a.3 in
    let p = invert (padding_at s b.1) (λ _ y. _) b.3 in
    let v : valid (record { header = h; cursor = c; end = b.1 }) ≡ valid m = got_value p.3 in
    let n : ◌≡◌ {A = Message} (record { header = h; cursor = c; end = b.1 }) m = cc in
    ap (λ (x : Message). valid x.header) n

pub header_of : (types s : List ℕ) (m : Message) (e : ℕ) → message_at types s ≡ got (valid m) e → (at : ℕ) × (message_header_at s 0 ≡ got (valid m.header) at)
header_of types s m e q =
    let a = invert (message_header_at s 0) (λ v at. _) q in
    (a.1, a.2 ∙ ap (λ (v : Valid Header). got v a.1) (body_header a.0 types s a.1 m e a.3))

-- The walk over an accepted message visits exactly its fields, in their order, and lookup gives the same places.
pub message_agrees : (types s : List ℕ) (m : Message) (e : ℕ) → message_at types s ≡ got (valid m) e → (k : ℕ) → k < m.cursor.count → Agrees m.cursor types s k
message_agrees types s m e q k l =
    let r = message_read types s m e q in
    walk_agrees m.cursor types s m.end r.first r.passed k l
