-- The records of a message's fields, step by step: what the loops over them keep, and how many there are at most.
-- Assumes nothing.
use Rattle.std.specs.Prelude.{Ok, Err}
use Prim.Native.Nat.{ℕ, zero, suc, ◌+◌, ◌*◌, ◌-◌, ◌≤◌, ◌<◌}
use mathlib.Core.Path.{◌≡◌, refl, ap, sym, ◌∙◌}
use mathlib.Core.Bool.{Bool, true, false, cond}
use mathlib.Core.List.{List, [], ◌∷◌}
use native.Mathlib.Omega.{arith}
use borrow.Author.Tests.{le-ltb, lt-leb}
use lib.Dec.{leb, ltb}
use lib.ListN.{length}
use lib.Seq.{sets, length-sets}
use Rattle.wire_writer.specs.Store.{laid}
use Rattle.records.specs.Numbers.{number_bytes}
use Rattle.wire.specs.Answer.{Answer, got, refused}
use Rattle.wire.proofs.Reading.{got_value, not_got, invert}
use Rattle.network_message.specs.declared.payload.MessagePlace.{MessagePlace}
use Rattle.dataset_header.specs.declared.flags.Encoding.{Encoding}
use Rattle.dataset_fields.specs.Fields.{encoded_at, index_at, field_at, fields_at, FieldStepped, next_field_at, cursor_before}
use Rattle.dataset_fields.specs.declared.fields.Field.{Field}
use Rattle.dataset_fields.specs.declared.fields.Cursor.{Cursor}
use Rattle.dataset_fields.proofs.Inside.{field_inside, index_within}
use Rattle.walk.specs.Lines.{in_datagram, fields_left}
use Rattle.walk_records.specs.Walk.{field_record, field_then, fields_from, record_laid, records_put}
use Rattle.walk_records.specs.Parts.{FieldsPut}
use Rattle.wire.specs.Refusal.{reason_number}
use Rattle.wire.specs.declared.refusal.Refusal.{Refusal}
use Rattle.walk_records.proofs.Records.{all_put, one_put}

length_laid : (l : List ℕ) (at : ℕ) (b : List ℕ) → length (laid l at b) ≡ length l
length_laid l at b = go (leb (at + length b) (length l))
  where
    go : (x : Bool) → length (cond x (sets l at b) l) ≡ length l
    go true = length-sets l at b
    go false = refl

offset_after : (delta : Bool) (encoding : Encoding) (types : List ℕ) (k : ℕ) (s : List ℕ) (q : ℕ) (f : Field) (e : ℕ)
    → field_at delta encoding types k s q ≡ got f e → q ≤ f.offset
offset_after delta encoding types k s q f e h =
    let a = invert (index_at delta k s q) (λ i o. _) h in
    let b = invert (encoded_at encoding types k s a.1) (λ m z. _) a.3 in
    let i = index_within delta k s q a.0 a.1 a.2 in
    let o : a.1 ≡ f.offset = ap (λ (x : Field). x.offset) (got_value b.3) in
    omega arith

module _ (types s : List ℕ) where
  abbrev field_of : Cursor → Answer Field
  field_of c = field_at c.delta c.encoding types c.next s c.at

  -- a step is the field's reading, where fields are left
  step_got : (c : Cursor) (f : Field) (e : ℕ) → c.next < c.count → field_of c ≡ got f e
      → next_field_at c types s ≡ got (record { field = f; cursor = cursor_before c (c.next + 1) e }) e
  step_got c f e h q =
      let i = field_inside c.delta c.encoding types c.next s c.at f e q in
      let l : c.at ≤ length s = i.starts in
      rw (le-ltb (length s) c.at l, lt-leb c.count c.next h, q)

  -- what an accepted step says of the positions
  step_moves : (c : Cursor) (x : FieldStepped) (e : ℕ) → next_field_at c types s ≡ got x e → (c.at < x.cursor.at) × (x.cursor.at ≤ length s)
  step_moves c x e q = go (ltb (length s) c.at) refl (leb c.count c.next) refl
    where
      go : (a : Bool) → ltb (length s) c.at ≡ a → (b : Bool) → leb c.count c.next ≡ b → (c.at < x.cursor.at) × (x.cursor.at ≤ length s)
      go true t b u = absurd (not_got (rw t at q))
      go false t true u = absurd (not_got (rw (t, u) at q))
      go false t false u =
          let (f, m, r, z) = invert (field_of c) _ (rw (t, u) at q) in
          let i = field_inside c.delta c.encoding types c.next s c.at f m r in
          let o = offset_after c.delta c.encoding types c.next s c.at f m r in
          rw (sym (got_value z)) (omega (arith, i.some, i.value, o), i.ends)

  module _ (p : MessagePlace) where
    -- the records from a cursor on: of the field that was read and those after it, or none
    fields_more : (c : Cursor) (f : Field) (e : ℕ) → c.next < c.count → field_of c ≡ got f e
        → fields_from types s p (fields_left c) c ≡ field_record p.index (in_datagram p f) ∷ fields_from types s p (c.count - (c.next + 1)) (cursor_before c (c.next + 1) e)
    unfolding fields_from
    fields_more c f e h q =
        let z : fields_left c ≡ suc (c.count - (c.next + 1)) = omega arith in
        rw (z, step_got c f e h q)

    fields_none : (c : Cursor) (n place : ℕ) → field_of c ≡ refused n place → fields_from types s p (fields_left c) c ≡ []
    unfolding fields_from
    fields_none c n place q = go (fields_left c) (ltb (length s) c.at) refl (leb c.count c.next) refl
      where
        go : (k : ℕ) (a : Bool) → ltb (length s) c.at ≡ a → (b : Bool) → leb c.count c.next ≡ b → fields_from types s p k c ≡ []
        go zero a t b u = refl
        go (suc k) true t b u = rw t
        go (suc k) false t true u = rw (t, u)
        go (suc k) false t false u = rw (t, u, q)

    fields_end : (c : Cursor) → c.count ≤ c.next → fields_from types s p (fields_left c) c ≡ []
    unfolding fields_from
    fields_end c h = let z : fields_left c ≡ 0 = omega arith in rw z

    -- each field has a byte of its own
    pub fields_few : (n : ℕ) (c : Cursor) → length (fields_from types s p n c) ≤ length s - c.at
    unfolding fields_from
    fields_few zero c = omega arith
    fields_few (suc n) c = go (λ d. fields_few n d) (next_field_at c types s) refl
      where
        go : ((d : Cursor) → length (fields_from types s p n d) ≤ length s - d.at) → (a : Answer FieldStepped) → next_field_at c types s ≡ a
            → length (field_then types s p (fields_from types s p n) a) ≤ length s - c.at
        go ih (got x e) q =
            let m = step_moves c x e q in
            let i = ih x.cursor in
            omega (arith, m.0, m.1)
        go ih (refused k place) q = omega arith

  -- ---- the fields that are read
  reads_more : (c : Cursor) (i at : ℕ) {f : Field} {e : ℕ} → i < c.count → field_at c.delta c.encoding types i s at ≡ got f e
      → fields_at c.delta c.encoding types (c.count - i) i s at ≡ fields_at c.delta c.encoding types (c.count - (i + 1)) (i + 1) s e
  unfolding fields_at
  reads_more c i at l g = let z : c.count - i ≡ suc (c.count - (i + 1)) = omega arith in rw (z, g)

  reads_none : (c : Cursor) (i at : ℕ) {n place : ℕ} → i < c.count → field_at c.delta c.encoding types i s at ≡ refused n place
      → fields_at c.delta c.encoding types (c.count - i) i s at ≡ refused n place
  unfolding fields_at
  reads_none c i at l g = let z : c.count - i ≡ suc (c.count - (i + 1)) = omega arith in rw (z, g)

  reads_end : (c : Cursor) (i at : ℕ) → c.count ≤ i → fields_at c.delta c.encoding types (c.count - i) i s at ≡ got tt at
  unfolding fields_at
  reads_end c i at h = let z : c.count - i ≡ 0 = omega arith in rw z

-- ---- a loop over the fields from the cursor c on, before field i at a byte, with record k next: what is left gives the same answer, the
-- same number of records and the same buffer as all
pub record Going (types s : List ℕ) (p : MessagePlace) (c : Cursor) (first : ℕ) (entry out : List ℕ) (at i k : ℕ) : Type 0 where
  pub long : length out ≡ length entry
  pub answer : fields_at c.delta c.encoding types (c.count - i) i s at ≡ fields_at c.delta c.encoding types (fields_left c) c.next s c.at
  pub buffer : records_put k (fields_from types s p (c.count - i) (cursor_before c i at)) out ≡ records_put first (fields_from types s p (fields_left c) c) entry
  pub number : k + length (fields_from types s p (c.count - i) (cursor_before c i at)) ≡ first + length (fields_from types s p (fields_left c) c)

-- a field of the loop's encoding
pub encoded_as : (c : Cursor) (encoding : Encoding) (types : List ℕ) (i : ℕ) (s : List ℕ) (at : ℕ) {a : Answer Field} → c.encoding ≡ encoding
    → a ≡ field_at c.delta encoding types i s at → field_at c.delta c.encoding types i s at ≡ a
encoded_as c encoding types i s at e q = ap (λ (x : Encoding). field_at c.delta x types i s at) e ∙ sym q

module _ (types s : List ℕ) (p : MessagePlace) (c : Cursor) (first : ℕ) (entry : List ℕ) where
  pub going_start : Going types s p c first entry entry c.at c.next first
  going_start = record { long = refl; answer = refl; buffer = refl; number = refl }

  module _ (out : List ℕ) (at i k : ℕ) (g : Going types s p c first entry out at i k) where
    pub going_refused : (r : Refusal) → i < c.count → field_at c.delta c.encoding types i s at ≡ refused (reason_number r.reason) r.place
        → FieldsPut types s p c first (k, Err r) entry out
    going_refused r l q =
        let a = all_put (fields_from types s p (c.count - i) (cursor_before c i at)) k out _ _ g.buffer g.number (fields_none types s p (cursor_before c i at) _ _ q) in
        record { answer = sym (reads_none types s c i at l q) ∙ g.answer; number = a.0; buffer = a.1 }

    pub going_end : c.count ≤ i → FieldsPut types s p c first (k, Ok at) entry out
    going_end h =
        let a = all_put (fields_from types s p (c.count - i) (cursor_before c i at)) k out _ _ g.buffer g.number (fields_end types s p (cursor_before c i at) h) in
        record { answer = sym (reads_end types s c i at h) ∙ g.answer; number = a.0; buffer = a.1 }

    module _ {f : Field} {e : ℕ} (l : i < c.count) (q : field_at c.delta c.encoding types i s at ≡ got f e) where
      pub going_on : (exit : List ℕ) → exit ≡ record_laid k (field_record p.index (in_datagram p f)) out → Going types s p c first entry exit e (i + 1) (k + 1)
      going_on exit u =
          let a = one_put (fields_from types s p (c.count - i) (cursor_before c i at)) k out _ _ g.buffer g.number _ _ exit
          (fields_more types s p (cursor_before c i at) f e l q) u in
          record {
            long = ap length u ∙ length_laid out (80 * k) (number_bytes (field_record p.index (in_datagram p f))) ∙ g.long;
            answer = sym (reads_more types s c i at l q) ∙ g.answer;
            buffer =
                a.0;
            number = a.1;
          }

      -- the number of the next record, and the field's offset in the datagram, are numbers of 8 bytes
      pub next_fits : first + length s ≤ 18446744073709551615 → k + 1 ≤ 18446744073709551615
      next_fits b =
          let z = ap length (fields_more types s p (cursor_before c i at) f e l q) in
          omega (arith, g.number, fields_few types s p (fields_left c) c)

      pub offset_fits : p.offset + length s ≤ 18446744073709551615 → p.offset + f.offset ≤ 18446744073709551615
      offset_fits b =
          let j = field_inside c.delta c.encoding types i s at f e q in
          omega (arith, j.ends, j.value)
