-- The records of a datagram's messages, and how many there are at most.
-- Assumes nothing.
use Rattle.std.specs.Prelude.{Option, Result, Ok, Err}
use Prim.Native.Nat.{ℕ, zero, suc, ◌+◌, ◌-◌, ◌≤◌}
use mathlib.Core.Path.{◌≡◌, refl, ap, sym, subst, ◌∙◌}
use mathlib.Core.Bool.{Bool, true, false}
use mathlib.Core.List.{List, [], ◌∷◌, ◌++◌}
use native.Mathlib.Omega.{arith}
use borrow.Author.Tests.{leb-true}
use lib.Dec.{leb}
use lib.ListN.{length, take, drop, length-append, length-take, length-drop}
use Rattle.wire.specs.Answer.{Answer, got, refused, and_then}
use Rattle.wire.proofs.Reading.{got_value, got_next, not_got, invert}
use Rattle.config.specs.Writers.{types_by}
use Rattle.network_message.specs.Payload.{PlaceStepped, place_step_at, size_of_message, place_of_message}
use Rattle.network_message.specs.declared.payload.Payload.{Payload}
use Rattle.network_message.specs.declared.payload.MessagePlace.{MessagePlace}
use Rattle.network_message.specs.declared.payload.MessageCursor.{MessageCursor}
use Rattle.network_message.proofs.Messages.{message_counted}
use Rattle.dataset_header.specs.Flags.{Valid, not_valid, valid, encoding_number, kind_number}
use Rattle.dataset_header.specs.declared.header.Header.{Header}
use Rattle.dataset_fields.specs.Fields.{fields_at, padding_at}
use Rattle.dataset_fields.specs.declared.fields.Cursor.{Cursor}
use Rattle.dataset_message.specs.Message.{Message, end_at, message_at, front_at}
use Rattle.dataset_message.proofs.Fronts.{front_decides}
use Rattle.walk.specs.Lines.{Writers, fields_left, messages_left, first_message, writer_at, types_at, bytes_at}
use Rattle.walk.specs.declared.lines.Listed.{Listed}
use Rattle.walk_records.specs.Walk.{or_none, message_record, fields_from, set_place, fields_by, encoding_by, message_record_by, message_records, message_then, messages_from, payload_records, record_laid, records_put}
use Rattle.walk_records.specs.Parts.{set_from, bare, RestPut, RecordsPut, opened_records}
use Rattle.wire.specs.Refusal.{reason_number}
use Rattle.wire.specs.declared.refusal.Refusal.{Refusal}
use Rattle.walk_records.proofs.Records.{some_put, put_last}
use Rattle.walk_records.proofs.Fields.{fields_few}

-- ---- what is ensured of an answer, at the constructor that it turned out to be
module _ {types s : List ℕ} {p : MessagePlace} {c : Cursor} {k n : ℕ} {entry exit : List ℕ} {x y : Result ℕ Refusal} where
  pub rest_told : RestPut types s p c k (n, x) entry exit → x ≡ y → RestPut types s p c k (n, y) entry exit
  rest_told f q = subst (λ (r : Result ℕ Refusal). RestPut types s p c k (n, r) entry exit) q f

-- ---- the fields and the padding
abbrev with_padding : List ℕ → Answer (Unit {0}) → Answer (Unit {0})
with_padding s x = and_then x (λ _ end. and_then (padding_at s end) (λ _ z. got tt end))

-- ---- a message that was read up to its first field
module _ (types s : List ℕ) (h : Header) (c : Cursor) where
  abbrev whole : Answer (Unit {0}) → Answer (Valid Message)
  whole x = and_then x (λ _ end. and_then (padding_at s end) (λ _ z. got (valid (record { header = h; cursor = c; end = end })) end))

  abbrev finished : Answer (Unit {0}) → Answer (Valid Message)
  finished x = and_then x (λ _ end. got (valid (record { header = h; cursor = c; end = end })) end)

  padded : (end : ℕ) (y : Answer (Unit {0})) {v : Answer (Unit {0})} → v ≡ and_then y (λ _ z. got tt end)
      → and_then y (λ _ z. got (valid (record { header = h; cursor = c; end = end })) end) ≡ finished v
  padded end (got tt z) q = ap finished (sym q)
  padded end (refused n place) q = ap finished (sym q)

  ended : (x : Answer (Unit {0})) {v : Answer (Unit {0})} → v ≡ with_padding s x → whole x ≡ finished v
  ended (got tt end) q = padded end (padding_at s end) q
  ended (refused n place) q = ap finished (sym q)

  -- how its fields and padding went is how it went
  message_ends : {v : Answer (Unit {0})} → c.next ≡ 0 → v ≡ with_padding s (fields_at c.delta c.encoding types (fields_left c) c.next s c.at)
      → end_at h c types s ≡ finished v
  message_ends z q =
      let n : c.count - c.next ≡ c.count = omega arith in
      ended (fields_at c.delta c.encoding types c.count 0 s c.at) (rw (n, z) at q)

module _ (types s : List ℕ) (p : MessagePlace) (w : Option ℕ) (h : Header) (c : Cursor) (k : ℕ) (entry mid exit : List ℕ) (z : c.next ≡ 0) where
  abbrev fs : List (List ℕ)
  fs = fields_from types s p (fields_left c) c

  -- its record, put after those of its fields
  last_put : (x y : List ℕ) (next : ℕ) → length x ≡ 10 → x ≡ y → next ≡ k + 1 + length fs → mid ≡ records_put (k + 1) fs entry → exit ≡ record_laid k x mid → RecordsPut (y ∷ fs) k next entry exit
  last_put x y next n e i b q =
      record {
        number = omega arith;
        buffer = q ∙ ap (record_laid k x) b ∙ put_last fs x entry k (k + 1) n (omega arith) ∙ ap (λ (t : List ℕ). records_put (k + 1) fs (record_laid k t entry)) e;
      }

  pub refused_last : (next : ℕ) (r : Refusal) (told b : ℕ) → RestPut types s p c (k + 1) (next, Err r) entry mid → told ≡ next - (k + 1) → b ≡ encoding_number h.encoding
      → exit ≡ record_laid k (message_record (set_place [] [] p w) 3 (reason_number r.reason) r.place told b) mid → RecordsPut (opened_records types s p w h c) k next entry exit
  refused_last next r told b f t e q =
      let n = reason_number r.reason in
      let m : end_at h c types s ≡ refused n r.place = message_ends types s h c z f.answer in
      let i : told ≡ length fs = omega (arith, f.number) in
      let same : message_record (set_place [] [] p w) 3 n r.place told b ≡ message_record (set_place [] [] p w) 3 n r.place (length fs) (encoding_number h.encoding) =
      ap (λ (x : ℕ). message_record (set_place [] [] p w) 3 n r.place x b) i ∙ ap (message_record (set_place [] [] p w) 3 n r.place (length fs)) e in
      rw m (last_put _ _ next refl same f.number f.buffer q)

  pub done_last : (next end a b x : ℕ) → RestPut types s p c (k + 1) (next, Ok end) entry mid → a ≡ kind_number h.kind → b ≡ encoding_number h.encoding
      → x ≡ or_none h.sequence → exit ≡ record_laid k (message_record (set_place [] [] p w) 1 a b x 0) mid → RecordsPut (opened_records types s p w h c) k next entry exit
  done_last next end a b x r ka kb kx q =
      let m : end_at h c types s ≡ got (valid (record { header = h; cursor = c; end = end })) end = message_ends types s h c z r.answer in
      let same : message_record (set_place [] [] p w) 1 a b x 0 ≡ message_record (set_place [] [] p w) 1 (kind_number h.kind) (encoding_number h.encoding) (or_none h.sequence) 0 =
      ap (λ (n : ℕ). message_record (set_place [] [] p w) 1 n b x 0) ka ∙ ap (λ (n : ℕ). message_record (set_place [] [] p w) 1 (kind_number h.kind) n x 0) kb
      ∙ ap (λ (n : ℕ). message_record (set_place [] [] p w) 1 (kind_number h.kind) (encoding_number h.encoding) n 0) kx in
      rw m (last_put _ _ next refl same r.number r.buffer q)

-- ---- one message, whose bytes are its own part of the datagram d
module _ (types d bytes : List ℕ) (p : MessagePlace) (w : Option ℕ) (k : ℕ) (entry : List ℕ) (b : bytes ≡ take p.length (drop p.offset d)) where
  alone : (x : List ℕ) (exit : List ℕ) → message_records types bytes p w ≡ x ∷ [] → exit ≡ record_laid k x entry → RecordsPut (set_from types p w d) k (k + 1) entry exit
  alone x exit s q = rw (sym b, s) (record { number = refl; buffer = q })

  pub invalid_put : (exit : List ℕ) → got not_valid 0 ≡ front_at types bytes → exit ≡ record_laid k (message_record (set_place [] [] p w) 2 0 0 0 0) entry
      → RecordsPut (set_from types p w d) k (k + 1) entry exit
  invalid_put exit a q = alone (message_record (set_place [] [] p w) 2 0 0 0 0) exit (rw (front_decides types bytes (got not_valid 0) a, sym a)) q

  pub refused_put : (exit : List ℕ) (n place : ℕ) → refused n place ≡ front_at types bytes → exit ≡ record_laid k (message_record (set_place [] [] p w) 3 n place 0 0) entry
      → RecordsPut (set_from types p w d) k (k + 1) entry exit
  refused_put exit n place a q = alone (message_record (set_place [] [] p w) 3 n place 0 0) exit (rw (front_decides types bytes (refused n place) a, sym a)) q

  pub opened_put : (exit : List ℕ) (m : Message) (n next : ℕ) → got (valid m) n ≡ front_at types bytes → RecordsPut (opened_records types bytes p w m.header m.cursor) k next entry exit
      → RecordsPut (set_from types p w d) k next entry exit
  opened_put exit m n next a r = rw (sym b, front_decides types bytes (got (valid m) n) a, sym a) r

  -- numbers of 8 bytes
  pub part_fits : k + 1 + length d ≤ 18446744073709551615 → p.offset ≤ 18446744073709551615
      → (k + 1 + length bytes ≤ 18446744073709551615) × (p.offset + length bytes ≤ 18446744073709551615)
  part_fits h o =
      let z = simp (length-take, length-drop) at (ap length b) in
      (omega arith, omega arith)

-- a message has at most as many records as bytes, and one more
one_more : (x : List ℕ) (xs : List (List ℕ)) (n : ℕ) → length xs ≤ n → length (x ∷ xs) ≤ 1 + n
one_more x xs n h = omega arith

fields_by_few : (types s : List ℕ) (p : MessagePlace) (a : Answer (Valid Message)) → length (fields_by types s p a) ≤ length s
fields_by_few types s p (got not_valid next) = omega arith
fields_by_few types s p (got (valid m) next) = let i = fields_few types s p (fields_left m.cursor) m.cursor in omega arith
fields_by_few types s p (refused n place) = omega arith

records_few : (types s : List ℕ) (p : MessagePlace) (w : Option ℕ) → length (message_records types s p w) ≤ 1 + length s
records_few types s p w =
    one_more (message_record_by (set_place types s p w) (length (fields_by types s p (front_at types s))) (encoding_by types s p (front_at types s)) (message_at types s))
    (fields_by types s p (front_at types s)) (length s) (fields_by_few types s p (front_at types s))

-- where an accepted message's place ends
place_ends : (p : Payload) (sizes : List ℕ) (k : ℕ) (d : List ℕ) (at : ℕ) (m : MessagePlace) (n : ℕ) → place_of_message p sizes k d at ≡ got m n
    → (n ≡ at + m.length) × (n ≤ length d)
place_ends p sizes k d at m n e = go (leb p.count k) refl (leb (at + size_of_message p.sizes sizes k d at) (length d)) refl
  where
    go : (a : Bool) → leb p.count k ≡ a → (b : Bool) → leb (at + size_of_message p.sizes sizes k d at) (length d) ≡ b → (n ≡ at + m.length) × (n ≤ length d)
    go true t b u = absurd (not_got (rw t at e))
    go false t false u = absurd (not_got (rw (t, u) at e))
    go false t true u =
        let f : at + size_of_message p.sizes sizes k d at ≤ length d = leb-true (at + size_of_message p.sizes sizes k d at) (length d) u in
        let z : got (record { index = k; offset = at; length = size_of_message p.sizes sizes k d at }) (at + size_of_message p.sizes sizes k d at) ≡ got m n = rw (t, u) at e in
        let a : at + size_of_message p.sizes sizes k d at ≡ n = got_next z in
        let b : size_of_message p.sizes sizes k d at ≡ m.length = ap (λ (x : MessagePlace). x.length) (got_value z) in
        (omega arith, omega arith)

-- ---- the messages from a cursor on
module _ (w : Writers) (d : List ℕ) where
  abbrev message_of : Listed → MessageCursor → Answer PlaceStepped
  message_of l c = place_step_at l.payload w.sizes c d

  -- what an accepted step says: one message was left, one fewer is left after it, and where it ends
  pub record Passed (l : Listed) (c : MessageCursor) (x : PlaceStepped) : Type 0 where
    pub left : messages_left l c ≡ suc (messages_left l x.cursor)
    pub next : x.cursor.at ≡ c.at + x.place.length
    pub ends : x.cursor.at ≤ length d

  pub passed : (l : Listed) (c : MessageCursor) (x : PlaceStepped) (n : ℕ) → message_of l c ≡ got x n → Passed l c x
  passed l c x n e =
      let (m, q, r, z) = invert (place_of_message l.payload w.sizes c.index d c.at) _ e in
      let h = message_counted l.payload w.sizes c.index d c.at m q r in
      let i = place_ends l.payload w.sizes c.index d c.at m q r in
      rw (sym (got_value z)) (record { left = omega arith; next = i.0; ends = i.1 })

  messages_more : (l : Listed) (c : MessageCursor) (x : PlaceStepped) (n : ℕ) → message_of l c ≡ got x n
      → messages_from w d (messages_left l c) l c ≡ set_from (types_at w d l x.place) x.place (writer_at w d l x.place) d ++ messages_from w d (messages_left l x.cursor) l x.cursor
  unfolding messages_from
  messages_more l c x n e = rw ((passed l c x n e).left, e)

  messages_by : (l : Listed) (c : MessageCursor) (x : PlaceStepped) (n : ℕ) (v : Option ℕ) (types : List ℕ) → message_of l c ≡ got x n
      → v ≡ writer_at w d l x.place → types ≡ types_by w v
      → messages_from w d (messages_left l c) l c ≡ set_from types x.place v d ++ messages_from w d (messages_left l x.cursor) l x.cursor
  messages_by l c x n v types e q r =
      let s : set_from types x.place v d ≡ set_from (types_at w d l x.place) x.place (writer_at w d l x.place) d =
      ap (λ (t : List ℕ). set_from t x.place v d) r ∙ ap (λ (o : Option ℕ). set_from (types_by w o) x.place o d) q in
      messages_more l c x n e ∙ ap (λ (t : List (List ℕ)). t ++ messages_from w d (messages_left l x.cursor) l x.cursor) (sym s)

  pub messages_none : (l : Listed) (c : MessageCursor) (n place : ℕ) → message_of l c ≡ refused n place → messages_from w d (messages_left l c) l c ≡ []
  unfolding messages_from
  messages_none l c n place e = go (messages_left l c)
    where
      go : (k : ℕ) → messages_from w d k l c ≡ []
      go zero = refl
      go (suc k) = rw e

  messages_few : (l : Listed) (n : ℕ) (c : MessageCursor) → length (messages_from w d n l c) ≤ n + (length d - c.at)
  unfolding messages_from
  messages_few l zero c = omega arith
  messages_few l (suc n) c = go (λ x. messages_few l n x) (message_of l c) refl
    where
      go : ((x : MessageCursor) → length (messages_from w d n l x) ≤ n + (length d - x.at)) → (a : Answer PlaceStepped) → message_of l c ≡ a
          → length (message_then w d l (messages_from w d n l) a) ≤ suc n + (length d - c.at)
      go ih (got x e) q =
          let p : MessagePlace = x.place in
          let m = passed l c x e q in
          let i = ih x.cursor in
          let s = records_few (types_at w d l p) (bytes_at w d p) p (writer_at w d l p) in
          omega (
            arith,
            m.next,
            m.ends,
            length-append (message_records (types_at w d l p) (bytes_at w d p) p (writer_at w d l p)) (messages_from w d n l x.cursor),
            length-take p.length (drop p.offset d),
          )
      go ih (refused k place) q = omega arith

  -- the PublisherId does not matter
  pub bare_same : (n : ℕ) (l : Listed) (c : MessageCursor) → messages_from w d n (bare l.header l.header_end l.payload) c ≡ messages_from w d n l c
  unfolding messages_from
  bare_same zero l c = refl
  bare_same (suc n) l c = go (λ x. bare_same n l x) (message_of l c)
    where
      b : Listed
      b = bare l.header l.header_end l.payload

      go : ((x : MessageCursor) → messages_from w d n b x ≡ messages_from w d n l x) → (a : Answer PlaceStepped)
          → message_then w d b (messages_from w d n b) a ≡ message_then w d l (messages_from w d n l) a
      go ih (got x e) = ap (λ (t : List (List ℕ)). message_records (types_at w d l x.place) (bytes_at w d x.place) x.place (writer_at w d l x.place) ++ t) (ih x.cursor)
      go ih (refused k place) = refl

  -- the record number before a message leaves room for its own
  pub message_fits : (l : Listed) (k : ℕ) (u : List (List ℕ)) → k + length u ≡ length (payload_records w d l) → length d ≤ 65535 → l.payload.count ≤ 65551
      → k + 1 + length d ≤ 18446744073709551615
  message_fits l k u e h b = omega (arith, messages_few l (messages_left l (first_message l)) (first_message l))

  -- one message more is put
  pub message_put : (l : Listed) (c next : MessageCursor) (p : MessagePlace) (v : Option ℕ) (types : List ℕ) (k j n all : ℕ) (out e r : List ℕ)
      → got (record { place = p; cursor = next }) n ≡ message_of l c → v ≡ writer_at w d l p → types ≡ types_by w v
      → records_put k (messages_from w d (messages_left l c) l c) out ≡ r → k + length (messages_from w d (messages_left l c) l c) ≡ all
      → RecordsPut (set_from types p v d) k j out e
      → (records_put j (messages_from w d (messages_left l next) l next) e ≡ r) × (j + length (messages_from w d (messages_left l next) l next) ≡ all)
  message_put l c next p v types k j n all out e r q a b x y f =
      some_put (messages_from w d (messages_left l c) l c) k out r all x y (set_from types p v d) (messages_from w d (messages_left l next) l next) e j
      (messages_by l c (record { place = p; cursor = next }) n v types (sym q) a b) f.buffer f.number
