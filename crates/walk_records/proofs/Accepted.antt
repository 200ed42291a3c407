-- Where no message of a datagram is refused, its records are those of its listing's lines after the first.
-- Assumes nothing.
use Prim.Native.Nat.{ℕ, zero, suc}
use mathlib.Core.Path.{◌≡◌, refl, ap, sym, ◌∙◌}
use mathlib.Core.List.{List, [], ◌∷◌, ◌++◌}
use lib.ListN.{drop}
use Rattle.wire.specs.Answer.{Answer, got, refused, and_then}
use Rattle.network_message.specs.Payload.{PlaceStepped, place_step_at}
use Rattle.network_message.specs.Envelope.{NetworkMessage, network_message_at}
use Rattle.network_message.specs.declared.payload.MessagePlace.{MessagePlace}
use Rattle.network_message.specs.declared.payload.MessageCursor.{MessageCursor}
use Rattle.dataset_header.specs.Flags.{Valid, not_valid, valid}
use Rattle.dataset_fields.specs.Fields.{FieldStepped, next_field_at, fields_at, padding_at}
use Rattle.dataset_fields.specs.declared.fields.Cursor.{Cursor}
use Rattle.dataset_message.specs.Message.{Message, message_at, front_at}
use Rattle.dataset_message.proofs.Fronts.{rest_at, front_then}
use Rattle.walk.specs.Lines.{Writers, in_datagram, fields_left, messages_left, first_message, listed_of, writer_at, types_at, bytes_at, place_at, field_then as lineThen, field_lines, set_lines, message_then as linesThen, message_lines, datagram_lines}
use Rattle.walk.specs.declared.entry.Line.{Line}
use Rattle.walk.specs.declared.lines.Listed.{Listed}
use Rattle.walk_records.specs.Walk.{field_record, field_then, fields_from, records_by, message_then, messages_from, walk_records, line_record, line_records, NoneRefused}

lines_append : (xs ys : List Line) → line_records (xs ++ ys) ≡ line_records xs ++ line_records ys
lines_append [] ys = refl
lines_append (x ∷ xs) ys = ap (λ (t : List (List ℕ)). line_record x ∷ t) (lines_append xs ys)

module _ (w : Writers) (d : List ℕ) where
  field_lines_lem : (n : ℕ) (l : Listed) (p : MessagePlace) (c : Cursor) → fields_from (types_at w d l p) (bytes_at w d p) p n c ≡ line_records (field_lines w d n l p c)
  unfolding field_lines fields_from
  field_lines_lem zero l p c = refl
  field_lines_lem (suc n) l p c = go (λ x. field_lines_lem n l p x) (next_field_at c (types_at w d l p) (bytes_at w d p))
    where
      go : ((x : Cursor) → fields_from (types_at w d l p) (bytes_at w d p) p n x ≡ line_records (field_lines w d n l p x)) → (a : Answer FieldStepped)
          → field_then (types_at w d l p) (bytes_at w d p) p (fields_from (types_at w d l p) (bytes_at w d p) p n) a ≡ line_records (lineThen w d p (field_lines w d n l p) a)
      go ih (got x e) = ap (λ (t : List (List ℕ)). field_record p.index (in_datagram p x.field) ∷ t) (ih x.cursor)
      go ih (refused k place) = refl

  after_fields : (n : ℕ) (l : Listed) (p : MessagePlace) (c : Cursor) (ys : List Line) → NoneRefused (field_lines w d n l p c ++ ys) → NoneRefused ys
  unfolding field_lines
  after_fields zero l p c ys h = h
  after_fields (suc n) l p c ys h = go (λ x. after_fields n l p x ys) (next_field_at c (types_at w d l p) (bytes_at w d p)) h
    where
      go : ((x : Cursor) → NoneRefused (field_lines w d n l p x ++ ys) → NoneRefused ys) → (a : Answer FieldStepped)
          → NoneRefused (lineThen w d p (field_lines w d n l p) a ++ ys) → NoneRefused ys
      go ih (got x e) q = ih x.cursor q
      go ih (refused k place) q = q

  -- one message, before others
  module _ (l : Listed) (p : MessagePlace) (ys : List Line) where
    abbrev T : List ℕ
    T = types_at w d l p

    abbrev B : List ℕ
    B = bytes_at w d p

    abbrev Lined : Answer (Valid Message) → Answer (Valid Message) → Type 0
    Lined front whole =
        NoneRefused (set_lines w d l p whole ++ ys)
        → (records_by T B p (writer_at w d l p) front whole ≡ line_records (set_lines w d l p whole)) × NoneRefused ys

    opened : (m : Message) (n : ℕ) (x : Answer (Unit {0}))
        → Lined (got (valid m) n)
        (and_then x (λ _ end. and_then (padding_at B end) (λ _ z. got (valid (record { header = m.header; cursor = m.cursor; end = end })) end)))
    opened m n (got tt end) h = go (padding_at B end) h
      where
        go : (y : Answer (Unit {0})) → Lined (got (valid m) n) (and_then y (λ _ z. got (valid (record { header = m.header; cursor = m.cursor; end = end })) end))
        go (got tt z) h = (
          ap
              (λ (t : List (List ℕ)). line_record (Line.Set (place_at w d l p) m.header.kind m.header.encoding m.header.sequence) ∷ t)
              (field_lines_lem (fields_left m.cursor) l p m.cursor),
          after_fields (fields_left m.cursor) l p m.cursor ys h,
        )
        go (refused k place) h = absurd h
    opened m n (refused k place) h = absurd h

    by_front : (a : Answer (Valid Message)) → Lined a (and_then a (λ v _. rest_at v T B))
    by_front (got not_valid n) h = (refl, h)
    by_front (got (valid m) n) h =
        opened m n (fields_at m.cursor.delta m.cursor.encoding T m.cursor.count 0 B m.cursor.at) h
    by_front (refused n place) h = absurd h

    message_lined : Lined (front_at T B) (message_at T B)
    message_lined = rw (front_then T B) (by_front (front_at T B))

  messages_lined : (n : ℕ) (l : Listed) (c : MessageCursor) → NoneRefused (message_lines w d n l c) → messages_from w d n l c ≡ line_records (message_lines w d n l c)
  unfolding message_lines messages_from
  messages_lined zero l c h = refl
  messages_lined (suc n) l c h = go (λ x. messages_lined n l x) (place_step_at l.payload w.sizes c d) h
    where
      go : ((x : MessageCursor) → NoneRefused (message_lines w d n l x) → messages_from w d n l x ≡ line_records (message_lines w d n l x)) → (a : Answer PlaceStepped)
          → NoneRefused (linesThen w d l (message_lines w d n l) a) → message_then w d l (messages_from w d n l) a ≡ line_records (linesThen w d l (message_lines w d n l) a)
      go ih (got x e) q =
          let s : List Line = set_lines w d l x.place (message_at (types_at w d l x.place) (bytes_at w d x.place)) in
          let m = message_lined l x.place (message_lines w d n l x.cursor) q in
          ap (λ (t : List (List ℕ)). t ++ messages_from w d n l x.cursor) m.0 ∙ ap (λ (t : List (List ℕ)). line_records s ++ t) (ih x.cursor m.1)
          ∙ sym (lines_append s (message_lines w d n l x.cursor))
      go ih (refused k place) q = refl

  -- the records of a walk are the listing's lines after the first
  pub walk_listed : NoneRefused (datagram_lines w d) → walk_records w d ≡ line_records (drop 1 (datagram_lines w d))
  walk_listed h = go (network_message_at w.sizes d) refl
    where
      go : (a : Answer NetworkMessage) → network_message_at w.sizes d ≡ a → walk_records w d ≡ line_records (drop 1 (datagram_lines w d))
      go (got m n) q =
          let l : Listed = listed_of m in
          rw q (messages_lined (messages_left l (first_message l)) l (first_message l) (rw q at h))
      go (refused n place) q = rw q
