-- The cursor over lines walks the listing: each step hands out the first of the lines that are left and stands before the others.
-- Assumes nothing.
use Rattle.std.specs.Prelude.{Option, Some, None}
use Prim.Native.Nat.{ℕ, zero, suc, ◌+◌, ◌≤◌, ◌<◌}
use mathlib.Core.Path.{◌≡◌, refl, ap, sym, ◌∙◌}
use mathlib.Core.Bool.{Bool, true, false, cond}
use mathlib.Core.List.{List, [], ◌∷◌, ◌++◌}
use native.Mathlib.Omega.{arith}
use borrow.Author.Tests.{leb-false}
use lib.Dec.{leb, ltb, eqb}
use lib.ListN.{length, take, drop, length-take, length-drop}
use Rattle.wire.specs.Answer.{Answer, got, refused}
use Rattle.wire.proofs.Reading.{got_value, not_got, invert}
use Rattle.network_message.specs.Payload.{PlaceStepped, place_step_at, place_of_message}
use Rattle.network_message.specs.Envelope.{NetworkMessage, network_message_at}
use Rattle.network_message.specs.declared.payload.MessagePlace.{MessagePlace}
use Rattle.network_message.specs.declared.payload.MessageCursor.{MessageCursor}
use Rattle.network_message.proofs.Messages.{message_counted}
use Rattle.dataset_header.specs.Flags.{Valid, not_valid, valid}
use Rattle.dataset_fields.specs.Fields.{field_at, FieldStepped, next_field_at}
use Rattle.dataset_message.specs.Message.{Message, message_at as readAt}
use Rattle.dataset_fields.specs.declared.fields.Cursor.{Cursor}
use Rattle.dataset_fields.proofs.Inside.{field_inside}
use Rattle.walk.specs.Lines.{Writers, fields_left, messages_left, types_at, bytes_at, field_lines, message_lines, set_lines, lines_from, step_lines, next_set, next_message, message_step, next_field, field_step, next_line, start_by, start_cursor, answer_lines, listing_of, after_step, cursor_after}
use Rattle.walk.specs.declared.entry.Line.{Line}
use Rattle.walk.specs.declared.lines.Listed.{Listed}
use Rattle.walk.specs.declared.lines.LineCursor.{LineCursor}

-- what an accepted step over the fields says: one field was left, one fewer is left after it, and its value starts within the message
pub record FieldPassed (f : Cursor) (s : List ℕ) (x : FieldStepped) : Type 0 where
  pub left : fields_left f ≡ suc (fields_left x.cursor)
  pub offset : x.field.offset < length s

pub field_passed : (f : Cursor) (types s : List ℕ) (x : FieldStepped) (n : ℕ) → next_field_at f types s ≡ got x n → FieldPassed f s x
field_passed f types s x n e = go (ltb (length s) f.at) refl (leb f.count f.next) refl
  where
    go : (a : Bool) → ltb (length s) f.at ≡ a → (b : Bool) → leb f.count f.next ≡ b → FieldPassed f s x
    go true p b q = absurd (not_got (rw p at e))
    go false p true q = absurd (not_got (rw (p, q) at e))
    go false p false q =
        let (y, m, r, z) = invert (field_at f.delta f.encoding types f.next s f.at) _ (rw (p, q) at e) in
        let i = field_inside f.delta f.encoding types f.next s f.at y m r in
        let h : f.next < f.count = leb-false f.count f.next q in
        rw (sym (got_value z)) (record { left = omega arith; offset = omega (arith, i.ends, i.some, i.value) })

module _ (w : Writers) (d : List ℕ) where
  -- no step, no lines
  field_none : (k : ℕ) (l : Listed) (p : MessagePlace) (f : Cursor) (n place : ℕ) → next_field_at f (types_at w d l p) (bytes_at w d p) ≡ refused n place
      → field_lines w d k l p f ≡ []
  unfolding field_lines
  field_none zero l p f n place e = refl
  field_none (suc k) l p f n place e = rw e

  message_none : (k : ℕ) (l : Listed) (c : MessageCursor) (n place : ℕ) → place_step_at l.payload w.sizes c d ≡ refused n place → message_lines w d k l c ≡ []
  unfolding message_lines
  message_none zero l c n place e = refl
  message_none (suc k) l c n place e = rw e

  -- a message's lines, and then those of the messages after it
  set_lists : (l : Listed) (c : MessageCursor) (p : MessagePlace) (a : Answer (Valid Message))
      → step_lines w d (Some (next_set w d l c p a)) ≡ set_lines w d l p a ++ message_lines w d (messages_left l c) l c
  set_lists l c p (got not_valid next) = refl
  set_lists l c p (got (valid m) next) = refl
  set_lists l c p (refused n place) = refl

  -- one message was left, and one fewer is left after it
  message_passed : (l : Listed) (c : MessageCursor) (x : PlaceStepped) (n : ℕ) → place_step_at l.payload w.sizes c d ≡ got x n
      → messages_left l c ≡ suc (messages_left l x.cursor)
  message_passed l c x n e =
      let (m, q, r, z) = invert (place_of_message l.payload w.sizes c.index d c.at) _ e in
      let h = message_counted l.payload w.sizes c.index d c.at m q r in
      rw (sym (got_value z)) (omega arith)

  message_lists : (l : Listed) (c : MessageCursor) → step_lines w d (message_step w d l c) ≡ message_lines w d (messages_left l c) l c
  unfolding message_lines
  message_lists l c = go (place_step_at l.payload w.sizes c d) refl
    where
      go : (a : Answer PlaceStepped) → place_step_at l.payload w.sizes c d ≡ a → step_lines w d (next_message w d l a) ≡ message_lines w d (messages_left l c) l c
      go (got x n) e = rw (message_passed l c x n e, e) (set_lists l x.cursor x.place (readAt (types_at w d l x.place) (bytes_at w d x.place)))
      go (refused n place) e = sym (message_none (messages_left l c) l c n place e)

  field_lists : (l : Listed) (c : MessageCursor) (p : MessagePlace) (f : Cursor)
      → step_lines w d (field_step w d l c p f) ≡ field_lines w d (fields_left f) l p f ++ message_lines w d (messages_left l c) l c
  unfolding field_lines
  field_lists l c p f = go (next_field_at f (types_at w d l p) (bytes_at w d p)) refl
    where
      go : (a : Answer FieldStepped) → next_field_at f (types_at w d l p) (bytes_at w d p) ≡ a
          → step_lines w d (next_field w d l c p a) ≡ field_lines w d (fields_left f) l p f ++ message_lines w d (messages_left l c) l c
      go (got x n) e = rw ((field_passed f (types_at w d l p) (bytes_at w d p) x n e).left, e)
      go (refused n place) e =
          message_lists l c ∙ ap (λ (t : List Line). t ++ message_lines w d (messages_left l c) l c) (sym (field_none (fields_left f) l p f n place e))

  -- From any cursor, a step hands out the first of the lines that are left, and the cursor before the others; or says that none is left.
  pub step_lists : (c : LineCursor) → step_lines w d (next_line w d c) ≡ lines_from w d c
  step_lists (LineCursor.Bad n place) = refl
  step_lists (LineCursor.Net l) = refl
  step_lists (LineCursor.Message l c) = message_lists l c
  step_lists (LineCursor.Field l c p f) = field_lists l c p f
  step_lists LineCursor.End = refl

  -- The cursor that a listing starts with has all of its lines before it.
  pub start_lists : (number place : ℕ) → lines_from w d (start_cursor number place w.sizes d) ≡ listing_of number place w d
  unfolding listing_of
  start_lists number place = go (eqb number 0)
    where
      by : (a : Answer NetworkMessage) → lines_from w d (start_by a) ≡ answer_lines w d a
      by (got m next) = refl
      by (refused n at) = refl

      go : (b : Bool) → lines_from w d (cond b (start_by (network_message_at w.sizes d)) (LineCursor.Bad number place)) ≡ cond b
          (answer_lines w d (network_message_at w.sizes d)) (Line.Bad number place ∷ [])
      go true = by (network_message_at w.sizes d)
      go false = refl

  -- The cursor k lines on has the lines before it that are left then.
  pub lines_after : (k : ℕ) (c : LineCursor) → lines_from w d (cursor_after w d k c) ≡ drop k (lines_from w d c)
  lines_after zero c = refl
  lines_after (suc k) c = go (next_line w d c) refl (lines_after k)
    where
      go : (t : Option (Line × LineCursor)) → next_line w d c ≡ t → ((n : LineCursor) → lines_from w d (cursor_after w d k n) ≡ drop k (lines_from w d n))
          → lines_from w d (after_step w d c (cursor_after w d k) (next_line w d c)) ≡ drop (suc k) (lines_from w d c)
      go (Some (x, n)) e more =
          let l : lines_from w d c ≡ x ∷ lines_from w d n = sym (step_lists c) ∙ ap (step_lines w d) e in
          ap (λ (t : Option (Line × LineCursor)). lines_from w d (after_step w d c (cursor_after w d k) t)) e ∙ more n ∙ ap (drop (suc k)) (sym l)
      go None e more =
          let l : lines_from w d c ≡ [] = sym (step_lists c) ∙ ap (step_lines w d) e in
          ap (λ (t : Option (Line × LineCursor)). lines_from w d (after_step w d c (cursor_after w d k) t)) e ∙ l ∙ ap (drop (suc k)) (sym l)

-- A field's offset in the datagram is no larger than the datagram.
pub offset_fits : (d b : List ℕ) (at n o : ℕ) → b ≡ take n (drop at d) → o < length b → at + o ≤ length d
offset_fits d b at n o e h = omega (arith, simp (length-take, length-drop) at (ap length e))
