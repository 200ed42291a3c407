-- The lines of one message as text, by its own bytes and the field types of its writer, and how many lines there are at most. That these
-- are the texts of the listing's lines is proved in proofs/OnePass.antt.
use Rattle.std.specs.Prelude.{ℕ, zero, suc, ◌+◌, ◌*◌, ◌≤◌, ◌≡◌, List, [], ◌++◌, length, Option, Some, None, Result, Ok, Err}
use Rattle.std.proofs.lemmas.List.Edits.{sets}
use Rattle.wire.specs.declared.refusal.Refusal.{Refusal}
use Rattle.wire.specs.Refusal.{reason_number}
use Rattle.wire.specs.Answer.{Answer, got, refused, and_then}
use Rattle.network_message.specs.Payload.{PlaceStepped, place_step_at}
use Rattle.network_message.specs.declared.payload.MessagePlace.{MessagePlace}
use Rattle.network_message.specs.declared.payload.MessageCursor.{MessageCursor}
use Rattle.dataset_header.specs.Flags.{Valid, not_valid, valid}
use Rattle.dataset_fields.specs.Fields.{fields_at, padding_at, FieldStepped, next_field_at}
use Rattle.dataset_fields.specs.declared.fields.Cursor.{Cursor}
use Rattle.dataset_message.specs.Message.{Message, front_at}
use Rattle.walk.specs.Lines.{Writers, in_datagram, fields_left, messages_left, first_message, types_at, bytes_at}
use Rattle.walk.specs.declared.entry.SetPlace.{SetPlace}
use Rattle.walk.specs.declared.lines.Listed.{Listed}
use Rattle.listing.specs.Columns.{tabbed, line_end, optional_text}
use Rattle.listing.specs.Line.{bad_word, invalid_word, place_text, head_text, refusal_text, field_text}

-- what the `set` line of the message in place p begins with
abbrev pub set_place_of : MessagePlace → Option ℕ → SetPlace
set_place_of p writer = record { message = p.index; writer = writer; offset = p.offset; length = p.length }

-- ---- of the message in place p, its field types and its bytes
module _ (types bytes : List ℕ) (p : MessagePlace) where
  abbrev pub field_then : (Cursor → List ℕ) → Answer FieldStepped → List ℕ
  field_then more (got x next) = field_text p.index (in_datagram p x.field) ++ more x.cursor
  field_then more (refused n place) = []

  -- the lines of its fields from the cursor on, as many as are left, up to the first that is refused
  unfoldable pub text_from : ℕ → Cursor → List ℕ
  text_from zero c = []
  text_from (suc left) c = field_then (text_from left) (next_field_at c types bytes)

  abbrev pub fields_text : Cursor → List ℕ
  fields_text c = text_from (fields_left c) c

  -- all its lines, by what reading it answered
  abbrev pub set_text : SetPlace → Answer (Valid Message) → List ℕ
  set_text q (got not_valid next) = place_text q ++ (tabbed invalid_word ++ line_end)
  set_text q (got (valid m) next) =
      (place_text q ++ (head_text m.header.kind m.header.encoding ++ (tabbed (optional_text m.header.sequence) ++ line_end)))
      ++ fields_text m.cursor
  set_text q (refused n place) = place_text q ++ (tabbed bad_word ++ refusal_text n place)

  -- ---- some of the fields' lines were put, and the answer is the cursor before the next field or its refusal: what is left of the lines,
  -- of the fields and of reading them
  abbrev pub text_left : Result Cursor Refusal → List ℕ
  text_left (Ok a) = fields_text a
  text_left (Err r) = []

  abbrev pub count_left : Result Cursor Refusal → ℕ
  count_left (Ok a) = fields_left a
  count_left (Err r) = 0

  abbrev pub reading_left : Result Cursor Refusal → Answer (Unit {0})
  reading_left (Ok a) = fields_at a.delta a.encoding types (fields_left a) a.next bytes a.at
  reading_left (Err r) = refused (reason_number r.reason) r.place

  -- the text of the first of the lines from the cursor c on was put from position `first` on; where there is room for one more, of all
  pub record LinesPut (c : Cursor) (first : ℕ) (r : ℕ × Result Cursor Refusal) (entry exit : List ℕ) : Type 0 where
    pub text : List ℕ
    pub stored : exit ≡ sets entry first text
    pub after : r.0 ≡ first + length text
    pub within : r.0 ≤ length entry
    pub whole : fields_text c ≡ text ++ text_left r.1
    pub reading : fields_at c.delta c.encoding types (fields_left c) c.next bytes c.at ≡ reading_left r.1
    pub near : r.0 + 256 * count_left r.1 ≤ first + 256 * fields_left c
    pub all : r.0 + 256 ≤ length entry → text_left r.1 ≡ []

-- ---- a listing with one message was put, or nothing was
abbrev pub one_after : Option ℕ → List ℕ → List ℕ → List ℕ
one_after (Some n) l t = sets l 0 t
one_after None l t = l

abbrev pub one_length : Option ℕ → List ℕ → ℕ
one_length (Some n) t = n
one_length None t = length t

abbrev pub one_end : Option ℕ → ℕ
one_end (Some n) = n
one_end None = 0

pub record OnePut (text : List ℕ) (r : Option ℕ) (entry exit : List ℕ) : Type 0 where
  pub stored : exit ≡ one_after r entry text
  pub after : one_length r text ≡ length text
  pub within : one_end r ≤ length entry

-- ---- whether a message is accepted, or its refusal
abbrev pub message_verdict : {A : Type 0} → Answer A → Answer (Unit {0})
message_verdict (got x next) = got tt 0
message_verdict (refused n place) = refused n place

abbrev pub answer_judged : Result (Unit {0}) Refusal → Answer (Unit {0})
answer_judged (Ok u) = got tt 0
answer_judged (Err r) = refused (reason_number r.reason) r.place

-- the fields from field `next` on, and the padding after them
abbrev pub rest_accepted : List ℕ → List ℕ → Cursor → Answer (Unit {0})
rest_accepted types bytes c =
    and_then (fields_at c.delta c.encoding types (fields_left c) c.next bytes c.at) (λ _ end. message_verdict (padding_at bytes end))

-- ---- how many lines there are at most: a message's own, and one for each field that its front announces
abbrev pub field_count : Answer (Valid Message) → ℕ
field_count (got not_valid next) = 0
field_count (got (valid m) next) = m.cursor.count
field_count (refused n place) = 0

module _ (w : Writers) (d : List ℕ) where
  abbrev pub most_then : Listed → (MessageCursor → ℕ) → Answer PlaceStepped → ℕ
  most_then l more (got x next) = 1 + field_count (front_at (types_at w d l x.place) (bytes_at w d x.place)) + more x.cursor
  most_then l more (refused n place) = 0

  unfoldable pub most_from : ℕ → Listed → MessageCursor → ℕ
  most_from zero l c = 0
  most_from (suc left) l c = most_then l (most_from left l) (place_step_at l.payload w.sizes c d)

  -- from a message on; and of the whole listing with its `net` line
  abbrev pub most_left : Listed → MessageCursor → ℕ
  most_left l c = most_from (messages_left l c) l c

  abbrev pub most_lines : Listed → ℕ
  most_lines l = 1 + most_left l (first_message l)
