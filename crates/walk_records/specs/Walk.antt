-- A datagram walked in one call: a record for each message and field (include/uadp.h, `uadp_walk`).
use Rattle.std.specs.Prelude.{ℕ, zero, suc, ◌+◌, ◌*◌, List, [], ◌∷◌, ◌++◌, length, replicate, Option, Some, None, Result, Ok, Err}
use Rattle.dataset_header.specs.Flags.{Valid, not_valid, valid, encoding_number, kind_number}
use Rattle.records.specs.Sizes.{WALK_SIZE}
use Rattle.wire.specs.Answer.{Answer, got, refused}
use Rattle.wire_writer.specs.Store.{laid}
use Rattle.wire.specs.Refusal.{reason_number}
use Rattle.wire.specs.declared.refusal.Refusal.{Refusal}
use Rattle.network_message.specs.Envelope.{NetworkMessage, network_message_at}
use Rattle.network_message.specs.Payload.{PlaceStepped, place_step_at}
use Rattle.network_message.specs.declared.payload.MessagePlace.{MessagePlace}
use Rattle.network_message.specs.declared.payload.MessageCursor.{MessageCursor}
use Rattle.dataset_fields.specs.Fields.{FieldStepped, next_field_at}
use Rattle.dataset_fields.specs.declared.fields.Field.{Field}
use Rattle.dataset_fields.specs.declared.fields.Cursor.{Cursor}
use Rattle.dataset_message.specs.Message.{Message, message_at, front_at}
use Rattle.walk.specs.Lines.{Writers, in_datagram, fields_left, messages_left, first_message, listed_of, writer_at, types_at, bytes_at}
use Rattle.walk.specs.declared.entry.SetPlace.{SetPlace}
use Rattle.walk.specs.declared.entry.Line.{Line}
use Rattle.walk.specs.declared.lines.Listed.{Listed}
use Rattle.records.specs.Numbers.{number_bytes}
use Rattle.value.specs.Value.{dimensions_of}
use Rattle.message_record.specs.Message.{shape_number, elements_number}

-- "65536 for none"
abbrev pub or_none : Option ℕ → ℕ
or_none None = 65536
or_none (Some v) = v

-- ---- the 10 numbers of a record, in the order of the layout: "0 field, 1 message, 2 message that is not valid, 3 refused message", the
-- number of the message, and so on

-- a field of message m, whose offset counts in the datagram
abbrev pub field_record : ℕ → Field → List ℕ
field_record m f =
    0 ∷ m ∷ f.index ∷ f.kind ∷ shape_number f.shape ∷ elements_number f.shape ∷ f.offset ∷ f.length ∷ dimensions_of f.shape ∷ 0
    ∷ []

-- a message: what it is, three numbers that depend on it, and one that only a refused message has
abbrev pub message_record : SetPlace → ℕ → ℕ → ℕ → ℕ → ℕ → List ℕ
message_record p what a b c e = what ∷ p.message ∷ or_none p.writer ∷ a ∷ b ∷ c ∷ p.offset ∷ p.length ∷ e ∷ 0 ∷ []

-- by what reading it answered: "kind, encoding and sequence number", or of a refused message "number and place, how many of its fields
-- follow, and their encoding"
abbrev pub message_record_by : SetPlace → ℕ → ℕ → Answer (Valid Message) → List ℕ
message_record_by p fields encoding (got not_valid next) = message_record p 2 0 0 0 0
message_record_by p fields encoding (got (valid m) next) =
    message_record p 1 (kind_number m.header.kind) (encoding_number m.header.encoding) (or_none m.header.sequence) 0
message_record_by p fields encoding (refused n place) = message_record p 3 n place fields encoding

-- ---- the records of the message in place p, of a writer, with its field types, and its bytes
module _ (types bytes : List ℕ) (p : MessagePlace) where
  abbrev pub field_then : (Cursor → List (List ℕ)) → Answer FieldStepped → List (List ℕ)
  field_then more (got x next) = field_record p.index (in_datagram p x.field) ∷ more x.cursor
  field_then more (refused n place) = []

  -- its fields from the cursor on, as many as are left, up to the first that is refused
  unfoldable pub fields_from : ℕ → Cursor → List (List ℕ)
  fields_from zero c = []
  fields_from (suc left) c = field_then (fields_from left) (next_field_at c types bytes)

  abbrev pub set_place : Option ℕ → SetPlace
  set_place writer = record { message = p.index; writer = writer; offset = p.offset; length = p.length }

  -- the fields after its front, and their encoding; none where the front is refused, or the message not valid
  abbrev pub fields_by : Answer (Valid Message) → List (List ℕ)
  fields_by (got not_valid next) = []
  fields_by (got (valid m) next) = fields_from (fields_left m.cursor) m.cursor
  fields_by (refused n place) = []

  abbrev pub encoding_by : Answer (Valid Message) → ℕ
  encoding_by (got not_valid next) = 0
  encoding_by (got (valid m) next) = encoding_number m.header.encoding
  encoding_by (refused n place) = 0

  -- "a message's record is followed by those of its fields; that of a refused message by those of the fields before the fault"
  abbrev pub records_by : Option ℕ → Answer (Valid Message) → Answer (Valid Message) → List (List ℕ)
  records_by writer front whole =
      message_record_by (set_place writer) (length (fields_by front)) (encoding_by front) whole ∷ fields_by front

  abbrev pub message_records : Option ℕ → List (List ℕ)
  message_records writer = records_by writer (front_at types bytes) (message_at types bytes)

-- ---- the records of a datagram's messages from the cursor on, each "read alone"
module _ (w : Writers) (d : List ℕ) where
  abbrev pub message_then : Listed → (MessageCursor → List (List ℕ)) → Answer PlaceStepped → List (List ℕ)
  message_then l more (got x next) =
      message_records (types_at w d l x.place) (bytes_at w d x.place) x.place (writer_at w d l x.place) ++ more x.cursor
  message_then l more (refused n place) = []

  unfoldable pub messages_from : ℕ → Listed → MessageCursor → List (List ℕ)
  messages_from zero l c = []
  messages_from (suc left) l c = message_then l (messages_from left l) (place_step_at l.payload w.sizes c d)

  abbrev pub payload_records : Listed → List (List ℕ)
  payload_records l = messages_from (messages_left l (first_message l)) l (first_message l)

  -- a refused datagram has none, and so has a chunk
  abbrev pub records_of : Answer NetworkMessage → List (List ℕ)
  records_of (got m next) = payload_records (listed_of m)
  records_of (refused n place) = []

  abbrev pub walk_records : List (List ℕ)
  walk_records = records_of (network_message_at w.sizes d)

-- ---- the buffer

-- "record k (from 0) at offset 80 * k"; "A record that does not fit whole is not put; every other byte of records stays as it was"
abbrev pub record_laid : ℕ → List ℕ → List ℕ → List ℕ
record_laid k x out = laid out (WALK_SIZE * k) (number_bytes x)

-- the buffer after some records, the first of them record k
abbrev pub records_put : ℕ → List (List ℕ) → List ℕ → List ℕ
records_put k [] out = out
records_put k (x ∷ xs) out = records_put (k + 1) xs (record_laid k x out)

-- "Value: how many there are in all, whatever the room"; a refused datagram is its number and place
abbrev pub walk_by : List (List ℕ) → Answer NetworkMessage → Answer ℕ
walk_by xs (got m next) = got (length xs) 0
walk_by xs (refused n place) = refused n place

abbrev pub walk_of : Writers → List ℕ → Answer ℕ
walk_of w d = walk_by (walk_records w d) (network_message_at w.sizes d)

-- the same of the code's answer
abbrev pub answer_walked : Result ℕ Refusal → Answer ℕ
answer_walked (Ok n) = got n 0
answer_walked (Err r) = refused (reason_number r.reason) r.place

-- ---- the listing's lines as records: those of a datagram whose messages are all accepted, or not valid (proofs/Accepted.antt)

-- the record of a line; `net` and `bad` lines have none
abbrev pub line_record : Line → List ℕ
line_record (Line.Field m f) = field_record m f
line_record (Line.Set p k e q) = message_record p 1 (kind_number k) (encoding_number e) (or_none q) 0
line_record (Line.SetInvalid p) = message_record p 2 0 0 0 0
line_record (Line.SetBad p n place) = message_record p 3 n place 0 0
line_record (Line.Net n id end messages) = replicate 10 0
line_record (Line.Bad n place) = replicate 10 0

abbrev pub line_records : List Line → List (List ℕ)
line_records [] = []
line_records (x ∷ xs) = line_record x ∷ line_records xs

-- no message that these lines tell of is refused
abbrev pub NoneRefused : List Line → Type 0
NoneRefused [] = Unit {0}
NoneRefused (Line.SetBad p n place ∷ xs) = ⊥
NoneRefused (Line.Net n id end messages ∷ xs) = NoneRefused xs
NoneRefused (Line.Set p k e q ∷ xs) = NoneRefused xs
NoneRefused (Line.SetInvalid p ∷ xs) = NoneRefused xs
NoneRefused (Line.Field m f ∷ xs) = NoneRefused xs
NoneRefused (Line.Bad n place ∷ xs) = NoneRefused xs
