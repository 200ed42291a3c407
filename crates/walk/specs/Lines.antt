-- The lines of a listing in their order (document 01, "Configuration and listing").
use Rattle.std.specs.Prelude.{ℕ, zero, suc, ◌+◌, ◌-◌, cond, List, [], ◌∷◌, ◌++◌, eqb, length, take, drop, Option, Some, None}
use Rattle.wire.specs.Answer.{Answer, got, refused}
pub use Rattle.config.specs.Writers.{Writers, writers, writers_of}
use Rattle.config.specs.Writers.{types_by}
use Rattle.config_text.specs.Config.{config_of, config_number, place_in, config_in}
use Rattle.network_message.specs.WriterId.{writer_id_of}
use Rattle.network_message.specs.Payload.{PlaceStepped, place_step_at}
use Rattle.network_message.specs.Envelope.{NetworkMessage, network_message_at}
use Rattle.network_message.specs.declared.payload.MessagePlace.{MessagePlace}
use Rattle.network_message.specs.declared.payload.MessageCursor.{MessageCursor}
use Rattle.dataset_header.specs.Flags.{Valid, not_valid, valid}
use Rattle.dataset_fields.specs.Fields.{FieldStepped, next_field_at}
use Rattle.dataset_message.specs.Message.{Message, message_at}
use Rattle.dataset_fields.specs.declared.fields.Field.{Field}
use Rattle.dataset_fields.specs.declared.fields.Cursor.{Cursor}
use Rattle.walk.specs.declared.entry.SetPlace.{SetPlace}
use Rattle.walk.specs.declared.entry.Line.{Line}
use Rattle.walk.specs.declared.lines.Listed.{Listed}
use Rattle.walk.specs.declared.lines.LineCursor.{LineCursor}

-- "Offsets count in the datagram"
abbrev pub in_datagram : MessagePlace → Field → Field
in_datagram p f = record { index = f.index; kind = f.kind; shape = f.shape; offset = p.offset + f.offset; length = f.length }

-- what the listing needs of an accepted datagram
abbrev pub listed_of : NetworkMessage → Listed
listed_of m =
    record {
      publisher = m.envelope.publisher;
      publisher_end = m.places.publisher_end;
      header = m.envelope.payload_header;
      header_end = m.places.payload_header_end;
      payload = m.payload;
    }

-- before the first message
abbrev pub first_message : Listed → MessageCursor
first_message l = record { index = 0; at = l.payload.first }

-- how many fields, and how many messages, are left from a cursor on
abbrev pub fields_left : Cursor → ℕ
fields_left c = c.count - c.next

abbrev pub messages_left : Listed → MessageCursor → ℕ
messages_left l c = l.payload.count - c.index

module _ (w : Writers) (d : List ℕ) where
  -- of the message in place p: its writer id, its configured field types, and its own part of the datagram
  abbrev pub writer_at : Listed → MessagePlace → Option ℕ
  writer_at l p = writer_id_of l.header l.header_end w.ids p.index d

  abbrev pub types_at : Listed → MessagePlace → List ℕ
  types_at l p = types_by w (writer_at l p)

  abbrev pub bytes_at : MessagePlace → List ℕ
  bytes_at p = take p.length (drop p.offset d)

  -- what its `set` line begins with
  abbrev pub place_at : Listed → MessagePlace → SetPlace
  place_at l p = record { message = p.index; writer = writer_at l p; offset = p.offset; length = p.length }

  -- ---- the fields of a message: one line each, for those that are left from the cursor on
  abbrev pub field_then : MessagePlace → (Cursor → List Line) → Answer FieldStepped → List Line
  field_then p more (got x next) = Line.Field p.index (in_datagram p x.field) ∷ more x.cursor
  field_then p more (refused n place) = []

  unfoldable pub field_lines : ℕ → Listed → MessagePlace → Cursor → List Line
  field_lines zero l p c = []
  field_lines (suc left) l p c = field_then p (field_lines left l p) (next_field_at c (types_at l p) (bytes_at p))

  -- ---- a message: its `set` line, then its field lines. "A refused message ends its `set` line after the length with `bad`, number,
  -- place, one not valid with `invalid`; neither has field lines."
  abbrev pub set_lines : Listed → MessagePlace → Answer (Valid Message) → List Line
  set_lines l p (got not_valid next) = Line.SetInvalid (place_at l p) ∷ []
  set_lines l p (got (valid m) next) =
      Line.Set (place_at l p) m.header.kind m.header.encoding m.header.sequence
      ∷ field_lines (fields_left m.cursor) l p m.cursor
  set_lines l p (refused n place) = Line.SetBad (place_at l p) n place ∷ []

  -- ---- the messages, from the cursor on, each "read alone"
  abbrev pub message_then : Listed → (MessageCursor → List Line) → Answer PlaceStepped → List Line
  message_then l more (got x next) = set_lines l x.place (message_at (types_at l x.place) (bytes_at x.place)) ++ more x.cursor
  message_then l more (refused n place) = []

  unfoldable pub message_lines : ℕ → Listed → MessageCursor → List Line
  message_lines zero l c = []
  message_lines (suc left) l c = message_then l (message_lines left l) (place_step_at l.payload w.sizes c d)

  -- ---- the datagram: its `net` line, then its messages. "A chunk has its `net` line only, with 0 messages, its payload unread."
  abbrev pub net_line : Listed → Line
  net_line l = Line.Net (length d) l.publisher l.publisher_end l.payload.count

  abbrev pub accepted_lines : Listed → List Line
  accepted_lines l = net_line l ∷ message_lines (messages_left l (first_message l)) l (first_message l)

  abbrev pub answer_lines : Answer NetworkMessage → List Line
  answer_lines (got m next) = accepted_lines (listed_of m)
  answer_lines (refused n place) = Line.Bad n place ∷ []

  -- "A refused .. datagram, is the one line `bad`, number, place"
  abbrev pub datagram_lines : List Line
  datagram_lines = answer_lines (network_message_at w.sizes d)

  -- ---- a cursor over the lines: the lines that are left from it on
  abbrev pub lines_from : LineCursor → List Line
  lines_from (LineCursor.Bad n place) = Line.Bad n place ∷ []
  lines_from (LineCursor.Net l) = accepted_lines l
  lines_from (LineCursor.Message l c) = message_lines (messages_left l c) l c
  lines_from (LineCursor.Field l c p f) = field_lines (fields_left f) l p f ++ message_lines (messages_left l c) l c
  lines_from LineCursor.End = []

  -- ---- a step of the cursor: the line that it stands before, and the cursor before the next one
  abbrev pub next_set : Listed → MessageCursor → MessagePlace → Answer (Valid Message) → Line × LineCursor
  next_set l c p (got not_valid next) = (Line.SetInvalid (place_at l p), LineCursor.Message l c)
  next_set l c p (got (valid m) next) =
      (Line.Set (place_at l p) m.header.kind m.header.encoding m.header.sequence, LineCursor.Field l c p m.cursor)
  next_set l c p (refused n place) = (Line.SetBad (place_at l p) n place, LineCursor.Message l c)

  abbrev pub set_step : Listed → MessageCursor → MessagePlace → Line × LineCursor
  set_step l c p = next_set l c p (message_at (types_at l p) (bytes_at p))

  abbrev pub next_message : Listed → Answer PlaceStepped → Option (Line × LineCursor)
  next_message l (got x next) = Some (set_step l x.cursor x.place)
  next_message l (refused n place) = None

  abbrev pub message_step : Listed → MessageCursor → Option (Line × LineCursor)
  message_step l c = next_message l (place_step_at l.payload w.sizes c d)

  abbrev pub next_field : Listed → MessageCursor → MessagePlace → Answer FieldStepped → Option (Line × LineCursor)
  next_field l c p (got x next) = Some (Line.Field p.index (in_datagram p x.field), LineCursor.Field l c p x.cursor)
  next_field l c p (refused n place) = message_step l c

  abbrev pub field_step : Listed → MessageCursor → MessagePlace → Cursor → Option (Line × LineCursor)
  field_step l c p f = next_field l c p (next_field_at f (types_at l p) (bytes_at p))

  abbrev pub next_line : LineCursor → Option (Line × LineCursor)
  next_line (LineCursor.Bad n place) = Some (Line.Bad n place, LineCursor.End)
  next_line (LineCursor.Net l) = Some (net_line l, LineCursor.Message l (first_message l))
  next_line (LineCursor.Message l c) = message_step l c
  next_line (LineCursor.Field l c p f) = field_step l c p f
  next_line LineCursor.End = None

  -- the cursor k lines on; after the last line it stays
  abbrev pub after_step : LineCursor → (LineCursor → LineCursor) → Option (Line × LineCursor) → LineCursor
  after_step c more (Some (x, next)) = more next
  after_step c more None = c

  abbrev pub cursor_after : ℕ → LineCursor → LineCursor
  cursor_after zero c = c
  cursor_after (suc k) c = after_step c (cursor_after k) (next_line c)

  -- what a step says of the lines that are left: the first, and those after it; or that there is none
  abbrev pub step_lines : Option (Line × LineCursor) → List Line
  step_lines (Some (x, c)) = x ∷ lines_from c
  step_lines None = []

-- the cursor before the first line: of a refused configuration (its number is not 0), or else of the datagram
abbrev pub start_by : Answer NetworkMessage → LineCursor
start_by (got m next) = LineCursor.Net (listed_of m)
start_by (refused n place) = LineCursor.Bad n place

abbrev pub start_cursor : ℕ → ℕ → List ℕ → List ℕ → LineCursor
start_cursor number place sizes d = cond (eqb number 0) (start_by (network_message_at sizes d)) (LineCursor.Bad number place)

-- "A refused configuration, or else datagram, is the one line `bad`, number, place." The listing of datagram d under a configuration
-- whose reading gave a number and place, and these writers.
unfoldable pub listing_of : ℕ → ℕ → Writers → List ℕ → List Line
listing_of number place w d = cond (eqb number 0) (datagram_lines w d) (Line.Bad number place ∷ [])

-- the listing of datagram d under a configuration text
abbrev pub listing : List ℕ → List ℕ → List Line
listing text d = listing_of (config_number (config_of text)) (place_in (config_of text)) (writers_of (config_in (config_of text))) d
