-- Walking by calls of the library, and writing again what was read into records: what the contracts of src/fields.rt, src/messages.rt and
-- src/composing.rt say of each call, and what is claimed of the calls together.
use Rattle.std.specs.Prelude.{ℕ, ◌+◌, ◌^◌, ◌≤◌, ◌<◌, ◌≡◌, List, [], ◌∷◌, length}
use Rattle.wire.specs.Answer.{Answer, got, refused}
use Rattle.wire.specs.Constants.{DISAGREE, OVER_LIMIT}
use Rattle.wire_writer.specs.Fits.{Bytes}
use Rattle.wire_writer.specs.Store.{laid}
use Rattle.wire_writer.specs.Writing.{Output, writing, buffer_after}
use Rattle.dataset_fields.specs.Fields.{FieldStepped, next_field_at, walk_at, cursor_before}
use Rattle.dataset_fields.specs.declared.fields.Cursor.{Cursor}
use Rattle.dataset_fields.specs.declared.fields.Field.{Field}
use Rattle.dataset_header.specs.Header.{message_held}
use Rattle.dataset_message.specs.Message.{Message, message_at, front_at, ended_at, field_place_at}
use Rattle.network_message.specs.Envelope.{NetworkMessage, network_message_at, message_place_at}
use Rattle.network_message.specs.WriterId.{writer_id_of}
use Rattle.network_message.specs.declared.payload.MessagePlace.{MessagePlace}
use Rattle.network_message.specs.Writer as datagram
use Rattle.dataset_message.specs.Writer as message
use Rattle.round_trip.specs.NetworkMessage.{rewritten, given_of}
use Rattle.round_trip.specs.DataSetMessage.{taken_again}
use Rattle.records.specs.Numbers.{number_bytes}
use Rattle.records.specs.Sizes.{FIELD_SIZE, PLACE_SIZE}
use Rattle.records.specs.Result.{result_of, result_in, filled_in}
use Rattle.records.specs.Writers.{ids_in, sizes_in, types_for}
use Rattle.message_record.specs.Message.{cursor_in, header_in, head_fits, field_numbers}
use Rattle.envelope_record.specs.Envelope.{envelope_in, envelope_fits, messages_in, place_numbers}
use Rattle.uadp_c.specs.Fields.{head_filling, HeadReads, step_result, head_after, field_after, end_result}
use Rattle.dataset_header.specs.Flags.{Valid, valid}
use Rattle.uadp_c.specs.Messages.{envelope_filling, EnvelopeReads, message_step, writer_at, message_result, envelope_after, place_after}
use Rattle.uadp_c.specs.Writing.{output_result, fitting}

-- each of some lent records has at least so many bytes
abbrev pub AllLong : ℕ → List (List ℕ) → Type 0
AllLong n [] = Unit {0}
AllLong n (r ∷ rs) = (n ≤ length r) × AllLong n rs

-- ---- a message's fields

-- what is promised of a head record `entry` that is filled from what was read of a message, the whole of it or its front: the call's
-- result, and the record afterwards; and of the message, that each element is a byte and its length a number of 8 bytes
pub record HeadFilled (read : Answer (Valid Message)) (s entry : List ℕ) (result : ℕ) (exit : List ℕ) : Type 0 where
  pub answer : result ≡ result_in (head_filling read) entry
  pub filled : exit ≡ filled_in (head_filling read) entry
  pub reads : HeadReads read entry exit
  pub bytes : Bytes s
  pub size : length s < 256 ^ 8

-- the contract of `uadp_read_message`
abbrev pub HeadRead : List ℕ → List ℕ → ℕ → List ℕ → ℕ → List ℕ → Type 0
HeadRead s config writer = HeadFilled (message_at (types_for config writer) s) s

-- the contract of `uadp_open_message`
abbrev pub HeadOpened : List ℕ → List ℕ → ℕ → List ℕ → ℕ → List ℕ → Type 0
HeadOpened s config writer = HeadFilled (front_at (types_for config writer) s) s

-- a call of `uadp_next_field`: its result, and the head and the field record afterwards
pub record FieldCall : Type 0 where
  pub result : ℕ
  pub head : List ℕ
  pub field : List ℕ

abbrev pub field_call : ℕ → List ℕ → List ℕ → FieldCall
field_call result head field = record { result = result; head = head; field = field }

-- the step that a head record tells of
abbrev pub field_step : List ℕ → List ℕ → ℕ → List ℕ → Answer FieldStepped
field_step s config writer h = next_field_at (cursor_in h) (types_for config writer) s

-- what its contract says of a call on the head record h and the field record f
pub record NextField (s config : List ℕ) (writer : ℕ) (h f : List ℕ) (a : FieldCall) : Type 0 where
  pub result : a.result ≡ step_result (field_step s config writer h) h f
  pub head : a.head ≡ head_after (field_step s config writer h) h f
  pub field : a.field ≡ field_after (field_step s config writer h) h f

-- calls one after the other, each on the head record that the last one left and on a field record lent for it
abbrev pub FieldCalls : List ℕ → List ℕ → ℕ → List (List ℕ) → List ℕ → List FieldCall → Type 0
FieldCalls s config writer [] h [] = Unit {0}
FieldCalls s config writer [] h (a ∷ ys) = ⊥
FieldCalls s config writer (f ∷ fs) h [] = ⊥
FieldCalls s config writer (f ∷ fs) h (a ∷ ys) = NextField s config writer h f a × FieldCalls s config writer fs a.head ys

-- the head record after the last of them
abbrev pub last_head : List ℕ → List FieldCall → List ℕ
last_head h [] = h
last_head h (a ∷ ys) = last_head a.head ys

-- Call k, from the cursor c before the first field and on the field record f: document 01's walk is before field k after k steps, and
-- steps over it; `uadp_field` finds the same. The call answers number 0 and the field's offset, fills the field record with its numbers,
-- and leaves a head record whose cursor is before field k + 1.
pub record FieldTold (types s : List ℕ) (c : Cursor) (k : ℕ) (f : List ℕ) (a : FieldCall) : Type 0 where
  pub place : Field
  pub at : ℕ
  pub end : ℕ
  pub walked : walk_at c types k s ≡ got (cursor_before c k at) at
  pub stepped : next_field_at (cursor_before c k at) types s ≡ got (record { field = place; cursor = cursor_before c (k + 1) end }) end
  pub looked_up : field_place_at types k s ≡ got place end
  pub result : a.result ≡ result_of 0 place.offset
  pub filled : a.field ≡ laid f 0 (number_bytes (field_numbers place))
  pub cursor : cursor_in a.head ≡ cursor_before c (k + 1) end

-- each of the calls, the first of them call k
abbrev pub FieldsTold : List ℕ → List ℕ → Cursor → ℕ → List (List ℕ) → List FieldCall → Type 0
FieldsTold types s c k [] [] = Unit {0}
FieldsTold types s c k [] (a ∷ ys) = ⊥
FieldsTold types s c k (f ∷ fs) [] = ⊥
FieldsTold types s c k (f ∷ fs) (a ∷ ys) = FieldTold types s c k f a × FieldsTold types s c (k + 1) fs ys

-- What is claimed of the head record `head` of an accepted valid message m: calls on it tell the fields one after the other, and the call
-- after the last answers 10 and changes nothing.
pub record FieldsByCalls (s config : List ℕ) (writer : ℕ) (m : Message) (head : List ℕ) : Type 0 where
  pub told : (fs : List (List ℕ)) (ys : List FieldCall) → AllLong FIELD_SIZE fs → length fs ≤ m.cursor.count
      → FieldCalls s config writer fs head ys → FieldsTold (types_for config writer) s m.cursor 0 fs ys
  pub ended : (fs : List (List ℕ)) (ys : List FieldCall) → AllLong FIELD_SIZE fs → length fs ≡ m.cursor.count
      → FieldCalls s config writer fs head ys → (f : List ℕ) (a : FieldCall) → NextField s config writer (last_head head ys) f a
      → a ≡ field_call (result_of OVER_LIMIT 0) (last_head head ys) f

-- ---- a message that is opened

-- what a step answers on the head record h of an opened message: where a field is left its offset or, where it has a fault, what reading
-- the message answers; 10 where none is left
pub data StepOf (read : Answer (Valid Message)) (h : List ℕ) (result : ℕ) : Type 0 where
  field : (offset : ℕ) → (cursor_in h).next < (cursor_in h).count → result ≡ result_of 0 offset → StepOf read h result
  fault : (n place : ℕ) → (cursor_in h).next < (cursor_in h).count → read ≡ refused n place → result ≡ result_of n place
      → StepOf read h result
  last : (cursor_in h).count ≤ (cursor_in h).next → result ≡ result_of OVER_LIMIT 0 → StepOf read h result

-- what `uadp_end_message` answers there: 6 at the cursor's byte where a field is left, else what reading the message answers: where its
-- last field ends, or its fault
pub data EndOf (read : Answer (Valid Message)) (h : List ℕ) (result : ℕ) : Type 0 where
  left : (cursor_in h).next < (cursor_in h).count → result ≡ result_of DISAGREE (cursor_in h).at → EndOf read h result
  ended : (m : Message) → (cursor_in h).count ≤ (cursor_in h).next → read ≡ got (valid m) m.end → result ≡ result_of 0 m.end
      → EndOf read h result
  over : (n place : ℕ) → (cursor_in h).count ≤ (cursor_in h).next → read ≡ refused n place → result ≡ result_of n place
      → EndOf read h result

-- What is claimed of the head record `head` of an opened valid message: after any calls of `uadp_next_field`, whatever they answered, a
-- further one, and `uadp_end_message`, answer as reading the whole message would.
pub record OpenedByCalls (s config : List ℕ) (writer : ℕ) (head : List ℕ) : Type 0 where
  pub steps : (fs : List (List ℕ)) (ys : List FieldCall) → AllLong FIELD_SIZE fs → FieldCalls s config writer fs head ys
      → (f : List ℕ) (a : FieldCall) → FIELD_SIZE ≤ length f → NextField s config writer (last_head head ys) f a
      → StepOf (message_at (types_for config writer) s) (last_head head ys) a.result
  pub ends : (fs : List (List ℕ)) (ys : List FieldCall) → AllLong FIELD_SIZE fs → FieldCalls s config writer fs head ys
      → (result : ℕ) → result ≡ end_result (ended_at (cursor_in (last_head head ys)) s) (last_head head ys)
      → EndOf (message_at (types_for config writer) s) (last_head head ys) result

-- ---- a datagram's messages

-- the contract of `uadp_read`, of a call on the envelope record `entry`: its result, and the record afterwards; and that each element of
-- the datagram and of the configuration record is a byte
pub record EnvelopeRead (d config entry : List ℕ) (result : ℕ) (exit : List ℕ) : Type 0 where
  pub answer : result ≡ result_in (envelope_filling (network_message_at (sizes_in config) d)) entry
  pub filled : exit ≡ filled_in (envelope_filling (network_message_at (sizes_in config) d)) entry
  pub reads : EnvelopeReads (network_message_at (sizes_in config) d) entry exit
  pub bytes : Bytes d
  pub config_bytes_lem : Bytes config

-- a call of `uadp_next_message`: its result, and the envelope and the place record afterwards
pub record MessageCall : Type 0 where
  pub result : ℕ
  pub envelope : List ℕ
  pub place : List ℕ

abbrev pub message_call : ℕ → List ℕ → List ℕ → MessageCall
message_call result envelope place = record { result = result; envelope = envelope; place = place }

-- what its contract says of a call on the envelope record e and the place record p
pub record NextMessage (d config e p : List ℕ) (a : MessageCall) : Type 0 where
  pub result : a.result ≡ message_result (message_step config e d) e p
  pub envelope : a.envelope ≡ envelope_after (message_step config e d) e p
  pub place : a.place ≡ place_after (writer_at config e d) (message_step config e d) e p

-- calls one after the other, each on the envelope record that the last one left and on a place record lent for it
abbrev pub MessageCalls : List ℕ → List ℕ → List (List ℕ) → List ℕ → List MessageCall → Type 0
MessageCalls d config [] e [] = Unit {0}
MessageCalls d config [] e (a ∷ ys) = ⊥
MessageCalls d config (p ∷ ps) e [] = ⊥
MessageCalls d config (p ∷ ps) e (a ∷ ys) = NextMessage d config e p a × MessageCalls d config ps a.envelope ys

-- the envelope record after the last of them
abbrev pub last_envelope : List ℕ → List MessageCall → List ℕ
last_envelope e [] = e
last_envelope e (a ∷ ys) = last_envelope a.envelope ys

-- Call k on the place record p: it answers number 0 and k, fills the place record with the place that lookup gives for message k and with
-- its DataSetWriterId, and leaves an envelope record whose cursor is before message k + 1, where message k ends.
pub record MessageTold (d config : List ℕ) (m : NetworkMessage) (k : ℕ) (p : List ℕ) (a : MessageCall) : Type 0 where
  pub place : MessagePlace
  pub end : ℕ
  pub looked_up : message_place_at (sizes_in config) k d ≡ got place end
  pub result : a.result ≡ result_of 0 k
  pub filled : a.place
      ≡ laid p 0
      (number_bytes
      (place_numbers place (writer_id_of m.envelope.payload_header m.places.payload_header_end (ids_in config) k d)))
  pub cursor : messages_in a.envelope ≡ record { index = k + 1; at = end }

-- each of the calls, the first of them call k
abbrev pub MessagesTold : List ℕ → List ℕ → NetworkMessage → ℕ → List (List ℕ) → List MessageCall → Type 0
MessagesTold d config m k [] [] = Unit {0}
MessagesTold d config m k [] (a ∷ ys) = ⊥
MessagesTold d config m k (p ∷ ps) [] = ⊥
MessagesTold d config m k (p ∷ ps) (a ∷ ys) = MessageTold d config m k p a × MessagesTold d config m (k + 1) ps ys

-- What is claimed of the envelope record `envelope` of an accepted datagram m: calls on it tell the messages one after the other, and the
-- call after the last (of a chunk, the first) answers 10 and changes nothing.
pub record MessagesByCalls (d config : List ℕ) (m : NetworkMessage) (envelope : List ℕ) : Type 0 where
  pub told : (ps : List (List ℕ)) (ys : List MessageCall) → AllLong PLACE_SIZE ps → length ps ≤ m.payload.count
      → MessageCalls d config ps envelope ys → MessagesTold d config m 0 ps ys
  pub ended : (ps : List (List ℕ)) (ys : List MessageCall) → AllLong PLACE_SIZE ps → length ps ≡ m.payload.count
      → MessageCalls d config ps envelope ys → (p : List ℕ) (a : MessageCall) → NextMessage d config (last_envelope envelope ys) p a
      → a ≡ message_call (result_of OVER_LIMIT 0) (last_envelope envelope ys) p

-- ---- what was read, written again from the record

-- what `uadp_write` writes, from an envelope record and the parts g
abbrev pub datagram_from : List ℕ → List ℕ → datagram.GivenDatagram → Output
datagram_from config envelope g =
    fitting (envelope_fits envelope) (datagram.datagram_output g (envelope_in envelope) (sizes_in config) (ids_in config))

-- what its contract says of a call on the buffer `entry`: its result, and the buffer afterwards
pub record DatagramWritten (config envelope : List ℕ) (g : datagram.GivenDatagram) (entry : List ℕ) (result : ℕ)
    (exit : List ℕ) : Type 0 where
  pub answer : result ≡ output_result entry (datagram_from config envelope g)
  pub buffer : exit ≡ buffer_after entry (datagram_from config envelope g)

-- what `uadp_write_message` writes, from a head record and the parts g, whose header is the record's
abbrev pub message_from : List ℕ → ℕ → List ℕ → message.GivenMessage → Output
message_from config writer head g =
    fitting (head_fits head)
    (message.message_output (types_for config writer)
    (message.given_message (header_in head) g.heartbeat g.values g.lengths g.indices g.padding))

-- what its contract says of a call on the buffer `entry`: its result, and the buffer afterwards
pub record MessageWritten (config : List ℕ) (writer : ℕ) (head : List ℕ) (g : message.GivenMessage) (entry : List ℕ) (result : ℕ)
    (exit : List ℕ) : Type 0 where
  pub answer : result ≡ output_result entry (message_from config writer head g)
  pub buffer : exit ≡ buffer_after entry (message_from config writer head g)

-- What is claimed of such a call: these bytes are written, and nothing but the room can refuse them.
pub record Written (bytes entry : List ℕ) (result : ℕ) (exit : List ℕ) : Type 0 where
  pub answer : result ≡ output_result entry (writing bytes)
  pub buffer : exit ≡ buffer_after entry (writing bytes)

-- a datagram that was read into the record `envelope`: written from it and from the parts as they were read, it is the datagram, but for
-- the two exceptions of documents 01 and 02
abbrev pub DatagramAgain : List ℕ → List ℕ → NetworkMessage → List ℕ → Type 0
DatagramAgain d config m envelope =
    (entry : List ℕ) (result : ℕ) (exit : List ℕ)
    → DatagramWritten config envelope (given_of d m.envelope m.places (sizes_in config) (ids_in config)) entry result exit
    → Written (rewritten m d) entry result exit

-- a message that was read into the record `head`: written from it and from the parts as they were read, it is the message, but for
-- picoseconds of 10,000 or more
abbrev pub MessageAgain : List ℕ → List ℕ → ℕ → Message → List ℕ → Type 0
MessageAgain s config writer m head =
    (entry : List ℕ) (result : ℕ) (exit : List ℕ)
    → MessageWritten config writer head (taken_again (types_for config writer) s m) entry result exit
    → Written (message_held m.header s) entry result exit
