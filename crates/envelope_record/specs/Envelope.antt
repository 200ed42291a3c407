-- The records of an envelope and of a message's place (include/uadp.h).
use Rattle.std.specs.Prelude.{Option, Some, None}
use Rattle.std.specs.Prelude.{ℕ, ◌+◌, ◌*◌, ◌^◌, ◌<◌, ◌≡◌, Bool, true, cond, ◌&&◌, List, [], ◌∷◌, ◌++◌, eqb, leb}
use Rattle.wire.specs.declared.Guid.{Guid}
use Rattle.network_header.specs.declared.group.GroupFields.{GroupFields}
use Rattle.publisher_id.specs.PublisherRecord.{code_of}
use Rattle.network_message.specs.Envelope.{NetworkMessage}
use Rattle.network_header.specs.Envelope.{FitsEnvelope}
use Rattle.network_header.specs.declared.envelope.Envelope.{Envelope}
use Rattle.network_header.specs.declared.envelope.Places.{Places}
use Rattle.network_header.specs.declared.header.PayloadHeader.{PayloadHeader}
use Rattle.network_message.specs.declared.payload.Sizes.{Sizes}
use Rattle.network_message.specs.declared.payload.Payload.{Payload}
use Rattle.network_message.specs.declared.payload.MessagePlace.{MessagePlace}
use Rattle.network_message.specs.declared.payload.MessageCursor.{MessageCursor}
use Rattle.wire.specs.Answer.{bit}
use Rattle.records.specs.Numbers.{number_at}
use Rattle.wire.specs.Number.{le_bytes}
use Rattle.wire_writer.specs.Store.{laid}
use Rattle.records.specs.Publisher.{publisher_number, publisher_given, publisher_number_fits, FitsId}
use Rattle.config.specs.Writers.{at_most}
use Rattle.records.specs.Items.{has_item, item_value, value_i64, flag_number, given16, given32, fits_item, is_on, given_i64}

-- "DataSetClassId: 0 absent, else present; its first 8 bytes; its last 8 bytes, each as a number"
abbrev pub class_low : Option Guid → ℕ
class_low None = 0
class_low (Some v) = v.low

abbrev pub class_high : Option Guid → ℕ
class_high None = 0
class_high (Some v) = v.high

-- "group header: 0 absent, else 16, and 1 with WriterGroupId, 2 with GroupVersion, 4 with NetworkMessageNumber, 8 with SequenceNumber,
-- added up"
abbrev pub group_items : Option GroupFields → ℕ
group_items None = 0
group_items (Some g) = 16 + has_item g.writer_group + 2 * has_item g.version + 4 * has_item g.number + 8 * has_item g.sequence

abbrev pub group_writer : Option GroupFields → ℕ
group_writer None = 0
group_writer (Some g) = item_value g.writer_group

abbrev pub group_version : Option GroupFields → ℕ
group_version None = 0
group_version (Some g) = item_value g.version

abbrev pub group_number : Option GroupFields → ℕ
group_number None = 0
group_number (Some g) = item_value g.number

abbrev pub group_sequence : Option GroupFields → ℕ
group_sequence None = 0
group_sequence (Some g) = item_value g.sequence

-- "PayloadHeader: 0 absent, 1 Count and ids, 2 a chunk's writer id, 3 absent and the payload is a probe"; "Count, or the chunk's writer id"
abbrev pub header_code : PayloadHeader → ℕ
header_code PayloadHeader.Absent = 0
header_code (PayloadHeader.Ids n) = 1
header_code (PayloadHeader.Chunk w) = 2
header_code PayloadHeader.Probe = 3

abbrev pub header_number : PayloadHeader → ℕ
header_number PayloadHeader.Absent = 0
header_number (PayloadHeader.Ids n) = n
header_number (PayloadHeader.Chunk w) = w
header_number PayloadHeader.Probe = 0

-- "their sizes: 0 the rest, 1 listed, 2 configured; where listed sizes stand (0 if not)"
abbrev pub sizes_code : Sizes → ℕ
sizes_code Sizes.Rest = 0
sizes_code (Sizes.Listed p) = 1
sizes_code Sizes.Configured = 2

abbrev pub sizes_place : Sizes → ℕ
sizes_place Sizes.Rest = 0
sizes_place (Sizes.Listed p) = p
sizes_place Sizes.Configured = 0

-- the first 14 numbers of an envelope: PublisherId, DataSetClassId, group header, chunk, PayloadHeader
abbrev pub start_numbers : Envelope → Places → List ℕ
start_numbers e w =
    code_of e.publisher ∷ publisher_number e.publisher ∷ w.publisher_end ∷ has_item e.class_id ∷ class_low e.class_id
    ∷ class_high e.class_id ∷ group_items e.group ∷ group_writer e.group ∷ group_version e.group ∷ group_number e.group
    ∷ group_sequence e.group ∷ flag_number e.chunk ∷ header_code e.payload_header ∷ header_number e.payload_header ∷ []

-- the other 18: the PayloadHeader's end, times, promoted fields, the payload; the cursor stands before the first message; the last four
-- are spare and hold 0
abbrev pub rest_numbers : Envelope → Places → Payload → List ℕ
rest_numbers e w p =
    w.payload_header_end ∷ has_item e.timestamp ∷ value_i64 e.timestamp ∷ has_item e.picoseconds ∷ item_value e.picoseconds
    ∷ has_item e.promoted ∷ item_value e.promoted ∷ w.payload ∷ p.count ∷ sizes_code p.sizes ∷ sizes_place p.sizes
    ∷ p.first ∷ 0
    ∷ p.first ∷ 0 ∷ 0 ∷ 0 ∷ 0 ∷ []

-- the 32 numbers of an envelope
abbrev pub envelope_numbers : NetworkMessage → List ℕ
envelope_numbers m = start_numbers m.envelope m.places ++ rest_numbers m.envelope m.places m.payload

-- the parts of an envelope record that the messages' cursor needs
abbrev pub sizes_by : ℕ → ℕ → Sizes
sizes_by code place = cond (eqb code 1) (Sizes.Listed place) (cond (eqb code 2) Sizes.Configured Sizes.Rest)

abbrev pub payload_in : List ℕ → Payload
payload_in s = record { count = number_at s 22; sizes = sizes_by (number_at s 23) (number_at s 24); first = number_at s 25 }

abbrev pub messages_in : List ℕ → MessageCursor
messages_in s = record { index = number_at s 26; at = number_at s 27 }

-- the record with its message cursor moved: the numbers 26 and 27
abbrev pub messages_laid : MessageCursor → List ℕ → List ℕ
messages_laid c s = laid (laid s (8 * 26) (le_bytes 8 c.index)) (8 * 27) (le_bytes 8 c.at)

-- "DataSetWriterId, 65536 for none"
abbrev pub writer_number : Option ℕ → ℕ
writer_number None = 65536
writer_number (Some id) = id

-- the 4 numbers of a message's place
abbrev pub place_numbers : MessagePlace → Option ℕ → List ℕ
place_numbers p writer = p.index ∷ p.offset ∷ p.length ∷ writer_number writer ∷ []

-- "DataSetClassId: 0 absent, else present; its first 8 bytes; its last 8 bytes, each as a number"
abbrev pub class_in : ℕ → ℕ → ℕ → Option Guid
class_in present low high = cond (eqb present 0) None (Some (record { low = low; high = high }))

-- "group header: 0 absent, else 16, and 1 with WriterGroupId, 2 with GroupVersion, 4 with NetworkMessageNumber, 8 with SequenceNumber,
-- added up"
abbrev pub group_in : List ℕ → ℕ → Option GroupFields
group_in s items =
    cond (eqb items 0) None
    (Some
    (record {
      writer_group = given16 (bit 0 items) (number_at s 7);
      version = given32 (bit 1 items) (number_at s 8);
      number = given16 (bit 2 items) (number_at s 9);
      sequence = given16 (bit 3 items) (number_at s 10);
    }))

-- "PayloadHeader: 0 absent, 1 Count and ids, 2 a chunk's writer id, 3 absent and the payload is a probe (above 3 counts as absent)";
-- "Count, or the chunk's writer id"
abbrev pub payload_header_by : ℕ → ℕ → PayloadHeader
payload_header_by kind v =
    cond (eqb kind 1) (PayloadHeader.Ids (at_most 65535 v))
    (cond (eqb kind 2) (PayloadHeader.Chunk (at_most 65535 v)) (cond (eqb kind 3) PayloadHeader.Probe PayloadHeader.Absent))

abbrev pub payload_header_in : List ℕ → PayloadHeader
payload_header_in s = payload_header_by (number_at s 12) (number_at s 13)

-- "where the PayloadHeader ends"
abbrev pub payload_header_end : List ℕ → ℕ
payload_header_end s = number_at s 14

-- "promoted fields: 0 absent, else present; their size"
abbrev pub promoted_in : ℕ → ℕ → Option ℕ
promoted_in present size = cond (eqb present 0) None (Some size)

-- the envelope of an envelope record: "the numbers 0, 1, 3 to 13 and 15 to 20 are read"
abbrev pub envelope_in : List ℕ → Envelope
envelope_in s =
    record {
      publisher = publisher_given (number_at s 0) (number_at s 1);
      class_id = class_in (number_at s 3) (number_at s 4) (number_at s 5);
      group = group_in s (number_at s 6);
      chunk = is_on (number_at s 11);
      payload_header = payload_header_in s;
      timestamp = given_i64 (is_on (number_at s 15)) (number_at s 16);
      picoseconds = given16 (is_on (number_at s 17)) (number_at s 18);
      promoted = promoted_in (number_at s 19) (number_at s 20);
    }

-- "a number that does not fit its item": whether the number of each item that is present fits it, in the record's order. A timestamp, a
-- DataSetClassId and a String's length have every number; the size of promoted fields is the writer's to judge.

abbrev pub group_fits : List ℕ → ℕ → Bool
group_fits s items =
    fits_item (bit 0 items) 65535 (number_at s 7)
    && (fits_item (bit 1 items) 4294967295 (number_at s 8)
    && (fits_item (bit 2 items) 65535 (number_at s 9) && fits_item (bit 3 items) 65535 (number_at s 10)))

-- a Count has one byte, a chunk's writer id two
abbrev pub header_fits : ℕ → ℕ → Bool
header_fits kind v = fits_item (eqb kind 1) 255 v && fits_item (eqb kind 2) 65535 v

abbrev pub envelope_fits : List ℕ → Bool
envelope_fits s =
    publisher_number_fits (number_at s 0) (number_at s 1)
    && (group_fits s (number_at s 6)
    && (header_fits (number_at s 12) (number_at s 13) && fits_item (is_on (number_at s 17)) 65535 (number_at s 18)))

-- each number of a datagram's envelope fits the record's, as a value of the code does
pub record FitsEnvelopeRecord (m : NetworkMessage) : Type 0 where
  pub envelope : FitsEnvelope m.envelope
  pub publisher : FitsId m.envelope.publisher
  pub header : header_number m.envelope.payload_header < 65536
  pub promoted : item_value m.envelope.promoted < 256 ^ 8
  pub publisher_end : m.places.publisher_end < 256 ^ 8
  pub header_end : m.places.payload_header_end < 256 ^ 8
  pub start : m.places.payload < 256 ^ 8
  pub count : m.payload.count < 256 ^ 8
  pub sizes : sizes_place m.payload.sizes < 256 ^ 8
  pub first : m.payload.first < 256 ^ 8

-- whether a Count has one byte
abbrev pub count_fits : PayloadHeader → Bool
count_fits PayloadHeader.Absent = true
count_fits (PayloadHeader.Ids n) = leb n 255
count_fits (PayloadHeader.Chunk w) = true
count_fits PayloadHeader.Probe = true

-- what the library reads in the envelope record r is the datagram's, each number of which fits the record's
pub record EnvelopeBack (r : List ℕ) (m : NetworkMessage) : Type 0 where
  pub fits : FitsEnvelopeRecord m
  -- its envelope, and each number of it fits its item: of a Count this is so where it has one byte, as every Count that was read has
  pub envelope : envelope_in r ≡ m.envelope
  pub fitting : envelope_fits r ≡ count_fits m.envelope.payload_header
  -- its PayloadHeader and where it ends, from which the DataSetWriterIds are known
  pub header : payload_header_in r ≡ m.envelope.payload_header
  pub header_end : payload_header_end r ≡ m.places.payload_header_end
  -- its messages, and the cursor before the first of them
  pub payload : payload_in r ≡ m.payload
  pub messages : messages_in r ≡ record { index = 0; at = m.payload.first }
