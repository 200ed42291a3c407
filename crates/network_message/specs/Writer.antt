-- The NetworkMessage written (document 01, "Numbers given back", "The envelope" and "The one rewriting exception"; document 02, Req 02).
use Rattle.std.specs.Prelude.{is_some}
use Rattle.std.specs.Prelude.{ℕ, Bool, not, ◌&&◌, List, ◌++◌, eqb, length, drop}
use Rattle.network_message.specs.declared.writer.Given.{Given}
use Rattle.network_header.specs.declared.envelope.Envelope.{Envelope}
use Rattle.network_header.specs.declared.envelope.Places.{Places}
use Rattle.network_header.specs.Numbers.{configured_sizes}
use Rattle.network_message.specs.Envelope.{network_message_at, messages_of}
use Rattle.wire_writer.specs.Fits.{Bytes, Numbers}
use Rattle.wire_writer.specs.Writing.{or_else, optional16_bytes, optional_i64_bytes, picoseconds_refusal, Output, writing, unless, after_reading, Writes}
use Rattle.std.specs.Prelude.{Result}
use Rattle.wire.specs.declared.refusal.Reason.{Reason}
use Rattle.network_header.specs.Envelope.{FitsEnvelope}
use Rattle.network_header.specs.Flags.{flag_bytes, flags_for, times_refusal, probe_refusal}
use Rattle.publisher_id.specs.Publisher.{publisher_bytes, publisher_refusal, publisher_shape, text_of}
use Rattle.network_header.specs.Group.{group_bytes, group_refusal}
use Rattle.network_header.specs.Header.{class_bytes, payload_header_bytes, promoted_bytes, count_refusal, promoted_refusal, ids_shape, promoted_shape, ids_of, promoted_of, probe_on}
use Rattle.network_message.specs.WriterPayload.{list_bytes, payload_refusal, lengths_shape}

-- what is given beside the envelope: the bytes of a string PublisherId, the DataSetWriterIds (2 bytes each), the promoted
-- fields, the lengths of several messages (2 bytes each), and the messages one after the other, a chunk's payload or a probe's body
pub record GivenDatagram : Type 0 where
  pub text : List ℕ
  pub ids : List ℕ
  pub promoted : List ℕ
  pub lengths : List ℕ
  pub messages : List ℕ

abbrev pub given_datagram : List ℕ → List ℕ → List ℕ → List ℕ → List ℕ → GivenDatagram
given_datagram text ids promoted lengths messages =
    record { text = text; ids = ids; promoted = promoted; lengths = lengths; messages = messages }

abbrev pub given_in : Given → GivenDatagram
given_in g = given_datagram g.text.now g.ids.now g.promoted.now g.lengths.now g.messages.now

-- everything before the payload, in the order of document 01: flags, PublisherId, DataSetClassId, group header, then
-- PayloadHeader, Timestamp, PicoSeconds, promoted fields
abbrev pub tail_bytes : List ℕ → List ℕ → Envelope → List ℕ
tail_bytes ids promoted x =
    payload_header_bytes ids x.payload_header
    ++ (optional_i64_bytes x.timestamp ++ (optional16_bytes x.picoseconds ++ promoted_bytes promoted x.promoted))

abbrev pub envelope_bytes : List ℕ → List ℕ → List ℕ → Envelope → List ℕ
envelope_bytes text ids promoted x =
    flag_bytes (flags_for x)
    ++ (publisher_bytes text x.publisher ++ (class_bytes x.class_id ++ (group_bytes x.group ++ tail_bytes ids promoted x)))

abbrev pub datagram_of : GivenDatagram → Envelope → List ℕ
datagram_of g x = envelope_bytes g.text g.ids g.promoted x ++ (list_bytes x.payload_header g.lengths ++ g.messages)

-- "A writer refuses what reading would refuse, by the same number in reading order"; at their turn PicoSeconds of 10,000 and up, by 3
-- (Req 02), though reading takes them as 9,999. ExtendedFlags2 refuses a probe that is a chunk or has promoted fields (Req 01).
abbrev pub header_refusal : Envelope → ℕ → ℕ → ℕ → ℕ
header_refusal x text configured payload =
    or_else (times_refusal (is_some x.picoseconds) (is_some x.timestamp))
    (or_else (probe_refusal (probe_on x.payload_header) x.chunk (is_some x.promoted))
    (or_else (publisher_refusal x.publisher text)
    (or_else (group_refusal x.group)
    (or_else (count_refusal x.payload_header)
    (or_else (picoseconds_refusal x.picoseconds)
    (or_else (promoted_refusal x.promoted (messages_of x.chunk x.payload_header configured)) payload))))))

-- what stands before the PicoSeconds of these
abbrev pub before_picoseconds : Envelope → ℕ → ℕ
before_picoseconds x text =
    or_else (times_refusal (is_some x.picoseconds) (is_some x.timestamp))
    (or_else (probe_refusal (probe_on x.payload_header) x.chunk (is_some x.promoted))
    (or_else (publisher_refusal x.publisher text)
    (or_else (group_refusal x.group) (count_refusal x.payload_header))))

-- the refusals in reading order of a datagram given
abbrev pub datagram_reading_refusal : GivenDatagram → Envelope → List ℕ → ℕ
datagram_reading_refusal g x sizes =
    header_refusal x (length g.text) (length (configured_sizes sizes))
    (payload_refusal x.chunk x.payload_header sizes g.lengths g.messages)

-- whether it is the turn of the PicoSeconds, and they are refused: nothing that stands before them is, and they are 10,000 or more. This
-- refusal alone is the writer's own.
abbrev pub picoseconds_turn : GivenDatagram → Envelope → Bool
picoseconds_turn g x = eqb (before_picoseconds x (length g.text)) 0 && not (eqb (picoseconds_refusal x.picoseconds) 0)

-- "then over 255 messages, or what would read back otherwise, by 6": a part of another length than said, one that nothing
-- announces, ids or lengths that are not the configured ones
abbrev pub shape_refusal : GivenDatagram → Envelope → List ℕ → List ℕ → ℕ
shape_refusal g x sizes configured =
    or_else (publisher_shape x.publisher (length g.text))
    (or_else (ids_shape x.chunk x.payload_header g.ids configured)
    (or_else (promoted_shape x.promoted (length g.promoted)) (lengths_shape x.payload_header g.lengths sizes)))

abbrev pub datagram_refusal : GivenDatagram → Envelope → List ℕ → List ℕ → ℕ
datagram_refusal g x sizes configured = or_else (datagram_reading_refusal g x sizes) (shape_refusal g x sizes configured)

-- what is written of a datagram given: its bytes, unless it is refused
abbrev pub datagram_output : GivenDatagram → Envelope → List ℕ → List ℕ → Output
datagram_output g x sizes configured = unless (datagram_refusal g x sizes configured) (datagram_of g x)

-- what the writer promises, of the buffer before and after and its answer: that what it was given fits its types, and what it wrote
abbrev pub WroteDatagram : GivenDatagram → Envelope → List ℕ → List ℕ → List ℕ → List ℕ → Result ℕ Reason → Type 0
WroteDatagram g x sizes configured entry exit r =
    FitsEnvelope x × Writes (datagram_output g x sizes configured) entry exit r × Numbers sizes × Numbers configured

-- Rewriting: the parts of a datagram as reading found them.

-- the datagram s, read as this envelope with its places, written again: its header parts, and its payload as it stands
abbrev pub again_of : List ℕ → Envelope → Places → List ℕ
again_of s x p =
    envelope_bytes (text_of s x.publisher p.publisher_end) (ids_of s x.payload_header p.payload_header_end)
    (promoted_of s x.promoted p.payload) x
    ++ drop p.payload s

-- what is written of a datagram read: reading's refusal is the writer's, else its parts again
abbrev pub datagram_again : List ℕ → List ℕ → Output
datagram_again sizes s = after_reading (network_message_at sizes s) (λ m. writing (again_of s m.envelope m.places))

-- what `rewrite` promises: that the datagram's bytes are bytes, and what it wrote
abbrev pub RewroteParts : List ℕ → List ℕ → List ℕ → List ℕ → Result ℕ Reason → Type 0
RewroteParts sizes s entry exit r = Bytes s × Writes (datagram_again sizes s) entry exit r
