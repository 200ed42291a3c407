-- The NetworkMessage whole (document 01, "The envelope").
use Rattle.std.specs.Prelude.{ℕ, Bool, cond, List, [], length, take, drop, ltb}
use Rattle.std.specs.Prelude.{Result, Ok, Err}
use Rattle.wire.specs.Refusal.{reason_number}
use Rattle.wire.specs.declared.refusal.Refusal.{Refusal}
use Rattle.wire.specs.Constants.{MOST_DATAGRAM, OVER_LIMIT}
use Rattle.wire.specs.Answer.{Answer, got, refused, Reader, here, pure, and_then, ◌>>=◌}
use Rattle.wire.specs.Optional.{optional_i64, picoseconds_at}
use Rattle.network_header.specs.declared.flags.Flags.{Flags}
use Rattle.network_header.specs.declared.header.PayloadHeader.{PayloadHeader}
use Rattle.network_message.specs.declared.payload.Payload.{Payload}
use Rattle.network_message.specs.declared.payload.MessagePlace.{MessagePlace}
use Rattle.network_message.specs.declared.envelope.Identity.{Identity}
use Rattle.network_message.specs.declared.envelope.Times.{Times}
use Rattle.network_header.specs.declared.envelope.Envelope.{Envelope}
use Rattle.network_header.specs.declared.envelope.Places.{Places}
use Rattle.network_header.specs.Flags.{flags_at}
use Rattle.publisher_id.specs.Publisher.{publisher_at}
use Rattle.network_header.specs.Group.{group_at}
use Rattle.network_header.specs.Header.{class_at, payload_header_at, promoted_at}
use Rattle.network_header.specs.Numbers.{configured_sizes}
use Rattle.network_message.specs.Payload.{payload_at, nth_place_at}

-- what is read: the envelope, where its variable parts end, and where its messages stand
pub record Header : Type 0 where
  pub envelope : Envelope
  pub places : Places

pub record NetworkMessage : Type 0 where
  pub envelope : Envelope
  pub places : Places
  pub payload : Payload

-- PublisherId, DataSetClassId, group header, in this order
abbrev pub identity_at : Flags → Reader Identity
identity_at f = do
  p ← publisher_at f.publisher f.kind
  e ← here
  c ← class_at f.class_id
  g ← group_at f.group
  pure (record { publisher = p; publisher_end = e; class_id = c; group = g })

-- Timestamp, PicoSeconds, promoted fields
abbrev pub times_at : Flags → ℕ → Reader Times
times_at f messages = do
  t ← optional_i64 f.timestamp
  p ← picoseconds_at f.picoseconds
  m ← promoted_at f.promoted messages
  pure (record { timestamp = t; picoseconds = p; promoted = m })

-- "the number of messages .. a chunk counts as one, without a PayloadHeader the configured writers count"; a probe has none
abbrev pub count_of : PayloadHeader → ℕ → ℕ
count_of PayloadHeader.Absent configured = configured
count_of (PayloadHeader.Ids n) configured = n
count_of (PayloadHeader.Chunk w) configured = 1
count_of PayloadHeader.Probe configured = 0

abbrev pub messages_of : Bool → PayloadHeader → ℕ → ℕ
messages_of chunk p configured = cond chunk 1 (count_of p configured)

abbrev pub envelope_of : Flags → Identity → PayloadHeader → Times → Envelope
envelope_of f i p t =
    record {
      publisher = i.publisher;
      class_id = i.class_id;
      group = i.group;
      chunk = f.chunk;
      payload_header = p;
      timestamp = t.timestamp;
      picoseconds = t.picoseconds;
      promoted = t.promoted;
    }

-- what stands between the flags and the payload
abbrev pub envelope_at : Flags → ℕ → Reader Header
envelope_at f configured = do
  i ← identity_at f
  p ← payload_header_at f.payload_header f.chunk f.probe
  e ← here
  t ← times_at f (messages_of f.chunk p configured)
  z ← here
  pure (record {
    envelope = envelope_of f i p t;
    places = record { publisher_end = i.publisher_end; payload_header_end = e; payload = z };
  })

-- and the payload after it, under the sizes of the configured writers
abbrev pub envelope_body_at : Flags → List ℕ → Reader NetworkMessage
envelope_body_at f sizes = do
  h ← envelope_at f (length (configured_sizes sizes))
  p ← payload_at h.envelope.chunk h.envelope.payload_header sizes
  pure (record { envelope = h.envelope; places = h.places; payload = p })

-- "A datagram above 65,535 bytes is 10 before all else."
abbrev pub network_message_at : List ℕ → List ℕ → Answer NetworkMessage
network_message_at sizes s = cond (ltb MOST_DATAGRAM (length s)) (refused OVER_LIMIT 0) ((flags_at >>= λ f. envelope_body_at f sizes) s 0)

-- where message k of a datagram stands: the datagram's own refusal first, then 10 for a k past the last
abbrev pub message_place_at : List ℕ → ℕ → List ℕ → Answer MessagePlace
message_place_at sizes k s = and_then (network_message_at sizes s) (λ m first. nth_place_at m.payload sizes k s m.payload.first)

-- "Each data set message is handed on as its own part of the datagram": nothing where it is refused
abbrev pub message_bytes : Answer MessagePlace → List ℕ → List ℕ
message_bytes (got m next) s = take m.length (drop m.offset s)
message_bytes (refused n place) s = []

-- what the answers of the code say

abbrev pub answer_envelope : Result (Envelope × Places) Refusal → Answer Header
answer_envelope (Ok (e, p)) = got (record { envelope = e; places = p }) p.payload
answer_envelope (Err r) = refused (reason_number r.reason) r.place

abbrev pub answer_network_message : Result (Envelope × Places × Payload) Refusal → Answer NetworkMessage
answer_network_message (Ok (e, p, m)) = got (record { envelope = e; places = p; payload = m }) m.first
answer_network_message (Err r) = refused (reason_number r.reason) r.place
