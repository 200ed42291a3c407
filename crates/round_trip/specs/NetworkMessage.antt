-- What the round trips of NetworkMessages say.
use Rattle.std.specs.Prelude.{Some}
use Rattle.std.specs.Prelude.{ℕ, suc, ◌+◌, ◌*◌, ◌-◌, ◌/◌, ◌<◌, ◌≡◌, Bool, true, false, cond, not, ◌&&◌, List, [], ◌∷◌, ◌++◌, leb, eqb, length, take, drop, get_or}
use Rattle.wire.specs.Lists.{total}
use Rattle.wire.specs.Constants.{MOST_WRITERS}
use Rattle.wire.specs.Number.{le, le_bytes}
use Rattle.wire.specs.Answer.{got, bit}
use Rattle.network_header.specs.declared.header.PayloadHeader.{PayloadHeader}
use Rattle.network_message.specs.declared.payload.Sizes.{Sizes}
use Rattle.network_message.specs.declared.payload.Payload.{Payload}
use Rattle.network_message.specs.declared.payload.MessagePlace.{MessagePlace}
use Rattle.network_header.specs.declared.envelope.Envelope.{Envelope}
use Rattle.network_header.specs.declared.envelope.Places.{Places}
use Rattle.network_message.specs.Payload.{all_positive, listed, messages_from, OfMessages}
use Rattle.network_header.specs.Numbers.{configured_sizes}
use Rattle.network_header.specs.Flags.{flag_bytes, flags_for}
use Rattle.network_header.specs.Envelope.{envelope_held}
use Rattle.network_message.specs.WriterId.{writer_id_of}
use Rattle.network_message.specs.Envelope.{NetworkMessage, network_message_at, message_place_at, message_bytes}
use Rattle.publisher_id.specs.Publisher.{publisher_bytes, bytes_before, text_of}
use Rattle.network_header.specs.Group.{group_bytes}
use Rattle.network_header.specs.Header.{class_bytes, payload_header_bytes, promoted_of}
use Rattle.network_message.specs.Writer.{GivenDatagram, envelope_bytes, shape_refusal}

-- where the variable parts of a written envelope end
abbrev pub places_of : GivenDatagram → Envelope → Places
places_of g x =
    record {
      publisher_end = length (flag_bytes (flags_for x) ++ publisher_bytes g.text x.publisher);
      payload_header_end =
          length
          (flag_bytes (flags_for x)
          ++ (publisher_bytes g.text x.publisher
          ++ (class_bytes x.class_id ++ (group_bytes x.group ++ payload_header_bytes g.ids x.payload_header))));
      payload = length (envelope_bytes g.text g.ids g.promoted x);
    }

-- the payload of a written envelope, which starts at a position
abbrev pub payload_for : PayloadHeader → List ℕ → ℕ → Payload
payload_for PayloadHeader.Absent sizes at =
    cond (all_positive (configured_sizes sizes)) (messages_from (length (configured_sizes sizes)) Sizes.Configured at)
    (messages_from 1 Sizes.Rest at)
payload_for (PayloadHeader.Ids n) sizes at = cond (leb n 1) (messages_from 1 Sizes.Rest at) (messages_from n (Sizes.Listed at) (at + 2 * n))
payload_for (PayloadHeader.Chunk w) sizes at = messages_from 0 Sizes.Rest at
payload_for PayloadHeader.Probe sizes at = messages_from 0 Sizes.Rest at

-- what was written, as reading answers it
abbrev pub written_message : GivenDatagram → Envelope → List ℕ → NetworkMessage
written_message g x sizes =
    record {
      envelope = x;
      places = places_of g x;
      payload = payload_for x.payload_header sizes (length (envelope_bytes g.text g.ids g.promoted x));
    }

-- the lengths of the messages as given: of several messages their lengths, of one all of its bytes; a chunk has no messages, nor a probe
abbrev pub given_lengths : GivenDatagram → PayloadHeader → List ℕ → List ℕ
given_lengths g PayloadHeader.Absent sizes =
    cond (leb (length (configured_sizes sizes)) 1) (length g.messages ∷ []) (listed (length (configured_sizes sizes)) g.lengths 0)
given_lengths g (PayloadHeader.Ids n) sizes = cond (leb n 1) (length g.messages ∷ []) (listed n g.lengths 0)
given_lengths g (PayloadHeader.Chunk w) sizes = []
given_lengths g PayloadHeader.Probe sizes = []

-- message k of messages that stand one after the other and have these lengths
abbrev pub message_given : List ℕ → List ℕ → ℕ → List ℕ
message_given zs messages k = take (get_or zs k 0) (drop (total (take k zs)) messages)

abbrev pub place_given : List ℕ → ℕ → ℕ → MessagePlace
place_given zs first k = record { index = k; offset = first + total (take k zs); length = get_or zs k 0 }

-- of several messages with a PayloadHeader, as many lengths are given as its Count says
abbrev pub AsManyLengths : PayloadHeader → List ℕ → Type 0
AsManyLengths PayloadHeader.Absent lengths = Unit {0}
AsManyLengths (PayloadHeader.Ids n) lengths = leb n 1 ≡ false → length lengths ≡ 2 * n
AsManyLengths (PayloadHeader.Chunk w) lengths = Unit {0}
AsManyLengths PayloadHeader.Probe lengths = Unit {0}

-- a PayloadHeader goes with its ids: Count, of at most one byte, says how many are given, and is not for a chunk; a chunk's own is for a
-- chunk, and no ids are given, as for a probe
abbrev pub AsManyIds : Bool → PayloadHeader → List ℕ → Type 0
AsManyIds chunk PayloadHeader.Absent ids = Unit {0}
AsManyIds chunk (PayloadHeader.Ids n) ids = (chunk ≡ false) × (n < 256) × (length ids ≡ 2 * n)
AsManyIds chunk (PayloadHeader.Chunk w) ids = (chunk ≡ true) × (length ids ≡ 0)
AsManyIds chunk PayloadHeader.Probe ids = length ids ≡ 0

-- What would be written of these parts is one thing: ids and lengths are as many as Count says. (A said length of a string or of promoted
-- fields plays no part: their bytes are written.)
pub record CountsAgree (g : GivenDatagram) (x : Envelope) : Type 0 where
  pub ids : AsManyIds x.chunk x.payload_header g.ids
  pub lengths : AsManyLengths x.payload_header g.lengths

-- The parts agree with the envelope: none is refused for its shape, and lengths are as many as Count says.
pub record PartsAgree (g : GivenDatagram) (x : Envelope) (sizes configured : List ℕ) : Type 0 where
  pub shape : shape_refusal g x sizes configured ≡ 0
  pub lengths : AsManyLengths x.payload_header g.lengths

-- The first rewriting exception: "With PublisherId off, its type bits are written as 0; if ExtendedFlags1 would then be 0, the byte is left
-- out and bit 7 of byte 0 is 0." b is byte 0, whose bit 7 says that ExtendedFlags1 follows, e; every other byte stays.
abbrev pub type_cleared : List ℕ → List ℕ
type_cleared [] = []
type_cleared (b ∷ []) = b ∷ []
type_cleared (b ∷ e ∷ s) =
    cond (bit 7 b && not (bit 4 b)) (cond (eqb (e / 8) 0) ((b - 128) ∷ s) (b ∷ (8 * (e / 8)) ∷ s)) (b ∷ e ∷ s)

-- A datagram that was read as m, written again: the same bytes but for that exception and the second, "the rewritten envelope .. holds
-- 9,999 there", where its PicoSeconds are 10,000 or more. All else stands as it stood: "a message handed on as bytes keeps its own".
abbrev pub rewritten : NetworkMessage → List ℕ → List ℕ
rewritten m s = type_cleared (envelope_held m.envelope m.places s)

-- the parts of a datagram as reading found them, to be given to the writer

-- numbers of 2 bytes, one after the other
abbrev pub numbers_bytes : List ℕ → List ℕ
numbers_bytes [] = []
numbers_bytes (x ∷ xs) = le_bytes 2 x ++ numbers_bytes xs

abbrev pub ids_given : List ℕ → PayloadHeader → ℕ → List ℕ → List ℕ
ids_given s PayloadHeader.Absent end configured = numbers_bytes (take MOST_WRITERS configured)
ids_given s (PayloadHeader.Ids n) end configured = bytes_before s end (2 * n)
ids_given s (PayloadHeader.Chunk w) end configured = []
ids_given s PayloadHeader.Probe end configured = []

abbrev pub lengths_given : List ℕ → PayloadHeader → ℕ → List ℕ → List ℕ
lengths_given s PayloadHeader.Absent at sizes = cond (leb (length (configured_sizes sizes)) 1) [] (numbers_bytes (configured_sizes sizes))
lengths_given s (PayloadHeader.Ids n) at sizes = cond (leb n 1) [] (take (2 * n) (drop at s))
lengths_given s (PayloadHeader.Chunk w) at sizes = []
lengths_given s PayloadHeader.Probe at sizes = []

abbrev pub messages_given : List ℕ → PayloadHeader → ℕ → List ℕ
messages_given s PayloadHeader.Absent at = drop at s
messages_given s (PayloadHeader.Ids n) at = cond (leb n 1) (drop at s) (drop (at + 2 * n) s)
messages_given s (PayloadHeader.Chunk w) at = drop at s
messages_given s PayloadHeader.Probe at = drop at s

abbrev pub given_of : List ℕ → Envelope → Places → List ℕ → List ℕ → GivenDatagram
given_of s x p sizes configured =
    record {
      text = text_of s x.publisher p.publisher_end;
      ids = ids_given s x.payload_header p.payload_header_end configured;
      promoted = promoted_of s x.promoted p.payload;
      lengths = lengths_given s x.payload_header p.payload sizes;
      messages = messages_given s x.payload_header p.payload;
    }

-- The bytes d, which the writer wrote, read back under the same configuration as what it was given.
pub record ReadsBack (g : GivenDatagram) (x : Envelope) (sizes configured d : List ℕ) : Type 0 where
  -- the envelope, where its parts end, and the payload
  pub whole : network_message_at sizes d ≡ got (written_message g x sizes) (written_message g x sizes).payload.first
  -- a string PublisherId and the promoted fields, byte by byte
  pub text : text_of d x.publisher (places_of g x).publisher_end ≡ g.text
  pub promoted : promoted_of d x.promoted (places_of g x).payload ≡ g.promoted
  -- the DataSetWriterId of message k
  pub writer_id : (k : ℕ) → 2 * k < length g.ids
      → writer_id_of x.payload_header (places_of g x).payload_header_end configured k d ≡ Some (le 2 g.ids (2 * k))
  -- message k: where it stands, and its bytes
  pub message : OfMessages x.payload_header → (k : ℕ) → k < length (given_lengths g x.payload_header sizes)
      → (message_place_at sizes k d
      ≡ got (place_given (given_lengths g x.payload_header sizes) (written_message g x sizes).payload.first k)
      ((written_message g x sizes).payload.first + total (take (suc k) (given_lengths g x.payload_header sizes))))
      × (message_bytes (message_place_at sizes k d) d ≡ message_given (given_lengths g x.payload_header sizes) g.messages k)
  -- a chunk's payload
  pub chunk : (w : ℕ) → x.payload_header ≡ PayloadHeader.Chunk w → drop (written_message g x sizes).payload.first d ≡ g.messages
  -- a probe's body
  pub probe : x.payload_header ≡ PayloadHeader.Probe → drop (places_of g x).payload d ≡ g.messages
