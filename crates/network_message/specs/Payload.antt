-- The payload and its DataSetMessages (document 01, "Payload").
use Rattle.std.specs.Prelude.{ℕ, zero, suc, ◌+◌, ◌*◌, ◌-◌, Bool, true, false, cond, ◌&&◌, List, [], ◌∷◌, length, get_or, leb, ltb, eqb}
use Rattle.wire.specs.Lists.{total}
use Rattle.std.specs.Prelude.{Result, Ok, Err}
use Rattle.wire.specs.Refusal.{reason_number}
use Rattle.wire.specs.declared.refusal.Refusal.{Refusal}
use Rattle.wire.specs.Constants.{CUT_SHORT, DISAGREE, NOT_CONFIGURED, NOT_TAKEN, OVER_LIMIT}
use Rattle.wire.specs.Number.{le}
use Rattle.wire.specs.Answer.{Answer, got, refused, Reader, item, run, and_then}
use Rattle.network_header.specs.declared.header.PayloadHeader.{PayloadHeader}
use Rattle.network_message.specs.declared.payload.Sizes.{Sizes}
use Rattle.network_message.specs.declared.payload.Payload.{Payload}
use Rattle.network_message.specs.declared.payload.MessagePlace.{MessagePlace}
use Rattle.network_message.specs.declared.payload.MessageCursor.{MessageCursor}
use Rattle.network_header.specs.Numbers.{configured_sizes}
use Rattle.probe.specs.Body.{probe_body_at}

-- whether each size is at least 1
abbrev pub all_positive : List ℕ → Bool
all_positive [] = true
all_positive (x ∷ xs) = ltb 0 x && all_positive xs

-- the n sizes of 2 bytes from position at
abbrev pub listed : ℕ → List ℕ → ℕ → List ℕ
listed zero s at = []
listed (suc n) s at = le 2 s at ∷ listed n s (at + 2)

abbrev pub messages_from : ℕ → Sizes → ℕ → Payload
messages_from n z at = record { count = n; sizes = z; first = at }

-- "With Count 1 the rest is the message"; "An empty rest for a single unsized message is 1"
abbrev pub rest_only_at : Reader Payload
rest_only_at s at = cond (ltb at (length s)) (got (messages_from 1 Sizes.Rest at) at) (refused CUT_SHORT at)

-- "With Count above 1: Count sizes of 2 bytes; each at least 1 and their sum equal to the rest, else 6", at the sizes' first byte
abbrev pub listed_at : ℕ → Reader Payload
listed_at n s at =
    and_then (run (2 * n) s at)
    (λ _ next.
    cond (all_positive (listed n s at) && eqb (next + total (listed n s at)) (length s))
    (got (messages_from n (Sizes.Listed at) next) next) (refused DISAGREE at))

-- "a sum unequal to the rest is 6", at the payload's first byte
abbrev pub sized_at : ℕ → ℕ → Reader Payload
sized_at n sum s at = cond (eqb (at + sum) (length s)) (got (messages_from n Sizes.Configured at) at) (refused DISAGREE at)

-- "Without a PayloadHeader the configured writers apply in order: none, or several of which one has no size, is 8";
-- "one writer without size takes the rest"
abbrev pub configured_at : List ℕ → Reader Payload
configured_at sizes s at =
    cond (eqb (length sizes) 0) (refused NOT_CONFIGURED 0)
    (cond (all_positive sizes)
    (sized_at (length sizes) (total sizes) s at)
    (cond (eqb (length sizes) 1) (rest_only_at s at) (refused NOT_CONFIGURED 0)))

-- a payload that is one message, with no list of sizes
abbrev pub is_single : PayloadHeader → Bool
is_single PayloadHeader.Absent = false
is_single (PayloadHeader.Ids n) = eqb n 1
is_single (PayloadHeader.Chunk w) = false
is_single PayloadHeader.Probe = false

-- Req 01: a probe's payload is its body, whose refusal is the datagram's; it has no messages
abbrev pub probe_payload_at : Reader Payload
probe_payload_at s at = and_then (probe_body_at s at) (λ p next. got (messages_from 0 Sizes.Rest at) at)

-- "For a chunk, PayloadHeader off is 8". A chunk's payload has no messages of its own. "Count 1 (0 is 6)", "A chunked probe stays 4": in a
-- datagram the PayloadHeader and ExtendedFlags2 have refused them before.
abbrev pub payload_at : Bool → PayloadHeader → List ℕ → Reader Payload
payload_at chunk PayloadHeader.Absent sizes s at = cond chunk (refused NOT_CONFIGURED 0) (configured_at (configured_sizes sizes) s at)
payload_at chunk (PayloadHeader.Ids n) sizes s at =
    cond (eqb n 0) (refused DISAGREE at) (cond (leb n 1) (rest_only_at s at) (listed_at n s at))
payload_at chunk (PayloadHeader.Chunk w) sizes s at = got (messages_from 0 Sizes.Rest at) at
payload_at chunk PayloadHeader.Probe sizes s at = cond chunk (refused NOT_TAKEN at) (probe_payload_at s at)

abbrev pub answer_messages : Result Payload Refusal → Answer Payload
answer_messages (Ok p) = got p p.first
answer_messages (Err r) = refused (reason_number r.reason) r.place

-- The messages of a payload, one after the other. `Payload` may be made up: then every size has an answer all the same.

-- the number at a position, 0 where it does not fit
abbrev pub value_or0 : Answer ℕ → ℕ
value_or0 (got v next) = v
value_or0 (refused n place) = 0

-- the size of message k, which starts at position at: the rest, the k-th of the list, or the k-th configured one
abbrev pub size_of_message : Sizes → List ℕ → ℕ → List ℕ → ℕ → ℕ
size_of_message Sizes.Rest sizes k s at = length s - at
size_of_message (Sizes.Listed p) sizes k s at = value_or0 (item 2 s (p + 2 * k))
size_of_message Sizes.Configured sizes k s at = get_or (configured_sizes sizes) k 0

-- message k, which starts at position at: its place, and where the next one starts; a k past the last is 10
abbrev pub place_of_message : Payload → List ℕ → ℕ → Reader MessagePlace
place_of_message p sizes k s at =
    cond (leb p.count k) (refused OVER_LIMIT 0)
    (and_then (run (size_of_message p.sizes sizes k s at) s at) (λ n next. got (record { index = k; offset = at; length = n }) next))

-- the first k messages passed, from the start of the first
unfoldable pub pass_at : Payload → List ℕ → ℕ → Reader (Unit {0})
pass_at p sizes zero s at = got tt at
pass_at p sizes (suc k) s at = and_then (pass_at p sizes k s at) (λ _ q. and_then (place_of_message p sizes k s q) (λ _ next. got tt next))

-- message k, found from the start of the first
abbrev pub nth_place_at : Payload → List ℕ → ℕ → Reader MessagePlace
nth_place_at p sizes k s at = and_then (pass_at p sizes k s at) (λ _ q. place_of_message p sizes k s q)

-- what the answers of the code say
pub record PlaceStepped : Type 0 where
  pub place : MessagePlace
  pub cursor : MessageCursor

abbrev pub answer_place_step : Result (MessagePlace × MessageCursor) Refusal → Answer PlaceStepped
answer_place_step (Ok (m, c)) = got (record { place = m; cursor = c }) c.at
answer_place_step (Err r) = refused (reason_number r.reason) r.place

-- a step of the cursor: the message it stands before, and the cursor before the next
abbrev pub place_step_at : Payload → List ℕ → MessageCursor → List ℕ → Answer PlaceStepped
place_step_at p sizes c s =
    and_then (place_of_message p sizes c.index s c.at)
    (λ m next. got (record { place = m; cursor = record { index = c.index + 1; at = next } }) next)

-- a payload of messages (that is, of no chunk and no probe)
abbrev pub OfMessages : PayloadHeader → Type 0
OfMessages PayloadHeader.Absent = Unit {0}
OfMessages (PayloadHeader.Ids n) = Unit {0}
OfMessages (PayloadHeader.Chunk w) = ⊥
OfMessages PayloadHeader.Probe = ⊥
