-- The payload written (document 01, "Payload"): its messages one after the other, and where there are several the length of
-- each, as 2 bytes. For one message, and for a chunk, no length is given. A probe's body is given as its messages (document 02, Req 01).
use Rattle.std.specs.Prelude.{ℕ, ◌*◌, Bool, cond, List, [], leb, eqb, length}
use Rattle.wire.specs.Lists.{total}
use Rattle.wire.specs.Constants.{DISAGREE}
use Rattle.wire.specs.Answer.{Answer, got, refused}
use Rattle.network_header.specs.declared.header.PayloadHeader.{PayloadHeader}
use Rattle.network_header.specs.Numbers.{configured_sizes, same_numbers}
use Rattle.network_message.specs.Payload.{rest_only_at, payload_at, all_positive, listed}
use Rattle.wire_writer.specs.Writing.{unused}

-- what reading refuses: the lengths of several messages, "each at least 1 and their sum equal to the rest, else 6"
abbrev pub listed_refusal : ℕ → List ℕ → ℕ → ℕ
listed_refusal n lengths rest =
    cond (eqb (length lengths) (2 * n))
    (cond (all_positive (listed n lengths 0)) (cond (eqb (total (listed n lengths 0)) rest) 0 DISAGREE) DISAGREE)
    DISAGREE

-- "With Count above 1: Count sizes of 2 bytes"; no other payload has the list
abbrev pub list_bytes : PayloadHeader → List ℕ → List ℕ
list_bytes PayloadHeader.Absent lengths = []
list_bytes (PayloadHeader.Ids n) lengths = cond (leb n 1) [] lengths
list_bytes (PayloadHeader.Chunk w) lengths = []
list_bytes PayloadHeader.Probe lengths = []

-- the number of a refusal, 0 where it is accepted
abbrev pub refusal_number : {A : Type 0} → Answer A → ℕ
refusal_number (got v next) = 0
refusal_number (refused n place) = n

-- what reading refuses: the lengths of several messages by their own rule, and any other payload by reading's own number, of the messages
-- alone, a probe's body too; a chunk's payload is refused by whoever takes it in, and a chunk has no Count (ids given for one read back
-- otherwise)
abbrev pub payload_refusal : Bool → PayloadHeader → List ℕ → List ℕ → List ℕ → ℕ
payload_refusal chunk PayloadHeader.Absent sizes lengths messages = refusal_number (payload_at chunk PayloadHeader.Absent sizes messages 0)
payload_refusal chunk (PayloadHeader.Ids n) sizes lengths messages =
    cond chunk 0 (cond (leb n 1) (refusal_number (rest_only_at messages 0)) (listed_refusal n lengths (length messages)))
payload_refusal chunk (PayloadHeader.Chunk w) sizes lengths messages = 0
payload_refusal chunk PayloadHeader.Probe sizes lengths messages = refusal_number (payload_at chunk PayloadHeader.Probe sizes messages 0)

-- what would read back otherwise is 6: lengths of several messages that are not the configured ones, or lengths where none is given
abbrev pub lengths_shape : PayloadHeader → List ℕ → List ℕ → ℕ
lengths_shape PayloadHeader.Absent lengths sizes =
    cond (leb (length (configured_sizes sizes)) 1) (unused (length lengths))
    (cond (same_numbers lengths (configured_sizes sizes)) 0 DISAGREE)
lengths_shape (PayloadHeader.Ids n) lengths sizes = cond (leb n 1) (unused (length lengths)) 0
lengths_shape (PayloadHeader.Chunk w) lengths sizes = unused (length lengths)
lengths_shape PayloadHeader.Probe lengths sizes = unused (length lengths)
