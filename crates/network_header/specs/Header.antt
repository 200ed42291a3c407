-- DataSetClassId, PayloadHeader and promoted fields (document 01, "The envelope").
use Rattle.std.specs.Prelude.{Option, Some, None}
use Rattle.std.specs.Prelude.{ℕ, ◌*◌, ◌<◌, Bool, cond, true, false, eqb, leb, List, [], ◌++◌, length, take}
use Rattle.wire.specs.Constants.{DISAGREE, MOST_WRITERS}
use Rattle.wire.specs.Items.{guid, guid_bytes}
use Rattle.wire.specs.Answer.{Reader, item, ruled, run, when_on, pure, ◌>>=◌, ◌>>◌}
use Rattle.network_header.specs.declared.header.PayloadHeader.{PayloadHeader}
use Rattle.wire.specs.declared.Guid.{Guid}
use Rattle.wire.specs.Number.{le_bytes}
use Rattle.wire_writer.specs.Writing.{optional_bytes, unused}
use Rattle.network_header.specs.Numbers.{same_numbers}
use Rattle.publisher_id.specs.Publisher.{bytes_before}
use Rattle.wire_writer.specs.Fits.{FitsGuid}

-- "DataSetClassId, 16 bytes"
abbrev pub class_at : Bool → Reader (Option Guid)
class_at on = when_on on None (guid >>= λ v. pure (Some v))

-- "Count 1 (0 is 6)"
abbrev pub count_rule : ℕ → ℕ
count_rule n = cond (eqb n 0) DISAGREE 0

-- "then Count ids of 2"
abbrev pub ids_at : Reader PayloadHeader
ids_at = do
  n ← ruled 1 count_rule
  run (2 * n)
  pure (PayloadHeader.Ids n)

-- "PayloadHeader: for a chunk, DataSetWriterId 2; else Count and the ids"
abbrev pub announced_at : Bool → Bool → Reader PayloadHeader
announced_at on chunk = when_on on PayloadHeader.Absent (cond chunk (item 2 >>= λ v. pure (PayloadHeader.Chunk v)) ids_at)

-- Req 01: a probe has no PayloadHeader, and its payload is a probe
abbrev pub payload_header_at : Bool → Bool → Bool → Reader PayloadHeader
payload_header_at on chunk probe = cond probe (pure PayloadHeader.Probe) (announced_at on chunk)

-- "Promoted: Size 2 (6 if the number of messages isn't one), then that many bytes"
abbrev pub size_rule : ℕ → ℕ → ℕ
size_rule messages v = cond (eqb messages 1) 0 DISAGREE

abbrev pub promoted_at : Bool → ℕ → Reader (Option ℕ)
promoted_at on messages =
    when_on on None do
      n ← ruled 2 (size_rule messages)
      run n
      pure (Some n)

abbrev pub class_bytes : Option Guid → List ℕ
class_bytes = optional_bytes guid_bytes

abbrev pub payload_header_on : PayloadHeader → Bool
payload_header_on PayloadHeader.Absent = false
payload_header_on (PayloadHeader.Ids n) = true
payload_header_on (PayloadHeader.Chunk w) = true
payload_header_on PayloadHeader.Probe = false

-- whether the payload is a probe
abbrev pub probe_on : PayloadHeader → Bool
probe_on PayloadHeader.Absent = false
probe_on (PayloadHeader.Ids n) = false
probe_on (PayloadHeader.Chunk w) = false
probe_on PayloadHeader.Probe = true

-- "for a chunk, DataSetWriterId 2; else Count 1, then Count ids of 2": the ids are given as they stand, 2 bytes each
abbrev pub payload_header_bytes : List ℕ → PayloadHeader → List ℕ
payload_header_bytes ids PayloadHeader.Absent = []
payload_header_bytes ids (PayloadHeader.Ids n) = le_bytes 1 n ++ ids
payload_header_bytes ids (PayloadHeader.Chunk w) = le_bytes 2 w
payload_header_bytes ids PayloadHeader.Probe = []

-- "Promoted: Size 2, then that many bytes"
abbrev pub promoted_bytes : List ℕ → Option ℕ → List ℕ
promoted_bytes bytes None = []
promoted_bytes bytes (Some n) = le_bytes 2 (length bytes) ++ bytes

-- what reading refuses: "Count 1 (0 is 6)"; "Size 2 (6 if the number of messages isn't one)"

abbrev pub count_refusal : PayloadHeader → ℕ
count_refusal PayloadHeader.Absent = 0
count_refusal (PayloadHeader.Ids n) = count_rule n
count_refusal (PayloadHeader.Chunk w) = 0
count_refusal PayloadHeader.Probe = 0

abbrev pub promoted_refusal : Option ℕ → ℕ → ℕ
promoted_refusal None messages = 0
promoted_refusal (Some n) messages = size_rule messages n

-- what would read back otherwise is 6

-- "over 255 messages" is 6, as are ids of another number than Count
abbrev pub count_shape : ℕ → ℕ → ℕ
count_shape n len = cond (leb 256 n) DISAGREE (cond (eqb len (2 * n)) 0 DISAGREE)

-- ids: without a PayloadHeader "the configured writers apply in order", of which the first 16 count; a PayloadHeader has as
-- many as it says, and none for a chunk, whose own id it holds; chunk and PayloadHeader go together; a probe has none
abbrev pub ids_shape : Bool → PayloadHeader → List ℕ → List ℕ → ℕ
ids_shape chunk PayloadHeader.Absent ids configured = cond (same_numbers ids (take MOST_WRITERS configured)) 0 DISAGREE
ids_shape chunk (PayloadHeader.Ids n) ids configured =
    cond chunk DISAGREE (count_shape n (length ids))
ids_shape chunk (PayloadHeader.Chunk w) ids configured = cond chunk (unused (length ids)) DISAGREE
ids_shape chunk PayloadHeader.Probe ids configured = unused (length ids)

-- promoted fields: as many bytes as they say, and a size of 2 bytes
abbrev pub promoted_shape : Option ℕ → ℕ → ℕ
promoted_shape None len = unused len
promoted_shape (Some n) len = cond (leb 65536 n) DISAGREE (cond (eqb n len) 0 DISAGREE)

abbrev pub ids_of : List ℕ → PayloadHeader → ℕ → List ℕ
ids_of s PayloadHeader.Absent end = []
ids_of s (PayloadHeader.Ids n) end = bytes_before s end (2 * n)
ids_of s (PayloadHeader.Chunk w) end = []
ids_of s PayloadHeader.Probe end = []

abbrev pub promoted_of : List ℕ → Option ℕ → ℕ → List ℕ
promoted_of s None end = []
promoted_of s (Some n) end = bytes_before s end n

abbrev pub FitsClass : Option Guid → Type 0
FitsClass None = Unit
FitsClass (Some g) = FitsGuid g

abbrev pub FitsPayloadHeader : PayloadHeader → Type 0
FitsPayloadHeader PayloadHeader.Absent = Unit
FitsPayloadHeader (PayloadHeader.Ids n) = Unit
FitsPayloadHeader (PayloadHeader.Chunk w) = w < 65536
FitsPayloadHeader PayloadHeader.Probe = Unit
