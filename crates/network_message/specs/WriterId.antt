-- The DataSetWriterId of a message (document 01, "The envelope").
use Rattle.std.specs.Prelude.{Option, Some, None}
use Rattle.std.specs.Prelude.{ℕ, ◌*◌, ◌+◌, ◌-◌, cond, List, leb, length, take, get_or}
use Rattle.wire.specs.Constants.{MOST_WRITERS}
use Rattle.wire.specs.Answer.{Answer, got, refused, item}
use Rattle.network_header.specs.declared.header.PayloadHeader.{PayloadHeader}

-- the k-th of n ids that end at a position
abbrev pub id_of : Answer ℕ → Option ℕ
id_of (got v next) = Some v
id_of (refused n place) = None

abbrev pub listed_id : ℕ → ℕ → ℕ → List ℕ → Option ℕ
listed_id n end k s = cond (leb n k) None (id_of (item 2 s (end - 2 * n + 2 * k)))

-- the k-th of the configured writers, of which the first 16 count
abbrev pub configured_id : List ℕ → ℕ → Option ℕ
configured_id ids k = cond (leb (length (take MOST_WRITERS ids)) k) None (Some (get_or ids k 0))

-- the DataSetWriterId of message k: its id in the PayloadHeader, which ends at a position; without a PayloadHeader "the
-- configured writers apply in order"; a probe has no messages
abbrev pub writer_id_of : PayloadHeader → ℕ → List ℕ → ℕ → List ℕ → Option ℕ
writer_id_of PayloadHeader.Absent end ids k s = configured_id ids k
writer_id_of (PayloadHeader.Ids n) end ids k s = listed_id n end k s
writer_id_of (PayloadHeader.Chunk w) end ids k s = Some w
writer_id_of PayloadHeader.Probe end ids k s = None
