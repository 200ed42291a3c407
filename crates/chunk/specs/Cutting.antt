-- Cutting a payload into chunks (document 01, "Reassembly").
use Rattle.std.specs.Prelude.{ℕ, ◌+◌, ◌*◌, ◌<◌, ◌≡◌, cond, List, ◌++◌, leb, ltb, eqb, length, take, drop}
use Rattle.wire.specs.Constants.{DISAGREE, MOST_TOTAL, NO_ROOM, OVER_LIMIT}
use Rattle.wire.specs.Number.{le_bytes}
use Rattle.wire_writer.specs.Store.{laid}
use Rattle.wire_writer.specs.Writing.{answer_written}
use Rattle.std.specs.Prelude.{Result}
use Rattle.wire.specs.Answer.{Answer, got, refused}
use Rattle.wire.specs.declared.refusal.Reason.{Reason}

-- "MessageSequenceNumber 2, ChunkOffset 4, TotalSize 4, ChunkData with its length"
abbrev pub payload_bytes : ℕ → ℕ → ℕ → List ℕ → List ℕ
payload_bytes number offset total d =
    le_bytes 2 number ++ (le_bytes 4 offset ++ (le_bytes 4 total ++ (le_bytes 4 (length d) ++ d)))

-- "chunks from offset 0, each full but the last": the data of chunk k stands at k times the data size
abbrev pub cut_data : List ℕ → ℕ → ℕ → List ℕ
cut_data p size k = take size (drop (k * size) p)

-- chunk k's payload
abbrev pub chunk_bytes : List ℕ → ℕ → ℕ → ℕ → List ℕ
chunk_bytes p number size k = payload_bytes number (k * size) (length p) (cut_data p size k)

-- "data size 0 or payload empty 6, payload above 16,384 or k past the last 10": the first broken rule, or 0
unfoldable pub cut_rule : ℕ → ℕ → ℕ → ℕ
cut_rule total size k =
    cond (eqb size 0) DISAGREE
    (cond (eqb total 0) DISAGREE
    (cond (ltb MOST_TOTAL total) OVER_LIMIT
    (cond (leb total (k * size)) OVER_LIMIT 0)))

-- "then 11", in a buffer of room bytes
unfoldable pub cut_fault : List ℕ → ℕ → ℕ → ℕ → ℕ
cut_fault p size k room =
    cond (eqb (cut_rule (length p) size k) 0)
    (cond (ltb room (14 + length (cut_data p size k))) NO_ROOM 0)
    (cut_rule (length p) size k)

-- the number of bytes written, or the refusal; "a writer's [place] is 0"
unfoldable pub cut_answer : List ℕ → ℕ → ℕ → ℕ → ℕ → Answer (Unit {0})
cut_answer p number size k room =
    cond (eqb (cut_fault p size k room) 0) (got tt (length (chunk_bytes p number size k))) (refused (cut_fault p size k room) 0)

-- the buffer afterwards: the chunk's payload from its start, and every other byte as it was; all as it was where it is refused
unfoldable pub cut_buffer : List ℕ → ℕ → ℕ → ℕ → List ℕ → List ℕ
cut_buffer p number size k out =
    cond (eqb (cut_fault p size k (length out)) 0) (laid out 0 (chunk_bytes p number size k)) out

-- what cutting promises of chunk k of the payload p, put into the buffer `entry`: its answer, the buffer afterwards, and that the number is
-- one of 2 bytes
abbrev pub CutWrote : List ℕ → ℕ → ℕ → ℕ → List ℕ → List ℕ → Result ℕ Reason → Type 0
CutWrote p number size k entry exit r =
    (answer_written r ≡ cut_answer p number size k (length entry)) × (exit ≡ cut_buffer p number size k entry) × (number < 65536)
