-- A chunk as a record, and how many chunks a message has (include/uadp.h, "chunks").
use Rattle.std.specs.Prelude.{ℕ, ◌+◌, ◌-◌, ◌/◌, cond, eqb}
use Rattle.wire.specs.Answer.{Answer, map_answer}
use Rattle.chunk.specs.Cutting.{cut_rule}
use Rattle.chunk.specs.declared.datagram.ChunkPlace.{ChunkPlace}
use Rattle.records.specs.Numbers.{number_bytes}
use Rattle.records.specs.Result.{result_of, Filling}
use Rattle.partial_record.specs.Chunk.{chunk_numbers}

-- "Value: the message's number"
abbrev pub chunk_filling : Answer ChunkPlace → Answer Filling
chunk_filling a = map_answer (λ (c : ChunkPlace). record { value = c.payload.number; bytes = number_bytes (chunk_numbers c) }) a

-- "chunks from offset 0, each full but the last": how many they are
abbrev pub chunk_count : ℕ → ℕ → ℕ
chunk_count total size = (total - 1) / size + 1

-- cutting's own refusals of the first chunk, else their number
abbrev pub chunks_result : ℕ → ℕ → ℕ
chunks_result total size = cond (eqb (cut_rule total size 0) 0) (result_of 0 (chunk_count total size)) (result_of (cut_rule total size 0) 0)
