-- A chunk read from a datagram (document 01, "Reassembly").
use Rattle.std.specs.Prelude.{Option, Some, None}
use Rattle.std.specs.Prelude.{ℕ, cond, List, [], take, drop}
use Rattle.wire.specs.Constants.{NOT_TAKEN}
use Rattle.wire.specs.Answer.{Answer, got, refused, Reader, and_then}
use Rattle.network_message.specs.Envelope.{network_message_at}
use Rattle.network_header.specs.declared.envelope.Envelope.{Envelope}
use Rattle.network_header.specs.declared.group.GroupFields.{GroupFields}
use Rattle.network_header.specs.declared.header.PayloadHeader.{PayloadHeader}
use Rattle.chunk.specs.declared.payload.ChunkPayload.{ChunkPayload}
use Rattle.chunk.specs.declared.datagram.ChunkPlace.{ChunkPlace}
use Rattle.chunk.specs.Payload.{chunk_payload_at}

-- "PayloadHeader: for a chunk, DataSetWriterId 2": an accepted chunk has this one (proofs/Accepted.chunk_writer), so the 0 is never given
abbrev pub chunk_writer_of : PayloadHeader → ℕ
chunk_writer_of PayloadHeader.Absent = 0
chunk_writer_of (PayloadHeader.Ids n) = 0
chunk_writer_of (PayloadHeader.Chunk w) = w
chunk_writer_of PayloadHeader.Probe = 0

-- "The reassembly record now carries the WriterGroupId, or that there was none" (document 02, Req 06): none without a group header, or
-- where its flag is off
abbrev pub chunk_group_of : Option GroupFields → Option ℕ
chunk_group_of None = None
chunk_group_of (Some g) = g.writer_group

abbrev pub place_of : Envelope → ℕ → ChunkPayload → ChunkPlace
place_of e end p = record {
  publisher = e.publisher;
  publisher_end = end;
  group = chunk_group_of e.group;
  writer = chunk_writer_of e.payload_header;
  payload = p;
}

-- "without the chunk bit 4, place 0"
abbrev pub chunk_from : Envelope → ℕ → Reader ChunkPlace
chunk_from e end s at =
    cond e.chunk (and_then (chunk_payload_at s at) (λ p next. got (place_of e end p) next)) (refused NOT_TAKEN 0)

-- "the chunk's own numbers (its envelope's first ..)"; places count in the datagram
abbrev pub chunk_at : List ℕ → List ℕ → Answer ChunkPlace
chunk_at sizes s = and_then (network_message_at sizes s) (λ m first. chunk_from m.envelope m.places.publisher_end s first)

-- a chunk's data as its own part of the datagram: nothing where it is refused
abbrev pub chunk_data : Answer ChunkPlace → List ℕ → List ℕ
chunk_data (got c next) s = take c.payload.length (drop c.payload.first s)
chunk_data (refused n place) s = []
