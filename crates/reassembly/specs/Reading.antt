-- What taking in reads from a datagram.
use Rattle.std.specs.Prelude.{ℕ, ◌+◌, ◌≤◌, true, ◌≡◌, List, length}
use Rattle.wire.specs.Answer.{Answer, got, refused}
use Rattle.publisher_id.specs.PublisherRecord.{record_at, publisher_fits}
use Rattle.chunk.specs.Datagram.{chunk_at, chunk_data}
use Rattle.chunk.specs.declared.datagram.ChunkPlace.{ChunkPlace}
use Rattle.reassembly.specs.declared.record.Message.{Message}

-- a chunk: its message, its offset and its data; or a refusal's number and place
pub data Reading : Type 0 where
  chunk : Message → ℕ → List ℕ → Reading
  refusal : ℕ → ℕ → Reading

-- the record of a chunk's message
abbrev pub chunk_message : ChunkPlace → List ℕ → Message
chunk_message c s = record {
  origin = record {
    publisher = record_at c.publisher c.publisher_end s;
    group = c.group;
    writer = c.writer;
    number = c.payload.number;
  };
  total = c.payload.total;
}

abbrev pub reading_by : Answer ChunkPlace → List ℕ → Reading
reading_by (got c next) s = chunk (chunk_message c s) c.payload.offset (chunk_data (got c next) s)
reading_by (refused n place) s = refusal n place

-- what a datagram s reads as, under the sizes of the configured writers
unfoldable pub reading_at : List ℕ → List ℕ → Reading
reading_at sizes s = reading_by (chunk_at sizes s) s

-- a chunk that a sound partial can take in, as every chunk with no fault of its own is: at is its offset, n the length of its data
pub record GoodChunk (m : Message) (at n : ℕ) : Type 0 where
  pub publisher : publisher_fits m.origin.publisher ≡ true
  pub some : 1 ≤ m.total
  pub fits : at + n ≤ m.total

abbrev pub GoodReading : Reading → Type 0
GoodReading (chunk m at d) = GoodChunk m at (length d)
GoodReading (refusal n p) = Unit {0}
