-- A chunk's payload (document 01, "Reassembly").
use Rattle.std.specs.Prelude.{ℕ, ◌+◌, cond, ltb, eqb, length}
use Rattle.wire.specs.Constants.{BAD_LENGTH, DISAGREE, LEFT_OVER, MOST_TOTAL, OVER_LIMIT}
use Rattle.wire.specs.Answer.{Answer, got, refused, Reader, item, run, here, pure, and_then, ◌>>=◌, ◌>>◌}
use Rattle.wire.specs.Items.{length_item}
use Rattle.wire.specs.declared.Length.{Length}
use Rattle.chunk.specs.declared.payload.ChunkPayload.{ChunkPayload}
use Rattle.chunk.specs.declared.payload.ChunkData.{ChunkData}

-- TotalSize 4: "Total 0 .. is 6; total above 16,384 is 10", whose place is 0
abbrev pub total_of : ℕ → ℕ → ℕ → Answer ℕ
total_of at v next = cond (eqb v 0) (refused DISAGREE at) (cond (ltb MOST_TOTAL v) (refused OVER_LIMIT 0) (got v next))

abbrev pub total_at : Reader ℕ
total_at s at = and_then (item 4 s at) (total_of at)

-- data of n bytes, whose length stands at a position: "empty .. data, or offset + length above total (at the data's length) is 6"
abbrev pub sized_data : ℕ → ℕ → ℕ → ℕ → ℕ → Answer ℕ
sized_data offset total n at next =
    cond (eqb n 0) (refused DISAGREE at) (cond (ltb total (offset + n)) (refused DISAGREE at) (got n next))

-- null data is 6; below -1 is 5, as every length
abbrev pub length_then : ℕ → ℕ → ℕ → Length → ℕ → Answer ℕ
length_then offset total at Length.Null next = refused DISAGREE at
length_then offset total at (Length.Of n) next = sized_data offset total n at next
length_then offset total at Length.Negative next = refused BAD_LENGTH at

abbrev pub data_length_at : ℕ → ℕ → Reader ℕ
data_length_at offset total s at = and_then (length_item s at) (length_then offset total at)

-- "Nothing may follow (7)"
abbrev pub nothing_after : Reader (Unit {0})
nothing_after s at = cond (eqb at (length s)) (got tt at) (refused LEFT_OVER at)

-- data of a length that stands at the position
abbrev pub data_of : ℕ → Reader ChunkData
data_of n = do
  f ← here
  run n
  nothing_after
  pure (record { first = f; length = n })

-- "ChunkData with its length"
abbrev pub data_at : ℕ → ℕ → Reader ChunkData
data_at offset total = data_length_at offset total >>= data_of

abbrev pub payload_of : ℕ → ℕ → ℕ → ChunkData → ChunkPayload
payload_of n o t d = record { number = n; offset = o; total = t; first = d.first; length = d.length }

-- "ChunkOffset 4, TotalSize 4, ChunkData with its length"
abbrev pub after_number_at : ℕ → Reader ChunkPayload
after_number_at n = do
  o ← item 4
  t ← total_at
  d ← data_at o t
  pure (payload_of n o t d)

-- "Chunk payload: MessageSequenceNumber 2", and the rest
abbrev pub chunk_payload_at : Reader ChunkPayload
chunk_payload_at = item 2 >>= after_number_at
