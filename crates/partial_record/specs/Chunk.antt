-- The chunk record (include/uadp.h).
use Rattle.std.specs.Prelude.{ℕ, List, [], ◌∷◌}
use Rattle.publisher_id.specs.PublisherRecord.{code_of}
use Rattle.chunk.specs.declared.datagram.ChunkPlace.{ChunkPlace}
use Rattle.records.specs.Items.{has_item, item_value}
use Rattle.records.specs.Publisher.{publisher_number}

-- the 16 numbers of a chunk; the last five are spare
abbrev pub chunk_numbers : ChunkPlace → List ℕ
chunk_numbers c =
    code_of c.publisher ∷ publisher_number c.publisher ∷ c.publisher_end ∷ c.writer ∷ c.payload.number ∷ c.payload.offset
    ∷ c.payload.total ∷ c.payload.first ∷ c.payload.length
    ∷ has_item c.group ∷ item_value c.group ∷ 0 ∷ 0 ∷ 0 ∷ 0 ∷ 0 ∷ []
