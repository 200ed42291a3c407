use Rattle.uadp_c.proofs.Told.{chunk_read}
use Rattle.uadp_c.proofs.Filling.{fill_done}
use Rattle.partial_record.specs.Chunk.{chunk_numbers}
use Rattle.records.proofs.Storing.{bytes_length}
use Rattle.wire.specs.Refusal.{answer}
use Rattle.wire.proofs.Reading.{told}
use native.Mathlib.Omega.{arith}
use Rattle.uadp_c.proofs.chunks.uadp_chunk.Goals as goal

pub returns-else-chunk-lt-CHUNK_SIZE : goal.returns-else-chunk-lt-CHUNK_SIZE
returns-else-chunk-lt-CHUNK_SIZE c =
    let args = c.args in
    fill_done _ args.chunk.now _ _ _ 128 _
    (chunk_read args.config.now args.datagram.now _ _ _ _ c.writer_count-n.ensures.0
    c.sizes-list.ensures c.first.ensures (told answer c.read.ensures c.in-Ok.is))
    (bytes_length (chunk_numbers c.in-Ok.c)) (omega arith) c.result.ensures c.put_chunk.ensures
