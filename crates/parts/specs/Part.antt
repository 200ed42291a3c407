-- Number, place and a part of what was lent, in one answer.
use Rattle.std.specs.Prelude.{ℕ, List, [], take, drop}
use Rattle.wire.specs.Answer.{Answer, got, refused}
use Rattle.dataset_fields.specs.declared.fields.Field.{Field}
use Rattle.network_message.specs.declared.payload.MessagePlace.{MessagePlace}
use Rattle.chunk.specs.declared.datagram.ChunkPlace.{ChunkPlace}
use Rattle.reassembly.specs.Verdict.{Verdict, Done, Refused}
use Rattle.std.specs.Prelude.{Result, Ok, Err}
use denote.Ref.{Bor}
use Rattle.wire.specs.Refusal.{reason_number}
use Rattle.wire.specs.declared.refusal.Refusal.{Refusal}
use Rattle.parts.specs.declared.part.Span.{Span}

-- where bytes stand: number 0 and place 0, with their offset and length; or a refusal's number and place
pub record Located : Type 0 where
  pub number : ℕ
  pub place : ℕ
  pub offset : ℕ
  pub length : ℕ

-- a part that is handed on: number 0 and place 0, with its bytes; or a refusal's number and place, and no bytes
pub record Part : Type 0 where
  pub number : ℕ
  pub place : ℕ
  pub bytes : List ℕ

-- number 0 and place 0, with the offset and length of the bytes
abbrev pub found_at : ℕ → ℕ → Located
found_at offset length = record { number = 0; place = 0; offset = offset; length = length }

-- "Every refusal .. returns the number and a place": it has no bytes
abbrev pub not_found : ℕ → ℕ → Located
not_found n p = record { number = n; place = p; offset = 0; length = 0 }

-- the same of what the code answers
abbrev pub located : Result Span Refusal → Located
located (Ok l) = found_at l.offset l.length
located (Err r) = not_found (reason_number r.reason) r.place

abbrev pub part_lent : Result (Bor (List ℕ)) Refusal → Part
part_lent (Ok b) = record { number = 0; place = 0; bytes = b.now }
part_lent (Err r) = record { number = reason_number r.reason; place = r.place; bytes = [] }

-- a part with the number and place that are located
abbrev pub part_at : Located → List ℕ → Part
part_at l b = record { number = l.number; place = l.place; bytes = b }

-- "that part of the lent datagram itself"
abbrev pub part_of : Located → List ℕ → List ℕ
part_of l s = take l.length (drop l.offset s)

-- "A field's encoded bytes are answered as that part of the lent datagram itself"
abbrev pub field_located : Answer Field → Located
field_located (got f next) = found_at f.offset f.length
field_located (refused n p) = not_found n p

-- "Each data set message is handed on as its own part of the datagram"
abbrev pub message_located : Answer MessagePlace → Located
message_located (got m next) = found_at m.offset m.length
message_located (refused n p) = not_found n p

-- a chunk's data likewise
abbrev pub chunk_located : Answer ChunkPlace → Located
chunk_located (got c next) = found_at c.payload.first c.payload.length
chunk_located (refused n p) = not_found n p

-- "Handing out: 12, not complete 15, else the payload's first total bytes"
abbrev pub payload_located : ℕ → Verdict → Located
payload_located total Done = found_at 0 total
payload_located total (Refused n p) = not_found n p
