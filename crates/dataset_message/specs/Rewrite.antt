-- A DataSetMessage that was read, written again from its parts (document 01, "The one rewriting exception"; document 02, Req 02).
use Rattle.std.specs.Prelude.{ℕ, ◌-◌, Bool, List, ◌++◌, leb, length, take, drop}
use Rattle.wire.specs.Constants.{DISAGREE}
use Rattle.wire_writer.specs.Writing.{Output, writing, refusing, after_reading}
use Rattle.dataset_header.specs.declared.header.Header.{Header}
use Rattle.dataset_header.specs.Flags.{Valid, not_valid, valid, is_raw}
use Rattle.dataset_message.specs.Message.{Message, message_at}
use Rattle.dataset_header.specs.Header.{message_header_bytes}
use Rattle.dataset_fields.specs.Fields.{zeros}
use Rattle.dataset_message.specs.Writer.{has_fields, count_bytes}

-- the header, FieldCount where there is one, the fields as they stand, and padding
abbrev pub parts_again : Header → Bool → ℕ → List ℕ → ℕ → List ℕ
parts_again h fielded count fields padding =
    message_header_bytes h ++ (count_bytes fielded (is_raw h.encoding) count ++ (fields ++ zeros padding))

-- a message that was read: a key frame is a heartbeat where nothing is left after its header
abbrev pub again : List ℕ → Message → List ℕ
again s m =
    parts_again m.header (has_fields m.header.kind (leb (length s) (length (message_header_bytes m.header)))) m.cursor.count
    (take (m.end - m.cursor.at) (drop m.cursor.at s))
    (length s - m.end)

-- one not valid "would read back otherwise", as "the message writer always sets bit 0"; of a valid one, some bytes
abbrev pub where_valid : (Message → List ℕ) → Valid Message → Output
where_valid bytes not_valid = refusing DISAGREE
where_valid bytes (valid m) = writing (bytes m)

-- what is written of a message read: reading's refusal is the writer's, else its parts again
abbrev pub message_again : List ℕ → List ℕ → Output
message_again types s = after_reading (message_at types s) (where_valid (again s))
