-- An envelope and its messages' places as records (include/uadp.h, "reading").
use Rattle.std.specs.Prelude.{Option}
use Rattle.std.specs.Prelude.{ℕ, ◌≤◌, cond, List, ltb, length}
use Rattle.wire.specs.Constants.{NO_ROOM}
use Rattle.records.specs.Sizes.{ENVELOPE_SIZE, PLACE_SIZE}
use Rattle.wire.specs.Answer.{Answer, got, refused, map_answer}
use Rattle.wire_writer.specs.Store.{laid}
use Rattle.network_message.specs.Envelope.{NetworkMessage}
use Rattle.network_message.specs.WriterId.{writer_id_of}
use Rattle.network_message.specs.Payload.{PlaceStepped, place_step_at}
use Rattle.records.specs.Numbers.{number_bytes}
use Rattle.records.specs.Result.{result_of, Filling}
use Rattle.records.specs.Writers.{ids_in, sizes_in}
use Rattle.envelope_record.specs.Envelope.{envelope_numbers, payload_in, messages_in, messages_laid, payload_header_in, payload_header_end, place_numbers, EnvelopeBack}

-- "Value: the number of messages (0 for a chunk)"
abbrev pub envelope_filling : Answer NetworkMessage → Answer Filling
envelope_filling a = map_answer (λ (m : NetworkMessage). record { value = m.payload.count; bytes = number_bytes (envelope_numbers m) }) a

-- where there is room, the parts that were read are what the library reads in the envelope record afterwards
abbrev pub EnvelopeReads : Answer NetworkMessage → List ℕ → List ℕ → Type 0
EnvelopeReads (got m next) entry exit = ENVELOPE_SIZE ≤ length entry → EnvelopeBack exit m
EnvelopeReads (refused n place) entry exit = Unit {0}

-- the message that an envelope record's cursor stands before, and the cursor before the next one
abbrev pub message_step : List ℕ → List ℕ → List ℕ → Answer PlaceStepped
message_step config envelope d = place_step_at (payload_in envelope) (sizes_in config) (messages_in envelope) d

-- the DataSetWriterId of message k of an envelope record
abbrev pub writer_at : List ℕ → List ℕ → List ℕ → ℕ → Option ℕ
writer_at config envelope d k = writer_id_of (payload_header_in envelope) (payload_header_end envelope) (ids_in config) k d

-- "Value: the message's number"; "11 for either record"
abbrev pub message_result : Answer PlaceStepped → List ℕ → List ℕ → ℕ
message_result (got x next) envelope place =
    cond (ltb (length envelope) ENVELOPE_SIZE) (result_of NO_ROOM 0)
    (cond (ltb (length place) PLACE_SIZE) (result_of NO_ROOM 0)
    (result_of 0 x.place.index))
message_result (refused n p) envelope place = result_of n p

-- the envelope record afterwards: its numbers 26 and 27 are the next message's number and where it starts
abbrev pub envelope_after : Answer PlaceStepped → List ℕ → List ℕ → List ℕ
envelope_after (got x next) envelope place =
    cond (ltb (length envelope) ENVELOPE_SIZE) envelope
    (cond (ltb (length place) PLACE_SIZE) envelope
    (messages_laid x.cursor envelope))
envelope_after (refused n p) envelope place = envelope

-- the place record afterwards, with what gives a message's DataSetWriterId
abbrev pub place_after : (ℕ → Option ℕ) → Answer PlaceStepped → List ℕ → List ℕ → List ℕ
place_after writer (got x next) envelope place =
    cond (ltb (length envelope) ENVELOPE_SIZE) place
    (cond (ltb (length place) PLACE_SIZE) place (laid place 0 (number_bytes (place_numbers x.place (writer x.place.index)))))
place_after writer (refused n p) envelope place = place
