-- What was read, written again: "an accepted datagram written again gives the same bytes" (document 01, "The one rewriting exception"), but
-- for that and the second one (document 02, Req 02).
use Rattle.wire.specs.declared.refusal.Reason.{Reason}
use Rattle.std.specs.Prelude.{Result}
use Rattle.std.specs.Prelude.{ℕ, List}
use Rattle.wire_writer.specs.Fits.{Bytes}
use Rattle.wire_writer.specs.Writing.{Output, writing, after_reading, Writes}
use Rattle.dataset_header.specs.Header.{message_held}
use Rattle.dataset_message.specs.Message.{message_at}
use Rattle.dataset_message.specs.Rewrite.{where_valid}
use Rattle.network_message.specs.Envelope.{network_message_at}
use Rattle.round_trip.specs.NetworkMessage.{rewritten}

-- a message: reading's refusal is the writer's, one not valid is 6; an accepted one is s again, but for picoseconds of 10,000 or more
abbrev pub message_same : List ℕ → List ℕ → Output
message_same types s = after_reading (message_at types s) (where_valid (λ m. message_held m.header s))

-- a datagram: reading's refusal is the writer's; an accepted one is s again, but for the two cases
abbrev pub datagram_same : List ℕ → List ℕ → Output
datagram_same sizes s = after_reading (network_message_at sizes s) (λ m. writing (rewritten m s))

-- what both promise, of the buffer before and after and the answer: that the bytes that were read are bytes, and what was written
abbrev pub RewroteMessage : List ℕ → List ℕ → List ℕ → List ℕ → Result ℕ Reason → Type 0
RewroteMessage types s entry exit r = Bytes s × Writes (message_same types s) entry exit r

abbrev pub RewroteDatagram : List ℕ → List ℕ → List ℕ → List ℕ → Result ℕ Reason → Type 0
RewroteDatagram sizes s entry exit r = Bytes s × Writes (datagram_same sizes s) entry exit r
