-- The envelope's numbers, and where its PicoSeconds stand.
use Rattle.std.specs.Prelude.{ℕ, ◌+◌, List, length}
use Rattle.wire_writer.specs.Fits.{Fits16, FitsI64}
use Rattle.wire_writer.specs.Writing.{optional_i64_bytes, picoseconds_held}
use Rattle.publisher_id.specs.Publisher.{FitsPublisher}
use Rattle.network_header.specs.declared.envelope.Envelope.{Envelope}
use Rattle.network_header.specs.declared.envelope.Places.{Places}
use Rattle.network_header.specs.Group.{FitsGroup}
use Rattle.network_header.specs.Header.{FitsClass, FitsPayloadHeader}

-- each number of an envelope fits its type: of every value of the code this is so, and the writer's contract says it
pub record FitsEnvelope (x : Envelope) : Type 0 where
  pub publisher : FitsPublisher x.publisher
  pub class_id : FitsClass x.class_id
  pub group : FitsGroup x.group
  pub payload_header : FitsPayloadHeader x.payload_header
  pub timestamp : FitsI64 x.timestamp
  pub picoseconds : Fits16 x.picoseconds

-- where the PicoSeconds of an envelope that was read stand: behind the PayloadHeader and the Timestamp
abbrev pub picoseconds_place : Envelope → Places → ℕ
picoseconds_place x p = p.payload_header_end + length (optional_i64_bytes x.timestamp)

-- a datagram with this envelope, written again: "the rewritten envelope .. holds 9,999 there", where it had 10,000 or more
abbrev pub envelope_held : Envelope → Places → List ℕ → List ℕ
envelope_held x p s = picoseconds_held x.picoseconds (picoseconds_place x p) s
