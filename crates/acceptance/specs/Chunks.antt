-- A datagram that was written with a chunk's payload.
use Rattle.std.specs.Prelude.{Ok}
use Rattle.std.specs.Prelude.{ℕ, ◌≡◌, true, List, take}
use Rattle.publisher_id.specs.PublisherRecord.{publisher_of, record_at}
use Rattle.network_header.specs.declared.envelope.Envelope.{Envelope}
use Rattle.network_header.specs.declared.header.PayloadHeader.{PayloadHeader}
use Rattle.network_message.specs.Writer.{GivenDatagram, WroteDatagram}
use Rattle.round_trip.specs.NetworkMessage.{places_of}
use Rattle.chunk.specs.Cutting.{CutWrote}
use Rattle.chunk.specs.Datagram.{chunk_group_of}
use Rattle.reassembly.specs.Record.{Identity}
use Rattle.reassembly_laws.specs.Cutting.{Arrival}

-- the message id's payload p is cut into chunks of a data size: the datagram's bytes are what the envelope's writer wrote, with what
-- cutting wrote for chunk k as its payload
pub record IsWritten (id : Identity) (p : List ℕ) (size k : ℕ) (a : Arrival) : Type 0 where
  pub given : GivenDatagram
  pub envelope : Envelope
  pub configured : List ℕ
  pub entry : List ℕ
  pub exit : List ℕ
  pub n : ℕ
  pub wrote : WroteDatagram given envelope a.sizes configured entry exit (Ok n)
  pub datagram : a.datagram ≡ take n exit
  pub chunk : envelope.chunk ≡ true
  pub writer : envelope.payload_header ≡ PayloadHeader.Chunk id.origin.writer
  pub group : chunk_group_of envelope.group ≡ id.origin.group
  pub publisher : publisher_of
      (record_at envelope.publisher (places_of given envelope).publisher_end a.datagram) ≡ id.origin.publisher
  pub buffer : List ℕ
  pub written : List ℕ
  pub m : ℕ
  pub cut : CutWrote p id.origin.number size k buffer written (Ok m)
  pub payload : given.messages ≡ take m written
