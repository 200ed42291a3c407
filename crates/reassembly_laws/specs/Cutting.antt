-- The chunks that a payload was cut into, as they arrive: in any order, some of them more than once.
use Rattle.std.specs.Prelude.{ℕ, ◌*◌, ◌≤◌, ◌<◌, List, [], ◌∷◌, ◌⊎◌, ◌≡◌, true, length, take, drop}
use Rattle.wire.specs.Answer.{got}
use Rattle.std.specs.Prelude.{Ok}
use Rattle.publisher_id.specs.PublisherRecord.{publisher_of, record_at}
use Rattle.network_message.specs.Envelope.{NetworkMessage, network_message_at}
use Rattle.chunk.specs.Datagram.{chunk_writer_of, chunk_group_of}
use Rattle.chunk.specs.Cutting.{cut_data, CutWrote}
use Rattle.reassembly.specs.Record.{Identity, identity_of, Partial}
use Rattle.reassembly.specs.Reading.{reading_at}
use Rattle.reassembly.specs.Reading.Reading.{chunk}
use Rattle.reassembly.specs.declared.record.Message.{Message}
use Rattle.reassembly.specs.Machine.{Call, Reply}
use Rattle.reassembly.specs.Machine.Call.{Take, Ask, HandOut}
use Rattle.reassembly.specs.Machine.Reply.{done, said, handed}
use Rattle.reassembly.specs.Calls.{replies, final, answers}

-- a datagram, and the sizes of the configured writers that it is read under
pub record Arrival : Type 0 where
  pub datagram : List ℕ
  pub sizes : List ℕ

-- each is taken in
abbrev pub takings : List Arrival → List Call
takings [] = []
takings (a ∷ l) = Take a.datagram a.sizes ∷ takings l

abbrev pub dones : List Arrival → List Reply
dones [] = []
dones (a ∷ l) = done ∷ dones l

-- the message id's payload p is cut into chunks of a data size
module _ (id : Identity) (p : List ℕ) (size : ℕ) where
  -- it reads as chunk k: of that message, at k times the data size, with the data that cutting takes there
  pub record IsChunk (k : ℕ) (a : Arrival) : Type 0 where
    pub message : Message
    pub same : identity_of message ≡ id
    pub reads : reading_at a.sizes a.datagram ≡ chunk message (k * size) (cut_data p size k)
    pub inside : k * size < length p

  -- it has an accepted chunk's envelope of that publisher, group and writer, and its payload is what cutting wrote for chunk k
  pub record IsCut (k : ℕ) (a : Arrival) : Type 0 where
    pub message : NetworkMessage
    pub at : ℕ
    pub envelope : network_message_at a.sizes a.datagram ≡ got message at
    pub chunk : message.envelope.chunk ≡ true
    pub publisher : publisher_of
        (record_at message.envelope.publisher message.places.publisher_end a.datagram) ≡ id.origin.publisher
    pub group : chunk_group_of message.envelope.group ≡ id.origin.group
    pub writer : chunk_writer_of message.envelope.payload_header ≡ id.origin.writer
    pub buffer : List ℕ
    pub written : List ℕ
    pub n : ℕ
    pub cut : CutWrote p id.origin.number size k buffer written (Ok n)
    pub payload : drop at a.datagram ≡ take n written

-- every arrival is of some chunk k
abbrev pub Only : (ℕ → Arrival → Type 0) → List Arrival → Type 0
Only P [] = Unit {0}
Only P (a ∷ l) = ((k : ℕ) × P k a) × Only P l

-- one of chunk k is among the arrivals
abbrev pub Among : (ℕ → Arrival → Type 0) → ℕ → List Arrival → Type 0
Among P k [] = ⊥
Among P k (a ∷ l) = P k a ⊎ Among P k l

-- all chunks of the message id's payload p, cut into chunks of a data size, arrive, and nothing else
pub record AllArrive (id : Identity) (p : List ℕ) (size : ℕ) (P : ℕ → Arrival → Type 0) (l : List Arrival) : Type 0 where
  pub some : 1 ≤ size
  pub filled : 1 ≤ length p
  pub total : id.total ≡ length p
  pub only : Only P l
  pub each : (k : ℕ) → k * size < length p → Among P k l

-- what the arrivals do to a partial: every taking in is accepted, complete is said, and the payload p is handed out
pub record Restored (p : List ℕ) (l : List Arrival) (s : Partial) : Type 0 where
  pub accepted : replies (takings l) s ≡ dones l
  pub says_complete_lem : answers Ask (final (takings l) s) ≡ said true
  pub hands_out : answers HandOut (final (takings l) s) ≡ handed p
