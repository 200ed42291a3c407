-- The round trips of whole NetworkMessages, over the definitions that the contracts of `network_message::envelope` and
-- `network_message::envelope` cite.
-- Assumes nothing.
use Rattle.std.specs.Prelude.{is_some, Ok}
use mathlib.Core.Path.{◌≡◌, refl, ap, sym, subst, ◌∙◌}
use mathlib.Core.Bool.{Bool, true, false, ◌&&◌}
use mathlib.Core.List.{List, ◌++◌}
use Prim.Native.Nat.{ℕ, ◌≤◌}
use borrow.Author.Tests.{eqb-true}
use lib.Dec.{eqb}
use lib.ListN.{length, take, drop}
use lib.Seq.{drop_at}
use Rattle.wire.specs.Answer.{got, refused}
use Rattle.wire.proofs.Reading.{not_got}
use Rattle.network_header.specs.declared.envelope.Envelope.{Envelope}
use Rattle.network_message.specs.Envelope.{NetworkMessage, network_message_at}
use Rattle.wire_writer.proofs.Refusals.{both_zero}
use Rattle.wire_writer.proofs.Answering.{reported}
use Rattle.wire_writer.specs.Writing.{or_else, refusing, Writes, picoseconds_refusal}
use Rattle.publisher_id.specs.Publisher.{publisher_refusal, publisher_shape}
use Rattle.network_header.specs.Flags.{times_refusal, probe_refusal}
use Rattle.network_header.specs.Group.{group_refusal}
use Rattle.network_header.specs.Header.{count_refusal, ids_shape, promoted_shape, probe_on}
use Rattle.network_header.specs.declared.header.PayloadHeader.{PayloadHeader}
use Rattle.network_message.specs.WriterPayload.{list_bytes, lengths_shape}
use Rattle.round_trip.proofs.NetworkMessageShort.{accepted_short}
use Rattle.network_message.specs.Writer.{GivenDatagram, envelope_bytes, datagram_of, before_picoseconds, picoseconds_turn, datagram_reading_refusal, shape_refusal, datagram_refusal, datagram_output}
use Rattle.round_trip.specs.NetworkMessage.{payload_for, CountsAgree, PartsAgree, ReadsBack}
use Rattle.network_header.specs.Envelope.{FitsEnvelope}
use Rattle.round_trip.proofs.NetworkMessagePayload.{as_many_ids}
use Rattle.round_trip.proofs.NetworkMessageWritten.{read_written, message_written_lem}
use Rattle.round_trip.proofs.NetworkMessageGiven.{text_written_lem, promoted_written, writer_id_written}
use Rattle.round_trip.proofs.NetworkMessageRewritten.{accepted_picoseconds}
use Rattle.round_trip.proofs.NetworkMessageRefused.{refuse_written}
use Rattle.round_trip.proofs.PicosecondsTurn.{three, their_refusal, behind_five}

-- Theorem 1. What the writer accepted reads back, under the same configuration, as what it was given.

-- a chunk's payload stands right after its header
chunk_written : (h : PayloadHeader) (w : ℕ) → h ≡ PayloadHeader.Chunk w → (front lengths messages sizes : List ℕ)
    → drop (payload_for h sizes (length front)).first (front ++ (list_bytes h lengths ++ messages)) ≡ messages
chunk_written h w e front lengths messages sizes =
    subst (λ (y : PayloadHeader). drop (payload_for y sizes (length front)).first (front ++ (list_bytes y lengths ++ messages)) ≡ messages) (sym e)
    (drop_at front messages (length front) refl)

-- and so does a probe's body
probe_written : (h : PayloadHeader) → h ≡ PayloadHeader.Probe → (front lengths messages : List ℕ) → drop (length front) (front ++ (list_bytes h lengths ++ messages)) ≡ messages
probe_written h e front lengths messages =
    subst (λ (y : PayloadHeader). drop (length front) (front ++ (list_bytes y lengths ++ messages)) ≡ messages) (sym e) (drop_at front messages (length front) refl)

given_back : (g : GivenDatagram) (x : Envelope) (sizes configured : List ℕ) → FitsEnvelope x → datagram_refusal g x sizes configured ≡ 0
    → length (datagram_of g x) ≤ 65535 → ReadsBack g x sizes configured (datagram_of g x)
given_back g x sizes configured f h l =
    record {
      whole = read_written g x sizes configured f h l;
      text = text_written_lem g x sizes configured h;
      promoted = promoted_written g x sizes configured h;
      writer_id = writer_id_written g x sizes configured h;
      message = message_written_lem g x sizes configured f h l;
      chunk = λ w e. chunk_written x.payload_header w e (envelope_bytes g.text g.ids g.promoted x) g.lengths g.messages sizes;
      probe = λ e. probe_written x.payload_header e (envelope_bytes g.text g.ids g.promoted x) g.lengths g.messages;
    }

pub reads_back_lem : (g : GivenDatagram) (x : Envelope) (sizes configured entry exit : List ℕ) (n : ℕ) → FitsEnvelope x
    → Writes (datagram_output g x sizes configured) entry exit (Ok n)
    → ReadsBack g x sizes configured (take n exit) × (drop n exit ≡ drop n entry)
reads_back_lem g x sizes configured entry exit n f w =
    let a = reported (datagram_refusal g x sizes configured) (datagram_of g x) entry exit n w in
    (subst (ReadsBack g x sizes configured) (sym a.front) (given_back g x sizes configured f a.number a.limit), a.rest)

-- Theorem 2. A refusal in reading order is the writer's answer, since these rules come first.

pub reading_number_first : (g : GivenDatagram) (x : Envelope) (sizes configured : List ℕ) → eqb (datagram_reading_refusal g x sizes) 0 ≡ false
    → datagram_output g x sizes configured ≡ refusing (datagram_reading_refusal g x sizes)
reading_number_first g x sizes configured h = rw (h, h)

-- PicoSeconds of 10,000 and up are refused by 3, at their turn.

pub picoseconds_refused : (g : GivenDatagram) (x : Envelope) (sizes configured : List ℕ) → picoseconds_turn g x ≡ true → datagram_output g x sizes configured ≡ refusing 3
picoseconds_refused g x sizes configured h =
    let p = picoseconds_refusal x.picoseconds in
    behind_five (times_refusal (is_some x.picoseconds) (is_some x.timestamp)) (probe_refusal (probe_on x.payload_header) x.chunk (is_some x.promoted))
    (publisher_refusal x.publisher (length g.text)) (group_refusal x.group) (count_refusal x.payload_header) p _
    (shape_refusal g x sizes configured) (datagram_of g x) h
    ∙ ap refusing (three x.picoseconds (their_refusal (before_picoseconds x (length g.text)) p h))

-- Else, and where what would be written is one thing, it is reading's refusal of what would have been written, by the same number.

pub refuses_alike : (g : GivenDatagram) (x : Envelope) (sizes : List ℕ) → FitsEnvelope x → CountsAgree g x → length (datagram_of g x) ≤ 65535 → picoseconds_turn g x ≡ false
    → eqb (datagram_reading_refusal g x sizes) 0 ≡ false
    → (place : ℕ) × (network_message_at sizes (datagram_of g x) ≡ refused (datagram_reading_refusal g x sizes) place)
refuses_alike g x sizes f a l t h = refuse_written g x sizes f a l t h

-- Theorem 3. Of parts that agree with their envelope the writer accepts those, and only those, that read back as they were given.

counts_agree_lem : (g : GivenDatagram) (x : Envelope) (sizes configured : List ℕ) → PartsAgree g x sizes configured → CountsAgree g x
counts_agree_lem g x sizes configured a =
    let m1 = publisher_shape x.publisher (length g.text) in
    let m2 = ids_shape x.chunk x.payload_header g.ids configured in
    let m3 = promoted_shape x.promoted (length g.promoted) in
    let m4 = lengths_shape x.payload_header g.lengths sizes in
    let s1 = both_zero m1 (or_else m2 (or_else m3 m4)) a.shape in
    let s2 = both_zero m2 (or_else m3 m4) s1.1 in
    record { ids = as_many_ids x.payload_header x.chunk g.ids configured s2.0; lengths = a.lengths }

-- what reading accepts is not refused in reading order, where its PicoSeconds are below 10,000
read_unrefused : (g : GivenDatagram) (x : Envelope) (sizes : List ℕ) (m : NetworkMessage) (n : ℕ) → FitsEnvelope x → CountsAgree g x
    → network_message_at sizes (datagram_of g x) ≡ got m n → picoseconds_refusal x.picoseconds ≡ 0 → datagram_reading_refusal g x sizes ≡ 0
read_unrefused g x sizes m n f a q p = go (eqb (datagram_reading_refusal g x sizes) 0) refl
  where
    no_turn : picoseconds_turn g x ≡ false
    no_turn = rw p (and_none (eqb (before_picoseconds x (length g.text)) 0))
      where
        and_none : (b : Bool) → b && false ≡ false
        and_none true = refl
        and_none false = refl

    go : (b : Bool) → eqb (datagram_reading_refusal g x sizes) 0 ≡ b → datagram_reading_refusal g x sizes ≡ 0
    go true t = eqb-true (datagram_reading_refusal g x sizes) 0 t
    go false t = absurd (not_got (sym (refuses_alike g x sizes f a (accepted_short sizes (datagram_of g x) m n q) no_turn t).1 ∙ q))

pub accepts_exactly : (g : GivenDatagram) (x : Envelope) (sizes configured : List ℕ) → FitsEnvelope x → PartsAgree g x sizes configured
    → (datagram_refusal g x sizes configured ≡ 0 → length (datagram_of g x) ≤ 65535 → ReadsBack g x sizes configured (datagram_of g x))
    × (ReadsBack g x sizes configured (datagram_of g x) → datagram_refusal g x sizes configured ≡ 0)
accepts_exactly g x sizes configured f a = (
  λ h l. given_back g x sizes configured f h l,
  λ r. rw (read_unrefused g x sizes _ _ f (counts_agree_lem g x sizes configured a) r.whole (accepted_picoseconds sizes (datagram_of g x) _ _ r.whole)) a.shape,
)
