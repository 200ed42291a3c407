-- Demand 2 holds: each field by the theorem that proves it. Assumes nothing.
use Rattle.wire.specs.declared.refusal.Reason.{Reason}
use Rattle.std.specs.Prelude.{is_some, Result, Ok}
use Prim.Native.Nat.{ℕ, ◌+◌, ◌*◌, ◌≤◌, ◌<◌}
use mathlib.Core.Path.{◌≡◌, sym, ap, subst, ◌∙◌}
use mathlib.Core.Bool.{true, false}
use mathlib.Core.List.{List, [], ◌∷◌, ◌++◌}
use mathlib.Core.Logic.{◌⊎◌, inl, inr}
use native.Mathlib.Omega.{arith}
use borrow.Author.Tests.{lt-ltb, le-ltb}
use lib.ListN.{length, take, drop}
use Rattle.wire.specs.Number.{le}
use Rattle.wire.specs.Answer.{Answer, got, bit}
use Rattle.wire_writer.specs.Writing.{Output, writing, unless, Writes, after_reading}
use Rattle.wire_writer.specs.Fits.{Bytes, Numbers}
use Rattle.wire_writer.proofs.Answering.{fitting_written}
use Rattle.wire_writer.proofs.Back.{two_bytes}
use Rattle.config.specs.Writers.{types_of}
use Rattle.publisher_id.specs.Publisher.{publisher_on}
use Rattle.network_header.specs.Envelope as envelope
use Rattle.network_header.specs.declared.envelope.Envelope.{Envelope}
use Rattle.network_message.specs.Payload.{OfMessages}
use Rattle.network_message.specs.Envelope.{NetworkMessage, network_message_at, message_place_at, message_bytes}
use Rattle.network_message.specs.Writer as N
use Rattle.dataset_header.specs.Flags.{Valid, valid}
use Rattle.dataset_header.specs.Header.{message_picoseconds_place, message_held}
use Rattle.dataset_header.proofs.HeaderTrip.{header_back}
use Rattle.dataset_message.proofs.Agreement.{header_of}
use Rattle.dataset_message.specs.Message.{Message, message_at}
use Rattle.dataset_message.specs.Writer as M
use Rattle.dataset_message.specs.Rewrite.{where_valid}
use Rattle.round_trip.specs.NetworkMessage as network
use Rattle.round_trip.specs.DataSetMessage.{MessageBack}
use Rattle.round_trip.proofs.NetworkMessageRoundTrip as datagram
use Rattle.round_trip.proofs.RewrittenBytes.{keeps}
use Rattle.round_trip.proofs.NetworkMessageAccepted.{write_read}
use Rattle.round_trip.proofs.NetworkMessageRewritten as rewritten
use Rattle.round_trip.proofs.DataSetMessage as message
use Rattle.round_trip.proofs.DataSetMessageNumber as number
use Rattle.round_trip.proofs.DataSetMessageRefused as plain
use Rattle.round_trip.proofs.DataSetMessageOtherwise as otherwise
use Rattle.chunk.specs.Datagram.{chunk_writer_of}
use Rattle.reassembly.specs.Record.{Identity}
use Rattle.reassembly_laws.specs.Cutting.{Arrival, IsCut, Only, Among, AllArrive}
use Rattle.reassembly_laws.proofs.Cutting.{all_cuts_restore}
use Rattle.walk.specs.Lines.{Writers}
use Rattle.walk.proofs.Listing.{start_lists, step_lists}
use Rattle.walk_records.proofs.Accepted.{walk_listed}
use Rattle.uadp_c.proofs.AfterReading.{after_reading_lem}
use Rattle.acceptance.specs.Again.{CopiedTo, Below, Holds}
use Rattle.rewriting.specs.Same.{RewroteDatagram, RewroteMessage}
use Rattle.acceptance.specs.Probes.{WroteProbe}
use Rattle.acceptance.specs.Chunks.{IsWritten}
use Rattle.acceptance.specs.Demand2.{Demand2, types_given, types_read}
use Rattle.probe.specs.Put.{list_in, probe_output}
use Rattle.network_message.specs.ProbeMessage.{ProbeMessage, probe_message_at}
use Rattle.records.specs.Writers.{sizes_in}
use Rattle.uadp_c.specs.Probes.{ProbeRead}
use Rattle.acceptance.proofs.Probes.{probe_reads_back, probe_datagram_reads_back, probe_written, lent_probe_again}
use Rattle.acceptance.proofs.Tiling.{messages_tile}
use Rattle.acceptance.proofs.FieldsTile.{fields_tile}
use Rattle.acceptance.proofs.Held.{held_below, held_holds}
use Rattle.acceptance.proofs.Reasons.{refused_by}

-- ---- bytes that are written
copied : (bytes entry exit : List ℕ) (r : Result ℕ Reason) → Writes (writing bytes) entry exit r → CopiedTo bytes entry exit r
copied bytes entry exit r w = record {
  fits = λ l k. fitting_written l k w;
  long = λ l. let t = lt-ltb 65535 (length bytes) l in (refused_by r Reason.OverLimit (w.answer ∙ rw t), w.buffer ∙ rw t);
  tight = λ l k.
      let t = le-ltb 65535 (length bytes) l in
      let u = lt-ltb (length entry) (length bytes) k in (refused_by r Reason.NoRoom (w.answer ∙ rw (t, u)), w.buffer ∙ rw (t, u));
}

datagram_copied : (sizes s entry exit : List ℕ) (r : Result ℕ Reason) (m : NetworkMessage) (n : ℕ) → network_message_at sizes s ≡ got m n
    → RewroteDatagram sizes s entry exit r → CopiedTo (network.rewritten m s) entry exit r
datagram_copied sizes s entry exit r m n e w =
    copied (network.rewritten m s) entry exit r
    (subst (λ (a : Answer NetworkMessage). Writes (after_reading a (λ x. writing (network.rewritten x s))) entry exit r) e w.1)

-- what puts the parts together again writes the same
output_copied : (bytes : List ℕ) (o : Output) (entry exit : List ℕ) (r : Result ℕ Reason) → o ≡ writing bytes → Writes o entry exit r → CopiedTo bytes entry exit r
output_copied bytes o entry exit r e w = copied bytes entry exit r (subst (λ (y : Output). Writes y entry exit r) e w)

again_written : (sizes s : List ℕ) (m : NetworkMessage) (n : ℕ) → Bytes s → network_message_at sizes s ≡ got m n → N.datagram_again sizes s ≡ writing (network.rewritten m s)
again_written sizes s m n b e =
    ap (λ (a : Answer NetworkMessage). after_reading a (λ x. writing (N.again_of s x.envelope x.places))) e ∙ ap writing (rewritten.rewrite_read sizes s m n b e)

parts_written : (sizes configured s : List ℕ) (m : NetworkMessage) (n : ℕ) → Bytes s → Numbers sizes → Numbers configured → network_message_at sizes s ≡ got m n
    → N.datagram_output (network.given_of s m.envelope m.places sizes configured) m.envelope sizes configured ≡ writing (network.rewritten m s)
parts_written sizes configured s m n b hs hc e =
    let g = network.given_of s m.envelope m.places sizes configured in
    let z = write_read sizes configured s m n b hs hc e in
    ap (λ (k : ℕ). unless k (N.datagram_of g m.envelope)) z.0 ∙ ap writing z.1

parts_again : (sizes s entry exit : List ℕ) (r : Result ℕ Reason) (m : NetworkMessage) (n : ℕ) → network_message_at sizes s ≡ got m n → N.RewroteParts sizes s entry exit r
    → CopiedTo (network.rewritten m s) entry exit r
    × ((configured entry-p exit-p : List ℕ) (r-p : Result ℕ Reason)
    → N.WroteDatagram (network.given_of s m.envelope m.places sizes configured) m.envelope sizes configured entry-p exit-p r-p
    → CopiedTo (network.rewritten m s) entry-p exit-p r-p)
parts_again sizes s entry exit r m n e w = (
  output_copied (network.rewritten m s) (N.datagram_again sizes s) entry exit r (again_written sizes s m n w.0 e) w.1,
  λ configured entry-p exit-p r-p p.
      output_copied (network.rewritten m s) (N.datagram_output (network.given_of s m.envelope m.places sizes configured) m.envelope sizes configured)
      entry-p exit-p r-p (parts_written sizes configured s m n w.0 p.2 p.3 e) p.1,
)

probe_again : (d config record-before record-after : List ℕ) (result : ℕ) (m : ProbeMessage) (n : ℕ) → probe_message_at (sizes_in config) d ≡ got m n
    → ProbeRead d config record-before result record-after
    → (entry exit : List ℕ) (r : Result ℕ Reason) → WroteProbe (list_in d m.places.payload m.probe) m.probe entry exit r
    → CopiedTo (drop m.places.payload d) entry exit r
probe_again d config before after result m n e p entry exit r w =
    output_copied (drop m.places.payload d) (probe_output (list_in d m.places.payload m.probe) m.probe) entry exit r
    (probe_written (sizes_in config) d m n p.bytes e) w.1

message_copied : (types s entry exit : List ℕ) (r : Result ℕ Reason) (m : Message) (n : ℕ) → message_at types s ≡ got (valid m) n
    → RewroteMessage types s entry exit r → CopiedTo (message_held m.header s) entry exit r
message_copied types s entry exit r m n e w =
    copied (message_held m.header s) entry exit r (subst (λ (a : Answer (Valid Message)). Writes (after_reading a (where_valid (λ x. message_held x.header s))) entry exit r) e w.1)

-- ---- the two exceptions
kept : (m : NetworkMessage) (b : ℕ) (s : List ℕ) → (bit 7 b ≡ false) ⊎ (bit 4 b ≡ true)
    → Below m.envelope.picoseconds (envelope.picoseconds_place m.envelope m.places) (b ∷ s) → network.rewritten m (b ∷ s) ≡ b ∷ s
kept m b s h l = ap network.type_cleared (held_below m.envelope.picoseconds (envelope.picoseconds_place m.envelope m.places) (b ∷ s) l) ∙ keeps b s h

datagram_holds : (sizes s : List ℕ) (m : NetworkMessage) (n : ℕ) → Bytes s → network_message_at sizes s ≡ got m n → publisher_on m.envelope.publisher ≡ true
    → is_some m.envelope.picoseconds ≡ true → 10000 ≤ le 2 s (envelope.picoseconds_place m.envelope m.places)
    → Holds (envelope.picoseconds_place m.envelope m.places) s (network.rewritten m s)
datagram_holds sizes s m n b q p o h =
    let at = envelope.picoseconds_place m.envelope m.places in
    let room = (rewritten.picoseconds_stored sizes s m n b q).1 in
    let l : at + 2 ≤ length s = omega (arith, room, two_bytes m.envelope.picoseconds o) in
    subst (Holds at s) (sym (rewritten.same_with_publisher sizes s m n b q p)) (held_holds m.envelope.picoseconds at s o h l)

handed_on : (sizes s : List ℕ) (m : NetworkMessage) (n : ℕ) → Bytes s → network_message_at sizes s ≡ got m n → (header : List ℕ) × (network.rewritten m s ≡ header ++ drop m.places.payload s)
handed_on sizes s m n b q = (rewritten.header_of s m.envelope m.places, sym (rewritten.rewrite_read sizes s m n b q))

message_holds : (types s : List ℕ) (m : Message) (n : ℕ) → Bytes s → message_at types s ≡ got (valid m) n → is_some m.header.picoseconds ≡ true
    → 10000 ≤ le 2 s (message_picoseconds_place m.header) → Holds (message_picoseconds_place m.header) s (message_held m.header s)
message_holds types s m n b q o h =
    let p = header_of types s m n q in
    held_holds m.header.picoseconds (message_picoseconds_place m.header) s o h ((header_back s m.header p.0 b p.1).room o)

-- ---- a whole datagram under one configuration
module _ (w : Writers) (g : N.GivenDatagram) (x : Envelope) (entry exit : List ℕ) (n : ℕ)
    (p : N.WroteDatagram g x w.sizes w.ids entry exit (Ok n)) where
  abbrev d : List ℕ
  d = take n exit

  back : network.ReadsBack g x w.sizes w.ids d
  back = (datagram.reads_back_lem g x w.sizes w.ids entry exit n p.0 p.1).0

  types_same : (k : ℕ) → 2 * k < length g.ids → types_given w g k ≡ types_read w (network.written_message g x w.sizes) d k
  types_same k h = ap (types_of w.ids w.starts w.types) (sym (back.writer_id k h))

  whole : OfMessages x.payload_header → (k : ℕ) → k < length (network.given_lengths g x.payload_header w.sizes) → 2 * k < length g.ids
      → (m : M.GivenMessage) (entry-k exit-k : List ℕ) (n-k : ℕ)
      → M.WroteMessage (types_given w g k) m entry-k exit-k (Ok n-k)
      → network.message_given (network.given_lengths g x.payload_header w.sizes) g.messages k ≡ take n-k exit-k
      → (message_bytes (message_place_at w.sizes k d) d ≡ take n-k exit-k)
      × MessageBack (types_read w (network.written_message g x w.sizes) d k) m (message_bytes (message_place_at w.sizes k d) d)
  whole o k l h m entry-k exit-k n-k q e =
      let b : message_bytes (message_place_at w.sizes k d) d ≡ take n-k exit-k = (back.message o k l).1 ∙ e in
      let r : MessageBack (types_given w g k) m (take n-k exit-k) = (message.written_reads (types_given w g k) m entry-k exit-k n-k q).0 in (
        b,
        subst (λ (t : List ℕ). MessageBack t m (message_bytes (message_place_at w.sizes k d) d)) (types_same k h)
            (subst (λ (y : List ℕ). MessageBack (types_given w g k) m y) (sym b) r),
      )

-- ---- datagrams that were written with what cutting wrote
module _ (id : Identity) (p : List ℕ) (size : ℕ) where
  is_cut : (k : ℕ) (a : Arrival) → IsWritten id p size k a → IsCut id p size k a
  is_cut k a t =
      let b = (datagram.reads_back_lem t.given t.envelope a.sizes t.configured t.entry t.exit t.n t.wrote.0 t.wrote.1).0 in
      let m = network.written_message t.given t.envelope a.sizes in
      record {
        message = m;
        at = m.payload.first;
        envelope = ap (network_message_at a.sizes) t.datagram ∙ b.whole;
        chunk = t.chunk;
        publisher = t.publisher;
        group = t.group;
        writer = ap chunk_writer_of t.writer;
        buffer = t.buffer;
        written = t.written;
        n = t.m;
        cut = t.cut;
        payload = ap (drop m.payload.first) t.datagram ∙ b.chunk id.origin.writer t.writer ∙ t.payload;
      }

  only_cut : (l : List Arrival) → Only (IsWritten id p size) l → Only (IsCut id p size) l
  only_cut [] o = tt
  only_cut (a ∷ l) o = ((o.0.0, is_cut o.0.0 a o.0.1), only_cut l o.1)

  among_cut : (k : ℕ) (l : List Arrival) → Among (IsWritten id p size) k l → Among (IsCut id p size) k l
  among_cut k [] h = h
  among_cut k (a ∷ l) (inl h) = inl (is_cut k a h)
  among_cut k (a ∷ l) (inr h) = inr (among_cut k l h)

  all_cut : (l : List Arrival) → AllArrive id p size (IsWritten id p size) l → AllArrive id p size (IsCut id p size) l
  all_cut l h = record {
    some = h.some;
    filled = h.filled;
    total = h.total;
    only = only_cut l h.only;
    each = λ k i. among_cut k l (h.each k i);
  }

pub demand_2 : Demand2
demand_2 = record {
  messages_tile = messages_tile;
  fields_tile = λ types s m n e. fields_tile types s m n e;
  listing_starts = start_lists;
  listing_steps = step_lists;
  walk_listed = walk_listed;
  datagram_reads_back = λ g x sizes configured entry exit n p. datagram.reads_back_lem g x sizes configured entry exit n p.0 p.1;
  message_reads_back = message.written_reads;
  whole_reads_back = λ w g x entry exit n p. whole w g x entry exit n p;
  probe_reads_back = probe_reads_back;
  probe_datagram_reads_back = probe_datagram_reads_back;
  written_and_restored = λ id p size l h. all_cuts_restore id p size l (all_cut id p size l h);
  datagram_again_lem = datagram_copied;
  rewritten_same = kept;
  rewritten_shorter = rewritten.rewritten_shorter;
  rewritten_holds = λ sizes s entry exit r m n e w. datagram_holds sizes s m n w.0 e;
  rewritten_with_publisher = λ sizes s entry exit r m n e w. rewritten.same_with_publisher sizes s m n w.0 e;
  payload_handed_on = λ sizes s entry exit r m n e w. handed_on sizes s m n w.0 e;
  parts_again = parts_again;
  probe_again = probe_again;
  message_again_lem = message_copied;
  message_same_lem = λ m s l. held_below m.header.picoseconds (message_picoseconds_place m.header) s l;
  message_holds = λ types s entry exit r m n e w. message_holds types s m n w.0 e;
  datagram_number_first = datagram.reading_number_first;
  datagram_picoseconds = datagram.picoseconds_refused;
  message_picoseconds = plain.picoseconds_refused;
  datagram_refused_alike = λ g x sizes configured entry exit r p. datagram.refuses_alike g x sizes p.0;
  message_number_alike = λ types m entry exit r p. number.number_alike types m p.0.header p.0.indices;
  message_refused_alike = λ types m entry exit r p a t n z s. number.refused_alike types m p.0.header p.0.indices a t n z s;
  message_refused_plainly = λ types m entry exit r p. plain.refuse_written types m p.0.header p.0.indices;
  datagram_accepted_exactly = λ g x sizes configured entry exit r p a l.
      let e = datagram.accepts_exactly g x sizes configured p.0 a in (λ h. e.0 h l, e.1);
  message_accepted_exactly = λ types m entry exit r p. otherwise.accepts_exactly types m p.0.header p.0.indices;
  lent_fits_after_reading = after_reading_lem;
  lent_probe_again = lent_probe_again;
}
