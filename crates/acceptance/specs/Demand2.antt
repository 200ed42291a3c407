-- DEMAND 2 as one type: a field for each sentence, the sentence above it. proofs/Demand2.antt gives a value of it. "Headers, messages and
-- fields are found exactly as document 01 lays them out": each reader's contract is an equation with a definition that reads like document
-- 01's sentences (docs/TRACE.md leads to them). What is left to say is that nothing is left out, and the round trips. The premises are the
-- contracts of the writers and of rewriting: what they were given, what they answered, and the buffer before and after.
use Rattle.wire.specs.declared.refusal.Reason.{Reason}
use Rattle.std.specs.Prelude.{Some, is_some, Result, Ok}
use Rattle.std.specs.Prelude.{ℕ, ◌*◌, ◌≤◌, ◌<◌, ◌≡◌, Bool, true, false, cond, List, ◌∷◌, ◌++◌, ◌⊎◌, ◌↔◌, eqb, length, take, drop}
use Rattle.wire.specs.Constants.{DISAGREE, MOST_DATAGRAM, NOT_PERMITTED, PICOSECONDS_END}
use Rattle.wire.specs.Number.{le}
use Rattle.wire.specs.Answer.{got, refused, bit}
use Rattle.wire_writer.specs.Writing.{writing, refusing, unless, or_else}
use Rattle.config.specs.Writers.{types_of}
use Rattle.publisher_id.specs.Publisher.{publisher_on}
use Rattle.network_header.specs.Envelope as envelope
use Rattle.network_header.specs.declared.envelope.Envelope.{Envelope}
use Rattle.network_header.specs.declared.header.PayloadHeader.{PayloadHeader}
use Rattle.probe.specs.declared.body.Probe.{Probe}
use Rattle.probe.specs.Put.{list_in}
use Rattle.network_message.specs.Payload.{OfMessages}
use Rattle.network_message.specs.WriterId.{writer_id_of}
use Rattle.network_message.specs.Envelope.{NetworkMessage, network_message_at, message_place_at, message_bytes}
use Rattle.network_message.specs.Writer as N
use Rattle.dataset_header.specs.Flags.{valid}
use Rattle.dataset_header.specs.Header as message
use Rattle.dataset_fields.specs.Fields.{number_of}
use Rattle.dataset_message.specs.Message.{Message, message_at}
use Rattle.dataset_message.specs.Writer as M
use Rattle.round_trip.specs.NetworkMessage as network
use Rattle.round_trip.specs.DataSetMessage.{MessageBack, PartsAgree, ReadingRefuses, Tellable}
use Rattle.rewriting.specs.Same.{RewroteDatagram, RewroteMessage}
use Rattle.reassembly.specs.Record.{Partial, Identity, room_of, Good}
use Rattle.reassembly_laws.specs.Cutting.{Arrival, AllArrive, Restored}
use Rattle.records.specs.Sizes.{PROBE_SIZE}
use Rattle.records.specs.Writers.{sizes_in}
use Rattle.network_message.specs.ProbeMessage.{ProbeMessage, probe_message_at}
use Rattle.uadp_c.specs.Writing.{fitting}
use Rattle.uadp_c.specs.Probes.{ProbeRead, probe_put}
use Rattle.walk.specs.Lines.{Writers, lines_from, step_lines, next_line, start_cursor, listing_of, datagram_lines}
use Rattle.walk.specs.declared.lines.LineCursor.{LineCursor}
use Rattle.walk_records.specs.Walk.{walk_records, line_records, NoneRefused}
use Rattle.acceptance.specs.Tiles.{MessagesTile, FieldsTile}
use Rattle.acceptance.specs.Again.{CopiedTo, Below, Holds}
use Rattle.acceptance.specs.Chunks.{IsWritten}
use Rattle.acceptance.specs.Probes.{WroteProbe, ProbeBack, ProbeDatagramBack}

-- the types of message k's fields under a configuration, by the DataSetWriterId that was given for it; and by the one that is read back
abbrev pub types_given : Writers → N.GivenDatagram → ℕ → List ℕ
types_given w g k = types_of w.ids w.starts w.types (Some (le 2 g.ids (2 * k)))

abbrev pub types_read : Writers → NetworkMessage → List ℕ → ℕ → List ℕ
types_read w m d k =
    types_of w.ids w.starts w.types (writer_id_of m.envelope.payload_header m.places.payload_header_end w.ids k d)

-- what was written, as a claim about the buffer: its first n bytes are d, which P says something of, and the rest is as it was
abbrev pub InBuffer : List ℕ → List ℕ → ℕ → (List ℕ → Type 0) → Type 0
InBuffer entry exit n P = P (take n exit) × (drop n exit ≡ drop n entry)

pub record Demand2 : Type 0 where
  -- ---- NOTHING IS LEFT OUT. The messages of an accepted datagram tile its payload, and the fields of an accepted DataSetMessage tile it:
  -- by lookup and by cursor the same is found.
  pub messages_tile : (sizes s : List ℕ) (m : NetworkMessage) (n : ℕ) → network_message_at sizes s ≡ got m n
      → OfMessages m.envelope.payload_header → MessagesTile sizes s m
  pub fields_tile : (types s : List ℕ) (m : Message) (n : ℕ) → message_at types s ≡ got (valid m) n → FieldsTile types s m
  -- The lines of a listing: the cursor that it starts with has all of its lines before it, and each step hands out the first of those that
  -- are left.
  pub listing_starts : (w : Writers) (d : List ℕ) (number place : ℕ)
      → lines_from w d (start_cursor number place w.sizes d) ≡ listing_of number place w d
  pub listing_steps : (w : Writers) (d : List ℕ) (c : LineCursor) → step_lines w d (next_line w d c) ≡ lines_from w d c
  -- A walk in one call tells the same: where no message is refused, its records are those of the lines after the first.
  pub walk_listed : (w : Writers) (d : List ℕ) → NoneRefused (datagram_lines w d)
      → walk_records w d ≡ line_records (drop 1 (datagram_lines w d))
  -- ---- WHAT THE WRITER WROTE READS BACK AS WHAT IT WAS GIVEN.
  -- A NetworkMessage, with and without PayloadHeader: envelope, PublisherId's text, promoted fields, writer ids, each message with its
  -- offset and bytes, a chunk's payload.
  pub datagram_reads_back : (g : N.GivenDatagram) (x : Envelope) (sizes configured entry exit : List ℕ) (n : ℕ)
      → N.WroteDatagram g x sizes configured entry exit (Ok n) → InBuffer entry exit n (network.ReadsBack g x sizes configured)
  -- A DataSetMessage of any kind and encoding: header, whether it is a heartbeat, each field's index and bytes, the length of its padding.
  pub message_reads_back : (types : List ℕ) (m : M.GivenMessage) (entry exit : List ℕ) (n : ℕ)
      → M.WroteMessage types m entry exit (Ok n) → InBuffer entry exit n (MessageBack types m)
  -- Both, under one configuration w: where the message writer wrote the bytes of message k, with the types of its writer's fields, its own
  -- part of the datagram is those bytes, and reads back as it was given by the types of the writer id that is read back.
  pub whole_reads_back : (w : Writers) (g : N.GivenDatagram) (x : Envelope) (entry exit : List ℕ) (n : ℕ)
      → N.WroteDatagram g x w.sizes w.ids entry exit (Ok n) → OfMessages x.payload_header
      → (k : ℕ) → k < length (network.given_lengths g x.payload_header w.sizes) → 2 * k < length g.ids
      → (m : M.GivenMessage) (entry-k exit-k : List ℕ) (n-k : ℕ)
      → M.WroteMessage (types_given w g k) m entry-k exit-k (Ok n-k)
      → network.message_given (network.given_lengths g x.payload_header w.sizes) g.messages k ≡ take n-k exit-k
      → (message_bytes (message_place_at w.sizes k (take n exit)) (take n exit) ≡ take n-k exit-k)
      × MessageBack (types_read w (network.written_message g x w.sizes) (take n exit) k) m
      (message_bytes (message_place_at w.sizes k (take n exit)) (take n exit))
  -- A probe's body: what it asks for, and its ids or strings byte by byte.
  pub probe_reads_back : (list : List ℕ) (p : Probe) (entry exit : List ℕ) (n : ℕ)
      → WroteProbe list p entry exit (Ok n) → InBuffer entry exit n (ProbeBack list p)
  -- Both: a datagram that was written with a probe's body reads back as that probe.
  pub probe_datagram_reads_back : (list : List ℕ) (p : Probe) (entry-p exit-p : List ℕ) (n-p : ℕ)
      → WroteProbe list p entry-p exit-p (Ok n-p)
      → (g : N.GivenDatagram) (x : Envelope) (sizes configured entry exit : List ℕ) (n : ℕ)
      → N.WroteDatagram g x sizes configured entry exit (Ok n)
      → x.payload_header ≡ PayloadHeader.Probe → g.messages ≡ take n-p exit-p
      → InBuffer entry exit n (ProbeDatagramBack list p g x sizes)
  -- Cutting, the envelope's writer, taking in and handing out together: datagrams that were written with the payloads that cutting wrote,
  -- of one publisher and writer, restore the payload, in any order and some of them more than once.
  pub written_and_restored : (id : Identity) (p : List ℕ) (size : ℕ) (l : List Arrival) → AllArrive id p size (IsWritten id p size) l
      → (s : Partial) → Good s → s.rec.started ≡ false → length p ≤ room_of s → Restored p l s
  -- ---- AN ACCEPTED DATAGRAM WRITTEN AGAIN GIVES THE SAME BYTES, BUT FOR THE TWO NAMED CASES.
  pub datagram_again_lem : (sizes s entry exit : List ℕ) (r : Result ℕ Reason) (m : NetworkMessage) (n : ℕ)
      → network_message_at sizes s ≡ got m n → RewroteDatagram sizes s entry exit r → CopiedTo (network.rewritten m s) entry exit r
  -- The first case needs ExtendedFlags1 and PublisherId off, the second PicoSeconds of 10,000 or more in the envelope; no datagram gets
  -- longer.
  pub rewritten_same : (m : NetworkMessage) (b : ℕ) (s : List ℕ) → (bit 7 b ≡ false) ⊎ (bit 4 b ≡ true)
      → Below m.envelope.picoseconds (envelope.picoseconds_place m.envelope m.places) (b ∷ s) → network.rewritten m (b ∷ s) ≡ b ∷ s
  pub rewritten_shorter : (m : NetworkMessage) (s : List ℕ) → length (network.rewritten m s) ≤ length s
  -- Req 02: "the rewritten envelope .. holds 9,999 there": with a PublisherId it differs in the two bytes of its PicoSeconds alone.
  pub rewritten_holds : (sizes s entry exit : List ℕ) (r : Result ℕ Reason) (m : NetworkMessage) (n : ℕ)
      → network_message_at sizes s ≡ got m n
      → RewroteDatagram sizes s entry exit r → publisher_on m.envelope.publisher ≡ true → is_some m.envelope.picoseconds ≡ true
      → PICOSECONDS_END ≤ le 2 s (envelope.picoseconds_place m.envelope m.places)
      → Holds (envelope.picoseconds_place m.envelope m.places) s (network.rewritten m s)
  -- With a PublisherId nothing but the PicoSeconds can differ.
  pub rewritten_with_publisher : (sizes s entry exit : List ℕ) (r : Result ℕ Reason) (m : NetworkMessage) (n : ℕ)
      → network_message_at sizes s ≡ got m n → RewroteDatagram sizes s entry exit r → publisher_on m.envelope.publisher ≡ true
      → network.rewritten m s ≡ envelope.envelope_held m.envelope m.places s
  -- "a message handed on as bytes keeps its own": whatever the header, the payload stands behind it as it stood.
  pub payload_handed_on : (sizes s entry exit : List ℕ) (r : Result ℕ Reason) (m : NetworkMessage) (n : ℕ)
      → network_message_at sizes s ≡ got m n
      → RewroteDatagram sizes s entry exit r → (header : List ℕ) × (network.rewritten m s ≡ header ++ drop m.places.payload s)
  -- The datagram writer's `rewrite` writes the same, and so does the writer itself, given the parts as they were read.
  pub parts_again : (sizes s entry exit : List ℕ) (r : Result ℕ Reason) (m : NetworkMessage) (n : ℕ) → network_message_at sizes s ≡ got m n
      → N.RewroteParts sizes s entry exit r
      → CopiedTo (network.rewritten m s) entry exit r
      × ((configured entry-p exit-p : List ℕ) (r-p : Result ℕ Reason)
      → N.WroteDatagram (network.given_of s m.envelope m.places sizes configured) m.envelope sizes configured entry-p exit-p r-p
      → CopiedTo (network.rewritten m s) entry-p exit-p r-p)
  -- The body of a probe that uadp_probe read, written again from its parts as they were read, is the same bytes.
  pub probe_again : (d config record-before record-after : List ℕ) (result : ℕ) (m : ProbeMessage) (n : ℕ)
      → probe_message_at (sizes_in config) d ≡ got m n → ProbeRead d config record-before result record-after
      → (entry exit : List ℕ) (r : Result ℕ Reason) → WroteProbe (list_in d m.places.payload m.probe) m.probe entry exit r
      → CopiedTo (drop m.places.payload d) entry exit r
  -- "every accepted DataSetMessage, padding length included, is rewritten identically", but for picoseconds of 10,000 or more in its
  -- header.
  pub message_again_lem : (types s entry exit : List ℕ) (r : Result ℕ Reason) (m : Message) (n : ℕ) → message_at types s ≡ got (valid m) n
      → RewroteMessage types s entry exit r → CopiedTo (message.message_held m.header s) entry exit r
  pub message_same_lem : (m : Message) (s : List ℕ) → Below m.header.picoseconds (message.message_picoseconds_place m.header) s
      → message.message_held m.header s ≡ s
  -- Req 02: "the rewritten .. message header holds 9,999 there"
  pub message_holds : (types s entry exit : List ℕ) (r : Result ℕ Reason) (m : Message) (n : ℕ) → message_at types s ≡ got (valid m) n
      → RewroteMessage types s entry exit r → is_some m.header.picoseconds ≡ true
      → PICOSECONDS_END ≤ le 2 s (message.message_picoseconds_place m.header)
      → Holds (message.message_picoseconds_place m.header) s (message.message_held m.header s)
  -- ---- "A writer refuses what reading would refuse, by the same number in reading order; then .. what would read back otherwise .. by 6".
  -- The number in reading order comes first.
  pub datagram_number_first : (g : N.GivenDatagram) (x : Envelope) (sizes configured : List ℕ)
      → eqb (N.datagram_reading_refusal g x sizes) 0 ≡ false
      → N.datagram_output g x sizes configured ≡ refusing (N.datagram_reading_refusal g x sizes)
  -- Req 02: "The writers still refuse 10,000 or more there with 3", at that item's turn: where nothing before it is refused.
  pub datagram_picoseconds : (g : N.GivenDatagram) (x : Envelope) (sizes configured : List ℕ) → N.picoseconds_turn g x ≡ true
      → N.datagram_output g x sizes configured ≡ refusing NOT_PERMITTED
  pub message_picoseconds : (types : List ℕ) (m : M.GivenMessage) → M.message_picoseconds_turn m ≡ true
      → M.message_output types m ≡ refusing NOT_PERMITTED
  -- In every other case, where what would be written is one thing, it is the number by which reading refuses that.
  pub datagram_refused_alike : (g : N.GivenDatagram) (x : Envelope) (sizes configured entry exit : List ℕ) (r : Result ℕ Reason)
      → N.WroteDatagram g x sizes configured entry exit r → network.CountsAgree g x
      → length (N.datagram_of g x) ≤ MOST_DATAGRAM → N.picoseconds_turn g x ≡ false → eqb (N.datagram_reading_refusal g x sizes) 0 ≡ false
      → (place : ℕ) × (network_message_at sizes (N.datagram_of g x) ≡ refused (N.datagram_reading_refusal g x sizes) place)
  pub message_number_alike : (types : List ℕ) (m : M.GivenMessage) (entry exit : List ℕ) (r : Result ℕ Reason)
      → M.WroteMessage types m entry exit r → PartsAgree types m
      → M.message_picoseconds_turn m ≡ false → number_of (message_at types (M.encode m)) ≡ M.message_reading_refusal types m
  pub message_refused_alike : (types : List ℕ) (m : M.GivenMessage) (entry exit : List ℕ) (r : Result ℕ Reason)
      → M.WroteMessage types m entry exit r → PartsAgree types m
      → M.message_picoseconds_turn m ≡ false → (n : ℕ) → (n ≡ 0 → ⊥) → (n ≡ DISAGREE → ⊥)
      → (M.message_refusal types m ≡ n) ↔ ReadingRefuses types m n
  -- Also where a field is no whole value, as far as reading finds it where it stands.
  pub message_refused_plainly : (types : List ℕ) (m : M.GivenMessage) (entry exit : List ℕ) (r : Result ℕ Reason)
      → M.WroteMessage types m entry exit r → Tellable types m
      → M.message_picoseconds_turn m ≡ false → eqb (M.message_reading_refusal types m) 0 ≡ false
      → ReadingRefuses types m (M.message_reading_refusal types m)
  -- The writer accepts exactly what reads back as given.
  pub datagram_accepted_exactly : (g : N.GivenDatagram) (x : Envelope) (sizes configured entry exit : List ℕ) (r : Result ℕ Reason)
      → N.WroteDatagram g x sizes configured entry exit r → network.PartsAgree g x sizes configured
      → length (N.datagram_of g x) ≤ MOST_DATAGRAM
      → (N.datagram_refusal g x sizes configured ≡ 0) ↔ network.ReadsBack g x sizes configured (N.datagram_of g x)
  pub message_accepted_exactly : (types : List ℕ) (m : M.GivenMessage) (entry exit : List ℕ) (r : Result ℕ Reason)
      → M.WroteMessage types m entry exit r
      → (M.message_refusal types m ≡ 0) ↔ (MessageBack types m (M.encode m) × (M.lists_given m ≡ true))
  -- Through C "a number that does not fit its item" is 6, after the numbers in reading order: `fits` says whether all numbers of the
  -- record do.
  pub lent_fits_after_reading : (fits : Bool) (g : N.GivenDatagram) (x : Envelope) (sizes configured : List ℕ)
      → fitting fits (N.datagram_output g x sizes configured)
      ≡ unless
      (or_else (N.datagram_reading_refusal g x sizes) (or_else (cond fits 0 DISAGREE) (N.shape_refusal g x sizes configured)))
      (N.datagram_of g x)
  -- From the record that uadp_probe filled, and the ids or strings as they stand, uadp_put_probe writes the same body.
  pub lent_probe_again : (d config entry exit : List ℕ) (result : ℕ) (m : ProbeMessage) (n : ℕ)
      → probe_message_at (sizes_in config) d ≡ got m n → PROBE_SIZE ≤ length entry → ProbeRead d config entry result exit
      → probe_put exit (list_in d m.places.payload m.probe) ≡ writing (drop m.places.payload d)
