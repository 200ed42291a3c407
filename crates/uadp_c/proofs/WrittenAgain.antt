-- What was read into a record, written again from it and from the parts as they were read, is the same bytes.
-- Assumes nothing.
use Prim.Native.Nat.{ℕ, zero, suc, ◌+◌, ◌≤◌, ◌<◌}
use mathlib.Core.Path.{◌≡◌, refl, ap, ◌∙◌}
use mathlib.Core.Bool.{Bool, true, false, cond}
use mathlib.Core.List.{List, [], ◌∷◌}
use native.Mathlib.Omega.{arith}
use borrow.Author.Tests.{le-leb}
use lib.Dec.{ltb}
use lib.ListN.{length, get_or, take, replicate}
use Rattle.wire.specs.Answer.{got}
use Rattle.wire.specs.Number.{le}
use Rattle.wire_writer.specs.Fits.{Bytes, Numbers}
use Rattle.wire_writer.specs.Writing.{Output, writing, unless, buffer_after}
use Rattle.wire_writer.proofs.Refusals.{both_zero}
use Rattle.dataset_header.specs.Flags.{valid}
use Rattle.dataset_header.specs.declared.header.Header.{Header}
use Rattle.dataset_message.specs.Message.{Message, message_at}
use Rattle.dataset_message.specs.Writer as message
use Rattle.network_header.specs.Header.{ids_shape}
use Rattle.dataset_header.specs.Header.{message_held}
use Rattle.network_header.specs.declared.envelope.Envelope.{Envelope}
use Rattle.network_header.specs.declared.header.PayloadHeader.{PayloadHeader}
use Rattle.network_header.proofs.Sizes.{ids_counted}
use Rattle.network_message.specs.Envelope.{NetworkMessage, network_message_at}
use Rattle.network_message.specs.Payload.{listed}
use Rattle.network_message.specs.Writer as datagram
use Rattle.publisher_id.specs.Publisher.{publisher_shape}
use Rattle.round_trip.specs.NetworkMessage.{rewritten, given_of}
use Rattle.round_trip.specs.DataSetMessage.{taken_again}
use Rattle.round_trip.proofs.NetworkMessageAccepted.{write_read}
use Rattle.round_trip.proofs.DataSetMessageRewritten.{rewrite_read}
use Rattle.records.specs.Sizes.{ENVELOPE_SIZE, FIELD_SIZE, HEAD_SIZE, PLACE_SIZE}
use Rattle.records.specs.Writers.{ids_in, sizes_in, sixteen, types_for, writers_in}
use Rattle.message_record.specs.Message.{header_in}
use Rattle.envelope_record.specs.Envelope.{envelope_in, count_fits}
use Rattle.uadp_c.specs.Writing.{output_result, fitting}
use Rattle.uadp_c.specs.ByCalls.{AllLong, HeadRead, FieldCall, FieldCalls, last_head, EnvelopeRead, MessageCall, MessageCalls, last_envelope, datagram_from, message_from, Written, DatagramAgain, MessageAgain}
use Rattle.uadp_c.proofs.ByCalls.{header_kept}
use Rattle.uadp_c.proofs.MessagesByCalls.{envelope_kept}

-- ---- the numbers of a configuration record, whose bytes are bytes, have 2 bytes each

two_bytes : (c : List ℕ) (at : ℕ) → Bytes c → le 2 c at < 65536
two_bytes c at b = omega (arith, b at, b (at + 1))

none_at_lem : (k : ℕ) → get_or {A = ℕ} [] k 0 < 65536
none_at_lem k = omega arith

listed_numbers : (n : ℕ) (c : List ℕ) (at : ℕ) → Bytes c → Numbers (listed n c at)
listed_numbers zero c at b k = none_at_lem k
listed_numbers (suc n) c at b zero = two_bytes c at b
listed_numbers (suc n) c at b (suc k) = listed_numbers n c (at + 2) b k

take_numbers : (n : ℕ) (xs : List ℕ) → Numbers xs → Numbers (take n xs)
take_numbers zero xs f k = none_at_lem k
take_numbers (suc n) [] f k = none_at_lem k
take_numbers (suc n) (x ∷ xs) f zero = f zero
take_numbers (suc n) (x ∷ xs) f (suc k) = take_numbers n xs (λ j. f (suc j)) k

zero_numbers : (n : ℕ) → Numbers (replicate n 0)
zero_numbers zero k = none_at_lem k
zero_numbers (suc n) zero = omega arith
zero_numbers (suc n) (suc k) = zero_numbers n k

sixteen_numbers : (at : ℕ) (c : List ℕ) → Bytes c → Numbers (sixteen at c)
sixteen_numbers at c b = go (ltb (length c) 146)
  where
    go : (t : Bool) → Numbers (cond t (replicate 16 0) (listed 16 c at))
    go true = zero_numbers 16
    go false = listed_numbers 16 c at b

configured_numbers : (at : ℕ) (c : List ℕ) → Bytes c → Numbers (take (writers_in c) (sixteen at c))
configured_numbers at c b = take_numbers (writers_in c) (sixteen at c) (sixteen_numbers at c b)

-- ---- a Count that was read has one byte

count_fits_lem : (chunk : Bool) (header : PayloadHeader) (ids configured : List ℕ) → ids_shape chunk header ids configured ≡ 0 → count_fits header ≡ true
count_fits_lem chunk PayloadHeader.Absent ids configured e = refl
count_fits_lem chunk (PayloadHeader.Ids n) ids configured e = let k = ids_counted chunk n ids configured e in le-leb n 255 (omega (arith, k.1))
count_fits_lem chunk (PayloadHeader.Chunk w) ids configured e = refl
count_fits_lem chunk PayloadHeader.Probe ids configured e = refl

-- ---- an output that is these bytes
written : (bytes : List ℕ) (o : Output) (entry : List ℕ) (x : ℕ) (exit : List ℕ) → o ≡ writing bytes → x ≡ output_result entry o → exit ≡ buffer_after entry o → Written bytes entry x exit
written bytes o entry x exit e a b = record { answer = a ∙ ap (output_result entry) e; buffer = b ∙ ap (buffer_after entry) e }

-- A DATAGRAM, READ AND WRITTEN AGAIN FROM ITS RECORD, also after messages were walked over: what `uadp_write` writes is the datagram, but for the two exceptions
pub datagram_again_lem : (d config : List ℕ) (m : NetworkMessage) (n : ℕ) (entry : List ℕ) (r : ℕ) (envelope : List ℕ)
    → network_message_at (sizes_in config) d ≡ got m n → ENVELOPE_SIZE ≤ length entry → EnvelopeRead d config entry r envelope
    → (ps : List (List ℕ)) (ys : List MessageCall) → AllLong PLACE_SIZE ps → length ps ≤ m.payload.count → MessageCalls d config ps envelope ys
    → DatagramAgain d config m (last_envelope envelope ys)
datagram_again_lem d config m n entry r envelope q l w ps ys long k y =
    let b = envelope_kept d config m n entry r envelope q l w ps ys long k y in
    let last = last_envelope envelope ys in
    let x = m.envelope in
    let g = given_of d x m.places (sizes_in config) (ids_in config) in
    let z = write_read (sizes_in config) (ids_in config) d m n w.bytes (configured_numbers 34 config w.config_bytes_lem) (configured_numbers 2 config w.config_bytes_lem) q in
    let shape = (both_zero (datagram.datagram_reading_refusal g x (sizes_in config)) (datagram.shape_refusal g x (sizes_in config) (ids_in config)) z.0).1 in
    let ids = (both_zero (publisher_shape x.publisher (length g.text)) _ shape).1 in
    let counts = count_fits_lem x.chunk x.payload_header g.ids (ids_in config) (both_zero (ids_shape x.chunk x.payload_header g.ids (ids_in config)) _ ids).0 in
    let same : datagram_from config last g ≡ writing (rewritten m d) =
    ap (λ (t : Bool). fitting t (datagram.datagram_output g (envelope_in last) (sizes_in config) (ids_in config))) (b.1 ∙ counts)
    ∙ ap (λ (y : Envelope). datagram.datagram_output g y (sizes_in config) (ids_in config)) b.0
    ∙ ap (λ (k : ℕ). unless k (datagram.datagram_of g x)) z.0
    ∙ ap writing z.1 in
    λ out x exit v. written (rewritten m d) (datagram_from config last g) out x exit same v.answer v.buffer

-- A MESSAGE, READ AND WRITTEN AGAIN FROM ITS RECORD, also after fields were walked over: what `uadp_write_message` writes is the message, but for picoseconds of 10,000 or more
pub message_again_lem : (s config : List ℕ) (writer : ℕ) (m : Message) (e : ℕ) (entry : List ℕ) (r : ℕ) (head : List ℕ)
    → message_at (types_for config writer) s ≡ got (valid m) e → HEAD_SIZE ≤ length entry → HeadRead s config writer entry r head
    → (fs : List (List ℕ)) (ys : List FieldCall) → AllLong FIELD_SIZE fs → length fs ≤ m.cursor.count → FieldCalls s config writer fs head ys
    → MessageAgain s config writer m (last_head head ys)
message_again_lem s config writer m e entry r head q l w fs ys long k y =
    let b = header_kept s config writer m e entry r head q l w fs ys long k y in
    let last = last_head head ys in
    let types = types_for config writer in
    let g = taken_again types s m in
    let z = rewrite_read types s m e w.bytes q in
    let given : Header → message.GivenMessage = λ h. message.given_message h g.heartbeat g.values g.lengths g.indices g.padding in
    let same : message_from config writer last g ≡ writing (message_held m.header s) =
    ap (λ (t : Bool). fitting t (message.message_output types (given (header_in last)))) b.1
    ∙ ap (λ (h : Header). message.message_output types (given h)) b.0
    ∙ ap (λ (k : ℕ). unless k (message.encode g)) z.accepted
    ∙ ap writing z.same in
    λ out x exit v. written (message_held m.header s) (message_from config writer last g) out x exit same v.answer v.buffer
