-- What was written reads back as what was given: the envelope, its places, the payload, and each message with its bytes.
-- Assumes nothing.
use mathlib.Core.Path.{◌≡◌, refl, ap, sym, ◌∙◌}
use mathlib.Core.List.{List, [], ◌++◌, append_assoc}
use Prim.Native.Nat.{ℕ, suc, ◌+◌, ◌≤◌, ◌<◌}
use native.Mathlib.Nat.{le_of_lt}
use native.Mathlib.Omega.{arith}
use lib.ListN.{length, take, drop, get_or, length-append}
use lib.Seq.{drop-append-add}
use borrow.Author.Tests.{le-ltb}
use Rattle.wire.specs.Lists.{total}
use Rattle.wire.specs.Answer.{Answer, got}
use Rattle.publisher_id.specs.declared.publisher.PublisherId.{PublisherId}
use Rattle.network_message.specs.declared.payload.Payload.{Payload}
use Rattle.network_message.specs.declared.payload.MessagePlace.{MessagePlace}
use Rattle.network_header.specs.declared.envelope.Envelope.{Envelope}
use Rattle.network_header.specs.Numbers.{configured_sizes}
use Rattle.network_message.specs.Envelope.{NetworkMessage, messages_of, network_message_at, message_place_at, message_bytes}
use Rattle.network_message.proofs.Messages.{tile, tiled}
use Rattle.network_message.specs.Payload.{OfMessages}
use Rattle.wire_writer.specs.Writing.{optional16_bytes, optional_i64_bytes}
use Rattle.wire_writer.proofs.Trip.{At, first, second, optional_i64_is, picoseconds_is}
use Rattle.network_header.specs.Flags.{flags_for, flag_bytes}
use Rattle.publisher_id.specs.Publisher.{id_type_of, publisher_bytes}
use Rattle.network_header.specs.Group.{group_bytes}
use Rattle.network_header.specs.Header.{class_bytes, payload_header_bytes, promoted_bytes}
use Rattle.network_message.specs.WriterPayload.{list_bytes}
use Rattle.network_message.specs.Writer.{GivenDatagram, envelope_bytes, datagram_of, datagram_refusal}
use Rattle.network_message.proofs.Short.{zeros}
use Rattle.round_trip.specs.NetworkMessage.{places_of, payload_for, written_message, given_lengths, message_given, place_given}
use Rattle.network_header.specs.Envelope.{FitsEnvelope}
use Rattle.publisher_id.proofs.PublisherTrip.{publisher_is}
use Rattle.network_header.proofs.HeaderTrip.{class_is, payload_header_is, promoted_is}
use Rattle.network_header.proofs.GroupTrip.{group_is}
use Rattle.round_trip.proofs.NetworkMessageParts.{eight_lengths}
use Rattle.network_header.proofs.FlagsTrip.{flags_are}
use Rattle.round_trip.proofs.NetworkMessagePayload.{counted, as_many_ids, payload_is}
use Rattle.round_trip.proofs.ProbePayload.{no_header}
use Rattle.round_trip.proofs.NetworkMessageMessages.{tiles, first_is}

pub kind_below : (p : PublisherId) → id_type_of p < 5
kind_below PublisherId.Absent = omega arith
kind_below (PublisherId.Byte v) = omega arith
kind_below (PublisherId.UInt16 v) = omega arith
kind_below (PublisherId.UInt32 v) = omega arith
kind_below (PublisherId.UInt64 v) = omega arith
kind_below (PublisherId.Text n) = omega arith

same_places : (x : Envelope) (p : Payload) (a a' b b' c c' : ℕ) → a ≡ a' → b ≡ b' → c ≡ c'
    → ◌≡◌ {A = Answer NetworkMessage} (got (record { envelope = x; places = record { publisher_end = a; payload_header_end = b; payload = c }; payload = p }) p.first)
    (got (record { envelope = x; places = record { publisher_end = a'; payload_header_end = b'; payload = c' }; payload = p }) p.first)
same_places x p a a' b b' c c' e f g = rw (e, f, g)

-- Accepted by the writer, the datagram reads back as what was given, under the same configuration.
pub read_written : (g : GivenDatagram) (x : Envelope) (sizes configured : List ℕ) → FitsEnvelope x → datagram_refusal g x sizes configured ≡ 0 → length (datagram_of g x) ≤ 65535
    → network_message_at sizes (datagram_of g x) ≡ got (written_message g x sizes) (written_message g x sizes).payload.first
read_written g x sizes configured f h long =
    let r = zeros g x sizes configured h in
    let s = datagram_of g x in
    let b1 = flag_bytes (flags_for x) in
    let b2 = publisher_bytes g.text x.publisher in
    let b3 = class_bytes x.class_id in
    let b4 = group_bytes x.group in
    let b5 = payload_header_bytes g.ids x.payload_header in
    let b6 = optional_i64_bytes x.timestamp in
    let b7 = optional16_bytes x.picoseconds in
    let b8 = promoted_bytes g.promoted x.promoted in
    let rest = list_bytes x.payload_header g.lengths ++ g.messages in
    let m1 = 0 + length b1 in
    let m2 = m1 + length b2 in
    let m3 = m2 + length b3 in
    let m4 = m3 + length b4 in
    let m5 = m4 + length b5 in
    let m6 = m5 + length b6 in
    let m7 = m6 + length b7 in
    let at1 : At s 0 (envelope_bytes g.text g.ids g.promoted x) = ([], rest, refl, refl) in
    let at2 = second s 0 b1 (b2 ++ (b3 ++ (b4 ++ (b5 ++ (b6 ++ (b7 ++ b8)))))) at1 in
    let at3 = second s m1 b2 (b3 ++ (b4 ++ (b5 ++ (b6 ++ (b7 ++ b8))))) at2 in
    let at4 = second s m2 b3 (b4 ++ (b5 ++ (b6 ++ (b7 ++ b8)))) at3 in
    let at5 = second s m3 b4 (b5 ++ (b6 ++ (b7 ++ b8))) at4 in
    let at6 = second s m4 b5 (b6 ++ (b7 ++ b8)) at5 in
    let at7 = second s m5 b6 (b7 ++ b8) at6 in
    let at8 = second s m6 b7 b8 at7 in
    let p1 = flags_are (flags_for x) (kind_below x.publisher) r.times r.probe (no_header x.payload_header) 0 s (first s 0 b1 (b2 ++ (b3 ++ (b4 ++ (b5 ++ (b6 ++ (b7 ++ b8)))))) at1) in
    let p2 = publisher_is x.publisher g.text m1 f.publisher r.publisher r.text s (first s m1 b2 (b3 ++ (b4 ++ (b5 ++ (b6 ++ (b7 ++ b8))))) at2) in
    let p3 = class_is x.class_id m2 f.class_id s (first s m2 b3 (b4 ++ (b5 ++ (b6 ++ (b7 ++ b8)))) at3) in
    let p4 = group_is x.group m3 f.group r.group s (first s m3 b4 (b5 ++ (b6 ++ (b7 ++ b8))) at4) in
    let p5 = payload_header_is x.payload_header x.chunk g.ids configured m4 f.payload_header r.count r.ids s (first s m4 b5 (b6 ++ (b7 ++ b8)) at5) in
    let p6 = optional_i64_is x.timestamp m5 f.timestamp s (first s m5 b6 (b7 ++ b8) at6) in
    let p7 = picoseconds_is x.picoseconds m6 f.picoseconds r.picoseconds s (first s m6 b7 b8 at7) in
    let p8 = promoted_is x.promoted (messages_of x.chunk x.payload_header (length (configured_sizes sizes))) g.promoted m7 r.promoted r.promoted_bytes s at8 in
    let e2 : m2 ≡ length (b1 ++ b2) = omega (arith, length-append b1 b2) in
    let e5 : m5 ≡ length (b1 ++ (b2 ++ (b3 ++ (b4 ++ b5)))) =
    omega (arith, length-append b1 (b2 ++ (b3 ++ (b4 ++ b5))), length-append b2 (b3 ++ (b4 ++ b5)), length-append b3 (b4 ++ b5), length-append b4 b5) in
    let e8 : m7 + length b8 ≡ length (envelope_bytes g.text g.ids g.promoted x) = eight_lengths b1 b2 b3 b4 b5 b6 b7 b8 in
    let p9 = payload_is x.payload_header x.chunk sizes (envelope_bytes g.text g.ids g.promoted x) g.lengths g.messages (m7 + length b8) (sym e8)
    (counted x.payload_header x.chunk g.ids r.count (as_many_ids x.payload_header x.chunk g.ids configured r.ids)) r.payload in
    rw (le-ltb 65535 (length s) long, p1, p2, p3, p4, p5, p6, p7, p8, p9)
    (same_places x (payload_for x.payload_header sizes (m7 + length b8)) m2 _ m5 _ (m7 + length b8) _ e2 e5 e8
    ∙ ap (λ (j : ℕ). got (record { envelope = x; places = places_of g x; payload = payload_for x.payload_header sizes j }) (payload_for x.payload_header sizes j).first) e8)

-- the messages stand at the end of the datagram
messages_end : (pre list messages : List ℕ) (n : ℕ) → drop (length pre + length list + n) (pre ++ (list ++ messages)) ≡ drop n messages
messages_end pre list messages n =
    let e : length pre + length list + n ≡ length (pre ++ list) + n = omega (arith, length-append pre list) in
    ap (λ (j : ℕ). drop j (pre ++ (list ++ messages))) e ∙ ap (λ (l : List ℕ). drop (length (pre ++ list) + n) l) (sym (append_assoc pre list messages)) ∙ drop-append-add (pre ++ list) messages n

-- And so does each message: it stands where those before it end, and has the bytes that were given.
pub message_written_lem : (g : GivenDatagram) (x : Envelope) (sizes configured : List ℕ) → FitsEnvelope x → datagram_refusal g x sizes configured ≡ 0 → length (datagram_of g x) ≤ 65535
    → OfMessages x.payload_header → (k : ℕ) → k < length (given_lengths g x.payload_header sizes)
    → (message_place_at sizes k (datagram_of g x)
    ≡ got (place_given (given_lengths g x.payload_header sizes) (written_message g x sizes).payload.first k)
    ((written_message g x sizes).payload.first + total (take (suc k) (given_lengths g x.payload_header sizes))))
    × (message_bytes (message_place_at sizes k (datagram_of g x)) (datagram_of g x) ≡ message_given (given_lengths g x.payload_header sizes) g.messages k)
message_written_lem g x sizes configured f h long o k l =
    let r = zeros g x sizes configured h in
    let s = datagram_of g x in
    let pre = envelope_bytes g.text g.ids g.promoted x in
    let list = list_bytes x.payload_header g.lengths in
    let zs = given_lengths g x.payload_header sizes in
    let c = counted x.payload_header x.chunk g.ids r.count (as_many_ids x.payload_header x.chunk g.ids configured r.ids) in
    let t = tiles x.payload_header o x.chunk sizes pre g (length pre) refl c r.payload r.lengths in
    let p = payload_for x.payload_header sizes (length pre) in
    let e : message_place_at sizes k s ≡ got (place_given zs p.first k) (p.first + total (take (suc k) zs)) =
    rw (read_written g x sizes configured f h long, tiled t k (le_of_lt l), tile t k l) in
    let a : p.first + total (take k zs) ≡ length pre + length list + total (take k zs) =
    ap (λ (j : ℕ). j + total (take k zs)) (first_is x.payload_header x.chunk sizes g.lengths g.messages (length pre) c r.payload) in (
      e,
      ap (λ (y : Answer MessagePlace). message_bytes y s) e
          ∙ ap (λ (j : ℕ). take (get_or zs k 0) (drop j s)) a ∙ ap (λ (y : List ℕ). take (get_or zs k 0) y) (messages_end pre list g.messages (total (take k zs))),
    )
