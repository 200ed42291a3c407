-- The variable parts of a NetworkMessage that was written read back as they were given: the bytes of a string PublisherId,
-- the DataSetWriterIds and the promoted fields.
-- Assumes nothing.
use Rattle.std.specs.Prelude.{Option, Some, None}
use mathlib.Core.Path.{◌≡◌, refl, ap, sym, ◌∙◌}
use mathlib.Core.List.{List, [], ◌∷◌, ◌++◌}
use mathlib.Core.Bool.{Bool, true, false, cond}
use Prim.Native.Nat.{ℕ, ◌+◌, ◌-◌, ◌*◌, ◌≤◌, ◌<◌}
use native.Mathlib.Nat.{min-le_left}
use native.Mathlib.Omega.{arith}
use lib.ListN.{length, get_or, take, drop, length-append, length-take}
use lib.Seq.{drop_at, take_at, get_or-take}
use lib.Dec.{eqb, leb}
use borrow.Author.Tests.{le-leb, lt-leb, eqb-true}
use Rattle.network_message.proofs.Accepted.{listed_at_lem}
use Rattle.wire.specs.Number.{le, le_bytes}
use Rattle.publisher_id.specs.declared.publisher.PublisherId.{PublisherId}
use Rattle.network_header.specs.declared.header.PayloadHeader.{PayloadHeader}
use Rattle.network_header.specs.declared.envelope.Envelope.{Envelope}
use Rattle.network_message.specs.WriterId.{listed_id, configured_id, writer_id_of}
use Rattle.wire_writer.specs.Writing.{optional16_bytes, optional_i64_bytes, unused}
use Rattle.wire_writer.proofs.Trip.{At, first, second, fits_at}
use Rattle.wire_writer.proofs.Refusals.{passed, held}
use Rattle.network_header.specs.Flags.{flags_for, flag_bytes}
use Rattle.publisher_id.specs.Publisher.{publisher_bytes, publisher_shape, bytes_before, text_of}
use Rattle.network_header.specs.Group.{group_bytes}
use Rattle.network_header.specs.Header.{class_bytes, payload_header_bytes, promoted_bytes, ids_shape, promoted_shape, ids_of, promoted_of}
use Rattle.network_header.specs.Numbers.{same_numbers}
use Rattle.network_message.specs.WriterPayload.{list_bytes}
use Rattle.network_message.specs.Writer.{GivenDatagram, envelope_bytes, datagram_of, datagram_refusal}
use Rattle.network_message.proofs.Short.{zeros, unused_none, same_length}
use Rattle.network_header.proofs.Sizes.{ids_counted}
use Rattle.round_trip.specs.NetworkMessage.{places_of}
use Rattle.round_trip.proofs.NetworkMessagePayload.{le_moved}
use Rattle.round_trip.proofs.NetworkMessageMessages.{same_listed}

-- the bytes before the end of a part are the part
before_at : (s : List ℕ) (m : ℕ) (b : List ℕ) (end n : ℕ) → At s m b → length b ≡ n → end ≡ m + n → bytes_before s end n ≡ b
before_at s m b end n a e f =
    let k : end - n ≡ m = omega arith in
    ap (λ (j : ℕ). take n (drop j s)) k ∙ ap (λ (l : List ℕ). take n (drop m l)) a.2 ∙ ap (take n) (drop_at a.0 (b ++ a.1) m a.3) ∙ take_at b a.1 n e

none : (l : List ℕ) → unused (length l) ≡ 0 → [] ≡ l
none [] h = refl
none (x ∷ l) h = absurd (omega (arith, unused_none (length (x ∷ l)) h))

text_back : (p : PublisherId) (text s : List ℕ) (m end : ℕ) → publisher_shape p (length text) ≡ 0 → At s m (publisher_bytes text p) → end ≡ m + length (publisher_bytes text p) → text_of s p end ≡ text
text_back PublisherId.Absent text s m end h a e = none text h
text_back (PublisherId.Byte v) text s m end h a e = none text h
text_back (PublisherId.UInt16 v) text s m end h a e = none text h
text_back (PublisherId.UInt32 v) text s m end h a e = none text h
text_back (PublisherId.UInt64 v) text s m end h a e = none text h
text_back (PublisherId.Text n) text s m end h a e =
    let c = le_bytes 4 (length text) in
    let q : n ≡ length text = eqb-true n (length text) (held (eqb n (length text)) 5 h) in
    before_at s (m + length c) text end n (second s m c text a) (sym q) (omega (arith, length-append c text))

promoted_back : (p : Option ℕ) (bytes s : List ℕ) (m end : ℕ) → promoted_shape p (length bytes) ≡ 0 → At s m (promoted_bytes bytes p) → end ≡ m + length (promoted_bytes bytes p)
    → promoted_of s p end ≡ bytes
promoted_back None bytes s m end h a e = none bytes h
promoted_back (Some n) bytes s m end h a e =
    let c = le_bytes 2 (length bytes) in
    let w = passed (leb 65536 n) 5 (cond (eqb n (length bytes)) 0 6) h in
    let q : n ≡ length bytes = eqb-true n (length bytes) (held (eqb n (length bytes)) 5 w.1) in
    before_at s (m + length c) bytes end n (second s m c bytes a) (sym q) (omega (arith, length-append c bytes))

-- the id of message k: the k-th of the ids given, which stand in the PayloadHeader or are the configured ones
id_at : (s : List ℕ) (m : ℕ) (ids : List ℕ) (n k end : ℕ) → At s m ids → length ids ≡ 2 * n → k < n → end ≡ m + 2 * n → listed_id n end k s ≡ Some (le 2 ids (2 * k))
id_at s m ids n k end a l h e =
    let z : end - 2 * n + 2 * k ≡ length a.0 + 2 * k = omega (arith, a.3) in
    let f : length a.0 + 2 * k + 2 ≤ length s = omega (arith, fits_at s m ids a, a.3) in
    let q : le 2 s (length a.0 + 2 * k) ≡ le 2 ids (2 * k) =
    ap (λ (y : List ℕ). le 2 y (length a.0 + 2 * k)) a.2 ∙ le_moved 2 a.0 ids a.1 (2 * k) (omega arith) in
    rw (lt-leb n k h, z, le-leb (length a.0 + 2 * k + 2) (length s) f, q)

configured_id_lem : (ids configured : List ℕ) (k : ℕ) → same_numbers ids (take 16 configured) ≡ true → 2 * k < length ids → configured_id configured k ≡ Some (le 2 ids (2 * k))
configured_id_lem ids configured k h l =
    let t = take 16 configured in
    let e = same_length ids t h in
    let j : k < length t = omega arith in
    let i : k < 16 = omega (arith, length-take 16 configured, min-le_left 16 (length configured)) in
    let q : get_or configured k 0 ≡ le 2 ids (2 * k) =
    sym (get_or-take 16 configured k 0 i) ∙ ap (λ (xs : List ℕ). get_or xs k 0) (sym (same_listed ids t h)) ∙ listed_at_lem (length t) ids 0 k j ∙ ap (λ (n : ℕ). le 2 ids n) (omega arith) in
    rw (lt-leb (length t) k j, q)

writer_id_back : (x : PayloadHeader) (chunk : Bool) (ids configured s : List ℕ) (m end k : ℕ) → ids_shape chunk x ids configured ≡ 0 → At s m (payload_header_bytes ids x)
    → end ≡ m + length (payload_header_bytes ids x) → 2 * k < length ids → writer_id_of x end configured k s ≡ Some (le 2 ids (2 * k))
writer_id_back PayloadHeader.Absent chunk ids configured s m end k h a e l = configured_id_lem ids configured k (held (same_numbers ids (take 16 configured)) 5 h) l
writer_id_back (PayloadHeader.Ids n) chunk ids configured s m end k h a e l =
    let c = le_bytes 1 n in
    let q = ids_counted chunk n ids configured h in
    id_at s (m + length c) ids n k end (second s m c ids a) q.2 (omega (arith, q.2)) (omega (arith, q.2, length-append c ids))
writer_id_back (PayloadHeader.Chunk w) true ids configured s m end k h a e l = absurd (omega (arith, unused_none (length ids) h))
writer_id_back (PayloadHeader.Chunk w) false ids configured s m end k h a e l = absurd (omega arith)
writer_id_back PayloadHeader.Probe chunk ids configured s m end k h a e l = absurd (omega (arith, unused_none (length ids) h))

ids_back : (n : ℕ) (chunk : Bool) (ids configured s : List ℕ) (m end : ℕ) → ids_shape chunk (PayloadHeader.Ids n) ids configured ≡ 0 → At s m (payload_header_bytes ids (PayloadHeader.Ids n))
    → end ≡ m + length (payload_header_bytes ids (PayloadHeader.Ids n)) → ids_of s (PayloadHeader.Ids n) end ≡ ids
ids_back n chunk ids configured s m end h a e =
    let c = le_bytes 1 n in
    let q = ids_counted chunk n ids configured h in
    before_at s (m + length c) ids end (2 * n) (second s m c ids a) q.2 (omega (arith, q.2, length-append c ids))

module _ (g : GivenDatagram) (x : Envelope) (sizes configured : List ℕ) (h : datagram_refusal g x sizes configured ≡ 0) where
  -- a string PublisherId reads back as the bytes given
  pub text_written_lem : text_of (datagram_of g x) x.publisher (places_of g x).publisher_end ≡ g.text
  text_written_lem =
      let s = datagram_of g x in
      let f1 = flag_bytes (flags_for x) in
      let f2 = publisher_bytes g.text x.publisher in
      let f3 = class_bytes x.class_id in
      let f4 = group_bytes x.group in
      let f5 = payload_header_bytes g.ids x.payload_header in
      let f6 = optional_i64_bytes x.timestamp ++ (optional16_bytes x.picoseconds ++ promoted_bytes g.promoted x.promoted) in
      let at1 : At s 0 (envelope_bytes g.text g.ids g.promoted x) = ([], list_bytes x.payload_header g.lengths ++ g.messages, refl, refl) in
      let at2 = second s 0 f1 (f2 ++ (f3 ++ (f4 ++ (f5 ++ f6)))) at1 in
      text_back x.publisher g.text s (0 + length f1) (places_of g x).publisher_end (zeros g x sizes configured h).text (first s (0 + length f1) f2 (f3 ++ (f4 ++ (f5 ++ f6))) at2)
      (omega (arith, length-append f1 f2))

  -- so do the promoted fields
  pub promoted_written : promoted_of (datagram_of g x) x.promoted (places_of g x).payload ≡ g.promoted
  promoted_written =
      let s = datagram_of g x in
      let f1 = flag_bytes (flags_for x) in
      let f2 = publisher_bytes g.text x.publisher in
      let f3 = class_bytes x.class_id in
      let f4 = group_bytes x.group in
      let f5 = payload_header_bytes g.ids x.payload_header in
      let f6 = optional_i64_bytes x.timestamp in
      let f7 = optional16_bytes x.picoseconds in
      let f8 = promoted_bytes g.promoted x.promoted in
      let m1 = 0 + length f1 in
      let m2 = m1 + length f2 in
      let m3 = m2 + length f3 in
      let m4 = m3 + length f4 in
      let m5 = m4 + length f5 in
      let m6 = m5 + length f6 in
      let at1 : At s 0 (envelope_bytes g.text g.ids g.promoted x) = ([], list_bytes x.payload_header g.lengths ++ g.messages, refl, refl) in
      let at2 = second s 0 f1 (f2 ++ (f3 ++ (f4 ++ (f5 ++ (f6 ++ (f7 ++ f8)))))) at1 in
      let at3 = second s m1 f2 (f3 ++ (f4 ++ (f5 ++ (f6 ++ (f7 ++ f8))))) at2 in
      let at4 = second s m2 f3 (f4 ++ (f5 ++ (f6 ++ (f7 ++ f8)))) at3 in
      let at5 = second s m3 f4 (f5 ++ (f6 ++ (f7 ++ f8))) at4 in
      let at6 = second s m4 f5 (f6 ++ (f7 ++ f8)) at5 in
      let at7 = second s m5 f6 (f7 ++ f8) at6 in
      let at8 = second s m6 f7 f8 at7 in
      promoted_back x.promoted g.promoted s (m6 + length f7) (places_of g x).payload (zeros g x sizes configured h).promoted_bytes at8
      (omega (
        arith,
        length-append f1 (f2 ++ (f3 ++ (f4 ++ (f5 ++ (f6 ++ (f7 ++ f8)))))),
        length-append f2 (f3 ++ (f4 ++ (f5 ++ (f6 ++ (f7 ++ f8))))),
        length-append f3 (f4 ++ (f5 ++ (f6 ++ (f7 ++ f8)))),
        length-append f4 (f5 ++ (f6 ++ (f7 ++ f8))),
        length-append f5 (f6 ++ (f7 ++ f8)),
        length-append f6 (f7 ++ f8),
        length-append f7 f8,
      ))

  -- and the DataSetWriterId of each message
  pub writer_id_written : (k : ℕ) → 2 * k < length g.ids
      → writer_id_of x.payload_header (places_of g x).payload_header_end configured k (datagram_of g x) ≡ Some (le 2 g.ids (2 * k))
  writer_id_written k l =
      let s = datagram_of g x in
      let f1 = flag_bytes (flags_for x) in
      let f2 = publisher_bytes g.text x.publisher in
      let f3 = class_bytes x.class_id in
      let f4 = group_bytes x.group in
      let f5 = payload_header_bytes g.ids x.payload_header in
      let f6 = optional_i64_bytes x.timestamp ++ (optional16_bytes x.picoseconds ++ promoted_bytes g.promoted x.promoted) in
      let m1 = 0 + length f1 in
      let m2 = m1 + length f2 in
      let m3 = m2 + length f3 in
      let m4 = m3 + length f4 in
      let at1 : At s 0 (envelope_bytes g.text g.ids g.promoted x) = ([], list_bytes x.payload_header g.lengths ++ g.messages, refl, refl) in
      let at2 = second s 0 f1 (f2 ++ (f3 ++ (f4 ++ (f5 ++ f6)))) at1 in
      let at3 = second s m1 f2 (f3 ++ (f4 ++ (f5 ++ f6))) at2 in
      let at4 = second s m2 f3 (f4 ++ (f5 ++ f6)) at3 in
      let at5 = second s m3 f4 (f5 ++ f6) at4 in
      writer_id_back x.payload_header x.chunk g.ids configured s m4 (places_of g x).payload_header_end k (zeros g x sizes configured h).ids (first s m4 f5 f6 at5)
      (omega (arith, length-append f1 (f2 ++ (f3 ++ (f4 ++ f5))), length-append f2 (f3 ++ (f4 ++ f5)), length-append f3 (f4 ++ f5), length-append f4 f5)) l
