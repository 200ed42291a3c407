-- A writer refuses what reading would refuse, by the same number in reading order.
-- Assumes nothing.
use Rattle.network_header.specs.declared.group.GroupFields.{GroupFields}
use Rattle.std.specs.Prelude.{Option, Some, None, is_some}
use mathlib.Core.Path.{◌≡◌, refl, ap, sym, subst, ◌∙◌}
use mathlib.Core.List.{List, [], ◌++◌}
use mathlib.Core.Bool.{Bool, true, false, cond, ◌&&◌, not}
use Prim.Native.Nat.{ℕ, suc, ◌+◌, ◌*◌, ◌/◌, ◌%◌, ◌^◌, ◌≤◌, ◌<◌}
use native.Mathlib.Omega.{arith}
use lib.ListN.{length, length-append}
use lib.Dec.{eqb, leb, ltb}
use borrow.Author.Tests.{le-ltb, le-leb, lt-leb, lt-ltb, eq-eqb, ne_eqb}
use Rattle.wire.specs.Lists.{total}
use Rattle.wire.specs.Number.{le, le_bytes}
use Rattle.wire.specs.Answer.{Answer, got, refused, ruled, bit}
use Rattle.wire.proofs.Reading.{leb_same}
use Rattle.network_header.specs.declared.flags.Flags.{Flags}
use Rattle.publisher_id.specs.declared.publisher.PublisherId.{PublisherId}
use Rattle.network_header.specs.declared.header.PayloadHeader.{PayloadHeader}
use Rattle.network_message.specs.declared.payload.Sizes.{Sizes}
use Rattle.network_header.specs.declared.envelope.Envelope.{Envelope}
use Rattle.network_header.specs.Flags.{byte0_rule, extended1_rule, extended2_rule, flags_at, extended2_of, extended1_of, byte0_of, flag_bytes, flags_for, times_refusal, probe_refusal}
use Rattle.publisher_id.specs.Publisher.{publisher_at, publisher_on, id_type_of, publisher_bytes, publisher_refusal}
use Rattle.network_header.specs.Group.{number_rule, message_number_at, group_flags_rule, group_at, group_flags_of, group_fields_bytes, group_bytes, number_refusal, group_refusal, FitsGroup}
use Rattle.network_header.specs.Header.{count_rule, payload_header_at, size_rule, promoted_at, class_bytes, payload_header_on, probe_on, payload_header_bytes, promoted_bytes, count_refusal, promoted_refusal, FitsPayloadHeader}
use Rattle.network_message.specs.Payload.{all_positive, listed, messages_from, rest_only_at, listed_at, sized_at, configured_at, payload_at}
use Rattle.network_header.specs.Numbers.{configured_sizes}
use Rattle.network_message.specs.Envelope.{messages_of, network_message_at}
use Rattle.wire_writer.specs.Writing.{or_else, num, needed, byte_bytes, optional16_bytes, optional32_bytes, optional_i64_bytes, picoseconds_refusal}
use Rattle.wire_writer.proofs.Trip.{At, Reads, nothing, first, second, fits_at, le_at, item_is, rule_kept, optional16_is, optional32_is, optional_i64_is, picoseconds_is}
use Rattle.wire_writer.proofs.Refusals.{or_case, no, Refuses, broken, number_broken}
use Rattle.wire_writer.proofs.Bits.{num_bound, needed_bound, flag_is}
use Rattle.network_message.specs.WriterPayload.{list_bytes, refusal_number, payload_refusal, listed_refusal}
use Rattle.network_message.specs.Writer.{GivenDatagram, envelope_bytes, datagram_of, datagram_reading_refusal, picoseconds_turn}
use Rattle.round_trip.specs.NetworkMessage.{AsManyLengths, AsManyIds, CountsAgree}
use Rattle.network_header.specs.Envelope.{FitsEnvelope}
use Rattle.network_header.proofs.FlagsTrip.{byte_bits, extended_bits, flags_are}
use Rattle.network_header.proofs.GroupTrip.{bits, group_is}
use Rattle.publisher_id.proofs.PublisherTrip.{publisher_written}
use Rattle.network_header.proofs.HeaderTrip.{class_is, payload_header_is, promoted_written}
use Rattle.round_trip.proofs.NetworkMessageParts.{eight_lengths}
use Rattle.round_trip.proofs.NetworkMessagePayload.{Counted, counted, listed_at_start}
use Rattle.round_trip.proofs.NetworkMessageWritten.{kind_below}
use Rattle.round_trip.proofs.ProbePayload.{probe_number, no_header}
use Rattle.wire_writer.specs.Fits.{Fits16}
use Rattle.wire.proofs.Facts.{eqb_same}

-- an answer with a number is a refusal
refused_by : {A : Type 0} (a : Answer A) → eqb (refusal_number a) 0 ≡ false → (place : ℕ) × (a ≡ refused (refusal_number a) place)
refused_by (got v next) h = absurd (no h)
refused_by (refused n place) h = (place, refl)

-- each part

number_refuses : (x : Option ℕ) (m : ℕ) → Fits16 x → eqb (number_refusal x) 0 ≡ false → Refuses (message_number_at (is_some x)) m (optional16_bytes x) (number_refusal x)
number_refuses None m f h s at = absurd (no h)
number_refuses (Some v) m f h s at = rw (number_broken 2 number_rule v m f h s at)

text_rule : (n : ℕ) → eqb (cond (leb 65 n) 10 0) 0 ≡ false → leb 65 n ≡ true
text_rule n h = go (leb 65 n) h
  where
    go : (b : Bool) → eqb (cond b 10 0) 0 ≡ false → b ≡ true
    go true q = refl
    go false q = absurd (no q)

publisher_refuses : (p : PublisherId) (text : List ℕ) (m : ℕ) → length (publisher_bytes text p) ≤ 65535 → eqb (publisher_refusal p (length text)) 0 ≡ false
    → (s : List ℕ) → At s m (publisher_bytes text p) → publisher_at (publisher_on p) (id_type_of p) s m ≡ refused (publisher_refusal p (length text)) 0
publisher_refuses PublisherId.Absent text m l h s at = absurd (no h)
publisher_refuses (PublisherId.Byte v) text m l h s at = absurd (no h)
publisher_refuses (PublisherId.UInt16 v) text m l h s at = absurd (no h)
publisher_refuses (PublisherId.UInt32 v) text m l h s at = absurd (no h)
publisher_refuses (PublisherId.UInt64 v) text m l h s at = absurd (no h)
publisher_refuses (PublisherId.Text n) text m l h s at =
    let c = le_bytes 4 (length text) in
    let k : length text < 256 ^ 4 = omega (arith, length-append c text) in
    let u : length text < 2147483648 = omega (arith, length-append c text) in
    let j : m + 4 ≤ length s = omega (arith, fits_at s m (c ++ text) at, length-append c text) in
    let p : le 4 s m ≡ length text = le_at 4 (length text) m k s (first s m c text at) in
    let t : leb 65 (length text) ≡ true = text_rule (length text) h in
    rw (le-leb (m + 4) (length s) j, p, lt-ltb (length text) 2147483648 u, t)

payload_header_refuses : (x : PayloadHeader) (chunk : Bool) (ids : List ℕ) (m : ℕ) → AsManyIds chunk x ids → eqb (count_refusal x) 0 ≡ false
    → Refuses (payload_header_at (payload_header_on x) chunk (probe_on x)) m (payload_header_bytes ids x) (count_refusal x)
payload_header_refuses PayloadHeader.Absent chunk ids m q h s at = absurd (no h)
payload_header_refuses (PayloadHeader.Ids n) chunk ids m q h s at =
    rw (q.0, number_broken 1 count_rule n m q.1 h s (first s m (le_bytes 1 n) ids at))
payload_header_refuses (PayloadHeader.Chunk w) chunk ids m q h s at = absurd (no h)
payload_header_refuses PayloadHeader.Probe chunk ids m q h s at = absurd (no h)

payload_header_written : (x : PayloadHeader) (chunk : Bool) (ids : List ℕ) (m : ℕ) → FitsPayloadHeader x → count_refusal x ≡ 0 → AsManyIds chunk x ids
    → Reads (payload_header_at (payload_header_on x) chunk (probe_on x)) m (payload_header_bytes ids x) x
payload_header_written PayloadHeader.Absent chunk ids m f a q = nothing PayloadHeader.Absent m
payload_header_written (PayloadHeader.Ids n) chunk ids m f a q =
    payload_header_is (PayloadHeader.Ids n) chunk ids [] m f a (rw (q.0, lt-leb 256 n q.1, eq-eqb (length ids) (2 * n) q.2))
payload_header_written (PayloadHeader.Chunk w) chunk ids m f a q = payload_header_is (PayloadHeader.Chunk w) chunk ids [] m f a (rw (q.0, q.1))
payload_header_written PayloadHeader.Probe chunk ids m f a q = nothing PayloadHeader.Probe m

promoted_refuses : (x : Option ℕ) (messages : ℕ) (bytes : List ℕ) (m : ℕ) → length (promoted_bytes bytes x) ≤ 65535 → eqb (promoted_refusal x messages) 0 ≡ false
    → Refuses (promoted_at (is_some x) messages) m (promoted_bytes bytes x) (promoted_refusal x messages)
promoted_refuses None messages bytes m l h s at = absurd (no h)
promoted_refuses (Some i) messages bytes m l h s at =
    let j : length bytes < 256 ^ 2 = omega (arith, length-append (le_bytes 2 (length bytes)) bytes) in
    rw (number_broken 2 (size_rule messages) (length bytes) m j h s (first s m (le_bytes 2 (length bytes)) bytes at))

-- the group header: NetworkMessageNumber 0 is 3
group_refuses : (x : Option GroupFields) (m : ℕ) → FitsGroup x → eqb (group_refusal x) 0 ≡ false → (s : List ℕ) → At s m (group_bytes x) → (place : ℕ)
    × (group_at (is_some x) s m ≡ refused (group_refusal x) place)
group_refuses None m f h s at = absurd (no h)
group_refuses (Some g) m f h s at =
    let c = le_bytes 1 (group_flags_of g) in
    let b1 = optional16_bytes g.writer_group in
    let b2 = optional32_bytes g.version in
    let b3 = optional16_bytes g.number in
    let b4 = optional16_bytes g.sequence in
    let b = bits g in
    let k : group_flags_of g < 256 ^ 1 = omega (arith, b.4) in
    let r : group_flags_rule (group_flags_of g) ≡ 0 = rw (lt-leb 16 (group_flags_of g) b.4) in
    let at1 = second s m c (group_fields_bytes g) at in
    let m1 = m + length c in
    let at2 = second s m1 b1 (b2 ++ (b3 ++ b4)) at1 in
    let at3 = second s (m1 + length b1) b2 (b3 ++ b4) at2 in
    let p0 = rule_kept 1 group_flags_rule m c (group_flags_of g) r (item_is 1 (group_flags_of g) m k) s (first s m c (group_fields_bytes g) at) in
    let p1 = optional16_is g.writer_group m1 f.0 s (first s m1 b1 (b2 ++ (b3 ++ b4)) at1) in
    let p2 = optional32_is g.version (m1 + length b1) f.1 s (first s (m1 + length b1) b2 (b3 ++ b4) at2) in
    let p3 = number_refuses g.number (m1 + length b1 + length b2) f.2 h s (first s (m1 + length b1 + length b2) b3 b4 at3) in (
      m1 + length b1 + length b2,
      rw (
        p0,
        flag_is (is_some g.writer_group) (group_flags_of g % 2) b.0,
        p1,
        flag_is (is_some g.version) (group_flags_of g / 2 % 2) b.1,
        p2,
        flag_is (is_some g.number) (group_flags_of g / 4 % 2) b.2,
        p3,
      ),
    )

-- the flag bytes: PicoSeconds without Timestamp is 3 at ExtendedFlags1

both_no : (p : Bool) → (p && false) ≡ false
both_no true = refl
both_no false = refl

three : (p : Bool) (e k : ℕ) → eqb e 0 ≡ false → e % 8 ≡ k → k < 5 → e / 16 % 2 ≡ 0 → e / 64 % 2 ≡ 1 → e / 32 % 2 ≡ 0 → extended1_rule p e ≡ 3
three p e k nz ke hk se pe te = rw (nz, ke, lt-leb 5 k hk, both_no p, se, pe, te)

flags_refuse : (f : Flags) → f.kind < 5 → f.picoseconds ≡ true → f.timestamp ≡ false → (m : ℕ) (s : List ℕ) → At s m (flag_bytes f) → flags_at s m ≡ refused 3 (m + 1)
flags_refuse f hk hp ht m s at =
    let b = le_bytes 1 (byte0_of f) in
    let e = extended1_of f in
    let b0 = byte_bits _ _ _ _ (num_bound f.publisher) (num_bound f.group) (num_bound f.payload_header) (needed_bound e) in
    let b1 =
    extended_bits f.kind (num f.class_id) (num f.timestamp) (num f.picoseconds) (needed (extended2_of f)) (omega arith) (num_bound f.class_id) (num_bound f.timestamp)
    (num_bound f.picoseconds) (needed_bound (extended2_of f)) in
    let pe : e / 64 % 2 ≡ 1 = b1.4 ∙ ap num hp in
    let te : e / 32 % 2 ≡ 0 = b1.3 ∙ ap num ht in
    let z : e ≡ 0 → ⊥ = λ q. omega arith in
    let nz : eqb e 0 ≡ false = ne_eqb e 0 z in
    let on : byte0_of f / 128 ≡ 1 = b0.4 ∙ ap (λ (t : Bool). cond t 0 1) nz in
    let k : byte0_of f < 256 ^ 1 = b0.5 in
    let r0 : byte0_rule (byte0_of f) ≡ 0 = rw b0.0 in
    let p1 = rule_kept 1 byte0_rule m b (byte0_of f) r0 (item_is 1 (byte0_of f) m k) s (first s m b (byte_bytes e ++ byte_bytes (extended2_of f)) at) in
    let r1 : extended1_rule (bit 4 (byte0_of f)) e ≡ 3 = three (bit 4 (byte0_of f)) e f.kind nz b1.0 hk b1.2 pe te in
    let at2 = first s (m + 1) (byte_bytes e) (byte_bytes (extended2_of f)) (second s m b (byte_bytes e ++ byte_bytes (extended2_of f)) at) in
    let at3 : At s (m + 1) (le_bytes 1 e) = subst (λ (t : Bool). At s (m + 1) (cond t [] (le_bytes 1 e))) nz at2 in
    let nr : eqb (extended1_rule (bit 4 (byte0_of f)) e) 0 ≡ false = rw r1 in
    let p2 = broken 1 (extended1_rule (bit 4 (byte0_of f))) (m + 1) (le_bytes 1 e) e nr (item_is 1 e (m + 1) b1.6) s at3 in
    let p3 : ruled 1 (extended1_rule (bit 4 (byte0_of f))) s (m + 1) ≡ refused 3 (m + 1) = p2 ∙ ap (λ (n : ℕ). refused n (m + 1)) r1 in
    rw (p1, on, p3)

times_broken : (p t : Bool) → eqb (times_refusal p t) 0 ≡ false → (p ≡ true) × (t ≡ false) × (3 ≡ times_refusal p t)
times_broken true true h = absurd (no h)
times_broken true false h = (refl, refl, refl)
times_broken false t h = absurd (no h)

-- a probe that is a chunk, or has promoted fields, at ExtendedFlags2

second_bits : (a b c : ℕ) → a ≤ 1 → b ≤ 1 → c ≤ 1
    → ((a + (2 * b + 4 * c)) % 2 ≡ a) × ((a + (2 * b + 4 * c)) / 2 % 2 ≡ b) × ((a + (2 * b + 4 * c)) / 4 % 8 ≡ c) × (a + (2 * b + 4 * c) < 8)
second_bits a b c ha hb hc = omega arith

probe_broken : (p c m : Bool) → eqb (probe_refusal p c m) 0 ≡ false → p ≡ true
probe_broken true c m h = refl
probe_broken false c m h = absurd (no h)

no_pico : (p t : Bool) → times_refusal p t ≡ 0 → (eqb (num p) 1 && eqb (num t) 0) ≡ false
no_pico true true h = refl
no_pico true false h = absurd (omega arith)
no_pico false true h = refl
no_pico false false h = refl

-- ExtendedFlags1 passes
first_passes : (p : Bool) (e k : ℕ) (pc t : Bool) → eqb e 0 ≡ false → e % 8 ≡ k → k < 5 → e / 16 % 2 ≡ 0 → e / 64 % 2 ≡ num pc → e / 32 % 2 ≡ num t → times_refusal pc t ≡ 0
    → extended1_rule p e ≡ 0
first_passes p e k pc t nz ke hk se pe te ht = rw (nz, ke, lt-leb 5 k hk, both_no p, se, pe, te, no_pico pc t ht)

-- of a probe, what ExtendedFlags2 breaks is what the writer refuses it by
as_refused : (e : ℕ) (c m h : Bool) → eqb e 0 ≡ false → e < 32 → e / 4 % 8 ≡ 1 → eqb (e % 2) 1 ≡ c → eqb (e / 2 % 2) 1 ≡ m → h ≡ false → extended2_rule h e ≡ probe_refusal true c m
as_refused e c m h q k t x y z = rw (q, lt-leb 32 e k, t, x, y, z)

probe_refuse : (f : Flags) → f.kind < 5 → times_refusal f.picoseconds f.timestamp ≡ 0 → (f.probe ≡ true → f.payload_header ≡ false)
    → eqb (probe_refusal f.probe f.chunk f.promoted) 0 ≡ false → (m : ℕ) (s : List ℕ) → At s m (flag_bytes f)
    → (place : ℕ) × (flags_at s m ≡ refused (probe_refusal f.probe f.chunk f.promoted) place)
probe_refuse f hk ht hh hp m s at =
    let on : f.probe ≡ true = probe_broken f.probe f.chunk f.promoted hp in
    let e = extended1_of f in
    let g = extended2_of f in
    let b = le_bytes 1 (byte0_of f) in
    let b0 = byte_bits _ _ _ _ (num_bound f.publisher) (num_bound f.group) (num_bound f.payload_header) (needed_bound e) in
    let b1 =
    extended_bits f.kind (num f.class_id) (num f.timestamp) (num f.picoseconds) (needed g) (omega arith) (num_bound f.class_id) (num_bound f.timestamp)
    (num_bound f.picoseconds) (needed_bound g) in
    let b2 = second_bits (num f.chunk) (num f.promoted) (num f.probe) (num_bound f.chunk) (num_bound f.promoted) (num_bound f.probe) in
    let one : g / 4 % 8 ≡ 1 = b2.2 ∙ ap num on in
    let gz : g ≡ 0 → ⊥ = λ q. omega arith in
    let gn : eqb g 0 ≡ false = ne_eqb g 0 gz in
    let e7 : e / 128 ≡ 1 = b1.5 ∙ ap (λ (t : Bool). cond t 0 1) gn in
    let ez : e ≡ 0 → ⊥ = λ q. omega arith in
    let en : eqb e 0 ≡ false = ne_eqb e 0 ez in
    let b7 : byte0_of f / 128 ≡ 1 = b0.4 ∙ ap (λ (t : Bool). cond t 0 1) en in
    let k : byte0_of f < 256 ^ 1 = b0.5 in
    let r0 : byte0_rule (byte0_of f) ≡ 0 = rw b0.0 in
    let p1 = rule_kept 1 byte0_rule m b (byte0_of f) r0 (item_is 1 (byte0_of f) m k) s (first s m b (byte_bytes e ++ byte_bytes g) at) in
    let r1 : extended1_rule (bit 4 (byte0_of f)) e ≡ 0 =
    first_passes (bit 4 (byte0_of f)) e f.kind f.picoseconds f.timestamp en b1.0 hk b1.2 b1.4 b1.3 ht in
    let at2 = second s m b (byte_bytes e ++ byte_bytes g) at in
    let at3 : At s (m + 1) (le_bytes 1 e ++ le_bytes 1 g) =
    subst (λ (t : Bool). At s (m + 1) (le_bytes 1 e ++ cond t [] (le_bytes 1 g))) gn
    (subst (λ (t : Bool). At s (m + 1) (cond t [] (le_bytes 1 e) ++ byte_bytes g)) en at2) in
    let p2 = rule_kept 1 (extended1_rule (bit 4 (byte0_of f))) (m + 1) (le_bytes 1 e) e r1 (item_is 1 e (m + 1) b1.6) s (first s (m + 1) (le_bytes 1 e) (le_bytes 1 g) at3) in
    let header : bit 6 (byte0_of f) ≡ false = flag_is f.payload_header _ b0.3 ∙ hh on in
    let r2 : extended2_rule (bit 6 (byte0_of f)) g ≡ probe_refusal f.probe f.chunk f.promoted =
    as_refused g f.chunk f.promoted (bit 6 (byte0_of f)) gn (omega (arith, b2.3)) one (flag_is f.chunk _ b2.0) (flag_is f.promoted _ b2.1) header
    ∙ ap (λ (t : Bool). probe_refusal t f.chunk f.promoted) (sym on) in
    let nr : eqb (extended2_rule (bit 6 (byte0_of f)) g) 0 ≡ false = ap (λ (n : ℕ). eqb n 0) r2 ∙ hp in
    let p3 = broken 1 (extended2_rule (bit 6 (byte0_of f))) (m + 1 + 1) (le_bytes 1 g) g nr (item_is 1 g (m + 1 + 1) (omega (arith, b2.3))) s (second s (m + 1) (le_bytes 1 e) (le_bytes 1 g) at3) in
    let p4 : ruled 1 (extended2_rule (bit 6 (byte0_of f))) s (m + 1 + 1) ≡ refused (probe_refusal f.probe f.chunk f.promoted) (m + 1 + 1) =
    p3 ∙ ap (λ (n : ℕ). refused n (m + 1 + 1)) r2 in
    (m + 1 + 1, rw (p1, b7, p2, e7, p4))

-- the payload: reading it where it stands has the number of reading the messages alone

rest_number : (messages s : List ℕ) (m : ℕ) → m + length messages ≡ length s → refusal_number (rest_only_at s m) ≡ refusal_number (rest_only_at messages 0)
rest_number messages s m e =
    let q : ltb m (length s) ≡ ltb 0 (length messages) = leb_same (suc m) (length s) 1 (length messages) (λ h. omega arith) (λ h. omega arith) in
    rw q (go (ltb 0 (length messages)))
  where
    go : (b : Bool) → refusal_number (cond b (got (messages_from 1 Sizes.Rest m) m) (refused 1 m)) ≡ refusal_number (cond b (got (messages_from 1 Sizes.Rest 0) 0) (refused 1 0))
    go true = refl
    go false = refl

sized_number : (n sum : ℕ) (messages s : List ℕ) (m : ℕ) → m + length messages ≡ length s → refusal_number (sized_at n sum s m) ≡ refusal_number (sized_at n sum messages 0)
sized_number n sum messages s m e =
    let q : eqb (m + sum) (length s) ≡ eqb (0 + sum) (length messages) = eqb_same (m + sum) (length s) (0 + sum) (length messages) (λ h. omega arith) (λ h. omega arith) in
    rw q (go (eqb (0 + sum) (length messages)))
  where
    go : (b : Bool) → refusal_number (cond b (got (messages_from n Sizes.Configured m) m) (refused 6 m)) ≡ refusal_number (cond b (got (messages_from n Sizes.Configured 0) 0) (refused 6 0))
    go true = refl
    go false = refl

configured_number : (zs messages s : List ℕ) (m : ℕ) → m + length messages ≡ length s → refusal_number (configured_at zs s m) ≡ refusal_number (configured_at zs messages 0)
configured_number zs messages s m e = go (eqb (length zs) 0) (all_positive zs) (eqb (length zs) 1)
  where
    go : (a b c : Bool)
        → refusal_number (cond a (refused 8 0) (cond b (sized_at (length zs) (total zs) s m) (cond c (rest_only_at s m) (refused 8 0))))
        ≡ refusal_number (cond a (refused 8 0) (cond b (sized_at (length zs) (total zs) messages 0) (cond c (rest_only_at messages 0) (refused 8 0))))
    go true b c = refl
    go false true c = sized_number (length zs) (total zs) messages s m e
    go false false true = rest_number messages s m e
    go false false false = refl

listed_number : (n : ℕ) (pre lengths messages : List ℕ) (m : ℕ) → length pre ≡ m → length lengths ≡ 2 * n
    → refusal_number (listed_at n (pre ++ (lengths ++ messages)) m) ≡ listed_refusal n lengths (length messages)
listed_number n pre lengths messages m e l =
    let s = pre ++ (lengths ++ messages) in
    let k : length s ≡ m + (2 * n + length messages) = omega (arith, length-append pre (lengths ++ messages), length-append lengths messages) in
    let z : listed n s m ≡ listed n lengths 0 = listed_at_start n pre lengths messages m e (omega arith) in
    let j : m + 2 * n ≤ length s = omega arith in
    let q : eqb (m + 2 * n + total (listed n lengths 0)) (length s) ≡ eqb (total (listed n lengths 0)) (length messages) =
    eqb_same (m + 2 * n + total (listed n lengths 0)) (length s) (total (listed n lengths 0)) (length messages) (λ h. omega arith) (λ h. omega arith) in
    rw (le-leb (m + 2 * n) (length s) j, z, q, eq-eqb (length lengths) (2 * n) l)
    (go (all_positive (listed n lengths 0)) (eqb (total (listed n lengths 0)) (length messages)))
  where
    go : (a b : Bool) → refusal_number (cond (a && b) (got (messages_from n (Sizes.Listed m) (m + 2 * n)) (m + 2 * n)) (refused 6 m)) ≡ cond a (cond b 0 6) 6
    go true true = refl
    go true false = refl
    go false b = refl

pub payload_number : (x : PayloadHeader) (chunk : Bool) (sizes pre lengths messages : List ℕ) (m : ℕ) → length pre ≡ m → Counted chunk x → AsManyLengths x lengths
    → refusal_number (payload_at chunk x sizes (pre ++ (list_bytes x lengths ++ messages)) m) ≡ payload_refusal chunk x sizes lengths messages
payload_number PayloadHeader.Absent true sizes pre lengths messages m e c a = refl
payload_number PayloadHeader.Absent false sizes pre lengths messages m e c a = configured_number (configured_sizes sizes) messages (pre ++ messages) m (omega (arith, length-append pre messages))
payload_number (PayloadHeader.Ids n) chunk sizes pre lengths messages m e c a = rw (c.0, c.1) (go (leb n 1) refl)
  where
    go : (b : Bool) → leb n 1 ≡ b
        → refusal_number (cond b (rest_only_at (pre ++ (cond b [] lengths ++ messages)) m) (listed_at n (pre ++ (cond b [] lengths ++ messages)) m))
        ≡ cond b (refusal_number (rest_only_at messages 0)) (listed_refusal n lengths (length messages))
    go true t = rest_number messages (pre ++ messages) m (omega (arith, length-append pre messages))
    go false t = listed_number n pre lengths messages m e (a t)
payload_number (PayloadHeader.Chunk w) chunk sizes pre lengths messages m e c a = refl
payload_number PayloadHeader.Probe chunk sizes pre lengths messages m e c a = probe_number pre messages m e chunk sizes

-- the turn of the PicoSeconds has come where nothing before them is refused
their_turn : (a b c d e p : ℕ) → a ≡ 0 → b ≡ 0 → c ≡ 0 → d ≡ 0 → e ≡ 0 → eqb p 0 ≡ false → eqb (or_else a (or_else b (or_else c (or_else d e)))) 0 && not (eqb p 0) ≡ false → ⊥
their_turn a b c d e p ea eb ec ed ee ep h = no (rw (ea, eb, ec, ed, ee, ep) at h)

module _ (g : GivenDatagram) (x : Envelope) (sizes : List ℕ) (f : FitsEnvelope x) (a : CountsAgree g x) (long : length (datagram_of g x) ≤ 65535) (turn : picoseconds_turn g x ≡ false) where
  -- Where what would be written is one thing and the writer refuses in reading order, but not the PicoSeconds at their turn, reading what
  -- would have been written refuses by that number.
  pub refuse_written : eqb (datagram_reading_refusal g x sizes) 0 ≡ false → (place : ℕ) × (network_message_at sizes (datagram_of g x) ≡ refused (datagram_reading_refusal g x sizes) place)
  refuse_written h =
      let s = datagram_of g x in
      let P : ℕ → Type 0 = λ k. (place : ℕ) × (network_message_at sizes (datagram_of g x) ≡ refused k place) in
      let b1 = flag_bytes (flags_for x) in
      let b2 = publisher_bytes g.text x.publisher in
      let b3 = class_bytes x.class_id in
      let b4 = group_bytes x.group in
      let b5 = payload_header_bytes g.ids x.payload_header in
      let b6 = optional_i64_bytes x.timestamp in
      let b7 = optional16_bytes x.picoseconds in
      let b8 = promoted_bytes g.promoted x.promoted in
      let pre = envelope_bytes g.text g.ids g.promoted x in
      let m1 = 0 + length b1 in
      let m2 = m1 + length b2 in
      let m3 = m2 + length b3 in
      let m4 = m3 + length b4 in
      let m5 = m4 + length b5 in
      let m6 = m5 + length b6 in
      let m7 = m6 + length b7 in
      let at1 : At s 0 pre = ([], list_bytes x.payload_header g.lengths ++ g.messages, refl, refl) in
      let at2 = second s 0 b1 (b2 ++ (b3 ++ (b4 ++ (b5 ++ (b6 ++ (b7 ++ b8)))))) at1 in
      let at3 = second s m1 b2 (b3 ++ (b4 ++ (b5 ++ (b6 ++ (b7 ++ b8))))) at2 in
      let at4 = second s m2 b3 (b4 ++ (b5 ++ (b6 ++ (b7 ++ b8)))) at3 in
      let at5 = second s m3 b4 (b5 ++ (b6 ++ (b7 ++ b8))) at4 in
      let at6 = second s m4 b5 (b6 ++ (b7 ++ b8)) at5 in
      let at7 = second s m5 b6 (b7 ++ b8) at6 in
      let at8 = second s m6 b7 b8 at7 in
      let a1 = first s 0 b1 (b2 ++ (b3 ++ (b4 ++ (b5 ++ (b6 ++ (b7 ++ b8)))))) at1 in
      let a2 = first s m1 b2 (b3 ++ (b4 ++ (b5 ++ (b6 ++ (b7 ++ b8))))) at2 in
      let a3 = first s m2 b3 (b4 ++ (b5 ++ (b6 ++ (b7 ++ b8)))) at3 in
      let a4 = first s m3 b4 (b5 ++ (b6 ++ (b7 ++ b8))) at4 in
      let a5 = first s m4 b5 (b6 ++ (b7 ++ b8)) at5 in
      let a6 = first s m5 b6 (b7 ++ b8) at6 in
      let a7 = first s m6 b7 b8 at7 in
      let l = le-ltb 65535 (length s) long in
      let rest = list_bytes x.payload_header g.lengths ++ g.messages in
      let whole = length-append pre rest in
      let eight = eight_lengths b1 b2 b3 b4 b5 b6 b7 b8 in
      let l2 : length b2 ≤ 65535 = omega (arith, whole, eight) in
      let l8 : length b8 ≤ 65535 = omega (arith, whole, eight) in
      let messages = messages_of x.chunk x.payload_header (length (configured_sizes sizes)) in
      let p3 = class_is x.class_id m2 f.class_id s a3 in
      let p6 = optional_i64_is x.timestamp m5 f.timestamp s a6 in
      let e8 : length pre ≡ m7 + length b8 = sym (eight_lengths b1 b2 b3 b4 b5 b6 b7 b8) in
      let k7 = payload_refusal x.chunk x.payload_header sizes g.lengths g.messages in
      let k6 = or_else (promoted_refusal x.promoted messages) k7 in
      let k5 = or_else (picoseconds_refusal x.picoseconds) k6 in
      let k4 = or_else (count_refusal x.payload_header) k5 in
      let k3 = or_else (group_refusal x.group) k4 in
      let k2 = or_else (publisher_refusal x.publisher (length g.text)) k3 in
      let probe = probe_refusal (probe_on x.payload_header) x.chunk (is_some x.promoted) in
      let k1 = or_else probe k2 in
      or_case P (times_refusal (is_some x.picoseconds) (is_some x.timestamp)) k1 h
      (λ e. let d = times_broken (is_some x.picoseconds) (is_some x.timestamp) e in
      subst P d.2 (0 + 1, rw (l, flags_refuse (flags_for x) (kind_below x.publisher) d.0 d.1 0 s a1)))
      (λ z1 h0.
      or_case P probe k2 h0
      (λ e. let q = probe_refuse (flags_for x) (kind_below x.publisher) z1 (no_header x.payload_header) e 0 s a1 in
      (q.0, rw (l, q.1)))
      (λ z0 h1. let p1 = flags_are (flags_for x) (kind_below x.publisher) z1 z0 (no_header x.payload_header) 0 s a1 in
      or_case P (publisher_refusal x.publisher (length g.text)) k3 h1
      (λ e. (0, rw (l, p1, publisher_refuses x.publisher g.text m1 l2 e s a2)))
      (λ z2 h2. let p2 = publisher_written x.publisher g.text m1 f.publisher z2 s a2 in
      or_case P (group_refusal x.group) k4 h2
      (λ e. let q = group_refuses x.group m3 f.group e s a4 in
      (q.0, rw (l, p1, p2, p3, q.1)))
      (λ z3 h3. let p4 = group_is x.group m3 f.group z3 s a4 in
      or_case P (count_refusal x.payload_header) k5 h3
      (λ e. (m4, rw (l, p1, p2, p3, p4, payload_header_refuses x.payload_header x.chunk g.ids m4 a.ids e s a5)))
      (λ z4 h4. let p5 = payload_header_written x.payload_header x.chunk g.ids m4 f.payload_header z4 a.ids s a5 in
      or_case P (picoseconds_refusal x.picoseconds) k6 h4
      (λ e. absurd (their_turn (times_refusal (is_some x.picoseconds) (is_some x.timestamp)) probe (publisher_refusal x.publisher (length g.text)) (group_refusal x.group)
      (count_refusal x.payload_header) (picoseconds_refusal x.picoseconds) z1 z0 z2 z3 z4 e turn))
      (λ z5 h5. let p7 = picoseconds_is x.picoseconds m6 f.picoseconds z5 s a7 in
      or_case P (promoted_refusal x.promoted messages) k7 h5
      (λ e. (m7, rw (l, p1, p2, p3, p4, p5, p6, p7, promoted_refuses x.promoted messages g.promoted m7 l8 e s at8)))
      (λ z6 h6. let p8 = promoted_written x.promoted messages g.promoted m7 z6 (omega arith) s at8 in
      let n = payload_number x.payload_header x.chunk sizes pre g.lengths g.messages (m7 + length b8) e8
      (counted x.payload_header x.chunk g.ids z4 a.ids) a.lengths in
      let q = refused_by (payload_at x.chunk x.payload_header sizes s (m7 + length b8)) (ap (λ (k : ℕ). eqb k 0) n ∙ h6) in
      let last : (k place : ℕ) → payload_at x.chunk x.payload_header sizes s (m7 + length b8) ≡ refused k place → P k =
      λ k place e. (place, rw (l, p1, p2, p3, p4, p5, p6, p7, p8, e)) in
      subst P n (last (refusal_number (payload_at x.chunk x.payload_header sizes s (m7 + length b8))) q.0 q.1))))))))
