-- The variable parts of what is not refused are short.
-- Assumes nothing.
use Rattle.std.specs.Prelude.{Option, Some, None, is_some}
use mathlib.Core.Path.{◌≡◌, refl}
use mathlib.Core.Bool.{Bool, true, false, cond}
use mathlib.Core.List.{List}
use Prim.Native.Nat.{ℕ, ◌*◌, ◌≤◌, ◌<◌}
use native.Mathlib.Nat.{min-le_left}
use native.Mathlib.Omega.{arith}
use lib.Dec.{eqb, leb}
use lib.ListN.{length, take, length-take}
use borrow.Author.Tests.{eqb-true, leb-false}
use Rattle.wire.proofs.Facts.{and_left}
use Rattle.publisher_id.specs.declared.publisher.PublisherId.{PublisherId}
use Rattle.network_header.specs.declared.header.PayloadHeader.{PayloadHeader}
use Rattle.network_header.specs.declared.envelope.Envelope.{Envelope}
use Rattle.network_header.specs.Numbers.{configured_sizes, agree, same_numbers}
use Rattle.network_message.specs.Payload.{rest_only_at}
use Rattle.network_message.specs.Envelope.{messages_of}
use Rattle.wire_writer.specs.Writing.{or_else, picoseconds_refusal, unused}
use Rattle.wire_writer.proofs.Refusals.{passed, held, both_zero, no}
use Rattle.network_header.specs.Flags.{times_refusal, probe_refusal}
use Rattle.network_header.specs.Group.{group_refusal}
use Rattle.publisher_id.specs.Publisher.{publisher_refusal, publisher_shape}
use Rattle.network_header.specs.Header.{count_refusal, promoted_refusal, ids_shape, promoted_shape, probe_on}
use Rattle.network_message.specs.WriterPayload.{listed_refusal, refusal_number, payload_refusal, lengths_shape}
use Rattle.network_message.specs.Writer.{GivenDatagram, datagram_reading_refusal, shape_refusal, datagram_refusal}
use Rattle.network_header.proofs.Sizes.{ids_counted}

-- none of the refusals
pub record Zeros (g : GivenDatagram) (x : Envelope) (sizes configured : List ℕ) : Type 0 where
  pub times : times_refusal (is_some x.picoseconds) (is_some x.timestamp) ≡ 0
  pub probe : probe_refusal (probe_on x.payload_header) x.chunk (is_some x.promoted) ≡ 0
  pub publisher : publisher_refusal x.publisher (length g.text) ≡ 0
  pub group : group_refusal x.group ≡ 0
  pub count : count_refusal x.payload_header ≡ 0
  pub picoseconds : picoseconds_refusal x.picoseconds ≡ 0
  pub promoted : promoted_refusal x.promoted (messages_of x.chunk x.payload_header (length (configured_sizes sizes))) ≡ 0
  pub payload : payload_refusal x.chunk x.payload_header sizes g.lengths g.messages ≡ 0
  pub text : publisher_shape x.publisher (length g.text) ≡ 0
  pub ids : ids_shape x.chunk x.payload_header g.ids configured ≡ 0
  pub promoted_bytes : promoted_shape x.promoted (length g.promoted) ≡ 0
  pub lengths : lengths_shape x.payload_header g.lengths sizes ≡ 0

pub zeros : (g : GivenDatagram) (x : Envelope) (sizes configured : List ℕ) → datagram_refusal g x sizes configured ≡ 0 → Zeros g x sizes configured
zeros g x sizes configured h =
    let n7 = payload_refusal x.chunk x.payload_header sizes g.lengths g.messages in
    let n6 = promoted_refusal x.promoted (messages_of x.chunk x.payload_header (length (configured_sizes sizes))) in
    let n5 = picoseconds_refusal x.picoseconds in
    let n4 = count_refusal x.payload_header in
    let n3 = group_refusal x.group in
    let n2 = publisher_refusal x.publisher (length g.text) in
    let n0 = probe_refusal (probe_on x.payload_header) x.chunk (is_some x.promoted) in
    let n1 = times_refusal (is_some x.picoseconds) (is_some x.timestamp) in
    let m4 = lengths_shape x.payload_header g.lengths sizes in
    let m3 = promoted_shape x.promoted (length g.promoted) in
    let m2 = ids_shape x.chunk x.payload_header g.ids configured in
    let m1 = publisher_shape x.publisher (length g.text) in
    let r0 = both_zero (datagram_reading_refusal g x sizes) (shape_refusal g x sizes configured) h in
    let r1 = both_zero n1 (or_else n0 (or_else n2 (or_else n3 (or_else n4 (or_else n5 (or_else n6 n7)))))) r0.0 in
    let rp = both_zero n0 (or_else n2 (or_else n3 (or_else n4 (or_else n5 (or_else n6 n7))))) r1.1 in
    let r2 = both_zero n2 (or_else n3 (or_else n4 (or_else n5 (or_else n6 n7)))) rp.1 in
    let r3 = both_zero n3 (or_else n4 (or_else n5 (or_else n6 n7))) r2.1 in
    let r4 = both_zero n4 (or_else n5 (or_else n6 n7)) r3.1 in
    let r5 = both_zero n5 (or_else n6 n7) r4.1 in
    let r6 = both_zero n6 n7 r5.1 in
    let s1 = both_zero m1 (or_else m2 (or_else m3 m4)) r0.1 in
    let s2 = both_zero m2 (or_else m3 m4) s1.1 in
    let s3 = both_zero m3 m4 s2.1 in
    record {
      times = r1.0;
      probe = rp.0;
      publisher = r2.0;
      group = r3.0;
      count = r4.0;
      picoseconds = r5.0;
      promoted = r6.0;
      payload = r6.1;
      text = s1.0;
      ids = s2.0;
      promoted_bytes = s3.0;
      lengths = s3.1;
    }

pub unused_none : (n : ℕ) → unused n ≡ 0 → n ≡ 0
unused_none n h = eqb-true n 0 (held (eqb n 0) 5 h)

none : (n : ℕ) → unused n ≡ 0 → n ≤ 65535
none n h = omega (arith, unused_none n h)

pub same_length : (bytes xs : List ℕ) → same_numbers bytes xs ≡ true → length bytes ≡ 2 * length xs
unfolding same_numbers
same_length bytes xs h = eqb-true (length bytes) (2 * length xs) (and_left (eqb (length bytes) (2 * length xs)) (agree xs bytes 0) h)

same_short : (bytes xs : List ℕ) → cond {A = ℕ} (same_numbers bytes (take 16 xs)) 0 6 ≡ 0 → length bytes ≤ 65535
same_short bytes xs h =
    let e = same_length bytes (take 16 xs) (held (same_numbers bytes (take 16 xs)) 5 h) in
    omega (arith, e, length-take 16 xs, min-le_left 16 (length xs))

text_short : (p : PublisherId) (n : ℕ) → publisher_refusal p n ≡ 0 → publisher_shape p n ≡ 0 → n ≤ 65535
text_short PublisherId.Absent n a b = none n b
text_short (PublisherId.Byte v) n a b = none n b
text_short (PublisherId.UInt16 v) n a b = none n b
text_short (PublisherId.UInt32 v) n a b = none n b
text_short (PublisherId.UInt64 v) n a b = none n b
text_short (PublisherId.Text k) n a b =
    let s : n < 65 = leb-false 65 n (passed (leb 65 n) 9 0 a).0 in
    omega arith

chunk_unused : (chunk : Bool) (n : ℕ) → cond chunk (unused n) 6 ≡ 0 → unused n ≡ 0
chunk_unused true n h = h
chunk_unused false n h = absurd (omega arith)

ids_short : (chunk : Bool) (p : PayloadHeader) (ids configured : List ℕ) → ids_shape chunk p ids configured ≡ 0 → length ids ≤ 65535
ids_short chunk PayloadHeader.Absent ids configured b = same_short ids configured b
ids_short chunk (PayloadHeader.Ids n) ids configured b =
    let q = ids_counted chunk n ids configured b in
    omega (arith, q.1, q.2)
ids_short chunk (PayloadHeader.Chunk w) ids configured b = none (length ids) (chunk_unused chunk (length ids) b)
ids_short chunk PayloadHeader.Probe ids configured b = none (length ids) b

promoted_short : (x : Option ℕ) (n : ℕ) → promoted_shape x n ≡ 0 → n ≤ 65535
promoted_short None n b = none n b
promoted_short (Some k) n b =
    let q = passed (leb 65536 k) 5 (cond (eqb k n) 0 6) b in
    let s : k < 65536 = leb-false 65536 k q.0 in
    let e : k ≡ n = eqb-true k n (held (eqb k n) 5 q.1) in
    omega arith

listed_length : (n : ℕ) (lengths : List ℕ) (rest : ℕ) → listed_refusal n lengths rest ≡ 0 → length lengths ≡ 2 * n
listed_length n lengths rest h = go (eqb (length lengths) (2 * n)) _ (λ e. e) h
  where
    go : (b : Bool) (k : ℕ) → (b ≡ true → eqb (length lengths) (2 * n) ≡ true) → cond b k 6 ≡ 0 → length lengths ≡ 2 * n
    go true k f q = eqb-true (length lengths) (2 * n) (f refl)
    go false k f q = absurd (omega arith)

lengths_short : (chunk : Bool) (p : PayloadHeader) (ids lengths messages sizes configured : List ℕ) → ids_shape chunk p ids configured ≡ 0 → payload_refusal chunk p sizes lengths messages ≡ 0
    → lengths_shape p lengths sizes ≡ 0 → length lengths ≤ 65535
lengths_short chunk PayloadHeader.Absent ids lengths messages sizes configured a b c = go (leb (length (configured_sizes sizes)) 1) c
  where
    go : (t : Bool) → cond t (unused (length lengths)) (cond (same_numbers lengths (configured_sizes sizes)) 0 6) ≡ 0 → length lengths ≤ 65535
    go true q = none (length lengths) q
    go false q = same_short lengths sizes q
lengths_short chunk (PayloadHeader.Ids n) ids lengths messages sizes configured a b c = go chunk (leb n 1) (ids_counted chunk n ids configured a).0 b c
  where
    go : (r t : Bool) → r ≡ false → cond r 0 (cond t (refusal_number (rest_only_at messages 0)) (listed_refusal n lengths (length messages))) ≡ 0 → cond t (unused (length lengths)) 0 ≡ 0
        → length lengths ≤ 65535
    go true t o p q = absurd (no o)
    go false true o p q = none (length lengths) q
    go false false o p q = omega (arith, (ids_counted chunk n ids configured a).1, listed_length n lengths (length messages) p)
lengths_short chunk (PayloadHeader.Chunk w) ids lengths messages sizes configured a b c = none (length lengths) c
lengths_short chunk PayloadHeader.Probe ids lengths messages sizes configured a b c = none (length lengths) c

pub all_short : (g : GivenDatagram) (x : Envelope) (sizes configured : List ℕ) → datagram_refusal g x sizes configured ≡ 0
    → (length g.text ≤ 65535) × (length g.ids ≤ 65535) × (length g.promoted ≤ 65535) × (length g.lengths ≤ 65535)
all_short g x sizes configured h =
    let r = zeros g x sizes configured h in (
      text_short x.publisher (length g.text) r.publisher r.text,
      ids_short x.chunk x.payload_header g.ids configured r.ids,
      promoted_short x.promoted (length g.promoted) r.promoted_bytes,
      lengths_short x.chunk x.payload_header g.ids g.lengths g.messages sizes configured r.ids r.payload r.lengths,
    )
