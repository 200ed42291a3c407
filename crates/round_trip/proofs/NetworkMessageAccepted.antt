-- The writer accepts an accepted datagram whose parts are given as they were read, and writes it again.
-- Assumes nothing.
use Rattle.std.specs.Prelude.{Option, Some, None, is_some, ℤ}
use mathlib.Core.Path.{◌≡◌, refl, ap, ap₂, sym, subst, ◌∙◌}
use mathlib.Core.List.{List, [], ◌∷◌, ◌++◌, append_assoc}
use mathlib.Core.Bool.{Bool, true, false, cond}
use Prim.Native.Nat.{ℕ, zero, suc, ◌+◌, ◌*◌, ◌≤◌}
use native.Mathlib.Omega.{arith}
use lib.ListN.{length, take, drop, length-append, length-drop, take-append-drop}
use lib.Seq.{length-take-le, drop-drop}
use lib.Dec.{eqb, leb}
use borrow.Author.Tests.{eq-eqb, lt-leb}
use Rattle.wire.specs.Number.{le, le_bytes}
use Rattle.wire.specs.Answer.{Reader, got, refused, run, ruled, item, signed_item, when_on, pure, ◌>>=◌}
use Rattle.wire.specs.Optional.{picoseconds_read}
use Rattle.wire.proofs.Reading.{got_value, invert}
use Rattle.network_header.specs.declared.flags.Flags.{Flags}
use Rattle.network_header.specs.declared.header.PayloadHeader.{PayloadHeader}
use Rattle.network_message.specs.declared.payload.Payload.{Payload}
use Rattle.network_header.specs.declared.envelope.Envelope.{Envelope}
use Rattle.network_header.specs.declared.envelope.Places.{Places}
use Rattle.network_header.specs.Flags.{flags_at, times_refusal, probe_refusal}
use Rattle.network_header.specs.Header.{count_rule, payload_header_at, probe_on, ids_shape, count_refusal, size_rule, promoted_at, promoted_refusal, promoted_shape, promoted_of}
use Rattle.network_header.specs.Numbers.{configured_sizes, agree, same_numbers}
use Rattle.network_message.specs.Payload.{rest_only_at, listed_at, payload_at}
use Rattle.network_message.specs.Envelope.{Header, NetworkMessage, identity_at, times_at, messages_of, envelope_at, envelope_body_at, network_message_at}
use Rattle.wire_writer.specs.Writing.{or_else, picoseconds_refusal, unused}
use Rattle.wire_writer.proofs.Trip.{At, le_at}
use Rattle.wire_writer.proofs.Back.{run_back, map_back, picoseconds_kept}
use Rattle.publisher_id.specs.Publisher.{publisher_refusal, publisher_shape, bytes_before, text_of}
use Rattle.network_header.specs.Group.{group_refusal}
use Rattle.network_message.specs.WriterPayload.{list_bytes, refusal_number, payload_refusal, lengths_shape}
use Rattle.network_message.specs.Writer.{datagram_of, datagram_refusal, again_of}
use Rattle.round_trip.specs.NetworkMessage.{rewritten, AsManyLengths, numbers_bytes, ids_given, lengths_given, messages_given, given_of}
use Rattle.network_header.proofs.FlagsBack.{flags_back}
use Rattle.network_header.proofs.Kept.{flags_kept, publisher_kept, group_kept, promoted_kept, HeaderKept, payload_header_kept}
use Rattle.wire_writer.proofs.Refusals.{passed}
use Rattle.round_trip.proofs.NetworkMessagePayload.{Counted}
use Rattle.round_trip.proofs.NetworkMessageRefused.{payload_number}
use Rattle.round_trip.proofs.NetworkMessageRewritten.{identity_of_lem, times_of, header_same, flags_of, rewrite_read}
use Rattle.wire_writer.specs.Fits.{Bytes, Numbers}

-- each element is a number of 2 bytes, as the ids and sizes of a configuration are
numbers_take : (n : ℕ) (xs : List ℕ) → Numbers xs → Numbers (take n xs)
numbers_take zero xs h k = omega arith
numbers_take (suc n) [] h k = omega arith
numbers_take (suc n) (x ∷ xs) h zero = h zero
numbers_take (suc n) (x ∷ xs) h (suc k) = numbers_take n xs (λ j. h (suc j)) k

numbers_length : (xs : List ℕ) → length (numbers_bytes xs) ≡ 2 * length xs
numbers_length [] = refl
numbers_length (x ∷ xs) = omega (arith, length-append (le_bytes 2 x) (numbers_bytes xs), numbers_length xs)

numbers_agree : (xs pre : List ℕ) (m : ℕ) → length pre ≡ m → Numbers xs → agree xs (pre ++ numbers_bytes xs) m ≡ true
numbers_agree [] pre m e h = refl
numbers_agree (x ∷ xs) pre m e h =
    let s = pre ++ (le_bytes 2 x ++ numbers_bytes xs) in
    let a : At s m (le_bytes 2 x) = (pre, numbers_bytes xs, refl, e) in
    let q : le 2 s m ≡ x = le_at 2 x m (h zero) s a in
    let i : agree xs ((pre ++ le_bytes 2 x) ++ numbers_bytes xs) (m + 2) ≡ true =
    numbers_agree xs (pre ++ le_bytes 2 x) (m + 2) (length-append pre (le_bytes 2 x) ∙ ap (λ (j : ℕ). j + 2) e) (λ k. h (suc k)) in
    let j : agree xs s (m + 2) ≡ true = ap (λ (l : List ℕ). agree xs l (m + 2)) (sym (append_assoc pre (le_bytes 2 x) (numbers_bytes xs))) ∙ i in
    rw (eq-eqb (le 2 s m) x q, j)

numbers_same : (xs : List ℕ) → Numbers xs → same_numbers (numbers_bytes xs) xs ≡ true
unfolding same_numbers
numbers_same xs h = rw (eq-eqb (length (numbers_bytes xs)) (2 * length xs) (numbers_length xs), numbers_agree xs [] 0 refl h)

-- an item that was read where its flag is on, and made something of, is there where it is on
item_on : {A B : Type 0} (r : Reader A) (f : A → B) (on : Bool) (s : List ℕ) (at : ℕ) (x : Option B) (next : ℕ)
    → when_on on None (r >>= λ v. pure (Some (f v))) s at ≡ got x next → is_some x ≡ on
item_on {B = B} r f true s at x next h = subst (λ (x : Option B). is_some x ≡ true) (map_back r (λ v. Some (f v)) s at x next h).2 refl
item_on {B = B} r f false s at x next h = subst (λ (x : Option B). is_some x ≡ false) (got_value h) refl

-- the PayloadHeader and promoted fields
probe_on_lem : (on chunk probe : Bool) (s : List ℕ) (at : ℕ) (x : PayloadHeader) (next : ℕ) → payload_header_at on chunk probe s at ≡ got x next → probe_on x ≡ probe
probe_on_lem on chunk true s at x next h = subst (λ (x : PayloadHeader). probe_on x ≡ true) (got_value h) refl
probe_on_lem false chunk false s at x next h = subst (λ (x : PayloadHeader). probe_on x ≡ false) (got_value h) refl
probe_on_lem true true false s at x next h = subst (λ (x : PayloadHeader). probe_on x ≡ false) (map_back (item 2) PayloadHeader.Chunk s at x next h).2 refl
probe_on_lem true false false s at x next h =
    let f = invert (ruled 1 count_rule s at) (λ n i. (run (2 * n) >>= λ k. pure (PayloadHeader.Ids n)) s i) h in
    subst (λ (x : PayloadHeader). probe_on x ≡ false) (map_back (run (2 * f.0)) (λ k. PayloadHeader.Ids f.0) s f.1 x next f.3).2 refl

promoted_on_lem : (on : Bool) (messages : ℕ) (s : List ℕ) (at : ℕ) (x : Option ℕ) (next : ℕ) → promoted_at on messages s at ≡ got x next → is_some x ≡ on
promoted_on_lem true messages s at x next h =
    let f = invert (ruled 2 (size_rule messages) s at) (λ n i. (run n >>= λ k. pure (Some n)) s i) h in
    subst (λ (x : Option ℕ). is_some x ≡ true) (map_back (run f.0) (λ k. Some f.0) s f.1 x next f.3).2 refl
promoted_on_lem false messages s at x next h = subst (λ (x : Option ℕ). is_some x ≡ false) (got_value h) refl

-- no part of a header that was read is refused
record Kept (s : List ℕ) (x : Envelope) (p : Places) (configured : ℕ) : Type 0 where
  times : times_refusal (is_some x.picoseconds) (is_some x.timestamp) ≡ 0
  probe : probe_refusal (probe_on x.payload_header) x.chunk (is_some x.promoted) ≡ 0
  publisher : publisher_refusal x.publisher (length (text_of s x.publisher p.publisher_end)) ≡ 0
  text : publisher_shape x.publisher (length (text_of s x.publisher p.publisher_end)) ≡ 0
  group : group_refusal x.group ≡ 0
  header : HeaderKept x.chunk s p.payload_header_end x.payload_header
  picoseconds : picoseconds_refusal x.picoseconds ≡ 0
  promoted : promoted_refusal x.promoted (messages_of x.chunk x.payload_header configured) ≡ 0
  bytes : promoted_shape x.promoted (length (promoted_of s x.promoted p.payload)) ≡ 0

header_kept : (configured : ℕ) (s : List ℕ) (f : Flags) (n : ℕ) (L : Header) (next : ℕ) → Bytes s → flags_at s 0 ≡ got f n → envelope_at f configured s n ≡ got L next
    → Kept s L.envelope L.places configured
header_kept configured s f n L next b hf h =
    let I = invert (identity_at f s n) (λ i k. _) h in
    let Pl = invert (payload_header_at f.payload_header f.chunk f.probe s I.1) (λ p k. _) I.3 in
    let T = invert (times_at f (messages_of f.chunk Pl.0 configured) s Pl.1) (λ t k. _) Pl.3 in
    let i = identity_of_lem f s n I.0 I.1 I.2 in
    let t = times_of f (messages_of f.chunk Pl.0 configured) s Pl.1 T.0 T.1 T.2 in
    let kp = publisher_kept s I.0.publisher I.0.publisher_end f.publisher f.kind n i.0 in
    let km = promoted_kept f.promoted (messages_of f.chunk Pl.0 configured) s t.1 T.0.promoted T.1 b t.4 in
    subst (λ (K : Header). Kept s K.envelope K.places configured) (got_value T.3)
    record {
      times = ap₂ times_refusal (item_on (item 2) picoseconds_read f.picoseconds s t.0 T.0.picoseconds t.1 t.3) (item_on (signed_item 8) (λ (z : ℤ). z) f.timestamp s Pl.1 T.0.timestamp t.0 t.2)
          ∙ flags_kept s 0 f n hf;
      probe = ap₂ (λ (a b : Bool). probe_refusal a f.chunk b) (probe_on_lem f.payload_header f.chunk f.probe s I.1 Pl.0 Pl.1 Pl.2)
          (promoted_on_lem f.promoted (messages_of f.chunk Pl.0 configured) s t.1 T.0.promoted T.1 t.4)
          ∙ (flags_back s 0 f n b hf).1.probe;
      publisher = kp.0;
      text = kp.1;
      group = group_kept f.group s i.1 I.0.group I.1 i.3;
      header = payload_header_kept f.payload_header f.chunk f.probe s I.1 Pl.0 Pl.1 b Pl.2;
      picoseconds = picoseconds_kept f.picoseconds s t.0 T.0.picoseconds t.1 t.3;
      promoted = km.0;
      bytes = km.1;
    }

-- the PayloadHeader's own refusals
count_kept : {chunk : Bool} {s : List ℕ} {next : ℕ} {x : PayloadHeader} → HeaderKept chunk s next x → count_refusal x ≡ 0
count_kept HeaderKept.absent = refl
count_kept (HeaderKept.ids n c r l e) = r
count_kept (HeaderKept.of_chunk w c) = refl
count_kept HeaderKept.of_probe = refl

counted_kept : {chunk : Bool} {s : List ℕ} {next : ℕ} {x : PayloadHeader} → HeaderKept chunk s next x → Counted chunk x
counted_kept HeaderKept.absent = tt
counted_kept (HeaderKept.ids n c r l e) = (c, (passed (eqb n 0) 5 0 r).0)
counted_kept (HeaderKept.of_chunk w c) = tt
counted_kept HeaderKept.of_probe = tt

ids_kept : {chunk : Bool} {s : List ℕ} {next : ℕ} {x : PayloadHeader} (configured : List ℕ) → Numbers configured → HeaderKept chunk s next x
    → ids_shape chunk x (ids_given s x next configured) configured ≡ 0
ids_kept configured h HeaderKept.absent = rw (numbers_same (take 16 configured) (numbers_take 16 configured h))
ids_kept {s = s} {next = next} configured h (HeaderKept.ids n c r l e) = rw (c, lt-leb 256 n l, eq-eqb (length (bytes_before s next (2 * n))) (2 * n) e)
ids_kept configured h (HeaderKept.of_chunk w c) = rw c
ids_kept configured h HeaderKept.of_probe = refl

-- the payload

lengths_kept : (x : PayloadHeader) (s : List ℕ) (at : ℕ) (sizes : List ℕ) → Numbers sizes → lengths_shape x (lengths_given s x at sizes) sizes ≡ 0
lengths_kept PayloadHeader.Absent s at sizes h = go (leb (length (configured_sizes sizes)) 1)
  where
    go : (b : Bool)
        → cond b (unused (length (cond b [] (numbers_bytes (configured_sizes sizes))))) (cond (same_numbers (cond b [] (numbers_bytes (configured_sizes sizes))) (configured_sizes sizes)) 0 6) ≡ 0
    go true = refl
    go false = rw (numbers_same (configured_sizes sizes) (numbers_take 16 sizes h))
lengths_kept (PayloadHeader.Ids n) s at sizes h = go (leb n 1)
  where
    go : (b : Bool) → cond b (unused (length (cond b [] (take (2 * n) (drop at s))))) 0 ≡ 0
    go true = refl
    go false = refl
lengths_kept (PayloadHeader.Chunk w) s at sizes h = refl
lengths_kept PayloadHeader.Probe s at sizes h = refl

-- sizes and messages stand one after the other
payload_whole : (x : PayloadHeader) (s : List ℕ) (at : ℕ) (sizes : List ℕ) → list_bytes x (lengths_given s x at sizes) ++ messages_given s x at ≡ drop at s
payload_whole PayloadHeader.Absent s at sizes = refl
payload_whole (PayloadHeader.Ids n) s at sizes = go (leb n 1)
  where
    go : (b : Bool) → cond b [] (cond b [] (take (2 * n) (drop at s))) ++ cond b (drop at s) (drop (at + 2 * n) s) ≡ drop at s
    go true = refl
    go false = ap (λ (l : List ℕ). take (2 * n) (drop at s) ++ l) (sym (drop-drop (2 * n) at s)) ∙ take-append-drop (2 * n) (drop at s)
payload_whole (PayloadHeader.Chunk w) s at sizes = refl
payload_whole PayloadHeader.Probe s at sizes = refl

many_lengths : (x : PayloadHeader) (chunk : Bool) (sizes s : List ℕ) (at : ℕ) (p : Payload) (next : ℕ) → Counted chunk x → payload_at chunk x sizes s at ≡ got p next
    → AsManyLengths x (lengths_given s x at sizes)
many_lengths PayloadHeader.Absent chunk sizes s at p next c h = tt
many_lengths (PayloadHeader.Ids n) chunk sizes s at p next c h =
    λ e.
    let i : cond (leb n 1) (rest_only_at s at) (listed_at n s at) ≡ got p next =
    subst (λ (b : Bool). cond b (refused 6 at) (cond (leb n 1) (rest_only_at s at) (listed_at n s at)) ≡ got p next) c.1 h in
    let q : listed_at n s at ≡ got p next = ap (λ (b : Bool). cond b (rest_only_at s at) (listed_at n s at)) (sym e) ∙ i in
    let r = invert (run (2 * n) s at) (λ k i. _) q in
    let f = run_back (2 * n) s at r.0 r.1 r.2 in
    let k : 2 * n ≤ length (drop at s) = omega (arith, f.2, length-drop at s) in
    ap (λ (b : Bool). length (cond b [] (take (2 * n) (drop at s)))) e ∙ length-take-le (2 * n) (drop at s) k
many_lengths (PayloadHeader.Chunk w) chunk sizes s at p next c h = tt
many_lengths PayloadHeader.Probe chunk sizes s at p next c h = tt

payload_kept : (x : PayloadHeader) (chunk : Bool) (sizes s : List ℕ) (at : ℕ) (p : Payload) (next : ℕ) → at ≤ length s → Counted chunk x → payload_at chunk x sizes s at ≡ got p next
    → payload_refusal chunk x sizes (lengths_given s x at sizes) (messages_given s x at) ≡ 0
payload_kept x chunk sizes s at p next l c h =
    let w : take at s ++ (list_bytes x (lengths_given s x at sizes) ++ messages_given s x at) ≡ s =
    ap (λ (y : List ℕ). take at s ++ y) (payload_whole x s at sizes) ∙ take-append-drop at s in
    sym (payload_number x chunk sizes (take at s) (lengths_given s x at sizes) (messages_given s x at) at (length-take-le at s l) c (many_lengths x chunk sizes s at p next c h))
    ∙ ap (λ (y : List ℕ). refusal_number (payload_at chunk x sizes y at)) w ∙ ap refusal_number h

-- the header's bytes do not depend on ids that are not written
header_given : (x : Envelope) (s : List ℕ) (p : Places) (sizes configured : List ℕ)
    → datagram_of (given_of s x p sizes configured) x ≡ again_of s x p
header_given x s p sizes configured = go x.payload_header refl
  where
    go : (h : PayloadHeader) → x.payload_header ≡ h → datagram_of (given_of s x p sizes configured) x ≡ again_of s x p
    go PayloadHeader.Absent e = rw (e, payload_whole PayloadHeader.Absent s p.payload sizes)
    go (PayloadHeader.Ids n) e = rw (e, payload_whole (PayloadHeader.Ids n) s p.payload sizes)
    go (PayloadHeader.Chunk w) e = rw (e, payload_whole (PayloadHeader.Chunk w) s p.payload sizes)
    go PayloadHeader.Probe e = rw (e, payload_whole PayloadHeader.Probe s p.payload sizes)

all_zero : {a b : ℕ} → a ≡ 0 → b ≡ 0 → or_else a b ≡ 0
all_zero e f = rw (e, f)

body_kept : (sizes configured s : List ℕ) (f : Flags) (n : ℕ) (m : NetworkMessage) (next : ℕ) → Bytes s → Numbers sizes → Numbers configured → flags_at s 0 ≡ got f n
    → envelope_body_at f sizes s n ≡ got m next
    → datagram_refusal (given_of s m.envelope m.places sizes configured) m.envelope sizes configured ≡ 0
body_kept sizes configured s f n m next b hs hc hf h =
    let H = invert (envelope_at f (length (configured_sizes sizes)) s n) (λ h k. _) h in
    let x = H.0.envelope in
    let q = H.0.places in
    let P = map_back (payload_at x.chunk x.payload_header sizes) (λ p. record { envelope = x; places = q; payload = p }) s H.1 m next H.3 in
    let S = header_same (length (configured_sizes sizes)) s f n H.0 H.1 b hf H.2 in
    let k = header_kept (length (configured_sizes sizes)) s f n H.0 H.1 b hf H.2 in
    let l : q.payload ≤ length s = omega (arith, S.ends, S.fits) in
    let o : payload_at x.chunk x.payload_header sizes s q.payload ≡ got P.0 next = ap (λ (i : ℕ). payload_at x.chunk x.payload_header sizes s i) S.ends ∙ P.1 in
    subst (λ (m : NetworkMessage). datagram_refusal (given_of s m.envelope m.places sizes configured) m.envelope sizes configured ≡ 0) P.2
    (all_zero
    (all_zero k.times
    (all_zero k.probe
    (all_zero k.publisher
    (all_zero k.group
    (all_zero (count_kept k.header)
    (all_zero k.picoseconds
    (all_zero k.promoted (payload_kept x.payload_header x.chunk sizes s q.payload P.0 next l (counted_kept k.header) o))))))))
    (all_zero k.text
    (all_zero (ids_kept configured hc k.header) (all_zero k.bytes (lengths_kept x.payload_header s q.payload sizes hs)))))

-- The writer, given an accepted datagram's parts as they were read, refuses nothing, and what it writes is the rewritten datagram.
pub write_read : (sizes configured s : List ℕ) (m : NetworkMessage) (next : ℕ) → Bytes s → Numbers sizes → Numbers configured → network_message_at sizes s ≡ got m next
    → (datagram_refusal (given_of s m.envelope m.places sizes configured) m.envelope sizes configured ≡ 0)
    × (datagram_of (given_of s m.envelope m.places sizes configured) m.envelope ≡ rewritten m s)
write_read sizes configured s m next b hs hc h =
    let f = flags_of sizes s m next h in (
      body_kept sizes configured s f.0 f.1 m next b hs hc f.2 f.3,
      header_given m.envelope s m.places sizes configured ∙ rewrite_read sizes s m next b h,
    )
