-- The payload, read as it was written, and its messages.
-- Assumes nothing.
use mathlib.Core.Path.{◌≡◌, refl, subst, ◌∙◌}
use mathlib.Core.List.{List, [], ◌++◌}
use mathlib.Core.Bool.{Bool, true, false, cond}
use Prim.Native.Nat.{ℕ, zero, suc, ◌+◌, ◌*◌, ◌≤◌, ◌<◌}
use native.Mathlib.Omega.{arith}
use lib.ListN.{length, get_or, length-append, get_or-append}
use lib.Seq.{get_or-append-add}
use lib.Dec.{eqb, leb, ltb}
use borrow.Author.Tests.{le-leb, eq-eqb, eqb-true, eqb-false, ne_eqb, lt-ltb, ltb-true}
use Rattle.wire.specs.Lists.{total}
use Rattle.wire.specs.Number.{le}
use Rattle.wire.specs.Answer.{got, refused}
use Rattle.network_header.specs.declared.header.PayloadHeader.{PayloadHeader}
use Rattle.network_message.specs.declared.payload.Sizes.{Sizes}
use Rattle.network_message.specs.Payload.{all_positive, listed, messages_from, rest_only_at, listed_at, configured_at, payload_at}
use Rattle.network_header.specs.Numbers.{configured_sizes}
use Rattle.network_message.specs.WriterPayload.{list_bytes, refusal_number, payload_refusal, listed_refusal}
use Rattle.wire_writer.specs.Writing.{unused}
use Rattle.wire_writer.proofs.Refusals.{passed}
use Rattle.network_header.specs.Header.{count_refusal, ids_shape}
use Rattle.network_header.proofs.Sizes.{ids_counted}
use Rattle.network_message.proofs.Short.{unused_none}
use Rattle.round_trip.specs.NetworkMessage.{AsManyIds, payload_for}
use Rattle.round_trip.proofs.ProbePayload.{probe_is}

-- a PayloadHeader with a Count is no chunk's, and its Count is not 0
abbrev pub Counted : Bool → PayloadHeader → Type 0
Counted chunk PayloadHeader.Absent = Unit {0}
Counted chunk (PayloadHeader.Ids n) = (chunk ≡ false) × (eqb n 0 ≡ false)
Counted chunk (PayloadHeader.Chunk w) = Unit {0}
Counted chunk PayloadHeader.Probe = Unit {0}

pub counted : (x : PayloadHeader) (chunk : Bool) (ids : List ℕ) → count_refusal x ≡ 0 → AsManyIds chunk x ids → Counted chunk x
counted PayloadHeader.Absent chunk ids a b = tt
counted (PayloadHeader.Ids n) chunk ids a b = (b.0, (passed (eqb n 0) 5 0 a).0)
counted (PayloadHeader.Chunk w) chunk ids a b = tt
counted PayloadHeader.Probe chunk ids a b = tt

chunk_on : (chunk : Bool) (n : ℕ) → cond chunk (unused n) 6 ≡ 0 → (chunk ≡ true) × (n ≡ 0)
chunk_on true n h = (refl, unused_none n h)
chunk_on false n h = absurd (omega arith)

-- what the shape of ids says
pub as_many_ids : (x : PayloadHeader) (chunk : Bool) (ids configured : List ℕ) → ids_shape chunk x ids configured ≡ 0 → AsManyIds chunk x ids
as_many_ids PayloadHeader.Absent chunk ids configured b = tt
as_many_ids (PayloadHeader.Ids n) chunk ids configured b = ids_counted chunk n ids configured b
as_many_ids (PayloadHeader.Chunk w) chunk ids configured b = chunk_on chunk (length ids) b
as_many_ids PayloadHeader.Probe chunk ids configured b = unused_none (length ids) b

-- numbers that stand in the middle of a slice

pub le_moved : (w : ℕ) (pre b rest : List ℕ) (at : ℕ) → at + w ≤ length b → le w (pre ++ (b ++ rest)) (length pre + at) ≡ le w b at
le_moved zero pre b rest at h = refl
le_moved (suc w) pre b rest at h =
    let i : at < length b = omega arith in
    let e : get_or (pre ++ (b ++ rest)) (length pre + at) 0 ≡ get_or b at 0 = get_or-append-add pre (b ++ rest) at 0 ∙ get_or-append b rest 0 at i in
    let p : length pre + at + 1 ≡ length pre + (at + 1) = omega arith in
    rw (e, p, le_moved w pre b rest (at + 1) (omega arith))

listed_moved : (n : ℕ) (pre b rest : List ℕ) (at : ℕ) → at + 2 * n ≤ length b → listed n (pre ++ (b ++ rest)) (length pre + at) ≡ listed n b at
listed_moved zero pre b rest at h = refl
listed_moved (suc n) pre b rest at h =
    let p : length pre + at + 2 ≡ length pre + (at + 2) = omega arith in
    let i : at + 2 ≤ length b = omega arith in
    let j : at + 2 + 2 * n ≤ length b = omega arith in
    rw (le_moved 2 pre b rest at i, p, listed_moved n pre b rest (at + 2) j)

pub listed_at_start : (n : ℕ) (pre b rest : List ℕ) (m : ℕ) → length pre ≡ m → 2 * n ≤ length b → listed n (pre ++ (b ++ rest)) m ≡ listed n b 0
listed_at_start n pre b rest m e h =
    let z : m ≡ length pre + 0 = omega arith in
    let k : 0 + 2 * n ≤ length b = omega arith in
    rw z (listed_moved n pre b rest 0 k)

-- what a list of sizes that is not refused says
pub record Listed (n : ℕ) (lengths : List ℕ) (rest : ℕ) : Type 0 where
  pub long : length lengths ≡ 2 * n
  pub each : all_positive (listed n lengths 0) ≡ true
  pub sum : total (listed n lengths 0) ≡ rest

cond_held : (b : Bool) (k j : ℕ) → cond b k (suc j) ≡ 0 → (b ≡ true) × (k ≡ 0)
cond_held true k j h = (refl, h)
cond_held false k j h = absurd (omega arith)

pub listed_facts : (n : ℕ) (lengths : List ℕ) (rest : ℕ) → listed_refusal n lengths rest ≡ 0 → Listed n lengths rest
listed_facts n lengths rest h =
    let a = cond_held (eqb (length lengths) (2 * n)) (cond (all_positive (listed n lengths 0)) (cond (eqb (total (listed n lengths 0)) rest) 0 6) 6) 5 h in
    let b = cond_held (all_positive (listed n lengths 0)) (cond (eqb (total (listed n lengths 0)) rest) 0 6) 5 a.1 in
    let c = cond_held (eqb (total (listed n lengths 0)) rest) 0 5 b.1 in
    record { long = eqb-true (length lengths) (2 * n) a.0; each = b.0; sum = eqb-true (total (listed n lengths 0)) rest c.0 }

-- the messages stand at the end of the datagram, from position m on, after the list of sizes where there is one

rest_is : (messages s : List ℕ) (m : ℕ) → m + length messages ≡ length s → refusal_number (rest_only_at messages 0) ≡ 0 → rest_only_at s m ≡ got (messages_from 1 Sizes.Rest m) m
rest_is messages s m e h = go (ltb 0 (length messages)) refl h
  where
    go : (b : Bool) → ltb 0 (length messages) ≡ b → refusal_number (cond b (got (messages_from 1 Sizes.Rest 0) 0) (refused 1 0)) ≡ 0 → rest_only_at s m ≡ got (messages_from 1 Sizes.Rest m) m
    go true t q =
        let l : 0 < length messages = ltb-true 0 (length messages) t in
        let k : m < length s = omega arith in
        rw (lt-ltb m (length s) k)
    go false t q = absurd (omega arith)

pub some_message : (messages : List ℕ) → refusal_number (rest_only_at messages 0) ≡ 0 → 0 < length messages
some_message messages h = go (ltb 0 (length messages)) refl h
  where
    go : (b : Bool) → ltb 0 (length messages) ≡ b → refusal_number (cond b (got (messages_from 1 Sizes.Rest 0) 0) (refused 1 0)) ≡ 0 → 0 < length messages
    go true t q = ltb-true 0 (length messages) t
    go false t q = absurd (omega arith)

listed_is : (n : ℕ) (pre lengths messages : List ℕ) (m : ℕ) → length pre ≡ m → listed_refusal n lengths (length messages) ≡ 0
    → listed_at n (pre ++ (lengths ++ messages)) m ≡ got (messages_from n (Sizes.Listed m) (m + 2 * n)) (m + 2 * n)
listed_is n pre lengths messages m e h =
    let s = pre ++ (lengths ++ messages) in
    let f = listed_facts n lengths (length messages) h in
    let l : length s ≡ m + (2 * n + length messages) = omega (arith, length-append pre (lengths ++ messages), length-append lengths messages, f.long) in
    let z : listed n s m ≡ listed n lengths 0 = listed_at_start n pre lengths messages m e (omega (arith, f.long)) in
    let k : m + 2 * n ≤ length s = omega arith in
    let t : m + 2 * n + total (listed n lengths 0) ≡ length s = omega (arith, f.sum) in
    rw (le-leb (m + 2 * n) (length s) k, z, f.each, eq-eqb (m + 2 * n + total (listed n lengths 0)) (length s) t)

-- what configured sizes that are not refused say: all are given and their sum is the messages', or one is not given
pub data Configured (zs : List ℕ) (messages : List ℕ) : Type 0 where
  all : all_positive zs ≡ true → (length zs ≡ 0 → ⊥) → total zs ≡ length messages → Configured zs messages
  one : all_positive zs ≡ false → length zs ≡ 1 → refusal_number (rest_only_at messages 0) ≡ 0 → Configured zs messages

configured_facts : (zs messages : List ℕ) → refusal_number (configured_at zs messages 0) ≡ 0 → Configured zs messages
configured_facts zs messages h = go (eqb (length zs) 0) (all_positive zs) (eqb (0 + total zs) (length messages)) (eqb (length zs) 1) refl refl refl refl h
  where
    go : (a b c d : Bool) → eqb (length zs) 0 ≡ a → all_positive zs ≡ b → eqb (0 + total zs) (length messages) ≡ c → eqb (length zs) 1 ≡ d
        → refusal_number (cond a (refused 8 0) (cond b (cond c (got (messages_from (length zs) Sizes.Configured 0) 0) (refused 6 0)) (cond d (rest_only_at messages 0) (refused 8 0)))) ≡ 0
        → Configured zs messages
    go true b c d e f p r q = absurd (omega arith)
    go false true true d e f p r q =
        let t = eqb-true (0 + total zs) (length messages) p in
        Configured.all f (eqb-false (length zs) 0 e) (omega (arith, t))
    go false true false d e f p r q = absurd (omega arith)
    go false false c true e f p r q = Configured.one f (eqb-true (length zs) 1 r) q
    go false false c false e f p r q = absurd (omega arith)

configured_is : (zs messages s : List ℕ) (m : ℕ) → m + length messages ≡ length s → Configured zs messages
    → configured_at zs s m ≡ got (cond (all_positive zs) (messages_from (length zs) Sizes.Configured m) (messages_from 1 Sizes.Rest m)) m
configured_is zs messages s m e (Configured.all p n t) =
    let k : m + total zs ≡ length s = omega arith in
    rw (ne_eqb (length zs) 0 n, p, eq-eqb (m + total zs) (length s) k)
configured_is zs messages s m e (Configured.one p n q) = rw (n, p, rest_is messages s m e q)

-- what is refused of a payload that is no chunk's
pub unchunked : (chunk : Bool) (n : ℕ) → chunk ≡ false → cond chunk 0 n ≡ 0 → n ≡ 0
unchunked chunk n e h = subst (λ (c : Bool). cond {A = ℕ} c 0 n ≡ 0) e h

-- without a PayloadHeader it is no chunk
pub absent_facts : (chunk : Bool) (sizes messages : List ℕ) → refusal_number (payload_at chunk PayloadHeader.Absent sizes messages 0) ≡ 0 → (chunk ≡ false)
    × Configured (configured_sizes sizes) messages
absent_facts true sizes messages h = absurd (omega arith)
absent_facts false sizes messages h = (refl, configured_facts (configured_sizes sizes) messages h)

pub payload_is : (x : PayloadHeader) (chunk : Bool) (sizes pre lengths messages : List ℕ) (m : ℕ) → length pre ≡ m → Counted chunk x → payload_refusal chunk x sizes lengths messages ≡ 0
    → payload_at chunk x sizes (pre ++ (list_bytes x lengths ++ messages)) m ≡ got (payload_for x sizes m) (payload_for x sizes m).first
payload_is PayloadHeader.Absent chunk sizes pre lengths messages m e o h =
    let f = absent_facts chunk sizes messages h in
    let l : m + length messages ≡ length (pre ++ messages) = omega (arith, length-append pre messages) in
    rw (f.0, configured_is (configured_sizes sizes) messages (pre ++ messages) m l f.1) (go (all_positive (configured_sizes sizes)))
  where
    go : (b : Bool) → got (cond b (messages_from (length (configured_sizes sizes)) Sizes.Configured m) (messages_from 1 Sizes.Rest m)) m
        ≡ got (cond b (messages_from (length (configured_sizes sizes)) Sizes.Configured m) (messages_from 1 Sizes.Rest m))
        (cond b (messages_from (length (configured_sizes sizes)) Sizes.Configured m) (messages_from 1 Sizes.Rest m)).first
    go true = refl
    go false = refl
payload_is (PayloadHeader.Ids n) chunk sizes pre lengths messages m e o h = rw o.1 (go (leb n 1) (unchunked chunk _ o.0 h))
  where
    go : (b : Bool) → cond b (refusal_number (rest_only_at messages 0)) (listed_refusal n lengths (length messages)) ≡ 0
        → cond b (rest_only_at (pre ++ (cond b [] lengths ++ messages)) m) (listed_at n (pre ++ (cond b [] lengths ++ messages)) m)
        ≡ got (cond b (messages_from 1 Sizes.Rest m) (messages_from n (Sizes.Listed m) (m + 2 * n))) (cond b (messages_from 1 Sizes.Rest m) (messages_from n (Sizes.Listed m) (m + 2 * n))).first
    go true q = rest_is messages (pre ++ messages) m (omega (arith, length-append pre messages)) q
    go false q = listed_is n pre lengths messages m e q
payload_is (PayloadHeader.Chunk w) chunk sizes pre lengths messages m e o h = refl
payload_is PayloadHeader.Probe chunk sizes pre lengths messages m e o h = probe_is pre messages m e chunk sizes h
