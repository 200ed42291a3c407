-- The messages of an accepted datagram tile its payload, whose reading ends where they start.
-- Assumes nothing.
use Prim.Native.Nat.{ℕ, ◌+◌, ◌*◌}
use mathlib.Core.Path.{◌≡◌, refl, sym, ap, subst, ◌∙◌}
use mathlib.Core.Bool.{Bool, true, false, cond, ◌&&◌}
use mathlib.Core.List.{List}
use lib.Dec.{ltb, leb, eqb}
use native.Mathlib.Omega.{arith}
use lib.ListN.{length}
use Rattle.wire.specs.Lists.{total}
use Rattle.wire.specs.Answer.{Answer, got, refused, and_then}
use Rattle.wire.proofs.Cases.{by_bool}
use Rattle.wire.proofs.Reading.{got_value, got_next, not_got, invert}
use Rattle.network_header.specs.Flags.{flags_at}
use Rattle.network_header.specs.Numbers.{configured_sizes}
use Rattle.probe.specs.declared.body.Probe.{Probe}
use Rattle.probe.specs.Body.{probe_body_at}
use Rattle.network_message.specs.Payload.{messages_from, payload_at, rest_only_at, listed_at, all_positive, listed, OfMessages}
use Rattle.network_message.specs.Envelope.{NetworkMessage, envelope_at, envelope_body_at, network_message_at}
use Rattle.network_header.specs.declared.flags.Flags.{Flags}
use Rattle.network_header.specs.declared.header.PayloadHeader.{PayloadHeader}
use Rattle.network_message.specs.declared.payload.Payload.{Payload}
use Rattle.network_message.specs.declared.payload.Sizes.{Sizes}
use Rattle.network_message.proofs.Accepted.{Tiled, payload_tiled}
use Rattle.network_message.proofs.Messages.{tile, tiled}
use Rattle.acceptance.specs.Tiles.{MessagesTile}

-- an accepted payload of messages was read as that of no chunk
no_chunk : (chunk : Bool) (header : PayloadHeader) → OfMessages header → (sizes s : List ℕ) (at : ℕ) (p : Payload) (n : ℕ) → payload_at chunk header sizes s at ≡ got p n
    → payload_at false header sizes s at ≡ got p n
no_chunk true PayloadHeader.Absent o sizes s at p n e = absurd (not_got e)
no_chunk false PayloadHeader.Absent o sizes s at p n e = e
no_chunk chunk (PayloadHeader.Ids c) o sizes s at p n e = e
no_chunk chunk (PayloadHeader.Chunk w) o sizes s at p n e = absurd o
no_chunk chunk PayloadHeader.Probe o sizes s at p n e = absurd o

pub accepted_tiled : (sizes s : List ℕ) (m : NetworkMessage) (n : ℕ) → network_message_at sizes s ≡ got m n → OfMessages m.envelope.payload_header → Tiled m.payload sizes s
accepted_tiled sizes s m n e o = go (ltb 65535 (length s)) refl
  where
    body : (f : Flags) (at : ℕ) → envelope_body_at f sizes s at ≡ got m n → Tiled m.payload sizes s
    body f at q =
        let (h, z, a, b) = invert (envelope_at f (length (configured_sizes sizes)) s at) _ q in
        let (p, y, c, d) = invert (payload_at h.envelope.chunk h.envelope.payload_header sizes s z) _ b in
        let v : record { envelope = h.envelope; places = h.places; payload = p } ≡ m = got_value d in
        let g : h.envelope.payload_header ≡ m.envelope.payload_header = ap (λ (x : NetworkMessage). x.envelope.payload_header) v in
        let k : OfMessages h.envelope.payload_header = subst OfMessages (sym g) o in
        subst (λ (x : NetworkMessage). Tiled x.payload sizes s) v
        (payload_tiled h.envelope.payload_header k sizes s z p y (no_chunk h.envelope.chunk h.envelope.payload_header k sizes s z p y c))

    go : (b : Bool) → ltb 65535 (length s) ≡ b → Tiled m.payload sizes s
    go true t = absurd (not_got (rw t at e))
    go false t =
        let (f, at, a, q) = invert (flags_at s 0) _ (rw t at e) in
        body f at q

pub messages_tile : (sizes s : List ℕ) (m : NetworkMessage) (n : ℕ) → network_message_at sizes s ≡ got m n → OfMessages m.envelope.payload_header → MessagesTile sizes s m
messages_tile sizes s m n e o =
    let (zs, t) = accepted_tiled sizes s m n e o in
    record {
      lengths = zs;
      many = t.many;
      whole = t.whole;
      some = t.some;
      looked_up = λ k h. rw (e, tiled t k (omega arith)) (tile t k h);
      stepped = λ k h. rw (tile t k h);
    }

-- ---- an accepted payload ends its reading where its messages start

abbrev FirstIs : Answer Payload → Type 0
FirstIs (got p n) = p.first ≡ n
FirstIs (refused n place) = Unit {0}

cond_first : (b : Bool) (x y : Answer Payload) → FirstIs x → FirstIs y → FirstIs (cond b x y)
cond_first true x y f h = f
cond_first false x y f h = h

rest_first : (s : List ℕ) (at : ℕ) → FirstIs (rest_only_at s at)
rest_first s at = cond_first (ltb at (length s)) _ _ refl tt

listed_first : (n : ℕ) (s : List ℕ) (at : ℕ) → FirstIs (listed_at n s at)
listed_first n s at =
    by_bool _ (leb (at + 2 * n) (length s))
    (λ b. rw b (cond_first (all_positive (listed n s at) && eqb (at + 2 * n + total (listed n s at)) (length s)) _ _ refl tt)) (λ b. rw b tt)

header_first : (chunk : Bool) (header : PayloadHeader) (sizes s : List ℕ) (at : ℕ) → FirstIs (payload_at chunk header sizes s at)
header_first chunk PayloadHeader.Absent sizes s at =
    cond_first chunk _ _ tt
    (cond_first (eqb (length (configured_sizes sizes)) 0) _ _ tt
    (cond_first (all_positive (configured_sizes sizes)) _ _ (cond_first (eqb (at + total (configured_sizes sizes)) (length s)) _ _ refl tt)
    (cond_first (eqb (length (configured_sizes sizes)) 1) _ _ (rest_first s at) tt)))
header_first chunk (PayloadHeader.Ids n) sizes s at = cond_first (eqb n 0) _ _ tt (cond_first (leb n 1) _ _ (rest_first s at) (listed_first n s at))
header_first chunk (PayloadHeader.Chunk w) sizes s at = refl
header_first chunk PayloadHeader.Probe sizes s at = cond_first chunk _ _ tt (probe_first (probe_body_at s at))
  where
    probe_first : (x : Answer Probe) → FirstIs (and_then x (λ p next. got (messages_from 0 Sizes.Rest at) at))
    probe_first (got p n) = refl
    probe_first (refused n place) = tt

pub payload_first : (sizes s : List ℕ) (m : NetworkMessage) (n : ℕ) → network_message_at sizes s ≡ got m n → m.payload.first ≡ n
payload_first sizes s m n e = go (ltb 65535 (length s)) refl
  where
    body : (f : Flags) (at : ℕ) → envelope_body_at f sizes s at ≡ got m n → m.payload.first ≡ n
    body f at q =
        let (h, z, a, b) = invert (envelope_at f (length (configured_sizes sizes)) s at) _ q in
        let (p, y, c, d) = invert (payload_at h.envelope.chunk h.envelope.payload_header sizes s z) _ b in
        let v : p ≡ m.payload = ap (λ (x : NetworkMessage). x.payload) (got_value d) in
        let w : p.first ≡ y = subst FirstIs c (header_first h.envelope.chunk h.envelope.payload_header sizes s z) in
        ap (λ (x : Payload). x.first) (sym v) ∙ w ∙ got_next d

    go : (b : Bool) → ltb 65535 (length s) ≡ b → m.payload.first ≡ n
    go true t = absurd (not_got (rw t at e))
    go false t =
        let (f, at, a, q) = invert (flags_at s 0) _ (rw t at e) in
        body f at q
