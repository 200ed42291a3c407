-- The answer of a walk, and how many messages an accepted datagram has at most.
-- Assumes nothing.
use Prim.Native.Nat.{ℕ, ◌+◌, ◌*◌, ◌≤◌}
use mathlib.Core.Path.{◌≡◌, refl, ap, sym, ◌∙◌}
use mathlib.Core.Bool.{Bool, true, false, cond, ◌&&◌}
use mathlib.Core.List.{List}
use native.Mathlib.Nat.{zero-add}
use native.Mathlib.Omega.{arith}
use borrow.Author.Tests.{leb-true, ltb-false}
use lib.Dec.{leb, ltb, eqb}
use lib.ListN.{length, length-take}
use Rattle.wire.specs.Lists.{total}
use Rattle.wire.specs.Answer.{got, refused}
use Rattle.wire.proofs.Reading.{got_value, not_got, invert}
use Rattle.probe.specs.Body.{probe_body_at}
use Rattle.network_header.specs.Flags.{flags_at}
use Rattle.network_message.specs.Payload.{all_positive, listed, messages_from, rest_only_at, listed_at, sized_at, configured_at, payload_at}
use Rattle.network_header.specs.Numbers.{configured_sizes}
use Rattle.network_message.specs.Envelope.{NetworkMessage, envelope_at, network_message_at}
use Rattle.network_header.specs.declared.header.PayloadHeader.{PayloadHeader}
use Rattle.network_message.specs.declared.payload.Payload.{Payload}
use Rattle.network_message.specs.declared.payload.Sizes.{Sizes}
use Rattle.walk.specs.Lines.{Writers, listed_of, first_message, messages_left}
use Rattle.walk_records.specs.Walk.{records_put, payload_records, walk_records, walk_of}
use Rattle.walk_records.specs.Parts.{bare, RecordsPut}
use Rattle.walk_records.proofs.Messages.{bare_same}

-- ---- how many messages there are
module _ (s : List ℕ) (at : ℕ) (p : Payload) (n : ℕ) where
  rest_count : rest_only_at s at ≡ got p n → p.count ≤ 16 + length s
  rest_count e = go (ltb at (length s)) refl
    where
      go : (b : Bool) → ltb at (length s) ≡ b → p.count ≤ 16 + length s
      go true t = let z : 1 ≡ p.count = ap (λ (x : Payload). x.count) (got_value (rw t at e)) in omega arith
      go false t = absurd (not_got (rw t at e))

  listed_count : (c : ℕ) → listed_at c s at ≡ got p n → p.count ≤ 16 + length s
  listed_count c e = go (leb (at + 2 * c) (length s)) refl (all_positive (listed c s at) && eqb (at + 2 * c + total (listed c s at)) (length s)) refl
    where
      go : (a : Bool) → leb (at + 2 * c) (length s) ≡ a → (b : Bool) → (all_positive (listed c s at) && eqb (at + 2 * c + total (listed c s at)) (length s)) ≡ b → p.count ≤ 16 + length s
      go true t true u =
          let z : c ≡ p.count = ap (λ (x : Payload). x.count) (got_value (rw (t, u) at e)) in
          let h : at + 2 * c ≤ length s = leb-true (at + 2 * c) (length s) t in
          omega arith
      go true t false u = absurd (not_got (rw (t, u) at e))
      go false t b u = absurd (not_got (rw t at e))

  sized_count : (sizes : List ℕ) (sum : ℕ) → sized_at (length (configured_sizes sizes)) sum s at ≡ got p n → p.count ≤ 16 + length s
  sized_count sizes sum e = go (eqb (at + sum) (length s)) refl
    where
      go : (b : Bool) → eqb (at + sum) (length s) ≡ b → p.count ≤ 16 + length s
      go true t =
          let z : length (configured_sizes sizes) ≡ p.count = ap (λ (x : Payload). x.count) (got_value (rw t at e)) in
          omega (arith, length-take 16 sizes)
      go false t = absurd (not_got (rw t at e))

  configured_count : (sizes : List ℕ) → configured_at (configured_sizes sizes) s at ≡ got p n → p.count ≤ 16 + length s
  configured_count sizes e = go (eqb (length (configured_sizes sizes)) 0) (all_positive (configured_sizes sizes)) (eqb (length (configured_sizes sizes)) 1) e
    where
      go : (a b c : Bool)
          → cond a (refused 8 0) (cond b (sized_at (length (configured_sizes sizes)) (total (configured_sizes sizes)) s at) (cond c (rest_only_at s at) (refused 8 0))) ≡ got p n
          → p.count ≤ 16 + length s
      go true b c q = absurd (not_got q)
      go false true c q = sized_count sizes (total (configured_sizes sizes)) q
      go false false true q = rest_count q
      go false false false q = absurd (not_got q)

  payload_count : (chunk : Bool) (header : PayloadHeader) (sizes : List ℕ) → payload_at chunk header sizes s at ≡ got p n → p.count ≤ 16 + length s
  payload_count true PayloadHeader.Absent sizes e = absurd (not_got e)
  payload_count false PayloadHeader.Absent sizes e = configured_count sizes e
  payload_count chunk (PayloadHeader.Ids c) sizes e = go (eqb c 0) (leb c 1) e
    where
      go : (a b : Bool) → cond a (refused 6 at) (cond b (rest_only_at s at) (listed_at c s at)) ≡ got p n → p.count ≤ 16 + length s
      go true b q = absurd (not_got q)
      go false true q = rest_count q
      go false false q = listed_count c q
  payload_count chunk (PayloadHeader.Chunk w) sizes e = let z : 0 ≡ p.count = ap (λ (x : Payload). x.count) (got_value e) in omega arith
  payload_count true PayloadHeader.Probe sizes e = absurd (not_got e)
  payload_count false PayloadHeader.Probe sizes e =
      let b = invert (probe_body_at s at) (λ q next. got (messages_from 0 Sizes.Rest at) at) e in
      let z : 0 ≡ p.count = ap (λ (x : Payload). x.count) (got_value b.3) in
      omega arith

pub few_messages : (sizes s : List ℕ) (m : NetworkMessage) (n : ℕ) → got m n ≡ network_message_at sizes s → (length s ≤ 65535) × (m.payload.count ≤ 65551)
few_messages sizes s m n e = go (ltb 65535 (length s)) refl
  where
    go : (b : Bool) → ltb 65535 (length s) ≡ b → (length s ≤ 65535) × (m.payload.count ≤ 65551)
    go true t = absurd (not_got (rw t at (sym e)))
    go false t =
        let (f, i, a, b) = invert (flags_at s 0) _ (rw t at (sym e)) in
        let (h, j, c, d) = invert (envelope_at f (length (configured_sizes sizes)) s i) _ b in
        let (p, k, q, r) = invert (payload_at h.envelope.chunk h.envelope.payload_header sizes s j) _ d in
        let l : length s ≤ 65535 = ltb-false 65535 (length s) t in
        let z : p.count ≡ m.payload.count = ap (λ (x : NetworkMessage). x.payload.count) (got_value r) in
        (l, omega (arith, payload_count s j p k h.envelope.chunk h.envelope.payload_header sizes q))

-- ---- the answers
module _ (w : Writers) (d out : List ℕ) where
  pub walk_refused : (n place : ℕ) → refused n place ≡ network_message_at w.sizes d → (refused n place ≡ walk_of w d) × (out ≡ records_put 0 (walk_records w d) out)
  walk_refused n place q = rw (sym q) (refl, refl)

  pub walk_done : (m : NetworkMessage) (n k : ℕ) (e : List ℕ) → got m n ≡ network_message_at w.sizes d
      → RecordsPut (payload_records w d (bare m.envelope.payload_header m.places.payload_header_end m.payload)) 0 k out e
      → (got k 0 ≡ walk_of w d) × (e ≡ records_put 0 (walk_records w d) out)
  walk_done m n k e q r =
      let s = bare_same w d (messages_left (listed_of m) (first_message (listed_of m))) (listed_of m) (first_message (listed_of m)) in
      rw (sym q) (ap (λ (x : ℕ). got x 0) (r.number ∙ zero-add _ ∙ ap length s), r.buffer ∙ ap (λ t. records_put 0 t out) s)
