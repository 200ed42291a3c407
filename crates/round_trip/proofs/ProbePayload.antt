-- A probe's payload, read where it stands and alone.
-- Assumes nothing.
use mathlib.Core.Path.{◌≡◌, refl, sym, ap, ◌∙◌}
use mathlib.Core.Bool.{Bool, true, false, cond}
use mathlib.Core.List.{List, ◌++◌}
use Prim.Native.Nat.{ℕ, ◌≤◌}
use native.Mathlib.Nat.{add-zero}
use native.Mathlib.Omega.{arith}
use lib.Dec.{eqb}
use lib.ListN.{length}
use Rattle.wire.specs.Answer.{Answer, got, refused, and_then}
use Rattle.wire.proofs.Reading.{not_got}
use Rattle.wire.proofs.Places.{moved_by, within, within_refused}
use Rattle.probe.specs.declared.body.Probe.{Probe}
use Rattle.probe.specs.Body.{probe_at, body_ends, probe_body_at}
use Rattle.probe.proofs.Steadily.{probe_steady, body_after}
use Rattle.network_header.specs.declared.header.PayloadHeader.{PayloadHeader}
use Rattle.network_header.specs.Header.{payload_header_on, probe_on}
use Rattle.network_message.specs.declared.payload.Sizes.{Sizes}
use Rattle.network_message.specs.Payload.{messages_from, payload_at}
use Rattle.network_message.specs.WriterPayload.{refusal_number}

-- a refused body: its number is not 0, and it stands within the slice
pub body_refused : (s : List ℕ) (at : ℕ) {n place : ℕ} → at ≤ length s → probe_body_at s at ≡ refused n place → (1 ≤ n) × (at ≤ place) × (place ≤ length s)
body_refused s at {n} {place} h e = go (probe_at s at) refl e
  where
    ends : (p : Probe) (m : ℕ) → probe_at s at ≡ got p m → (t : Bool) → cond t (got p m) (refused 7 m) ≡ refused n place → (1 ≤ n) × (at ≤ place) × (place ≤ length s)
    ends p m q true k = absurd (not_got (sym k))
    ends p m q false k =
        let a : 7 ≡ n = cc in
        let b : m ≡ place = cc in
        let w = within probe_steady s at h q in
        (omega arith, omega (arith, w.0), omega (arith, w.1))

    go : (x : Answer Probe) → probe_at s at ≡ x → and_then x (body_ends s) ≡ refused n place → (1 ≤ n) × (at ≤ place) × (place ≤ length s)
    go (got p m) q k = ends p m q (eqb m (length s)) k
    go (refused m p) q k = within_refused probe_steady s at h (q ∙ k)

-- the number of reading a body where it stands, and alone
module _ (pre messages : List ℕ) (m : ℕ) (e : length pre ≡ m) where
  moved : probe_body_at (pre ++ messages) m ≡ moved_by (length pre) (probe_body_at messages 0)
  moved = ap (probe_body_at (pre ++ messages)) (sym e ∙ sym (add-zero (length pre))) ∙ body_after pre messages 0

  pub probe_number : (chunk : Bool) (sizes : List ℕ)
      → refusal_number (payload_at chunk PayloadHeader.Probe sizes (pre ++ messages) m) ≡ refusal_number (payload_at chunk PayloadHeader.Probe sizes messages 0)
  probe_number true sizes = refl
  probe_number false sizes = rw moved (go (probe_body_at messages 0))
    where
      go : (x : Answer Probe)
          → refusal_number (and_then (moved_by (length pre) x) (λ p next. got (messages_from 0 Sizes.Rest m) m)) ≡ refusal_number (and_then x (λ p next. got (messages_from 0 Sizes.Rest 0) 0))
      go (got p n) = refl
      go (refused n place) = refl

  -- one that is not refused alone
  pub probe_is : (chunk : Bool) (sizes : List ℕ) → refusal_number (payload_at chunk PayloadHeader.Probe sizes messages 0) ≡ 0
      → payload_at chunk PayloadHeader.Probe sizes (pre ++ messages) m ≡ got (messages_from 0 Sizes.Rest m) m
  probe_is true sizes h = absurd (omega (arith, h))
  probe_is false sizes h = rw moved (go (probe_body_at messages 0) refl h)
    where
      go : (x : Answer Probe) → probe_body_at messages 0 ≡ x → refusal_number (and_then x (λ p next. got (messages_from 0 Sizes.Rest 0) 0)) ≡ 0
          → and_then (moved_by (length pre) x) (λ p next. got (messages_from 0 Sizes.Rest m) m) ≡ got (messages_from 0 Sizes.Rest m) m
      go (got p n) q k = refl
      go (refused n place) q k = absurd (omega (arith, (body_refused messages 0 {n = n} {place = place} (omega arith) q).0, k))

-- a probe has no PayloadHeader
pub no_header : (h : PayloadHeader) → probe_on h ≡ true → payload_header_on h ≡ false
no_header PayloadHeader.Absent e = refl
no_header (PayloadHeader.Ids n) e = absurd (let z : ◌≡◌ {A = ℕ} 0 1 = cc in omega arith)
no_header (PayloadHeader.Chunk w) e = absurd (let z : ◌≡◌ {A = ℕ} 0 1 = cc in omega arith)
no_header PayloadHeader.Probe e = refl
