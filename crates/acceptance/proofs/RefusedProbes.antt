-- The refusals of a probe's datagram where only a probe is asked for, and of steps over its ids and strings.
-- Assumes nothing.
use Prim.Native.Nat.{ℕ, ◌+◌, ◌≤◌}
use mathlib.Core.Path.{◌≡◌, refl, sym, ap, subst, ◌∙◌}
use mathlib.Core.Bool.{Bool, true, false}
use mathlib.Core.List.{List}
use mathlib.Core.Logic.{inl, inr}
use native.Mathlib.Omega.{arith}
use lib.Dec.{leb}
use lib.ListN.{length}
use borrow.Author.Tests.{leb-true}
use Rattle.wire.specs.Answer.{Answer, got, refused, and_then}
use Rattle.wire.specs.Items.{length_of}
use Rattle.wire.specs.Number.{le, signed}
use Rattle.wire.specs.declared.Length.{Length}
use Rattle.wire.proofs.Cases.{by_bool}
use Rattle.wire.proofs.Reading.{got_value, got_next, not_got, invert}
use Rattle.wire_writer.proofs.Back.{map_back}
use Rattle.plain_value.specs.Plain.{after_length}
use Rattle.probe.specs.declared.body.Probe.{Probe}
use Rattle.probe.specs.declared.items.ProbeCursor.{ProbeCursor}
use Rattle.probe.specs.Body.{probe_body_at}
use Rattle.probe.specs.Items.{item_count, null_item_at, text_bytes_at, id_item_at, text_item_at, item_of, item_step_at}
use Rattle.network_header.specs.declared.flags.Flags.{Flags}
use Rattle.network_header.specs.declared.header.PayloadHeader.{PayloadHeader}
use Rattle.network_header.specs.Header.{payload_header_at, probe_on}
use Rattle.network_header.specs.Numbers.{configured_sizes}
use Rattle.network_message.specs.Payload.{messages_from, payload_at}
use Rattle.network_message.specs.declared.payload.Payload.{Payload}
use Rattle.network_message.specs.declared.payload.Sizes.{Sizes}
use Rattle.network_message.specs.Envelope.{Header, NetworkMessage, identity_at, times_at, messages_of, envelope_at, network_message_at}
use Rattle.network_message.specs.ProbeMessage.{ProbeMessage, probe_from, probe_message_at}
use Rattle.round_trip.proofs.NetworkMessageRewritten.{flags_of}
use Rattle.acceptance.specs.Refusals.{Refusal, StepRefusal, datagram_refusals, probe_step_refusals}
use Rattle.acceptance.proofs.Refusals.{Tells, at_item, number}
use Rattle.acceptance.proofs.Refusals.Tells.{refuses}
use Rattle.acceptance.proofs.RefusedDatagrams.{datagram_others, datagram_tells}

-- a header ends where the payload starts
header_ends : (f : Flags) (configured : ℕ) (s : List ℕ) (n : ℕ) (h : Header) (next : ℕ) → envelope_at f configured s n ≡ got h next → h.places.payload ≡ next
header_ends f configured s n h next e =
    let I = invert (identity_at f s n) (λ i k. _) e in
    let P = invert (payload_header_at f.payload_header f.chunk f.probe s I.1) (λ p k. _) I.3 in
    let T = invert (times_at f (messages_of f.chunk P.0 configured) s P.1) (λ t k. _) P.3 in
    sym (ap (λ (x : Header). x.places.payload) (got_value T.3)) ∙ got_next T.3

-- an accepted payload that is a probe
by_header : (chunk : Bool) (h : PayloadHeader) (sizes s : List ℕ) (at : ℕ) (q : Payload) (n : ℕ) → probe_on h ≡ true → payload_at chunk h sizes s at ≡ got q n
    → (p : Probe) × (k : ℕ) × (probe_body_at s at ≡ got p k)
by_header chunk PayloadHeader.Absent sizes s at q n o e = absurd (let z : ◌≡◌ {A = ℕ} 0 1 = cc in omega arith)
by_header chunk (PayloadHeader.Ids c) sizes s at q n o e = absurd (let z : ◌≡◌ {A = ℕ} 0 1 = cc in omega arith)
by_header chunk (PayloadHeader.Chunk w) sizes s at q n o e = absurd (let z : ◌≡◌ {A = ℕ} 0 1 = cc in omega arith)
by_header true PayloadHeader.Probe sizes s at q n o e = absurd (not_got e)
by_header false PayloadHeader.Probe sizes s at q n o e =
    let b = invert (probe_body_at s at) (λ p next. got (messages_from 0 Sizes.Rest at) at) e in
    (b.0, b.1, b.2)

-- an accepted datagram that is a probe: its body is accepted where it starts
probe_accepted : (sizes s : List ℕ) (m : NetworkMessage) (n : ℕ) → network_message_at sizes s ≡ got m n → probe_on m.envelope.payload_header ≡ true
    → (p : Probe) × (k : ℕ) × (probe_body_at s m.places.payload ≡ got p k)
probe_accepted sizes s m n e =
    let f = flags_of sizes s m n e in
    let H = invert (envelope_at f.0 (length (configured_sizes sizes)) s f.1) (λ h k. _) f.3 in
    let P = map_back (payload_at H.0.envelope.chunk H.0.envelope.payload_header sizes)
    (λ p. record { envelope = H.0.envelope; places = H.0.places; payload = p }) s H.1 m n H.3 in
    let z : H.0.places.payload ≡ H.1 = header_ends f.0 (length (configured_sizes sizes)) s f.1 H.0 H.1 H.2 in
    subst (λ (m : NetworkMessage). probe_on m.envelope.payload_header ≡ true → (p : Probe) × (k : ℕ) × (probe_body_at s m.places.payload ≡ got p k)) P.2
    (λ o. subst (λ (at : ℕ). (p : Probe) × (k : ℕ) × (probe_body_at s at ≡ got p k)) (sym z)
    (by_header H.0.envelope.chunk H.0.envelope.payload_header sizes s H.1 P.0 n o P.1))

-- its refusal is the datagram's, or 4 at 0
abbrev ToldOf : ℕ → Answer ProbeMessage → Type 0
ToldOf hi (got m next) = Unit {0}
ToldOf hi (refused n place) = Refusal datagram_refusals n place hi

pub probe_told : (sizes s : List ℕ) (n place : ℕ) → probe_message_at sizes s ≡ refused n place → Refusal datagram_refusals n place (length s)
probe_told sizes s n place e = subst (ToldOf (length s)) e (go (network_message_at sizes s) refl (datagram_tells sizes s))
  where
    from : (m : NetworkMessage) (k : ℕ) → network_message_at sizes s ≡ got m k → ToldOf (length s) (probe_from m.envelope m.places s)
    from m k q =
        by_bool _ (probe_on m.envelope.payload_header)
        (λ b. let p = probe_accepted sizes s m k q b in
        rw (b, p.2) tt)
        (λ b. rw b (at_item (number 4 refl) (omega arith)))

    go : (x : Answer NetworkMessage) → network_message_at sizes s ≡ x → Tells datagram_others (length s) x → ToldOf (length s) (and_then x (λ m next. probe_from m.envelope m.places s))
    go (got m k) q t = from m k q
    go (refused k p) q (refuses r) = r

-- ---- a step over ids and strings
abbrev StepTold : {A : Type 0} → ℕ → ℕ → Answer A → Type 0
StepTold hi at (got a next) = Unit {0}
StepTold hi at (refused n place) = StepRefusal probe_step_refusals n place hi at

then_told : {A B : Type 0} (hi at : ℕ) (x : Answer A) (f : A → ℕ → B) → StepTold hi at x → StepTold hi at (and_then x (λ a next. got (f a next) next))
then_told hi at (got a next) f t = tt
then_told hi at (refused n place) f t = t

id_told : (k : ℕ) (s : List ℕ) (at : ℕ) → StepTold (length s) at (id_item_at k s at)
id_told k s at = by_bool _ (leb (at + 2) (length s)) (λ b. rw b tt) (λ b. rw b (inr (refl, refl)))

-- a string's bytes, behind its length
text_told : (k at n : ℕ) (s : List ℕ) (start : ℕ) → start ≤ length s → StepTold (length s) at (text_bytes_at k n s start)
text_told k at n s start h =
    by_bool _ (leb (start + n) (length s)) (λ b. rw b tt) (λ b. rw b (inl (record { one = refl; nowhere = λ e. absurd (no e); inside = h })))
  where
    no : false ≡ true → ⊥
    no c = let y : ◌≡◌ {A = ℕ} 0 1 = cc in omega arith

length_told : (k at : ℕ) (l : Length) (s : List ℕ) (start : ℕ) → start ≤ length s → StepTold (length s) at (after_length (null_item_at k) (text_bytes_at k) at l s start)
length_told k at Length.Null s start h = tt
length_told k at (Length.Of n) s start h = text_told k at n s start h
length_told k at Length.Negative s start h = inr (refl, refl)

text_item_told : (k : ℕ) (s : List ℕ) (at : ℕ) → StepTold (length s) at (text_item_at k s at)
text_item_told k s at =
    by_bool _ (leb (at + 4) (length s))
    (λ b. rw b (length_told k at (length_of (signed 4 (le 4 s at))) s (at + 4) (leb-true (at + 4) (length s) b)))
    (λ b. rw b (inr (refl, refl)))

item_told : (p : Probe) (k : ℕ) (s : List ℕ) (at : ℕ) → StepTold (length s) at (item_of p k s at)
item_told (Probe.MetaData l) k s at = id_told k s at
item_told (Probe.Writers l) k s at = id_told k s at
item_told (Probe.Group g b) k s at = inl (record { one = refl; nowhere = λ e. refl; inside = omega arith })
item_told (Probe.Connections l g w) k s at = text_item_told k s at

pub probe_step_told : (p : Probe) (c : ProbeCursor) (s : List ℕ) (n place : ℕ) → item_step_at p c s ≡ refused n place → StepRefusal probe_step_refusals n place (length s) c.at
probe_step_told p c s n place e =
    subst (StepTold (length s) c.at) e
    (by_bool _ (leb (item_count p) c.index) (λ b. rw b (inl (record { one = refl; nowhere = λ e. refl; inside = omega arith })))
    (λ b. rw b (then_told (length s) c.at (item_of p c.index s c.at) _ (item_told p c.index s c.at))))
