-- The ways out of reading an envelope and of a step of its message cursor.
-- Assumes nothing.
use Rattle.std.specs.Prelude.{Option}
use Prim.Native.Nat.{ℕ, ◌≤◌, ◌<◌}
use mathlib.Core.Path.{◌≡◌, refl, ap, subst, ◌∙◌}
use mathlib.Core.List.{List}
use native.Mathlib.Omega.{arith}
use borrow.Author.Tests.{lt-ltb, le-ltb}
use lib.ListN.{length, get_or, take}
use mir.Syntax.{w8}
use mir.Val.{Fits}
use Rattle.wire.specs.Answer.{Answer, got, refused}
use Rattle.wire_writer.specs.Store.{laid}
use Rattle.network_message.specs.Envelope.{NetworkMessage, network_message_at}
use Rattle.network_message.specs.WriterId.{writer_id_of}
use Rattle.network_message.specs.Payload.{PlaceStepped, place_step_at}
use Rattle.network_header.specs.declared.envelope.Envelope.{Envelope}
use Rattle.network_header.specs.declared.envelope.Places.{Places}
use Rattle.network_header.specs.declared.header.PayloadHeader.{PayloadHeader}
use Rattle.network_message.specs.declared.payload.Payload.{Payload}
use Rattle.network_message.specs.declared.payload.MessagePlace.{MessagePlace}
use Rattle.network_message.specs.declared.payload.MessageCursor.{MessageCursor}
use Rattle.records.specs.Numbers.{number_bytes}
use Rattle.records.specs.Sizes.{ENVELOPE_SIZE, PLACE_SIZE}
use Rattle.records.specs.Result.{result_of, result_in, filled_in}
use Rattle.records.proofs.Storing.{bytes_length}
use Rattle.records.specs.Writers.{writers_in, sixteen, ids_in, sizes_in}
use Rattle.envelope_record.specs.Envelope.{payload_in, messages_in, messages_laid, payload_header_in, payload_header_end, place_numbers, envelope_numbers, EnvelopeBack}
use Rattle.network_message.proofs.Lent.{bytes}
use Rattle.uadp_c.specs.ByCalls.{EnvelopeRead}
use Rattle.uadp_c.specs.Messages.{envelope_filling, EnvelopeReads, message_step, writer_at, message_result, envelope_after, place_after}
use Rattle.uadp_c.proofs.Filling.{fill_none, fill_done}

-- the first entries of a list of 16 numbers of a configuration record
first_of : (c z l : List ℕ) (n at : ℕ) → n ≡ writers_in c → l ≡ sixteen at c → z ≡ take n l → z ≡ take (writers_in c) (sixteen at c)
first_of c z l n at a b d = d ∙ ap (λ (x : ℕ). take x l) a ∙ ap (λ (x : List ℕ). take (writers_in c) x) b

-- what was read is what the configuration record says
pub envelope_told : (c s z l : List ℕ) (n : ℕ) (y : Answer NetworkMessage) → n ≡ writers_in c → l ≡ sixteen 34 c → z ≡ take n l → y ≡ network_message_at z s
    → y ≡ network_message_at (sizes_in c) s
envelope_told c s z l n y a b d q = q ∙ ap (λ (t : List ℕ). network_message_at t s) (first_of c z l n 34 a b d)

abbrev pub Filled : Answer NetworkMessage → List ℕ → ℕ → List ℕ → Type 0
Filled a entry x exit = (x ≡ result_in (envelope_filling a) entry) × (exit ≡ filled_in (envelope_filling a) entry) × EnvelopeReads a entry exit

-- with what is known of the lent bytes, it is what `uadp_read` promises
pub envelope_read : (d config entry : List ℕ) (x : ℕ) (exit : List ℕ) → ((i : ℕ) → Fits w8 (get_or d i 0)) → ((i : ℕ) → Fits w8 (get_or config i 0))
    → Filled (network_message_at (sizes_in config) d) entry x exit → EnvelopeRead d config entry x exit
envelope_read d config entry x exit h k f = record { answer = f.0; filled = f.1; reads = f.2; bytes = bytes d h; config_bytes_lem = bytes config k }

pub read_refused : (b : Answer NetworkMessage) (out : List ℕ) (n p x : ℕ) → refused n p ≡ b → x ≡ result_of n p → Filled b out x out
read_refused b out n p x q h = subst (λ (y : Answer NetworkMessage). Filled y out x out) q (h, refl, tt)

module _ (v : Envelope) (w : Places) (y : Payload) (b : Answer NetworkMessage) (out : List ℕ) (x next : ℕ) where
  abbrev read : NetworkMessage
  read = record { envelope = v; places = w; payload = y }

  pub read_short : got read next ≡ b → length out < ENVELOPE_SIZE → x ≡ result_of 11 0 → Filled b out x out
  read_short q h r =
      let e = fill_none (envelope_filling (got read next)) out _ next ENVELOPE_SIZE x refl (bytes_length (envelope_numbers read)) h r in
      subst (λ (a : Answer NetworkMessage). Filled a out x out) q (e.0, e.1, λ l. absurd (omega arith))

  pub read_done : (e : List ℕ) → got read next ≡ b → ENVELOPE_SIZE ≤ length out → x ≡ result_of 0 y.count → e ≡ laid out 0 (number_bytes (envelope_numbers read))
      → (ENVELOPE_SIZE ≤ length out → EnvelopeBack e read) → Filled b out x e
  read_done e q h r s k =
      let f = fill_done (envelope_filling (got read next)) out e _ next ENVELOPE_SIZE x refl (bytes_length (envelope_numbers read)) h r s in
      subst (λ (a : Answer NetworkMessage). Filled a out x e) q (f.0, f.1, k)

pub message_stepped : (c e s z l : List ℕ) (n : ℕ) (p : Payload) (k : MessageCursor) (y : Answer PlaceStepped) → n ≡ writers_in c → l ≡ sixteen 34 c → z ≡ take n l
    → p ≡ payload_in e → k ≡ messages_in e → y ≡ place_step_at p z k s → y ≡ message_step c e s
message_stepped c e s z l n p k y a b d f g q =
    q ∙ ap (λ (t : List ℕ). place_step_at p t k s) (first_of c z l n 34 a b d) ∙ ap (λ (t : Payload). place_step_at t (sizes_in c) k s) f
    ∙ ap (λ (t : MessageCursor). place_step_at (payload_in e) (sizes_in c) t s) g

pub writer_named : (c e s z l : List ℕ) (n m k : ℕ) (h : PayloadHeader) (y : Option ℕ) → n ≡ writers_in c → l ≡ sixteen 2 c → z ≡ take n l → h ≡ payload_header_in e
    → m ≡ payload_header_end e → y ≡ writer_id_of h m z k s → y ≡ writer_at c e s k
writer_named c e s z l n m k h y a b d f g q =
    q ∙ ap (λ (t : List ℕ). writer_id_of h m t k s) (first_of c z l n 2 a b d) ∙ ap (λ (t : PayloadHeader). writer_id_of t m (ids_in c) k s) f
    ∙ ap (λ (t : ℕ). writer_id_of (payload_header_in e) t (ids_in c) k s) g

abbrev pub Walks : (ℕ → Option ℕ) → Answer PlaceStepped → List ℕ → List ℕ → ℕ → List ℕ → List ℕ → Type 0
Walks w a e p x f q = (x ≡ message_result a e p) × (f ≡ envelope_after a e p) × (q ≡ place_after w a e p)

pub walk_refused : (w : ℕ → Option ℕ) (a : Answer PlaceStepped) (e p : List ℕ) (n m x : ℕ) → refused n m ≡ a → x ≡ result_of n m → Walks w a e p x e p
walk_refused w a e p n m x q h = subst (λ (y : Answer PlaceStepped). Walks w y e p x e p) q (h, refl, refl)

pub walk_no_envelope : (w : ℕ → Option ℕ) (a : Answer PlaceStepped) (e p : List ℕ) (m : MessagePlace) (k : MessageCursor) (next x : ℕ)
    → got (record { place = m; cursor = k }) next ≡ a → length e < ENVELOPE_SIZE → x ≡ result_of 11 0 → Walks w a e p x e p
walk_no_envelope w a e p m k next x q h r =
    subst (λ (y : Answer PlaceStepped). Walks w y e p x e p) q (rw (lt-ltb (length e) ENVELOPE_SIZE h) (r, refl, refl))

pub walk_no_place : (w : ℕ → Option ℕ) (a : Answer PlaceStepped) (e p : List ℕ) (m : MessagePlace) (k : MessageCursor) (next x : ℕ)
    → got (record { place = m; cursor = k }) next ≡ a → ENVELOPE_SIZE ≤ length e → length p < PLACE_SIZE → x ≡ result_of 11 0 → Walks w a e p x e p
walk_no_place w a e p m k next x q g h r =
    subst (λ (y : Answer PlaceStepped). Walks w y e p x e p) q (rw (le-ltb (length e) ENVELOPE_SIZE g, lt-ltb (length p) PLACE_SIZE h) (r, refl, refl))

pub walk_done : (w : ℕ → Option ℕ) (a : Answer PlaceStepped) (e p e₁ f : List ℕ) (m : MessagePlace) (k : MessageCursor) (v : Option ℕ) (next x : ℕ)
    → got (record { place = m; cursor = k }) next ≡ a → ENVELOPE_SIZE ≤ length e → PLACE_SIZE ≤ length p → x ≡ result_of 0 m.index → v ≡ w m.index
    → e₁ ≡ messages_laid k e → f ≡ laid p 0 (number_bytes (place_numbers m v)) → Walks w a e p x e₁ f
walk_done w a e p e₁ f m k v next x q g h r u p₁ p₂ =
    let y : f ≡ laid p 0 (number_bytes (place_numbers m (w m.index))) = p₂ ∙ ap (λ (t : Option ℕ). laid p 0 (number_bytes (place_numbers m t))) u in
    subst (λ (y : Answer PlaceStepped). Walks w y e p x e₁ f) q (rw (le-ltb (length e) ENVELOPE_SIZE g, le-ltb (length p) PLACE_SIZE h) (r, p₁, y))
