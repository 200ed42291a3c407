-- The record of an envelope, from what the functions that make its numbers promise: its two halves, and both together.
-- Assumes nothing.
use Prim.Native.Nat.{ℕ, ◌≤◌, ◌<◌}
use mathlib.Core.Path.{◌≡◌, refl}
use mathlib.Core.List.{List, [], ◌∷◌}
use native.Mathlib.Omega.{arith}
use lib.ListN.{length}
use Rattle.wire_writer.specs.Store.{laid}
use Rattle.publisher_id.specs.PublisherRecord.{code_of}
use Rattle.network_header.specs.declared.envelope.Envelope.{Envelope}
use Rattle.network_header.specs.declared.envelope.Places.{Places}
use Rattle.network_message.specs.declared.payload.Payload.{Payload}
use Rattle.records.specs.Numbers.{number_bytes}
use Rattle.records.specs.Items.{has_item, item_value, value_i64, flag_number}
use Rattle.records.proofs.Storing.{also, put_same, put_none, put_both}
use Rattle.records.specs.Publisher.{publisher_number}
use Rattle.envelope_record.specs.Envelope.{class_low, class_high, group_items, group_writer, group_version, group_number, group_sequence, header_code, header_number, sizes_code, sizes_place, start_numbers, rest_numbers, envelope_numbers}

pub start_put : (v : Envelope) (w : Places) (l e : List ℕ) (a₁ a₂ a₃ a₄ a₅ a₆ a₇ a₈ a₉ b₁ b₂ b₃ b₄ : ℕ) → a₁ ≡ code_of v.publisher
    → a₂ ≡ publisher_number v.publisher → a₃ ≡ has_item v.class_id → a₄ ≡ class_low v.class_id → a₅ ≡ class_high v.class_id
    → a₆ ≡ group_items v.group → a₇ ≡ group_writer v.group → a₈ ≡ group_version v.group → a₉ ≡ group_number v.group
    → b₁ ≡ group_sequence v.group → b₂ ≡ flag_number v.chunk → b₃ ≡ header_code v.payload_header → b₄ ≡ header_number v.payload_header
    → e ≡ laid l 0 (number_bytes (a₁ ∷ a₂ ∷ w.publisher_end ∷ a₃ ∷ a₄ ∷ a₅ ∷ a₆ ∷ a₇ ∷ a₈ ∷ a₉ ∷ b₁ ∷ b₂ ∷ b₃ ∷ b₄ ∷ []))
    → e ≡ laid l 0 (number_bytes (start_numbers v w))
start_put v w l e a₁ a₂ a₃ a₄ a₅ a₆ a₇ a₈ a₉ b₁ b₂ b₃ b₄ p₁ p₂ p₃ p₄ p₅ p₆ p₇ p₈ p₉ q₁ q₂ q₃ q₄ z =
    let i : w.publisher_end ≡ w.publisher_end = refl in
    let t : List ℕ = [] in
    let s : t ≡ t = refl in
    let x : (a₁ ∷ a₂ ∷ w.publisher_end ∷ a₃ ∷ a₄ ∷ a₅ ∷ a₆ ∷ a₇ ∷ a₈ ∷ a₉ ∷ b₁ ∷ b₂ ∷ b₃ ∷ b₄ ∷ t) ≡ start_numbers v w =
    also p₁ (also p₂ (also i (also p₃ (also p₄ (also p₅ (also p₆ (also p₇ (also p₈ (also p₉ (also q₁ (also q₂ (also q₃ (also q₄ s))))))))))))) in
    put_same l 0 x z

pub rest_put : (v : Envelope) (w : Places) (y : Payload) (l e : List ℕ) (a₁ a₂ a₃ a₄ a₅ a₆ a₇ a₈ : ℕ) → a₁ ≡ has_item v.timestamp
    → a₂ ≡ value_i64 v.timestamp → a₃ ≡ has_item v.picoseconds → a₄ ≡ item_value v.picoseconds → a₅ ≡ has_item v.promoted
    → a₆ ≡ item_value v.promoted → a₇ ≡ sizes_code y.sizes → a₈ ≡ sizes_place y.sizes
    → e
    ≡ laid l 112
    (number_bytes
    (w.payload_header_end ∷ a₁ ∷ a₂ ∷ a₃ ∷ a₄ ∷ a₅ ∷ a₆ ∷ w.payload ∷ y.count ∷ a₇ ∷ a₈ ∷ y.first ∷ 0 ∷ y.first ∷ 0 ∷ 0 ∷ 0 ∷ 0 ∷ []))
    → e ≡ laid l 112 (number_bytes (rest_numbers v w y))
rest_put v w y l e a₁ a₂ a₃ a₄ a₅ a₆ a₇ a₈ p₁ p₂ p₃ p₄ p₅ p₆ p₇ p₈ z =
    let j : w.payload_header_end ≡ w.payload_header_end = refl in
    let k : w.payload ≡ w.payload = refl in
    let m : y.count ≡ y.count = refl in
    let t : List ℕ = y.first ∷ 0 ∷ y.first ∷ 0 ∷ 0 ∷ 0 ∷ 0 ∷ [] in
    let s : t ≡ t = refl in
    let x : (w.payload_header_end ∷ a₁ ∷ a₂ ∷ a₃ ∷ a₄ ∷ a₅ ∷ a₆ ∷ w.payload ∷ y.count ∷ a₇ ∷ a₈ ∷ t) ≡ rest_numbers v w y =
    also j (also p₁ (also p₂ (also p₃ (also p₄ (also p₅ (also p₆ (also k (also m (also p₇ (also p₈ s)))))))))) in
    put_same l 112 x z

-- where the record does not fit, nothing is stored; where it does, one half after the other
pub envelope_none : (v : Envelope) (w : Places) (y : Payload) (l : List ℕ) → length l < 256
    → l ≡ laid l 0 (number_bytes (envelope_numbers (record { envelope = v; places = w; payload = y })))
envelope_none v w y l h = put_none (envelope_numbers (record { envelope = v; places = w; payload = y })) l 0 (omega arith)

pub envelope_put : (v : Envelope) (w : Places) (y : Payload) (l e f : List ℕ) → 256 ≤ length l → e ≡ laid l 0 (number_bytes (start_numbers v w))
    → f ≡ laid e 112 (number_bytes (rest_numbers v w y)) → f ≡ laid l 0 (number_bytes (envelope_numbers (record { envelope = v; places = w; payload = y })))
envelope_put v w y l e f h p q = put_both (start_numbers v w) (rest_numbers v w y) l e f 112 refl (omega arith) p q
