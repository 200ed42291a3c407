-- What the front of a message already decides of its fields, whatever bytes come after it: each field that ends within the front.
-- Assumes nothing.
use mathlib.Core.Path.{◌≡◌}
use mathlib.Core.Bool.{Bool}
use mathlib.Core.List.{List, ◌++◌}
use mathlib.Core.Logic.{◌⊎◌, inl, inr}
use Prim.Native.Nat.{ℕ, zero, suc, ◌+◌, ◌-◌}
use native.Mathlib.Omega.{arith}
use Rattle.wire.specs.Answer.{got, refused}
use Rattle.wire.proofs.Reading.{invert}
use Rattle.wire.proofs.Steady.{Steady, item_steady, when_steady}
use Rattle.wire.proofs.Places.{append}
use Rattle.wire.proofs.Frontal.{Frontal, frontal, here_frontal, pure_frontal, never_frontal, bind_frontal}
use Rattle.dataset_header.specs.declared.flags.Encoding.{Encoding}
use Rattle.dataset_fields.specs.declared.fields.Field.{Field}
use Rattle.dataset_fields.specs.Fields.{index_at, encoded_at, field_at, fields_at}
use Rattle.dataset_fields.proofs.Judging.{encoded_either, encoded_steady}

index_steady : (delta : Bool) (k : ℕ) → Steady (index_at delta k)
index_steady delta k = when_steady delta k (item_steady 2)

module _ (delta : Bool) (encoding : Encoding) (types front rest : List ℕ) where
  -- A field that is accepted in the front is that field of the message.
  field_front : (k q e : ℕ) (f : Field) → field_at delta encoding types k front q ≡ got f e → field_at delta encoding types k (front ++ rest) q ≡ got f e
  field_front k q e f h =
      let a = invert (index_at delta k front q) (λ i o. _) h in
      let b = invert (encoded_at encoding types k front a.1) (λ m z. _) a.3 in
      rw (append (index_steady delta k) front rest q a.2, append (encoded_steady encoding types k front a.1 b.2) front rest a.1 b.2) b.3

  -- and so are n fields, one after the other
  fields_front : (n k p e : ℕ) → fields_at delta encoding types n k front p ≡ got tt e → fields_at delta encoding types n k (front ++ rest) p ≡ got tt e
  unfolding fields_at
  fields_front zero k p e h = h
  fields_front (suc n) k p e h =
      let a = invert (field_at delta encoding types k front p) (λ f q. fields_at delta encoding types n (k + 1) front q) h in
      rw (field_front k p a.1 a.0 a.2) (fields_front n (k + 1) a.1 e a.3)

-- What the front of a message tells of a field, it tells of every message with that front: the field itself, or its fault; or the front ends
-- in one of its items, which fits in the message.

encoded_frontal : (encoding : Encoding) (types : List ℕ) (k : ℕ) → Frontal (encoded_at encoding types k)
encoded_frontal encoding types k = go (encoded_either encoding types k)
  where
    go : Steady (encoded_at encoding types k) ⊎ ((s : List ℕ) (at : ℕ) → encoded_at encoding types k s at ≡ refused 8 0) → Frontal (encoded_at encoding types k)
    go (inl h) = frontal h
    go (inr e) = never_frontal (encoded_at encoding types k) 8 0 (λ i. absurd (omega (arith, i))) e

pub field_frontal : (delta : Bool) (encoding : Encoding) (types : List ℕ) (k : ℕ) → Frontal (field_at delta encoding types k)
field_frontal delta encoding types k =
    bind_frontal (frontal (index_steady delta k))
    (λ i. bind_frontal here_frontal
    (λ offset. bind_frontal (encoded_frontal encoding types k)
    (λ m. bind_frontal here_frontal (λ end. pure_frontal (record { index = i; kind = m.kind; shape = m.shape; offset = offset; length = end - offset })))))
