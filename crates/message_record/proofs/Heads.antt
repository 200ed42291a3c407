-- The record of a message's head, from what the functions that make its numbers promise.
-- Assumes nothing.
use Prim.Native.Nat.{ℕ}
use mathlib.Core.Path.{◌≡◌, refl}
use mathlib.Core.List.{List, [], ◌∷◌}
use Rattle.wire_writer.specs.Store.{laid}
use Rattle.dataset_header.specs.Flags.{valid, encoding_number, kind_number}
use Rattle.dataset_fields.specs.declared.fields.Cursor.{Cursor}
use Rattle.dataset_header.specs.declared.header.Header.{Header}
use Rattle.records.specs.Numbers.{number_bytes}
use Rattle.records.specs.Items.{item_value, value_i64, flag_number}
use Rattle.message_record.specs.Message.{items_number, head_numbers}
use Rattle.records.proofs.Storing.{also, put_same}

pub head_put : (h : Header) (k : Cursor) (end : ℕ) (l e : List ℕ) (a b d q t p u m n g f : ℕ) → a ≡ encoding_number h.encoding → b ≡ kind_number h.kind
    → d ≡ items_number h → q ≡ item_value h.sequence → t ≡ value_i64 h.timestamp → p ≡ item_value h.picoseconds → u ≡ item_value h.status
    → m ≡ item_value h.major → n ≡ item_value h.minor → g ≡ encoding_number k.encoding → f ≡ flag_number k.delta
    → e
    ≡ laid l 0 (number_bytes (1 ∷ a ∷ b ∷ d ∷ q ∷ t ∷ p ∷ u ∷ m ∷ n ∷ g ∷ f ∷ k.next ∷ k.count ∷ k.at ∷ end ∷ 0 ∷ 0 ∷ 0 ∷ 0 ∷ []))
    → e ≡ laid l 0 (number_bytes (head_numbers (valid (record { header = h; cursor = k; end = end }))))
head_put h k end l e a b d q t p u m n g f ea eb ed eq et ep eu em en eg ef v =
    let r : List ℕ = k.next ∷ k.count ∷ k.at ∷ end ∷ 0 ∷ 0 ∷ 0 ∷ 0 ∷ [] in
    let s : r ≡ r = refl in
    let z : (1 ∷ a ∷ b ∷ d ∷ q ∷ t ∷ p ∷ u ∷ m ∷ n ∷ g ∷ f ∷ r) ≡ head_numbers (valid (record { header = h; cursor = k; end = end })) =
    also {x = 1} {y = 1} refl (also ea (also eb (also ed (also eq (also et (also ep (also eu (also em (also en (also eg (also ef s))))))))))) in
    put_same l 0 z v
