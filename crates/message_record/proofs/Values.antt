-- The numbers of a value record, as the code computes them.
-- Assumes nothing.
use Prim.Native.Nat.{ℕ, ◌-◌}
use mathlib.Core.Path.{◌≡◌, sym}
use mathlib.Core.List.{[], ◌∷◌}
use Rattle.value.specs.Value.{dimensions_of}
use Rattle.value_parts.specs.declared.data_value.FieldParts.{FieldParts}
use Rattle.value_parts.specs.declared.name.Name.{Name}
use Rattle.records.specs.Items.{flag_number}
use Rattle.message_record.specs.Message.{shape_number, elements_number}
use Rattle.message_record.specs.Value.{dimensions_length, dimensions_place, value_numbers}

pub value_as : (f : FieldParts) (n : Name) {shape elements list end size flag dimensions place : ℕ}
    → shape ≡ shape_number f.value.shape → elements ≡ elements_number f.value.shape → list ≡ dimensions_length f.value.shape → end ≡ f.value.end - list → size ≡ end - f.value.first
    → flag ≡ flag_number f.value.null → dimensions ≡ dimensions_of f.value.shape → place ≡ dimensions_place f.value.shape f.value.end
    → (f.value.kind ∷ shape ∷ elements ∷ f.value.width ∷ f.value.first ∷ size ∷ flag ∷ f.end ∷ f.mask ∷ f.variant ∷ f.status ∷ f.source_time ∷ f.source_picoseconds
    ∷ f.server_time ∷ f.server_picoseconds ∷ dimensions ∷ place ∷ n.number ∷ n.locale.place ∷ n.locale.length ∷ n.text.place ∷ n.text.length ∷ 0 ∷ 0 ∷ [])
    ≡ value_numbers f n
value_as f n e1 e2 e3 e4 e5 e6 e7 e8 = rw (sym e1, sym e2, sym e3, sym e4, sym e5, sym e6, sym e7, sym e8)
