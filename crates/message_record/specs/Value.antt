-- The value record (include/uadp.h).
use Rattle.std.specs.Prelude.{ℕ, ◌+◌, ◌-◌, ◌*◌, List, [], ◌∷◌}
use Rattle.value.specs.Value.{dimensions_of}
use Rattle.value.specs.declared.Shape.{Shape}
use Rattle.value_parts.specs.declared.data_value.FieldParts.{FieldParts}
use Rattle.value_parts.specs.declared.name.Name.{Name}
use Rattle.records.specs.Items.{flag_number}
use Rattle.message_record.specs.Message.{shape_number, elements_number}

-- "the dimensions list that follows the elements": how many bytes it has, its length and its dimensions
abbrev pub dimensions_length : Shape → ℕ
dimensions_length Shape.Scalar = 0
dimensions_length Shape.NullArray = 0
dimensions_length (Shape.Array n) = 0
dimensions_length (Shape.Matrix n d) = 4 + 4 * d

-- where its dimensions stand, of 4 bytes each, the last of them before the value's end; 0 where there is no list
abbrev pub dimensions_place : Shape → ℕ → ℕ
dimensions_place Shape.Scalar end = 0
dimensions_place Shape.NullArray end = 0
dimensions_place (Shape.Array n) end = 0
dimensions_place (Shape.Matrix n d) end = end - 4 * d

-- the 24 numbers of a value, which as a name is told as n; the last two are spare
abbrev pub value_numbers : FieldParts → Name → List ℕ
value_numbers f n =
    f.value.kind ∷ shape_number f.value.shape ∷ elements_number f.value.shape ∷ f.value.width ∷ f.value.first
    ∷ (f.value.end - dimensions_length f.value.shape - f.value.first) ∷ flag_number f.value.null ∷ f.end ∷ f.mask ∷ f.variant
    ∷ f.status ∷ f.source_time ∷ f.source_picoseconds ∷ f.server_time ∷ f.server_picoseconds ∷ dimensions_of f.value.shape
    ∷ dimensions_place f.value.shape f.value.end ∷ n.number ∷ n.locale.place ∷ n.locale.length ∷ n.text.place
    ∷ n.text.length ∷ 0 ∷ 0 ∷ []
