-- A value told apart as a record (include/uadp.h, "values").
use Rattle.std.specs.Prelude.{ℕ, cond, List, eqb, ltb}
use Rattle.wire.specs.Answer.{Answer, map_answer}
use Rattle.records.specs.Numbers.{number_bytes}
use Rattle.records.specs.Result.{Filling}
use Rattle.value_parts.specs.Name.{name_of}
use Rattle.value_parts.specs.declared.data_value.FieldParts.{FieldParts}
use Rattle.value_parts.specs.declared.put.Form.{Form}
use Rattle.message_record.specs.Value.{value_numbers}

-- "Value: where the value ends"; the value stands in the bytes s
abbrev pub value_filling : List ℕ → Answer FieldParts → Answer Filling
value_filling s a =
    map_answer (λ (f : FieldParts). record { value = f.end; bytes = number_bytes (value_numbers f (name_of s f.value)) }) a

-- a type's number: one above 255 is none, as 0
abbrev pub type_in : ℕ → ℕ
type_in n = cond (ltb 255 n) 0 n

-- "0 scalar, 1 null array, 2 array (above 2 counts as 0)"; a scalar is null where `null` is not 0
abbrev pub form_in : ℕ → ℕ → Form
form_in shape null =
    cond (eqb shape 1) Form.NullArray
    (cond (eqb shape 2) Form.Array
    (cond (eqb null 0) Form.Scalar Form.Null))
