-- What the quick step of a head record's cursor tells. No part of include/uadp.h: its laws (Telling, NotTold) tie it to the step.
use Rattle.std.specs.Prelude.{ℕ, ◌+◌, ◌-◌, ◌/◌, ◌%◌, ◌≡◌, Bool, true, false, cond, not, ◌&&◌, ◌||◌, List, eqb, ltb, get_or, Option, Some, None}
use Rattle.wire.specs.Answer.{Answer, got, refused, bit}
use Rattle.wire.specs.Constants.{OVER_LIMIT}
use Rattle.plain_value.specs.Width.{fixed}
use Rattle.value.specs.Value.{Measure}
use Rattle.value.specs.Quick.{scalar_size, LookTells}
use Rattle.value.specs.declared.Shape.{Shape}
use Rattle.dataset_fields.specs.Fields.{FieldStepped}
use Rattle.dataset_fields.specs.declared.fields.Field.{Field}
use Rattle.dataset_fields.specs.declared.fields.Cursor.{Cursor}
use Rattle.wire_writer.specs.Store.{laid}
use Rattle.records.specs.Numbers.{number_bytes}
use Rattle.message_record.specs.Message.{cursor_laid, field_numbers}
use Rattle.message_record.specs.declared.quick.Stepped.{Stepped}

-- an answer that is a refusal
abbrev pub Refused : {A : Type 0} → Answer A → Type 0
Refused (got a next) = ⊥
Refused (refused n place) = Unit {0}

-- what one look says of what measuring answers; a plain value is not told only where it is refused
abbrev pub Looks : Bool → Option (Measure × ℕ) → Answer Measure → Type 0
Looks plain (Some x) a = LookTells (Some x) a
Looks plain None a = plain ≡ true → Refused a

-- and of what is only passed over
abbrev pub LooksPast : Bool → Option ℕ → Answer (Unit {0}) → Type 0
LooksPast plain (Some next) a = a ≡ got tt next
LooksPast plain None a = plain ≡ true → Refused a

-- which values are plain: of the Variants, by their first byte, a String, a ByteString, and an array of a fixed type
abbrev pub other_first : ℕ → Bool
other_first b = cond (ltb b 64) (eqb b 12 || eqb b 15) (eqb (b / 64) 2 && fixed (b % 64))

-- and a null, and a scalar of a fixed type
abbrev pub plain_first : ℕ → Bool
plain_first b = ltb 0 (scalar_size b) || other_first b

-- a DataValue with the mask m that holds nothing, a null, or a scalar of a fixed type
abbrev pub plain_held : ℕ → List ℕ → ℕ → Bool
plain_held m s at = not (bit 0 m) || ltb 0 (scalar_size (get_or s at 0))

-- a field's value, by the number of its encoding: 0 a Variant, 2 a DataValue
abbrev pub plain_at : ℕ → List ℕ → ℕ → Bool
plain_at n s at = cond (eqb n 0) (plain_first (get_or s at 0)) (cond (eqb n 2) (plain_held (get_or s at 0) s (at + 1)) false)

-- the value of the field that a cursor stands before, where fields have no index
abbrev pub plain_step : ℕ → Cursor → List ℕ → Bool
plain_step n c s = cond c.delta false (plain_at n s c.at)

-- the field that a cursor stands before, and the cursor after it, by its value's type, shape and end
abbrev pub field_told : Cursor → ℕ → Shape → ℕ → Field
field_told c kind shape end = record { index = c.next; kind = kind; shape = shape; offset = c.at; length = end - c.at }

abbrev pub cursor_told : Cursor → ℕ → Cursor
cursor_told c end = record { encoding = c.encoding; delta = c.delta; next = c.next + 1; count = c.count; at = end }

-- the field's offset, and the records after a step that answers a field: the cursor moved behind it, and the field's numbers
abbrev pub FieldPut : Answer FieldStepped → ℕ → List ℕ → List ℕ → List ℕ → List ℕ → Type 0
FieldPut (got x end) offset head field head' field' =
    (offset ≡ x.field.offset) × (head' ≡ cursor_laid x.cursor head) × (field' ≡ laid field 0 (number_bytes (field_numbers x.field)))
FieldPut (refused n place) offset head field head' field' = ⊥

-- what is told of what a step answers, and the head and the field record before and after it; a step to a plain value is not told only
-- where it is refused
abbrev pub StepTells : Bool → Stepped → Answer FieldStepped → List ℕ → List ℕ → List ℕ → List ℕ → Type 0
StepTells plain (Stepped.Done offset) a head field head' field' = FieldPut a offset head field head' field'
StepTells plain Stepped.End a head field head' field' = (a ≡ refused OVER_LIMIT 0) × (head' ≡ head) × (field' ≡ field)
StepTells plain Stepped.Not a head field head' field' = (plain ≡ true → Refused a) × (head' ≡ head) × (field' ≡ field)
