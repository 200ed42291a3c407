-- Document 01, "Values" (Part 6, source 001): what stands where in a DataValue.
use Rattle.std.specs.Prelude.{ℕ, Bool, true, false, cond, Result, Ok, Err}
use Rattle.wire.specs.Answer.{Answer, got, refused, Reader, ◌>>=◌, ◌>>◌, here, pure, ruled, when_on, bit, map_answer}
use Rattle.plain_value.specs.Plain.{bytes}
use Rattle.value.specs.Value.{Measure, measure, mask_rule, INSIDE}
use Rattle.value.specs.declared.Shape.{Shape}
use Rattle.value_parts.specs.declared.told.ValueParts.{ValueParts}
use Rattle.value_parts.specs.declared.data_value.FieldParts.{FieldParts}
use Rattle.value_parts.specs.Told.{told_inside, told_variant_at, told_raw_at}
use Rattle.dataset_header.specs.declared.flags.Encoding.{Encoding}
use Rattle.wire.specs.Constants.{DATA_VALUE}
use Rattle.wire.specs.Refusal.{reason_number}
use Rattle.wire.specs.declared.refusal.Refusal.{Refusal}

-- the place of w bytes that a flag announces, 0 where it is off: no part stands at 0, where the mask does
abbrev pub placed_at : Bool → ℕ → Reader ℕ
placed_at on w = when_on on 0 (here >>= λ place. bytes w >> pure place)

-- no Variant: told as a null one of no bytes
abbrev pub no_variant_at : Reader ValueParts
no_variant_at s at = got (record { kind = 0; shape = Shape.Scalar; width = 0; null = true; first = at; end = at }) at

-- after the mask's Variant, which is told as v and stands at the place p, "1 status 4, 2 source time 8, 4 source picoseconds 2, 3 server
-- time 8, 5 server picoseconds 2"
abbrev pub told_parts_at : ℕ → ℕ → ValueParts → Reader FieldParts
told_parts_at m p v = do
  status ← placed_at (bit 1 m) 4
  source_time ← placed_at (bit 2 m) 8
  source_picoseconds ← placed_at (bit 4 m) 2
  server_time ← placed_at (bit 3 m) 8
  server_picoseconds ← placed_at (bit 5 m) 2
  end ← here
  pure (
      record {
        mask = m;
        variant = p;
        value = v;
        status = status;
        source_time = source_time;
        source_picoseconds = source_picoseconds;
        server_time = server_time;
        server_picoseconds = server_picoseconds;
        end = end;
      }
      )

-- what follows the mask m: "then by bit 0 a Variant" and the other parts
abbrev pub told_after_mask_at : ℕ → Reader FieldParts
told_after_mask_at m = do
  place ← here
  v ← cond (bit 0 m) (told_inside INSIDE) no_variant_at
  told_parts_at m (cond (bit 0 m) place 0) v

-- "DataValue: mask, bits 6 or 7 set is 3", and what follows it
abbrev pub told_data_value_at : Reader FieldParts
told_data_value_at = ruled 1 mask_rule >>= told_after_mask_at

-- a value that is no DataValue, as a field's
abbrev pub alone_parts : ValueParts → FieldParts
alone_parts v =
    record {
      mask = 0;
      variant = 0;
      value = v;
      status = 0;
      source_time = 0;
      source_picoseconds = 0;
      server_time = 0;
      server_picoseconds = 0;
      end = v.end;
    }

-- a field's value: a Variant, a DataValue, or in RawData an element of its configured type t
abbrev pub told_field_at : Encoding → ℕ → Reader FieldParts
told_field_at Encoding.Variant t s at = map_answer alone_parts (told_variant_at s at)
told_field_at Encoding.RawData t s at = map_answer alone_parts (told_raw_at t s at)
told_field_at Encoding.DataValue t s at = told_data_value_at s at

-- what measuring finds of a DataValue
abbrev pub as_measure : FieldParts → Measure
as_measure p = measure DATA_VALUE Shape.Scalar

-- an answer that accepts
abbrev pub is_got : {A : Type 0} → Answer A → Bool
is_got (got a next) = true
is_got (refused n place) = false

-- what the code's answer says; a field's value ends at the position after it
abbrev pub answer_field_told : Result FieldParts Refusal → Answer FieldParts
answer_field_told (Ok p) = got p p.end
answer_field_told (Err r) = refused (reason_number r.reason) r.place
