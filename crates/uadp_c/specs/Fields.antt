-- A message's head and its fields as records (include/uadp.h, "reading").
use Rattle.std.specs.Prelude.{ℕ, ◌≤◌, cond, List, ltb, length}
use Rattle.wire.specs.Constants.{NO_ROOM}
use Rattle.records.specs.Sizes.{FIELD_SIZE, HEAD_SIZE}
use Rattle.wire.specs.Answer.{Answer, got, refused, map_answer}
use Rattle.wire_writer.specs.Store.{laid}
use Rattle.dataset_header.specs.Flags.{Valid, not_valid, valid}
use Rattle.dataset_message.specs.Message.{Message}
use Rattle.dataset_fields.specs.Fields.{FieldStepped}
use Rattle.dataset_fields.specs.declared.fields.Field.{Field}
use Rattle.records.specs.Numbers.{number_bytes}
use Rattle.records.specs.Result.{result_of, Filling}
use Rattle.message_record.specs.Message.{head_numbers, field_numbers, cursor_laid, HeadBack}

-- "Value: 1, or 0 for a message that is not valid"
abbrev pub valid_number : Valid Message → ℕ
valid_number not_valid = 0
valid_number (valid m) = 1

abbrev pub head_filling : Answer (Valid Message) → Answer Filling
head_filling a = map_answer (λ (m : Valid Message). record { value = valid_number m; bytes = number_bytes (head_numbers m) }) a

-- where there is room, the header and the cursor that were read are what the library reads in the head record afterwards
abbrev pub HeadReads : Answer (Valid Message) → List ℕ → List ℕ → Type 0
HeadReads (got not_valid next) entry exit = Unit {0}
HeadReads (got (valid m) next) entry exit = HEAD_SIZE ≤ length entry → HeadBack exit m
HeadReads (refused n place) entry exit = Unit {0}

-- "Value: the offset of its value"
abbrev pub field_filling : Answer Field → Answer Filling
field_filling a = map_answer (λ (f : Field). record { value = f.offset; bytes = number_bytes (field_numbers f) }) a

-- a step of a head record's field cursor: "11 for either record"
abbrev pub step_result : Answer FieldStepped → List ℕ → List ℕ → ℕ
step_result (got x next) head field =
    cond (ltb (length head) HEAD_SIZE) (result_of NO_ROOM 0)
    (cond (ltb (length field) FIELD_SIZE) (result_of NO_ROOM 0)
    (result_of 0 x.field.offset))
step_result (refused n place) head field = result_of n place

-- the head record afterwards: its numbers 12 and 14 are the next field's number and where it starts
abbrev pub head_after : Answer FieldStepped → List ℕ → List ℕ → List ℕ
head_after (got x next) head field =
    cond (ltb (length head) HEAD_SIZE) head
    (cond (ltb (length field) FIELD_SIZE) head (cursor_laid x.cursor head))
head_after (refused n place) head field = head

abbrev pub field_after : Answer FieldStepped → List ℕ → List ℕ → List ℕ
field_after (got x next) head field =
    cond (ltb (length head) HEAD_SIZE) field
    (cond (ltb (length field) FIELD_SIZE) field
    (laid field 0 (number_bytes (field_numbers x.field))))
field_after (refused n place) head field = field

-- the end of a message by a head record: "Value: where its last field ends"; "11 for the record"
abbrev pub end_result : Answer (Unit {0}) → List ℕ → ℕ
end_result (got u end) head = cond (ltb (length head) HEAD_SIZE) (result_of NO_ROOM 0) (result_of 0 end)
end_result (refused n place) head = result_of n place
