use Rattle.uadp_c.proofs.Filling.{fill_done, field_read}
use Rattle.message_record.specs.Message.{field_numbers}
use Rattle.records.proofs.Storing.{bytes_length}
use Rattle.wire.specs.Refusal.{answer}
use Rattle.wire.proofs.Reading.{told}
use native.Mathlib.Omega.{arith}
use Rattle.uadp_c.proofs.fields.uadp_field.Goals as goal

pub returns-else-field-lt-FIELD_SIZE : goal.returns-else-field-lt-FIELD_SIZE
returns-else-field-lt-FIELD_SIZE c =
    let args = c.args in
    fill_done _ args.field.now _ _ _ 64 _
    (field_read args.config.now args.message.now _ args.writer args.k _ c.types_for.ensures
    (told answer c.field_place.ensures c.in-Ok.is)) (bytes_length (field_numbers c.in-Ok.f))
    (omega arith) c.result.ensures c.put_field.ensures
