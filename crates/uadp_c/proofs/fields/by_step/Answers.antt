use Rattle.uadp_c.proofs.Stepping.{stepped, step_no_head, step_no_field, step_done}
use Rattle.dataset_fields.specs.Fields.{answer_field_step}
use Rattle.wire.proofs.Reading.{told}
use native.Mathlib.Omega.{arith}
use Rattle.uadp_c.proofs.fields.by_step.Goals as goal

pub returns-then-head-lt-HEAD_SIZE : goal.returns-then-head-lt-HEAD_SIZE
returns-then-head-lt-HEAD_SIZE c =
    let args = c.args in
    step_no_head _ args.head.now args.field.now _ _ _ _
    (stepped args.config.now args.message.now _ args.head.now args.writer _ _ c.types_for.ensures
    c.cursor_in-cursor.ensures (told answer_field_step c.step.ensures c.in-Ok.is)) (omega arith) c.refused_for.ensures

pub returns-then-field-lt-FIELD_SIZE : goal.returns-then-field-lt-FIELD_SIZE
returns-then-field-lt-FIELD_SIZE c =
    let args = c.args in
    step_no_field _ args.head.now args.field.now _ _ _ _
    (stepped args.config.now args.message.now _ args.head.now args.writer _ _ c.types_for.ensures
    c.cursor_in-cursor.ensures (told answer_field_step c.step.ensures c.in-Ok.is)) (omega arith) (omega arith) c.refused_for-then-field-lt-FIELD_SIZE.ensures

pub returns-else-field-lt-FIELD_SIZE : goal.returns-else-field-lt-FIELD_SIZE
returns-else-field-lt-FIELD_SIZE c =
    let args = c.args in
    step_done _ args.head.now args.field.now _ _ _ _ _ _
    (stepped args.config.now args.message.now _ args.head.now args.writer _ _ c.types_for.ensures
    c.cursor_in-cursor.ensures (told answer_field_step c.step.ensures c.in-Ok.is))
    (omega (arith, c.if-head-lt-HEAD_SIZE.false)) (omega (arith, c.if-field-lt-FIELD_SIZE.false)) c.result.ensures c.put_cursor.ensures c.put_field.ensures
