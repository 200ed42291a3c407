use Rattle.uadp_c.proofs.Filling.{fill_done, head_by, head_read, head_filled}
use Rattle.message_record.specs.Message.{head_numbers}
use Rattle.records.proofs.Storing.{bytes_length}
use Rattle.dataset_header.specs.Flags.{Valid, valid}
use Rattle.dataset_message.specs.Message.{Message, answer_message}
use Rattle.wire.specs.Answer.{Answer}
use Rattle.wire.proofs.Reading.{told}
use Prim.Native.Nat.{ℕ}
use mathlib.Core.List.{List}
use native.Mathlib.Omega.{arith}
use mathlib.Core.Path.{ap, ◌∙◌}
use Rattle.std.specs.Prelude.{Ok}
use Rattle.uadp_c.proofs.fields.fill_head.Goals as goal

pub returns-else-head-lt-HEAD_SIZE-2 : goal.returns-else-head-lt-HEAD_SIZE-2
returns-else-head-lt-HEAD_SIZE-2 c =
    let args = c.args in
    let reading : List ℕ → Answer (Valid Message) = head_by args.whole args.message.now in
    head_filled reading args.config.now args.message.now _ args.writer _ args.head.now _ _ c.shared_slice_known-1.given
    c.well_formed.0.0 c.types_for.ensures
    (told answer_message c.read_up_to.ensures (c.in-Ok-Some.is ∙ ap Ok c.in-Ok-Some.field-0-is))
    (fill_done _ args.head.now _ _ _ 160 _
    (head_read reading args.config.now _ args.writer _ c.types_for.ensures (told answer_message c.read_up_to.ensures (c.in-Ok-Some.is ∙ ap Ok c.in-Ok-Some.field-0-is)))
    (bytes_length (head_numbers (valid (record { header = c.in-Ok-Some.h; cursor = c.in-Ok-Some.cursor; end = c.in-Ok-Some.end }))))
    (omega arith) c.result-in-Ok-Some.ensures c.put_head.ensures.0)
    c.put_head.ensures.1
