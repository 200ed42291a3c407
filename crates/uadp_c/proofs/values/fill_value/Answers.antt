use native.Mathlib.Omega.{arith}
use mathlib.Core.Path.{ap, ◌∙◌}
use Rattle.records.proofs.Storing.{bytes_length}
use Rattle.records.specs.Numbers.{number_bytes}
use Rattle.wire_writer.specs.Store.{laid}
use Rattle.value_parts.specs.declared.name.Name.{Name}
use Rattle.value_parts.specs.Name.{name_of}
use Rattle.message_record.specs.Value.{value_numbers}
use Rattle.uadp_c.proofs.Filling.{fill_done}
use Rattle.uadp_c.proofs.Told.{was_told}
use Rattle.uadp_c.proofs.values.fill_value.Goals as goal

pub returns-else-value-lt-VALUE_SIZE : goal.returns-else-value-lt-VALUE_SIZE
returns-else-value-lt-VALUE_SIZE c =
    let args = c.args in
    let s = args.bytes.now in
    fill_done _ args.value.now _ _ _ 192 _ (was_told s c.in-Ok.is) (bytes_length (value_numbers c.in-Ok.f (name_of s c.in-Ok.f.value))) (omega arith) c.result.ensures
    (c.put_value.ensures ∙ ap (λ (n : Name). laid args.value.now 0 (number_bytes (value_numbers c.in-Ok.f n))) c.tell_name-name.ensures)
