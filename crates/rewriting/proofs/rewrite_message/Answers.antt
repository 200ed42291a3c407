use Rattle.network_message.proofs.Lent.{bytes}
use Rattle.rewriting.proofs.Copied.{message_with_lem, was_ok}
use Rattle.wire.proofs.Reading.{told}
use Rattle.dataset_message.specs.Message.{answer_message}
use mathlib.Core.Path.{sym, ap, ◌∙◌}
use Rattle.std.specs.Prelude.{Ok}
use Rattle.rewriting.proofs.rewrite_message.Goals as goal

pub returns-in-Some-picoseconds : goal.returns-in-Some-picoseconds
returns-in-Some-picoseconds c =
    let args = c.args in
    let known = bytes args.message.now c.shared_slice_known-1.given in (
      known,
      message_with_lem args.types.now args.message.now args.out.now _ _ _ _
          (sym (told answer_message c.read-read.ensures (was_ok c.read-read.result c.in_ok-header.ensures.cases ∙ ap Ok c.in-Some.is))) known _ _
          c.in-Some-picoseconds.is c.picoseconds_place.ensures.0 c.copy_with.ensures,
    )
