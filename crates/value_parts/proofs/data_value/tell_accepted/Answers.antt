use mathlib.Core.Path.{sym}
use Rattle.wire.specs.Refusal.{answer}
use Rattle.wire.proofs.Reading.{told}
use Rattle.value_parts.proofs.Agreement.{mask_of}
use Rattle.value_parts.proofs.data_value.tell_accepted.Goals as goal

pub tell_after_mask-requires : goal.tell_after_mask-requires
tell_after_mask-requires c =
    (mask_of c.args.s.now c.args.at c.requires (sym (told answer c.read.ensures c.in_ok-m.was))).1

pub returns : goal.returns
returns c =
    rw (mask_of c.args.s.now c.args.at c.requires (sym (told answer c.read.ensures c.in_ok-m.was))).0 c.tell_after_mask.ensures
