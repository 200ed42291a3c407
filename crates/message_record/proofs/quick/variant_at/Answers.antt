use Rattle.message_record.proofs.NotTold.{variant_left}
use Rattle.value.proofs.FirstItems.{fixed_variant}
use Rattle.message_record.proofs.quick.variant_at.Goals as goal

pub returns-then-at-end : goal.returns-then-at-end
returns-then-at-end c =
    let args = c.args in
    rw c.new.ensures (fixed_variant 99 args.s.now args.at c.fixed_end-end.ensures c.if-at-end.true).1

pub returns : goal.returns
returns c =
    let args = c.args in
    variant_left args.s.now args.at c.other_at.result c.fixed_end-end.ensures c.if-at-end.false c.other_at.ensures
