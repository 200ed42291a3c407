use Rattle.message_record.proofs.NotTold.{held_cut}
use mathlib.Core.Path.{ap}
use Rattle.wire.specs.Answer.{got, and_then}
use Rattle.value.proofs.FirstItems.{fixed_variant}
use Rattle.value.proofs.Looks.{bit_on}
use Rattle.message_record.proofs.quick.held_end.Goals as goal

pub returns-then-at-end : goal.returns-then-at-end
returns-then-at-end c =
    let args = c.args in
    rw (bit_on _ c.if-m-eq0.false) (ap (λ x. and_then x (λ m next. got tt next)) (fixed_variant 98 args.s.now args.at c.fixed_end-end.ensures c.if-at-end.true).1)

pub returns : goal.returns
returns c =
    let args = c.args in
    λ z. held_cut args.s.now args.at args.m c.if-m-eq0.false c.fixed_end-end.ensures c.if-at-end.false z
