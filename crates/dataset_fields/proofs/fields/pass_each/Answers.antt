use Rattle.std.proofs.Common.{rules}
use mathlib.Core.Path.{sym, ◌∙◌}
use Rattle.wire.specs.Refusal.{answer}
use Rattle.wire.proofs.Reading.{told}
use Rattle.dataset_fields.proofs.Walks.{fields_turn, fields_halt, fields_end, read_passes, read_stops}
use Rattle.dataset_fields.proofs.fields.pass_each.Goals as goal

pub returns-in_err-end : goal.returns-in_err-end
returns-in_err-end c =
    let h = fields_halt c.args.delta c.args.encoding c.args.types.now c.args.s.now c.args.count c.loop-k.k c.loop-k.p c.loop-k-test.true
    (read_stops c.args.delta c.args.encoding c.args.types.now c.args.s.now c.args.count c.loop-k.k c.loop-k.p (sym (told answer c.read_field.ensures c.in_err-end.was))) in
    rw (c.loop-k.invariant, h) (search rules)

pub loop-k-preserved : goal.loop-k-preserved
loop-k-preserved c =
    c.loop-k.invariant ∙ fields_turn c.args.delta c.args.encoding c.args.types.now c.args.s.now c.args.count c.loop-k.k c.loop-k.p c.loop-k-test.true
    (read_passes c.args.delta c.args.encoding c.args.types.now c.args.s.now c.args.count c.loop-k.k c.loop-k.p (sym (told answer c.read_field.ensures c.in_ok-end.was)))

pub returns : goal.returns
returns c =
    sym (c.loop-k.invariant ∙ fields_end c.args.delta c.args.encoding c.args.types.now c.args.s.now c.args.count c.loop-k.k c.loop-k.p c.loop-k-test.false)
