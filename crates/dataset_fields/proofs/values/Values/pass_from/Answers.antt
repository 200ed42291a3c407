use Rattle.std.proofs.Common.{rules}
use mathlib.Core.Path.{sym, ◌∙◌}
use Rattle.dataset_fields.proofs.Walks.{fields_turn, fields_halt, fields_end}
use Rattle.dataset_fields.proofs.values.Values.pass_from.Goals as goal

pub returns-in_err-p : goal.returns-in_err-p
returns-in_err-p g c =
    let h = fields_halt c.args.delta _ c.args.types.now c.args.s.now c.args.count c.loop-k.k c.loop-k.p c.loop-k-test.true (sym c.in_err-p.ensures) in
    rw (c.loop-k.invariant, h) (search rules)

pub loop-k-preserved : goal.loop-k-preserved
loop-k-preserved g c =
    c.loop-k.invariant ∙ fields_turn c.args.delta _ c.args.types.now c.args.s.now c.args.count c.loop-k.k c.loop-k.p c.loop-k-test.true (sym c.in_ok-p.ensures)

pub returns : goal.returns
returns g c =
    sym (c.loop-k.invariant ∙ fields_end c.args.delta _ c.args.types.now c.args.s.now c.args.count c.loop-k.k c.loop-k.p c.loop-k-test.false)
