use native.Mathlib.Omega.{arith}
use mathlib.Core.Path.{ap}
use lib.ListN.{take}
use Rattle.wire.specs.Lists.{total}
use Rattle.dataset_fields.proofs.Judging.{past_end, total_cons}
use Rattle.dataset_message.proofs.Whole.{total_split}
use Rattle.dataset_message.proofs.given.Fields.end_of.Goals as goal

pub overflow_add-at : goal.overflow_add-at
overflow_add-at c =
    let first = take c.args.count c.args.self.lengths.now in
    let one = total_cons first c.loop-n.n-index c.loop-n-test.true in
    let split = total_split c.args.count c.args.self.lengths.now in
    omega (arith, one, split, c.loop-n.invariant, c.args.self.whole, c.ranges.self.0)

pub returns : goal.returns
returns c =
    let first = take c.args.count c.args.self.lengths.now in
    let none = ap total (past_end first c.loop-n.n-index c.loop-n-test.false) in
    omega (arith, none, c.loop-n.invariant)
