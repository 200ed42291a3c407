use native.Mathlib.Omega.{arith}
use lib.ListN.{length}
use mathlib.Core.Path.{refl, ap}
use Rattle.dataset_fields.proofs.Laying.{delta_sizes, delta_done}
use Rattle.dataset_fields.proofs.fields.delta_size.Goals as goal

pub loop-n-preserved : goal.loop-n-preserved
loop-n-preserved c =
    let args = c.args in
    let s = delta_sizes args.values.now args.lengths.now c.loop-n.n-index c.loop-n.start _ _ c.loop-n-test.true refl c.loop-n.invariant.0 c.forward-start.ensures in
    (s.0, λ indices. omega (arith, c.loop-n.invariant.1 indices, s.1 indices))

pub returns : goal.returns
returns c = λ indices.
    let args = c.args in
    let e = ap length (delta_done args.values.now args.lengths.now indices c.loop-n.n-index c.loop-n.start c.loop-n-test.false) in
    omega (arith, c.loop-n.invariant.1 indices, e)
