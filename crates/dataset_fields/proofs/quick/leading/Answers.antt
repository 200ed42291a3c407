use lib.ListN.{length}
use native.Mathlib.Omega.{arith}
use Rattle.wire.proofs.Reading.{room}
use Rattle.dataset_fields.proofs.Alike.{leads_none, leads_on}
use Rattle.dataset_fields.proofs.quick.leading.Goals as goal

pub returns-then-first-at : goal.returns-then-first-at
returns-then-first-at c =
    (omega arith, leads_none c.args.s.now c.args.at)

pub loop-k-init : goal.loop-k-init
loop-k-init c = leads_none c.args.s.now c.args.at

pub loop-k-preserved : goal.loop-k-preserved
loop-k-preserved c =
    let args = c.args in
    leads_on args.s.now args.at _ c.loop-k.k c.loop-k.p c.fixed_end-first.ensures c.if-first-at.false c.loop-k.invariant
    (room c.has.result _ (length args.s.now) c.has.ensures c.if-not-has.false-raw) c.if-s-p.false
