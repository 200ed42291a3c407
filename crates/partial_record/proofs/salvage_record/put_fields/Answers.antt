use native.Mathlib.Omega.{arith}
use Rattle.partial_record.proofs.Saving.{putting_on, putting_stops, putting_ends}
use Rattle.partial_record.proofs.salvage_record.put_fields.Goals as goal

pub returns-then-end-at : goal.returns-then-end-at
returns-then-end-at c =
    let args = c.args in
    let done = putting_stops args.types.now args.front.now args.first args.start args.out.now c.loop-i.out _
    c.loop-i.at c.loop-i.i c.loop-i.k _ c.loop-i.invariant c.put_next-end.ensures.0 c.put_next-end.ensures.1 c.if-end-at.true in (done.1, done.2)

pub overflow_add-k : goal.overflow_add-k
overflow_add-k c =
    let on = putting_on c.args.types.now c.args.front.now c.args.first c.args.start
    c.args.out.now c.loop-i.out _ c.loop-i.at c.loop-i.i c.loop-i.k _ c.loop-i.invariant
    c.put_next-end.ensures.0 c.put_next-end.ensures.1 c.loop-i-test.true c.if-end-at.false in omega (arith, on.all, c.requires)

pub loop-i-preserved : goal.loop-i-preserved
loop-i-preserved c =
    let args = c.args in
    putting_on args.types.now args.front.now args.first args.start args.out.now c.loop-i.out _
    c.loop-i.at c.loop-i.i c.loop-i.k _ c.loop-i.invariant c.put_next-end.ensures.0 c.put_next-end.ensures.1 c.loop-i-test.true c.if-end-at.false

pub returns : goal.returns
returns c =
    let args = c.args in
    putting_ends args.types.now args.front.now args.first args.start args.out.now c.loop-i.out
    c.loop-i.at c.loop-i.i c.loop-i.k c.loop-i.invariant c.loop-i-test.false
