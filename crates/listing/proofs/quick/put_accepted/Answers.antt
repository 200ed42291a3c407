use Rattle.listing.proofs.OnePass.{set_then, set_only}
use Rattle.listing.proofs.quick.put_accepted.Goals as goal

pub returns-then-c : goal.returns-then-c
returns-then-c c =
    set_only c.args.types.now c.args.message.now c.args.p c.args.c c.args.told.now
    c.args.out.now c.if-c.true c.requires.0 c.set-first.ensures c.put_run-then.ensures

pub returns : goal.returns
returns c =
    set_then c.args.types.now c.args.message.now c.args.p c.args.c c.args.told.now
    c.args.out.now c.put_fields-end.result c.requires.0 c.set-first.ensures c.put_run-then.ensures c.put_fields-end.ensures
