use Rattle.uadp_c.proofs.Held.{taken_further, steps_further}
use Rattle.uadp_c.specs.Reassembling.{partial_of}
use Rattle.reassembly.specs.Operations.{take_in}
use Rattle.reassembly.specs.Reading.{reading_at}
use native.Mathlib.Omega.{arith}
use Rattle.uadp_c.proofs.reassembling.take_further.Goals as goal

pub returns-in-Ok : goal.returns-in-Ok
returns-in-Ok c =
    steps_further c.args.rec.now c.args.payload.now c.args.marks.now _ _ _ _
    c.in-Ok.covered
    (take_in (partial_of c.args.rec.now c.args.payload.now c.args.marks.now) (reading_at c.args.sizes.now c.args.datagram.now))
    c.requires.0 c.requires.1 (omega arith)
    (taken_further c.args.datagram.now c.args.rec.now c.args.payload.now c.args.marks.now
    c.args.sizes.now _ _ _ _ _ _ c.started_in.ensures c.text_in.ensures c.requires.1
    c.in-Ok.is c.take_more.ensures) c.result.ensures c.put.ensures.stored
