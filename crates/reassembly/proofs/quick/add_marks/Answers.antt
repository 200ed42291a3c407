use Rattle.reassembly.proofs.QuickLaws.{added_all}
use Rattle.reassembly.proofs.quick.add_marks.Goals as goal

pub returns-then-mark_if_none : goal.returns-then-mark_if_none
returns-then-mark_if_none c =
    added_all c.args.payload.now c.args.marks.now c.args.offset c.args.bytes.now _ _
    c.mark_if_none.ensures.0 c.mark_if_none.ensures.1 c.requires.1 c.if-mark_if_none.true
