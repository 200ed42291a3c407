use Rattle.message_record.proofs.Telling.{onward}
use Rattle.message_record.proofs.quick.step_at.Goals as goal

pub put_told-requires : goal.put_told-requires
put_told-requires c =
    (c.if-c.false, onward c.args.s.now c.args.n c.args.c c.in-Some.value c.in-Some.end c.if-s-at.false c.in-Some.ensures)

pub put_told-requires-in-NullArray : goal.put_told-requires-in-NullArray
put_told-requires-in-NullArray c =
    (c.if-c.false, onward c.args.s.now c.args.n c.args.c c.in-Some.value c.in-Some.end c.if-s-at.false c.in-Some.ensures)

pub put_told-requires-in_default-shape : goal.put_told-requires-in_default-shape
put_told-requires-in_default-shape c =
    (c.if-c.false, onward c.args.s.now c.args.n c.args.c c.in-Some.value c.in-Some.end c.if-s-at.false c.in-Some.ensures)
