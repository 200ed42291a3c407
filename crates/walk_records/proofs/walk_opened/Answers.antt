use Rattle.walk_records.proofs.Messages.{rest_told, refused_last, done_last}
use mathlib.Core.Path.{refl}
use Rattle.walk_records.proofs.walk_opened.Goals as goal

pub returns-in-Err : goal.returns-in-Err
returns-in-Err c =
    refused_last c.args.types.now c.args.message.now c.args.p c.args.writer c.args.h
    c.args.c c.args.k c.args.out.now _ _ c.requires.2 _ _ _ _
    (rest_told c.walk_rest-next.ensures c.in-Err.is) refl c.encoding_number-b.ensures (rw c.number-n.ensures at c.put_message.ensures)

pub returns-in-Ok : goal.returns-in-Ok
returns-in-Ok c =
    done_last c.args.types.now c.args.message.now c.args.p c.args.writer c.args.h
    c.args.c c.args.k c.args.out.now _ _ c.requires.2 _ _ _ _ _
    (rest_told c.walk_rest-next.ensures c.in-Ok.is) c.kind_number-kind.ensures
    c.encoding_number-b.ensures c.or_none.ensures c.put_message-in-Ok.ensures
