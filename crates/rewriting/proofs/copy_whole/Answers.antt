use Rattle.wire_writer.proofs.Answering.{written}
use Rattle.wire_writer.proofs.Putting.{puts}
use lib.ListN.{length}
use mathlib.Core.Path.{refl}
use Rattle.rewriting.proofs.copy_whole.Goals as goal

pub returns : goal.returns
returns c =
    let args = c.args in
    written 0 args.s.now args.out.now refl c.in_ok-room_rule.ensures (length args.s.now) _ _ refl (puts c.put_run.ensures)
