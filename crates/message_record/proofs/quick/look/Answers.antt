use Rattle.message_record.proofs.NotTold.{past_look}
use Rattle.message_record.proofs.quick.look.Goals as goal

pub returns-then-s-at : goal.returns-then-s-at
returns-then-s-at c =
    λ types k z. past_look c.args.s.now types c.args.n k c.args.at c.if-s-at.true z
