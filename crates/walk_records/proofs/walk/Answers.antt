use Rattle.wire.proofs.Reading.{told}
use Rattle.config.specs.Writers.{lists_in}
use Rattle.network_message.specs.Envelope.{answer_network_message}
use Rattle.walk_records.proofs.Answers.{few_messages, walk_done}
use Rattle.walk_records.proofs.walk.Goals as goal

pub walk_messages-requires : goal.walk_messages-requires
walk_messages-requires c =
    let args = c.args in
    few_messages args.w.sizes.now args.s.now _ _ (told answer_network_message c.read.ensures c.in_ok-envelope.was)

pub returns : goal.returns
returns c =
    let args = c.args in
    walk_done (lists_in args.w) args.s.now
    args.out.now _ _ _ _ (told answer_network_message c.read.ensures c.in_ok-envelope.was) c.walk_messages.ensures
