use native.Mathlib.Omega.{arith}
use borrow.Author.Rules.{rules}
use mathlib.Core.Path.{sym}
use Rattle.wire.proofs.Reading.{told}
use Rattle.network_message.specs.Payload.{answer_place_step}
use Rattle.config.specs.Writers.{lists_in}
use Rattle.walk.specs.Lines.{messages_left}
use Rattle.walk_records.specs.Parts.{bare}
use Rattle.walk_records.specs.Walk.{messages_from}
use Rattle.walk_records.proofs.Messages.{messages_none, message_fits, message_put}
use Rattle.walk_records.proofs.Records.{all_put}
use Rattle.walk_records.proofs.walk_messages.Goals as goal

pub returns : goal.returns
returns c =
    let args = c.args in
    let a = all_put (messages_from (lists_in args.w) args.s.now
    (messages_left (bare args.header args.end args.payload) c.loop-p.c) (bare args.header args.end args.payload) c.loop-p.c)
    c.loop-p.k c.loop-p.out _ _ c.loop-p.invariant.1.0 c.loop-p.invariant.1.1
    (messages_none (lists_in args.w) args.s.now
    (bare args.header args.end args.payload) c.loop-p.c _ _ (sym (told answer_place_step c.step.ensures c.in_default.is))) in
    record { number = omega (arith, a.0); buffer = a.1 }

pub walk_message-k-requires : goal.walk_message-k-requires
walk_message-k-requires c =
    message_fits (lists_in c.args.w)
    c.args.s.now (bare c.args.header c.args.end c.args.payload) c.loop-p.k
    (messages_from (lists_in c.args.w)
    c.args.s.now (messages_left (bare c.args.header c.args.end c.args.payload) c.loop-p.c)
    (bare c.args.header c.args.end c.args.payload) c.loop-p.c) c.loop-p.invariant.1.1 c.requires.0 c.requires.1

pub loop-p-preserved : goal.loop-p-preserved
loop-p-preserved c =
    let args = c.args in (
      search rules,
      message_put (lists_in args.w) args.s.now
          (bare args.header args.end args.payload) c.loop-p.c c.in-Ok.next c.in-Ok.p
          c.writer_id-writer.result c.types_of.result.now c.loop-p.k _ _ _ c.loop-p.out _ _
          (told answer_place_step c.step.ensures c.in-Ok.is) c.writer_id-writer.ensures c.types_of.ensures
          c.loop-p.invariant.1.0 c.loop-p.invariant.1.1 c.walk_message-k.ensures,
    )
