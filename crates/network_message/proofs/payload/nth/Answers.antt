use Rattle.std.proofs.Common.{rules}
use mathlib.Core.Path.{sym}
use Rattle.network_message.proofs.Messages.{pass_none, pass_step, pass_stop}
use Rattle.wire.specs.Refusal.{answer}
use Rattle.wire.proofs.Reading.{told}
use Rattle.network_message.proofs.payload.nth.Goals as goal

pub loop-i-init : goal.loop-i-init
loop-i-init c =
    pass_none c.args.p c.args.sizes.now c.args.s.now c.args.p.first

pub returns-in_err-next : goal.returns-in_err-next
returns-in_err-next c =
    let args = c.args in
    let h =
    pass_stop args.p args.sizes.now args.s.now args.p.first c.loop-i.i args.k c.loop-i.at _ _
    c.loop-i-test.true c.loop-i.invariant (sym (told answer c.message_at.ensures c.in_err-next.was)) in
    rw h (search rules)

pub loop-i-preserved : goal.loop-i-preserved
loop-i-preserved c =
    let args = c.args in
    pass_step args.p args.sizes.now args.s.now args.p.first c.loop-i.i c.loop-i.at _ _
    c.loop-i.invariant (sym (told answer c.message_at.ensures c.in_ok-next.was))
