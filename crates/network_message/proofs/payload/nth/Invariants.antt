use mathlib.Core.Path.{◌≡◌}
use Rattle.network_message.specs.Payload.{pass_at}
use Rattle.wire.specs.Answer.{got}
use Rattle.network_message.proofs.payload.nth.Given as goal

abbrev pub invariant-loop-i : goal.invariant-loop-i
invariant-loop-i l = pass_at l.p l.sizes l.i l.s l.p.first ≡ got tt l.at
