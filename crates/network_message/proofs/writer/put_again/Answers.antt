use Rattle.network_message.proofs.Sizes.{payload_sized}
use Rattle.network_message.specs.Writer.{envelope_bytes}
use Rattle.wire_writer.proofs.Answering.{written}
use Rattle.wire_writer.proofs.Putting.{puts, then}
use Rattle.wire_writer.specs.Writing.{room_refusal}
use lib.ListN.{length}
use Prim.Native.Nat.{ℕ}
use mathlib.Core.List.{◌++◌}
use mathlib.Core.Path.{refl, ap, ◌∙◌}
use Rattle.network_message.proofs.writer.put_again.Goals as goal

pub returns : goal.returns
returns c =
    let args = c.args in
    let h = envelope_bytes args.text.now args.ids.now args.promoted.now args.x in
    let e = payload_sized h args.payload.now c.header_size.ensures.0 in
    written 0 (h ++ args.payload.now) args.out.now refl
    (c.in_ok-room_rule.ensures ∙ ap (λ (n : ℕ). room_refusal n (length args.out.now)) e) _ _ _ e
    (then c.put_header-at.ensures (puts c.put_run.ensures))
