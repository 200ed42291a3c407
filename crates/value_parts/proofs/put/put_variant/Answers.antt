use Rattle.value_parts.proofs.Storing.{size_of}
use Rattle.value_parts.specs.Put.{put_rule, variant_bytes}
use Rattle.wire_writer.proofs.Putting.{puts, then}
use Rattle.wire_writer.proofs.Answering.{written}
use Rattle.wire_writer.specs.Writing.{room_refusal}
use lib.ListN.{length}
use mathlib.Core.Path.{sym, ap, ◌∙◌}
use Prim.Native.Nat.{ℕ, ◌+◌}
use Rattle.value_parts.proofs.put.put_variant.Goals as goal

pub returns : goal.returns
returns c =
    let args = c.args in
    let size = size_of args.t args.form args.bytes.now (c.head_size.ensures.0 (length args.bytes.now)) in
    written (put_rule args.t args.form (length args.bytes.now)) (variant_bytes args.t args.form args.bytes.now) args.out.now
    (sym c.in_ok-put_rule.ensures) (c.in_ok-room_rule.ensures ∙ ap (λ (n : ℕ). room_refusal n (length args.out.now)) size)
    (c.head_size.result + length args.bytes.now) _ _ size (then c.put_head-at.ensures (puts c.put_run.ensures))
