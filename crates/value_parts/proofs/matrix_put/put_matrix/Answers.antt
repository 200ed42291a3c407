use Prim.Native.Nat.{ℕ, ◌+◌}
use mathlib.Core.Path.{sym, ap, ◌∙◌}
use lib.ListN.{length}
use Rattle.wire_writer.specs.Writing.{room_refusal}
use Rattle.wire_writer.proofs.Answering.{written}
use Rattle.wire_writer.proofs.Putting.{puts, then}
use Rattle.value_parts.specs.PutMatrix.{matrix_rule, matrix_bytes}
use Rattle.value_parts.proofs.StoringNames.{matrix_size}
use Rattle.value_parts.proofs.matrix_put.put_matrix.Goals as goal

pub returns : goal.returns
returns c =
    let args = c.args in
    let size = matrix_size args.t args.sizes.now args.bytes.now in
    written (matrix_rule args.t args.sizes.now (length args.bytes.now)) (matrix_bytes args.t args.sizes.now args.bytes.now)
    args.out.now (sym c.in_ok-matrix_rule.ensures) (c.in_ok-room_rule.ensures ∙ ap (λ (n : ℕ). room_refusal n (length args.out.now)) size)
    (9 + length args.bytes.now + length args.sizes.now) _ _ size
    (then c.put_matrix_head-at.ensures (then (puts c.put_run-next.ensures) c.put_sizes.ensures))
