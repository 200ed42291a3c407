use mathlib.Core.Path.{sym, ap, ◌∙◌}
use Prim.Native.Nat.{ℕ}
use lib.ListN.{length}
use Rattle.probe.proofs.Fitting.{fits_probe}
use Rattle.probe.specs.Put.{probe_body_refusal, probe_bytes}
use Rattle.wire_writer.specs.Writing.{room_refusal}
use Rattle.wire_writer.proofs.Putting.{then}
use Rattle.wire_writer.proofs.Answering.{written}
use Rattle.probe.proofs.put.write.Goals as goal

pub returns : goal.returns
returns c = (
  fits_probe c.args.p _ c.well_formed.1.0,
  written (probe_body_refusal c.args.bytes.now c.args.p) (probe_bytes c.args.bytes.now c.args.p) c.args.out.now
      (sym c.in_ok-refusal.ensures)
      (c.in_ok-room_rule.ensures ∙ ap (λ (n : ℕ). room_refusal n (length c.args.out.now)) c.body_size-size.ensures)
      c.body_size-size.result _ _ c.body_size-size.ensures (then c.put_head-at.ensures c.put_parts.ensures),
)
