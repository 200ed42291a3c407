use Rattle.network_message.proofs.Lent.{numbers}
use Rattle.network_message.proofs.Short.{all_short}
use Rattle.network_message.specs.Writer.{given_datagram, datagram_of, datagram_refusal}
use Rattle.wire_writer.proofs.Answering.{written}
use Rattle.network_header.proofs.Fitting.{fits_envelope}
use Rattle.wire_writer.specs.Writing.{room_refusal}
use lib.ListN.{length}
use Prim.Native.Nat.{ℕ}
use mathlib.Core.Path.{sym, ap, ◌∙◌}
use Rattle.network_message.proofs.writer.write.Goals as goal

pub datagram_size-size-requires : goal.datagram_size-size-requires
datagram_size-size-requires c =
    let args = c.args in
    let g = given_datagram args.text.now args.ids.now args.promoted.now args.lengths.now args.messages.now in
    all_short g args.x args.sizes.now args.configured.now (sym c.in_ok-given_refusal.ensures)

pub returns : goal.returns
returns c =
    let args = c.args in
    let g = given_datagram args.text.now args.ids.now args.promoted.now args.lengths.now args.messages.now in
    let room = length args.out.now in
    let full = c.in_ok-room_rule.ensures ∙ ap (λ (n : ℕ). room_refusal n room) c.datagram_size-size.ensures in (
      fits_envelope args.x _ c.well_formed.1.0,
      written (datagram_refusal g args.x args.sizes.now args.configured.now) (datagram_of g args.x) args.out.now
          (sym c.in_ok-given_refusal.ensures) full c.datagram_size-size.result _ _ c.datagram_size-size.ensures
          c.put_datagram.ensures,
      numbers args.sizes.now c.shared_slice_known-6-1.given,
      numbers args.configured.now c.shared_slice_known-7-1.given,
    )
