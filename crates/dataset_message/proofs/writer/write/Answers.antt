use Rattle.std.proofs.Common.{rules}
use mathlib.Core.Path.{◌≡◌, sym, ap, ◌∙◌}
use Prim.Native.Nat.{ℕ}
use lib.ListN.{length}
use native.Mathlib.Omega.{arith}
use Rattle.wire.specs.Answer.{refused}
use Rattle.wire.specs.Refusal.{reason_number}
use Rattle.dataset_header.proofs.Fitting.{fits_header}
use Rattle.wire_writer.specs.Writing.{room_refusal, answer_written}
use Rattle.wire_writer.proofs.Answering.{no_room, written}
use Rattle.dataset_message.specs.Writer.{encode, message_refusal, given_message}
use Rattle.dataset_message.proofs.Whole.{accepted, size_told, limited_room, limited_fits}
use Rattle.dataset_message.proofs.writer.write.Goals as goal

pub returns-in_err-room_rule : goal.returns-in_err-room_rule
returns-in_err-room_rule c =
    let args = c.args in
    let types = args.types.now in
    let g = given_message args.header args.heartbeat args.values.now args.lengths.now args.indices.now args.padding in
    let zero : message_refusal types g ≡ 0 = sym c.in_ok-refusal.ensures in
    let size = size_told types g _ _ _ _ (accepted types g zero) c.has_fields.ensures c.is_raw.ensures c.is_delta.ensures c.size-bytes.ensures in
    let none = no_room (message_refusal types g) (encode g) args.out.now zero _
    (c.in_err-room_rule.ensures ∙ ap (λ (n : ℕ). room_refusal n (length args.out.now)) size ∙ limited_room (length (encode g)) (length args.out.now)) in
    let e : answer_written c.from_residual-in_err-room_rule.result ≡ refused (reason_number c.in_err-room_rule.field-0.0) 0 = search rules in (
      record { header = fits_header args.header _ c.well_formed.1.0; indices = λ k. omega (arith, c.type_inv.indices k) },
      record { answer = e ∙ none.answer; buffer = none.buffer },
    )

pub invariant_of-fields : goal.invariant_of-fields
invariant_of-fields c =
    let args = c.args in
    let g = given_message args.header args.heartbeat args.values.now args.lengths.now args.indices.now args.padding in
    record { whole = (accepted args.types.now g (sym c.in_ok-refusal.ensures)).adds }

pub returns : goal.returns
returns c =
    let args = c.args in
    let types = args.types.now in
    let g = given_message args.header args.heartbeat args.values.now args.lengths.now args.indices.now args.padding in
    let zero : message_refusal types g ≡ 0 = sym c.in_ok-refusal.ensures in
    let size = size_told types g _ _ _ _ (accepted types g zero) c.has_fields.ensures c.is_raw.ensures c.is_delta.ensures c.size-bytes.ensures in
    let full : ◌≡◌ {A = ℕ} 0 (room_refusal c.size-bytes.result (length args.out.now)) = c.in_ok-room_rule.ensures in
    let fits = full ∙ ap (λ (n : ℕ). room_refusal n (length args.out.now)) size in (
      record { header = fits_header args.header _ c.well_formed.1.0; indices = λ k. omega (arith, c.type_inv.indices k) },
      written (message_refusal types g) (encode g) args.out.now zero (fits ∙ limited_room (length (encode g)) (length args.out.now)) c.size-bytes.result _ _
          (size ∙ limited_fits (length (encode g)) (length args.out.now) (sym fits)) c.put_message.ensures,
    )
