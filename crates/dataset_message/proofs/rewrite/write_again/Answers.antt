use mathlib.Core.Path.{◌≡◌, refl, sym, ap, ◌∙◌}
use Prim.Native.Nat.{ℕ}
use lib.ListN.{length}
use Rattle.wire_writer.specs.Writing.{room_refusal}
use Rattle.wire_writer.proofs.Answering.{written}
use Rattle.dataset_message.proofs.Whole.{again_size, limited_room, limited_fits}
use Rattle.dataset_message.specs.Rewrite.{parts_again}
use Rattle.dataset_message.proofs.rewrite.write_again.Goals as goal

pub returns : goal.returns
returns c =
    let args = c.args in
    let bytes = parts_again args.header args.fielded args.count args.fields.now args.padding in
    let room = length args.out.now in
    let size = again_size args.header args.fielded c.is_raw.result args.count args.fields.now args.padding
    c.size-bytes.result c.is_raw.ensures c.size-bytes.ensures in
    let full : ◌≡◌ {A = ℕ} 0 (room_refusal c.size-bytes.result room) = c.in_ok-room_rule.ensures in
    let fits = full ∙ ap (λ (n : ℕ). room_refusal n room) size in
    written 0 bytes args.out.now refl (fits ∙ limited_room (length bytes) room)
    c.size-bytes.result _ _ (size ∙ limited_fits (length bytes) room (sym fits)) c.put_again.ensures
