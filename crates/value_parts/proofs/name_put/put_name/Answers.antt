use Prim.Native.Nat.{ℕ, ◌+◌}
use mathlib.Core.Path.{sym, ap, ◌∙◌}
use mathlib.Core.Bool.{Bool}
use lib.ListN.{length}
use Rattle.wire_writer.specs.Writing.{room_refusal}
use Rattle.wire_writer.proofs.Answering.{written}
use Rattle.wire_writer.proofs.Putting.{then}
use Rattle.wire_writer.proofs.Parts.{puts_as}
use Rattle.value_parts.specs.PutName.{name_rule, name_bytes, string_if}
use Rattle.value_parts.proofs.StoringNames.{name_size}
use Rattle.value_parts.proofs.name_put.put_name.Goals as goal

pub returns : goal.returns
returns c =
    let args = c.args in
    let size = name_size args.t args.number args.locale.now args.text.now c.name_head_size.ensures.0
    (c.string_size.ensures.0 ∙ ap (λ (on : Bool). length (string_if on args.locale.now)) c.has_locale.ensures)
    (c.string_size-2.ensures.0 ∙ ap (λ (on : Bool). length (string_if on args.text.now)) c.has_text.ensures) in
    written (name_rule args.t args.number (length args.locale.now) (length args.text.now)) (name_bytes args.t args.number args.locale.now args.text.now)
    args.out.now (sym c.in_ok-name_rule.ensures) (c.in_ok-room_rule.ensures ∙ ap (λ (n : ℕ). room_refusal n (length args.out.now)) size)
    (c.name_head_size.result + (c.string_size.result + c.string_size-2.result)) _ _ size
    (then c.put_name_head-at.ensures
    (then (puts_as (ap (λ (on : Bool). string_if on args.locale.now) c.has_locale-2.ensures) c.put_string-next.ensures)
    (puts_as (ap (λ (on : Bool). string_if on args.text.now) c.has_text-2.ensures) c.put_string.ensures)))
