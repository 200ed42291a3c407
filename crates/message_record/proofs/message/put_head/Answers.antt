use Rattle.message_record.proofs.Heads.{head_put}
use Rattle.message_record.proofs.Back.{head_back}
use Rattle.message_record.proofs.Fitting.{fits_head}
use Rattle.message_record.specs.Message.{HeadBack}
use Rattle.dataset_message.specs.Message.{Message}
use Prim.Native.Nat.{ℕ, ◌^◌, ◌<◌}
use mathlib.Core.Path.{sym, subst}
use mathlib.Core.List.{List}
use native.Mathlib.Omega.{arith}
use Rattle.message_record.proofs.message.put_head.Goals as goal

pub returns : goal.returns
returns c =
    let args = c.args in
    let end : args.end < 256 ^ 8 = omega (arith, c.well_formed.1.1.1.0) in
    let fits = fits_head args.h args.cursor args.end _ _ c.well_formed.1.0 c.well_formed.1.1.0 end in
    let stored =
    head_put args.h args.cursor args.end args.out.now _ _ _ _ _ _ _ _ _ _ _ _ c.encoding_number.ensures
    c.kind_number.ensures c.items_number.ensures c.value.ensures
    c.value-2.ensures c.value-3.ensures c.value-4.ensures c.value-5.ensures
    c.value-6.ensures c.encoding_number-2.ensures c.flag_number.ensures.0 c.put_numbers.ensures in
    let m : Message = record { header = args.h; cursor = args.cursor; end = args.end } in
    (stored, λ l. subst (λ (s : List ℕ). HeadBack s m) (sym stored) (head_back m args.out.now fits l))
