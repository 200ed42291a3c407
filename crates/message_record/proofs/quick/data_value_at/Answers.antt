use Rattle.message_record.proofs.NotTold.{high_mask, held_left, parts_left}
use lib.ListN.{length}
use Prim.Native.Nat.{◌+◌}
use Rattle.value.proofs.Looks.{data_value_look}
use Rattle.value.proofs.FirstItems.{data_value_is}
use native.Mathlib.Omega.{arith}
use borrow.Author.Tests.{leb-true, leb-false}
use mathlib.Core.Path.{refl, sym, ◌∙◌}
use Rattle.message_record.proofs.quick.data_value_at.Goals as goal

pub returns-then-m-ge64 : goal.returns-then-m-ge64
returns-then-m-ge64 c =
    λ z. high_mask c.args.s.now c.args.at c.requires (omega (arith, c.type_inv.s c.args.at)) c.if-m-ge64.true

pub returns-in_err-after : goal.returns-in_err-after
returns-in_err-after c =
    rw c.from_residual.ensures (λ z. held_left c.args.s.now c.args.at c.requires c.if-m-ge64.false (c.in_err-after.ensures z))

pub returns-then-has : goal.returns-then-has
returns-then-has c =
    rw c.new.ensures
    (data_value_is c.args.s.now c.args.at
    (data_value_look c.args.s.now c.args.at _ c.in_ok-after.after c.parts_width-w.result c.requires refl c.if-m-ge64.false c.in_ok-after.ensures
    c.parts_width-w.ensures (leb-true _ _ (sym c.has.ensures ∙ c.if-has.true))))

pub returns : goal.returns
returns c =
    λ z. parts_left c.args.s.now c.args.at c.requires c.if-m-ge64.false c.in_ok-after.ensures
    (omega (
      arith,
      c.parts_width-w.ensures,
      leb-false (c.in_ok-after.after + c.parts_width-w.result) (length c.args.s.now) (sym c.has.ensures ∙ c.if-has.false),
    ))
