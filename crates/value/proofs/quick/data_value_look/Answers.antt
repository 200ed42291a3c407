use Rattle.value.proofs.Looks.{data_value_look}
use Rattle.plain_value.proofs.Widths.{positive}
use Rattle.wire.specs.Answer.{got}
use Prim.Native.Nat.{◌+◌, ◌≤◌}
use mathlib.Core.Path.{◌≡◌, refl, sym, ap, ◌∙◌}
use borrow.Author.Tests.{leb-true}
use native.Mathlib.Omega.{arith}
use lib.ListN.{length}
use Rattle.value.proofs.quick.data_value_look.Goals as goal

pub returns-then-has : goal.returns-then-has
returns-then-has c =
    let args = c.args in
    let fits : args.at + (c.held_size-held.result + c.parts_width.result) ≤ length args.s.now = leb-true _ _ (sym c.has.ensures ∙ c.if-has.true) in
    let end : args.at + c.held_size-held.result + c.parts_width.result ≡ args.at + (c.held_size-held.result + c.parts_width.result) = omega arith in
    data_value_look args.s.now args.at _ (args.at + c.held_size-held.result) c.parts_width.result (omega arith) refl c.if-m-ge64.false
    (c.held_size-held.ensures.0 (positive _ c.if-held-eq0.false) (omega arith) 98) c.parts_width.ensures (omega arith)
    ∙ ap (got tt) end
