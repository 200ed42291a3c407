use mathlib.Core.Path.{◌≡◌, ap, ◌∙◌}
use Prim.Native.Nat.{◌+◌, ◌-◌}
use native.Mathlib.Omega.{arith}
use Rattle.value.specs.Value.{variant_rule}
use Rattle.value.proofs.FirstByte.{no_array_but_dimensions}
use Rattle.value.proofs.head.variant_head.Goals as goal

pub returns-then-b-lt128 : goal.returns-then-b-lt128
returns-then-b-lt128 c =
    let args = c.args in
    let b = args.b in
    let q : b ≡ b - 64 + 64 = omega (arith, c.if-b-lt64.false) in
    λ nested. rw (c.at.ensures, ap variant_rule q ∙ no_array_but_dimensions (b - 64) (omega (arith, c.if-b-lt64.false, c.if-b-lt128.true)))
