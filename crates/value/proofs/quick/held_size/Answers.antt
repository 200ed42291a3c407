use Rattle.value.proofs.FirstItems.{scalar_measured}
use Rattle.value.proofs.Looks.{bit_on}
use Rattle.plain_value.proofs.Widths.{positive}
use Rattle.wire.specs.Answer.{got, and_then}
use Prim.Native.Nat.{◌+◌}
use mathlib.Core.Path.{◌≡◌, ap, ◌∙◌}
use native.Mathlib.Omega.{arith}
use Rattle.value.proofs.quick.held_size.Goals as goal

pub returns : goal.returns
returns c =
    let args = c.args in
    let end : args.at + 1 + c.scalar_size-size.result ≡ args.at + (c.scalar_size-size.result + 1) = omega arith in (
      λ h f l. rw (bit_on _ c.if-m-eq0.false)
          (ap (λ x. and_then x (λ m next. got tt next))
          (scalar_measured l args.s.now (args.at + 1) c.scalar_size-size.result (omega arith) c.scalar_size-size.ensures.0 (positive _ c.if-size-eq0.false) (omega (arith, f)))
          ∙ ap (got tt) end),
      omega (arith, c.scalar_size-size.ensures.1),
    )
