use native.Mathlib.Omega.{arith}
use mathlib.Core.Path.{sym, ◌∙◌}
use Rattle.wire.proofs.Cases.{by_lt}
use Rattle.marks.proofs.WholeLaws.{capacity_bytes}
use Rattle.marks.proofs.NextLaws.{alike_eight}
use Rattle.marks.proofs.next.pass_eights.Goals as goal

pub eight-requires : goal.eight-requires
eight-requires c =
    let room = capacity_bytes c.args.marks.now in omega (arith, room, c.requires.2, c.loop-i.invariant.2, c.loop-i.invariant.1)

pub loop-i-preserved : goal.loop-i-preserved
loop-i-preserved c =
    let args = c.args in (
      omega (arith, c.loop-i.invariant.0),
      omega (arith, c.loop-i.invariant.1),
      omega (arith, c.loop-i.invariant.2),
      λ j l u. by_lt _ j c.loop-i.i (λ x. c.loop-i.invariant.3 j l x)
          (λ x. alike_eight args.marks.now c.loop-i.i args.want (λ k. omega (arith, c.shared_slice_known-1.given k)) c.loop-i.invariant.2
          (sym c.eight.ensures ∙ c.if-eight-unwanted.false ∙ c.choose-unwanted.ensures) j x u),
    )
