use mathlib.Core.Path.{refl}
use Rattle.marks.proofs.NextLaws.{gap_seen}
use Rattle.marks.specs.Marks.{in_use, marked}
use native.Mathlib.Omega.{arith}
use Rattle.marks.proofs.next.gap.Goals as goal

pub returns-then-skip-run : goal.returns-then-skip-run
returns-then-skip-run c =
    let args = c.args in
    gap_seen (marked in_use args.marks.now) args.from args.end c.look-seen.result.told c.look-seen.result.bits _ _ c.look-seen.ensures.0
    (omega (arith, c.struct_known-1.given)) c.if-seen-eq0.false refl refl
    (omega (arith, c.min.ensures)) (omega (arith, c.min.ensures, c.within-stop.ensures.0))
