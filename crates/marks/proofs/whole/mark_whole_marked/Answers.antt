use Rattle.marks.proofs.WholeLaws.{or_byte}
use Rattle.marks.proofs.CountLaws.{cut_start, cut_on}
use Rattle.marks.specs.Marks.{in_use, marked}
use borrow.Author.Rules.{rules}
use native.Mathlib.Omega.{arith}
use mathlib.Core.Path.{refl, sym}
use Prim.Native.Nat.{◌+◌, ◌*◌}
use Rattle.marks.proofs.whole.mark_whole_marked.Goals as goal

pub loop-k-init : goal.loop-k-init
loop-k-init c =
    (omega arith, refl, sym (cut_start in_use (marked in_use c.args.other.now) 0 c.args.marks.now))

pub loop-k-preserved : goal.loop-k-preserved
loop-k-preserved c = (
  omega arith,
  search rules,
  cut_on in_use (marked in_use c.args.other.now) 0 c.args.marks.now (8 * c.loop-k.k) (8 * (c.loop-k.k + 1)) c.loop-k.marks _ (omega arith)
      (omega arith) c.loop-k.invariant.2
      (or_byte c.loop-k.marks c.args.other.now c.loop-k.k (omega arith) (λ i. omega (arith, c.slice_known-1.given i))
      (λ i. omega (arith, c.shared_slice_known-1.given i))),
)
