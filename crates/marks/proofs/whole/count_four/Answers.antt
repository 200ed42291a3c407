use Rattle.std.proofs.Common.{arith}
use Rattle.marks.proofs.WholeLaws.{four_ones, four_full, four_most}
use Rattle.marks.proofs.whole.count_four.Goals as goal

pub returns-then-a-b : goal.returns-then-a-b
returns-then-a-b c =
    let args = c.args in (
      four_full args.marks.now args.at _ _ _ _ (λ i. omega (arith, c.shared_slice_known-1.given i))
          c.eight-a.ensures c.eight-b.ensures c.eight-c.ensures c.eight-d.ensures c.if-a-b.true,
      omega arith,
    )

pub returns : goal.returns
returns c =
    let args = c.args in (
      four_ones args.marks.now args.at _ _ _ _ (λ i. omega (arith, c.shared_slice_known-1.given i))
          c.eight-a.ensures c.eight-b.ensures c.eight-c.ensures c.eight-d.ensures,
      four_most args.marks.now args.at _ _ _ _ (λ i. omega (arith, c.shared_slice_known-1.given i))
          c.eight-a.ensures c.eight-b.ensures c.eight-c.ensures c.eight-d.ensures,
    )
