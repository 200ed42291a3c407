use Rattle.marks.proofs.WholeLaws.{whole_join}
use Rattle.marks.proofs.CountLaws.{count_most}
use Rattle.marks.specs.Marks.{in_use, marked}
use native.Mathlib.Omega.{arith}
use Prim.Native.Nat.{◌+◌, ◌*◌, ◌-◌, ◌/◌}
use Rattle.marks.proofs.whole.count_whole.Goals as goal

pub overflow_add-result : goal.overflow_add-result
overflow_add-result c =
    let fours = (c.args.last - c.args.first) / 32 in
    let few = count_most (256 * fours) (λ j. marked in_use c.args.marks.now (8 * c.args.first + j)) in
    let rest = count_most (8 * (c.args.last - (c.args.first + 32 * fours))) (λ j. marked in_use c.args.marks.now (8 * (c.args.first + 32 * fours) + j)) in
    omega arith

pub returns : goal.returns
returns c =
    let args = c.args in
    whole_join args.marks.now args.first args.last ((args.last - args.first) / 32) _ _ (omega arith) c.count_fours.ensures c.count_bytes.ensures
