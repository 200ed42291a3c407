use Rattle.reassembly.proofs.QuickLaws.{added_most}
use native.Mathlib.Omega.{arith}
use Rattle.reassembly.proofs.quick.add_data.Goals as goal

pub overflow_add-result : goal.overflow_add-result
overflow_add-result c =
    let most = added_most c.args.payload.now c.args.marks.now c.args.offset
    c.args.bytes.now _ _ _ c.add_marks.ensures c.in-Some.is c.requires.1 in
    omega (arith, c.requires.0, c.requires.2)
