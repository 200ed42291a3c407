use Rattle.value.proofs.Looks.{array_look}
use Rattle.plain_value.proofs.Widths.{positive}
use native.Mathlib.Omega.{arith}
use Rattle.value.proofs.quick.plain_other.Goals as goal

pub returns : goal.returns
returns g c =
    let some = positive _ c.if-w-eq0.false in
    let u = c.array_unit-w.ensures.0 some in
    rw (array_look c.args.s.now c.args.at _ c.array_unit-w.result c.requires u.0 (omega arith) some u.1) c.plain_array.ensures
