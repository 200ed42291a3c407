use lib.ListN.{get_or}
use mathlib.Core.Path.{◌≡◌}
use Prim.Native.Nat.{◌+◌, ◌%◌}
use native.Mathlib.Omega.{arith}
use Rattle.value.proofs.Looks.{matrix_look, unit_width}
use Rattle.value.proofs.quick.plain_matrix.Goals as goal

pub returns : goal.returns
returns c =
    let a = c.args in
    let b = get_or a.s.now a.at 0 in
    let byte : b ≡ b % 64 + 192 = omega (arith, c.type_inv.s a.at) in
    rw (matrix_look a.s.now a.at (b % 64) _ (omega arith) byte (omega arith) (omega arith) (unit_width _ _ c.scalar_size-size.ensures.0 (omega arith)))
    c.matrix_look.ensures
