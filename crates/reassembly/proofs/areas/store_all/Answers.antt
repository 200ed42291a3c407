use Rattle.reassembly.proofs.ViewLaws.{copied}
use mathlib.Core.Path.{refl}
use native.Mathlib.Omega.{arith}
use Prim.Native.Nat.{◌-◌}
use Rattle.reassembly.proofs.areas.store_all.Goals as goal

pub returns : goal.returns
returns c =
    let a = c.args in
    copied a.start a.end (a.end - a.start) c.copy_from_slice.new.self a.from.now a.payload.now _ (omega arith) (omega arith) (omega arith) refl
    c.copy_from_slice.ensures.after refl
