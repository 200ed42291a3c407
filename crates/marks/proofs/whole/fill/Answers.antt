use Rattle.marks.proofs.WholeLaws.{filled}
use lib.ListN.{drop, length-drop}
use lib.Seq.{length-take-le}
use native.Mathlib.Omega.{arith}
use Prim.Native.Nat.{◌-◌}
use Rattle.marks.proofs.whole.fill.Goals as goal

pub returns : goal.returns
returns c =
    let a = c.args in
    let long = length-take-le (a.last - a.first) (drop a.first a.marks.now) (omega (arith, length-drop a.first a.marks.now)) in
    filled a.marks.now a.first a.last _ (omega arith) (omega arith) (λ i. omega (arith, c.slice_known-1.given i)) long (c.fill.ensures.after (λ y h. h))
