use Rattle.network_header.specs.Numbers.{agree}
use lib.ListN.{take, drop}
use mathlib.Core.Path.{◌≡◌}
use Prim.Native.Nat.{◌*◌}
use Rattle.network_header.proofs.numbers.numbers_agree.Given as goal

abbrev pub invariant-loop-i : goal.invariant-loop-i
invariant-loop-i l = agree (drop l.i (take l.n l.numbers)) l.bytes (2 * l.i) ≡ agree (take l.n l.numbers) l.bytes 0
