use Rattle.vector_lines.proofs.Laying.{Laid}
use Rattle.vector_lines.specs.Bytes.{hex_or, times}
use Rattle.text.specs.Hex.{hex_of}
use mathlib.Core.Path.{◌≡◌}
use Prim.Native.Nat.{◌-◌}
use lib.ListN.{length}
use Rattle.vector_lines.proofs.bytes.put_times.Given as goal

abbrev pub invariant-loop : goal.invariant-loop
invariant-loop l =
    (length l.out ≡ length l.initial.out)
    × Laid (times l.n (hex_or (hex_of l.digits))) (times (l.n - l.counter) (hex_or (hex_of l.digits))) l.initial.out l.at l.out l.next
