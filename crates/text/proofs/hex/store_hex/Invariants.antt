use mathlib.Core.Path.{◌≡◌}
use Prim.Native.Nat.{◌+◌, ◌*◌}
use lib.Seq.{sets}
use lib.ListN.{length, drop}
use Rattle.text.specs.Hex.{hex_text}
use Rattle.text.proofs.hex.store_hex.Given as goal

abbrev pub invariant-loop-i : goal.invariant-loop-i
invariant-loop-i l =
    (length l.out ≡ length l.initial.out) × (sets l.out (l.at + 2 * l.i) (hex_text (drop l.i l.s)) ≡ sets l.initial.out l.at (hex_text l.s))
