-- A run of offsets where nothing is marked, as the code's test tells it.
-- Assumes nothing.
use Prim.Native.Nat.{ℕ, ◌+◌, ◌-◌}
use mathlib.Core.Path.{◌≡◌, sym, ◌∙◌}
use mathlib.Core.List.{List}
use native.Mathlib.Omega.{arith}
use Rattle.marks.specs.Offsets.{count_below}
use Rattle.marks.specs.Marks.{in_use, marked}
use Rattle.reassembly.specs.Views.{between, overlaid}
use Rattle.reassembly.specs.Areas.{marked_view}
use Rattle.reassembly.proofs.ViewLaws.{run_none}
use Rattle.reassembly.proofs.AreaLaws.{source_none}

pub run_bare : (p q n : List ℕ) (a b c : ℕ) → c ≡ count_below (b - a) (λ j. marked in_use n (a + j)) → c ≡ 0
    → p ≡ overlaid (between a b (marked_view in_use b q n)) p
run_bare p q n a b c e z = run_none (marked_view in_use b q n) p a b (source_none in_use b q n a b (omega arith) (sym e ∙ z))
