use mathlib.Core.List.{List, [], ◌∷◌}
use Prim.Native.Nat.{ℕ}
use native.Mathlib.Omega.{arith}
use Rattle.plain_value.specs.Width.{width_of}
use Rattle.plain_value.proofs.Widths.{past}
use Rattle.plain_value.proofs.Entries.{right, entry}
use Rattle.plain_value.proofs.width.width.Goals as goal

-- the entries of the table
abbrev widths : List ℕ
widths = 0 ∷ 1 ∷ 1 ∷ 1 ∷ 2 ∷ 2 ∷ 4 ∷ 4 ∷ 8 ∷ 8 ∷ 4 ∷ 8 ∷ 0 ∷ 8 ∷ 16 ∷ 0 ∷ 0 ∷ 0 ∷ 0 ∷ 4 ∷ 0 ∷ 0 ∷ 0 ∷ 0 ∷ 0 ∷ 0 ∷ []

pub returns-then-place-ge26 : goal.returns-then-place-ge26
returns-then-place-ge26 c = (past c.args.t (omega arith), omega arith)

pub returns : goal.returns
unfolding right width_of
returns c = entry widths tt c.args.t (omega arith)
