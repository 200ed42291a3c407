-- Picoseconds of 10,000 and up are refused by 3, at their turn in reading order.
-- Assumes nothing.
use Rattle.std.specs.Prelude.{Option, Some, None}
use mathlib.Core.Path.{◌≡◌, refl}
use mathlib.Core.Bool.{Bool, true, false, cond, not, ◌&&◌}
use mathlib.Core.List.{List}
use Prim.Native.Nat.{ℕ}
use borrow.Author.Tests.{eqb-true, not-true}
use lib.Dec.{eqb, leb}
use Rattle.wire.proofs.Facts.{and_left, and_right}
use Rattle.wire_writer.specs.Writing.{or_else, unless, refusing, picoseconds_refusal}
use Rattle.wire_writer.proofs.Refusals.{both_zero, no}

-- what refuses them is 3
pub three : (o : Option ℕ) → eqb (picoseconds_refusal o) 0 ≡ false → picoseconds_refusal o ≡ 3
three None h = absurd (no h)
three (Some v) h = go (leb 10000 v) h
  where
    go : (t : Bool) → eqb (cond t 3 0) 0 ≡ false → ◌≡◌ {A = ℕ} (cond t 3 0) 3
    go true h = refl
    go false h = absurd (no h)

-- their turn: what stands before them is not refused, and they are
module _ (before p : ℕ) (h : eqb before 0 && not (eqb p 0) ≡ true) where
  nothing_before : before ≡ 0
  nothing_before = eqb-true before 0 (and_left (eqb before 0) (not (eqb p 0)) h)

  pub their_refusal : eqb p 0 ≡ false
  their_refusal = not-true (eqb p 0) (and_right (eqb before 0) (not (eqb p 0)) h)

-- behind one rule, and behind five
pub behind_one : (k p r b : ℕ) (bytes : List ℕ) → eqb k 0 && not (eqb p 0) ≡ true → unless (or_else (or_else k (or_else p r)) b) bytes ≡ refusing p
behind_one k p r b bytes h =
    let y = their_refusal k p h in
    rw (nothing_before k p h, y, y, y)

pub behind_five : (a b c d e p r k : ℕ) (bytes : List ℕ) → eqb (or_else a (or_else b (or_else c (or_else d e)))) 0 && not (eqb p 0) ≡ true
    → unless (or_else (or_else a (or_else b (or_else c (or_else d (or_else e (or_else p r)))))) k) bytes ≡ refusing p
behind_five a b c d e p r k bytes h =
    let before = or_else a (or_else b (or_else c (or_else d e))) in
    let z1 = both_zero a (or_else b (or_else c (or_else d e))) (nothing_before before p h) in
    let z2 = both_zero b (or_else c (or_else d e)) z1.1 in
    let z3 = both_zero c (or_else d e) z2.1 in
    let z4 = both_zero d e z3.1 in
    let y = their_refusal before p h in
    rw (z1.0, z2.0, z3.0, z4.0, z4.1, y, y, y)
