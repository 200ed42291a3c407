-- A count is below 2^31.
-- Assumes nothing.
use mathlib.Core.Path.{◌≡◌, refl, subst}
use mathlib.Core.Bool.{Bool, true, false, cond}
use mathlib.Core.List.{List}
use Prim.Native.Nat.{ℕ, zero, suc, ◌+◌, ◌-◌, ◌<◌}
use borrow.Author.Tests.{ltb-true}
use lib.Dec.{ltb, leb}
use lib.IntN.{pos, negsuc}
use lib.ListN.{length}
use Rattle.wire.specs.Number.{le, signed}
use Rattle.wire.specs.Answer.{Answer, got, refused}
use Rattle.wire.specs.Items.{length_of, length_item}
use Rattle.wire.specs.declared.Length.{Length}

-- a count, where there is one, is below 2^31
data Small : Answer Length → Type 0 where
  null : {next : ℕ} → Small (got Length.Null next)
  counts : {n next : ℕ} → n < 2147483648 → Small (got (Length.Of n) next)
  negative : {next : ℕ} → Small (got Length.Negative next)
  short : {n place : ℕ} → Small (refused n place)

small_count : {n next : ℕ} → Small (got (Length.Of n) next) → n < 2147483648
small_count (counts h) = h

small : (k next : ℕ) → Small (got (length_of (signed 4 k)) next)
small k next = go (ltb k 2147483648) refl
  where
    below : (m : ℕ) → Small (got (length_of (negsuc m)) next)
    below zero = null
    below (suc m) = negative

    go : (b : Bool) → ltb k 2147483648 ≡ b → Small (got (length_of (cond b (pos k) (negsuc (4294967295 - k)))) next)
    go true e = counts (ltb-true _ _ e)
    go false e = below (4294967295 - k)

pub count_small : (s : List ℕ) (at : ℕ) {n next : ℕ} → length_item s at ≡ got (Length.Of n) next → n < 2147483648
count_small s at q = small_count (subst Small q (go (leb (at + 4) (length s))))
  where
    go : (b : Bool) → Small (cond b (got (length_of (signed 4 (le 4 s at))) (at + 4)) (refused 1 at))
    go true = small (le 4 s at) (at + 4)
    go false = short
