-- Laws of lists of sizes: one size more, from the front and from the back.
-- Assumes nothing.
use Prim.Native.Nat.{ℕ, zero, suc, ◌+◌, ◌-◌, ◌<◌, ◌≤◌}
use mathlib.Core.Path.{◌≡◌, refl, ap, sym, ◌∙◌}
use mathlib.Core.Bool.{Bool, ◌&&◌, and_assoc, and-true}
use mathlib.Core.List.{List, [], ◌∷◌, ◌++◌}
use native.Mathlib.Nat.{not-suc-le-zero}
use native.Mathlib.Numerals.{sub-one, add-one}
use native.Mathlib.Omega.{arith}
use lib.Dec.{ltb}
use lib.ListN.{length, take, drop, get_or}
use lib.Seq.{take-suc, get_or-drop}
use Rattle.wire.specs.Lists.{total}
use Rattle.network_message.specs.Payload.{all_positive, listed}
use Rattle.wire.specs.Number.{le}

-- the sizes of a list on the wire, one after the other
pub listed_step : (left : ℕ) (s : List ℕ) (p : ℕ) → 0 < left → listed left s p ≡ le 2 s p ∷ listed (left - 1) s (p + 2)
listed_step zero s p h = absurd (not-suc-le-zero h)
listed_step (suc n) s p h = rw sub-one

pub listed_done : (left : ℕ) (s : List ℕ) (p : ℕ) → left ≤ 0 → listed left s p ≡ []
listed_done zero s p h = refl
listed_done (suc n) s p h = absurd (not-suc-le-zero h)

-- the sizes of a list that begins at a position are those that stand from there on
le_tail : (w : ℕ) (s : List ℕ) (at p : ℕ) → le w (drop at s) p ≡ le w s (at + p)
le_tail zero s at p = refl
le_tail (suc w) s at p =
    let e : at + (p + 1) ≡ at + p + 1 = omega arith in
    rw (get_or-drop at s p 0, le_tail w s at (p + 1), e)

listed_after : (n : ℕ) (s : List ℕ) (at p : ℕ) → listed n (drop at s) p ≡ listed n s (at + p)
listed_after zero s at p = refl
listed_after (suc n) s at p =
    let e : at + (p + 2) ≡ at + p + 2 = omega arith in
    rw (le_tail 2 s at p, listed_after n s at (p + 2), e)

pub listed_tail : (n : ℕ) (s t : List ℕ) (at : ℕ) → t ≡ drop at s → listed n t 0 ≡ listed n s at
listed_tail n s t at e = ap (λ (x : List ℕ). listed n x 0) e ∙ listed_after n s at 0 ∙ ap (listed n s) (omega arith)

total_append : (xs ys : List ℕ) → total (xs ++ ys) ≡ total xs + total ys
total_append [] ys = omega arith
total_append (x ∷ xs) ys = omega (arith, total_append xs ys)

positive_append : (xs ys : List ℕ) → all_positive (xs ++ ys) ≡ (all_positive xs && all_positive ys)
positive_append [] ys = refl
positive_append (x ∷ xs) ys = ap (λ (b : Bool). ltb 0 x && b) (positive_append xs ys) ∙ sym (and_assoc (ltb 0 x) (all_positive xs) (all_positive ys))

-- one more of the first sizes of a list
module _ (xs : List ℕ) (i : ℕ) (h : i < length xs) where
  next : take (i + 1) xs ≡ take i xs ++ (get_or xs i 0 ∷ [])
  next = rw add-one (take-suc xs i 0 h)

  pub total_next : total (take (i + 1) xs) ≡ total (take i xs) + get_or xs i 0
  total_next = ap total next ∙ total_append (take i xs) (get_or xs i 0 ∷ []) ∙ omega arith

  pub positive_next : all_positive (take (i + 1) xs) ≡ (all_positive (take i xs) && ltb 0 (get_or xs i 0))
  positive_next = ap all_positive next ∙ positive_append (take i xs) (get_or xs i 0 ∷ []) ∙ ap (λ (b : Bool). all_positive (take i xs) && b) (and-true (ltb 0 (get_or xs i 0)))
