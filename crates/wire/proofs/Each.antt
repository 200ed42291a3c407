-- A loop over `each` that counts down what is left: its end, one turn, and a refusal.
-- Assumes nothing.
use mathlib.Core.Path.{◌≡◌, refl, ap}
use mathlib.Core.List.{List}
use Prim.Native.Nat.{ℕ, zero, suc, ◌-◌, ◌<◌, ◌≤◌}
use native.Mathlib.Nat.{not-suc-le-zero}
use native.Mathlib.Numerals.{sub-one}
use Rattle.wire.specs.Answer.{got, refused, Reader, and_then, each}

module _ {A : Type 0} (r : Reader A) (s : List ℕ) where
  pub each_done : (left p : ℕ) → left ≤ 0 → each r left s p ≡ got tt p
  unfolding each
  each_done zero p h = refl
  each_done (suc k) p h = absurd (not-suc-le-zero h)

  pub each_step : (left p : ℕ) → 0 < left → {a : A} {e : ℕ} → r s p ≡ got a e → each r left s p ≡ each r (left - 1) s e
  unfolding each
  each_step zero p h q = absurd (not-suc-le-zero h)
  each_step (suc k) p h q = rw (sub-one (suc k)) (ap (λ x. and_then x (λ a next. each r k s next)) q)

  pub each_stop : (left p : ℕ) → 0 < left → {n place : ℕ} → r s p ≡ refused n place → each r left s p ≡ refused n place
  unfolding each
  each_stop zero p h q = absurd (not-suc-le-zero h)
  each_stop (suc k) p h q = ap (λ x. and_then x (λ a next. each r k s next)) q
