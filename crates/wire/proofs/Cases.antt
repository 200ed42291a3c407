-- Splits on a test. Assumes nothing.
use Prim.Native.Nat.{ℕ, ◌≤◌, ◌<◌}
use mathlib.Core.Path.{◌≡◌, refl}
use mathlib.Core.Bool.{Bool, true, false}
use lib.Dec.{ltb, eqb}
use borrow.Author.Tests.{ltb-true, ltb-false, eqb-true, eqb-false}

pub by_bool : (P : Type 0) (b : Bool) → (b ≡ true → P) → (b ≡ false → P) → P
by_bool P true f g = f refl
by_bool P false f g = g refl

pub by_eq : (P : Type 0) (a b : ℕ) → (a ≡ b → P) → ((a ≡ b → ⊥) → P) → P
by_eq P a b f g = by_bool P (eqb a b) (λ e. f (eqb-true a b e)) (λ e. g (eqb-false a b e))

pub by_lt : (P : Type 0) (a b : ℕ) → (a < b → P) → (b ≤ a → P) → P
by_lt P a b f g = by_bool P (ltb a b) (λ e. f (ltb-true a b e)) (λ e. g (ltb-false a b e))
