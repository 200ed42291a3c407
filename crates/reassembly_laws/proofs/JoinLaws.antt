-- Laws of two and three views put together. Assumes nothing.
use Prim.Native.Nat.{ℕ}
use mathlib.Core.Path.{◌≡◌, refl, sym, ap, ◌∙◌}
use mathlib.Core.Bool.{false, not, false≢true}
use mathlib.Core.Option.{Option, some, none, or_else}
use lib.Dec.{eqb}
use borrow.Author.Tests.{eq-eqb, eqb-true, not-false}
use Rattle.reassembly.specs.Views.{View, differs, clash}
use Rattle.wire.proofs.Cases.{by_bool}
use Rattle.marks.proofs.OffsetLaws.{any_ext}

differs_eq : (x y : ℕ) → not (eqb x y) ≡ false → x ≡ y
differs_eq x y e = eqb-true x y (not-false (eqb x y) e)

pub differs_refl : (o : Option ℕ) → differs o o ≡ false
differs_refl (some x) = ap not (eq-eqb x x refl)
differs_refl none = refl

eqb_comm : (x y : ℕ) → eqb x y ≡ eqb y x
eqb_comm x y =
    by_bool _ (eqb x y) (λ e. e ∙ sym (eq-eqb y x (sym (eqb-true x y e))))
    (λ e. by_bool _ (eqb y x) (λ f. absurd (false≢true (sym e ∙ eq-eqb x y (sym (eqb-true y x f))))) (λ f. e ∙ sym f))

pub differs_comm : (o p : Option ℕ) → differs o p ≡ differs p o
differs_comm (some x) (some y) = ap not (eqb_comm x y)
differs_comm (some x) none = refl
differs_comm none (some y) = refl
differs_comm none none = refl

pub clash_comm : (n : ℕ) (v w : View) → clash n v w ≡ clash n w v
unfolding clash
clash_comm n v w = any_ext n _ _ (λ i h. differs_comm (v i) (w i))

-- where nothing differs, the order does not matter
pub first_comm : (o p : Option ℕ) → differs o p ≡ false → or_else o p ≡ or_else p o
unfolding or_else
first_comm (some x) (some y) e = ap some (differs_eq x y e)
first_comm (some x) none e = refl
first_comm none (some y) e = refl
first_comm none none e = refl

pub first_assoc : (o p q : Option ℕ) → or_else (or_else o p) q ≡ or_else o (or_else p q)
unfolding or_else
first_assoc (some x) p q = refl
first_assoc none p q = refl

-- what differs from neither differs from both together, and the other way round
pub differs_first : (o p q : Option ℕ) → differs o q ≡ false → differs p q ≡ false → differs (or_else o p) q ≡ false
unfolding or_else
differs_first (some x) p q d e = d
differs_first none p q d e = e

pub differs_left : (o p q : Option ℕ) → differs (or_else o p) q ≡ false → differs o q ≡ false
unfolding or_else
differs_left (some x) p q e = e
differs_left none p q e = refl

pub differs_right : (o p q : Option ℕ) → differs o p ≡ false → differs (or_else o p) q ≡ false → differs p q ≡ false
unfolding or_else
differs_right (some x) (some y) q d e = ap (λ (z : ℕ). differs (some z) q) (sym (differs_eq x y d)) ∙ e
differs_right (some x) none q d e = refl
differs_right none p q d e = e
