-- Readers of which a front tells what it tells of every whole, wherever their values hold positions too: steady ones, and those that are put
-- together from them and the position.
-- Assumes nothing.
use mathlib.Core.Path.{◌≡◌, sym, subst}
use mathlib.Core.List.{List}
use Prim.Native.Nat.{ℕ, ◌+◌, ◌<◌, ◌≤◌}
use native.Mathlib.Nat.{le_refl, le_trans, le-add_right, le-add_left}
use lib.ListN.{length}
use Rattle.wire.specs.Answer.{Answer, got, refused, Reader, and_then, ◌>>=◌, pure, here}
use Rattle.wire.proofs.Steady.{Ends, ended, stopped, Fronts, Passed, on, faulty, Fronted, alike, ends, Steady}

-- an accepted answer ends from lo up to hi; a refusal by 1 stands at lo or behind it
abbrev pub Bounds : {A : Type 0} → ℕ → ℕ → Answer A → Type 0
Bounds lo hi (got a next) = (lo ≤ next) × (next ≤ hi)
Bounds lo hi (refused k q) = k ≡ 1 → lo ≤ q

pub record Frontal {A : Type 0} (r : Reader A) : Type 0 where
  pub bounds : (s : List ℕ) (at hi : ℕ) → at ≤ hi → length s ≤ hi → Bounds at hi (r s at)
  pub fronts : (f s s' : List ℕ) → Fronts f s s' → (at : ℕ) → at ≤ length f → Fronted (r f at) (r s at) (r s' at)

pub frontal : {A : Type 0} {r : Reader A} → Steady r → Frontal r
frontal h = record { bounds = λ s at hi l u. within (h.within s at hi l u); fronts = h.fronts }
  where
    within : {A : Type 0} {at hi : ℕ} {x : Answer A} → Ends at at hi x → Bounds at hi x
    within (ended l u) = (l, u)
    within (stopped i l u) = λ e. l

pub here_frontal : Frontal here
here_frontal = record { bounds = λ s at hi l u. (le_refl at, l); fronts = λ f s s' front at l. alike }

pub pure_frontal : {A : Type 0} (a : A) → Frontal (pure a)
pure_frontal a = record { bounds = λ s at hi l u. (le_refl at, l); fronts = λ f s s' front at l. alike }

-- a refusal that is not by 1, wherever it stands
pub never_frontal : {A : Type 0} (r : Reader A) (k q : ℕ) → (k ≡ 1 → ⊥) → ((s : List ℕ) (at : ℕ) → r s at ≡ refused k q) → Frontal r
never_frontal {A} r k q h e = record {
  bounds = λ s at hi l u. subst (λ (x : Answer A). Bounds at hi x) (sym (e s at)) (λ i. absurd (h i));
  fronts = λ f s s' front at l. rw (e f at, e s at, e s' at) alike;
}

module _ {A B : Type 0} {r : Reader A} {k : A → Reader B} (f : Frontal r) (h : (a : A) → Frontal (k a)) where
  later : (at mid hi : ℕ) → at ≤ mid → (x : Answer B) → Bounds mid hi x → Bounds at hi x
  later at mid hi l (got b next) (m, u) = (le_trans l m, u)
  later at mid hi l (refused n q) g = λ e. le_trans l (g e)

  then_bounds : (s : List ℕ) (at hi : ℕ) → length s ≤ hi → (x : Answer A) → Bounds at hi x → Bounds at hi (and_then x (λ a next. k a s next))
  then_bounds s at hi u (got a next) (l, m) = later at next hi l (k a s next) ((h a).bounds s next hi m u)
  then_bounds s at hi u (refused n q) g = g

  behind : (s : List ℕ) (p mid hi : ℕ) → p < mid → (x : Answer B) → Bounds mid hi x → Passed p x
  behind s p mid hi l (got b next) (m, u) = on (le_trans l m)
  behind s p mid hi l (refused n q) g = faulty (λ e. le_trans l (g e))

  then_passed : (s : List ℕ) (p : ℕ) {x : Answer A} → Passed p x → Passed p (and_then x (λ a next. k a s next))
  then_passed s p (on {a} {next} l) =
      behind s p next (next + length s) l (k a s next) ((h a).bounds s next (next + length s) (le-add_right next (length s)) (le-add_left (length s) next))
  then_passed s p (faulty g) = faulty g

  then_fronted : (g s s' : List ℕ) → Fronts g s s' → (at : ℕ) (x y z : Answer A) → Bounds at (length g) x → Fronted x y z
      → Fronted (and_then x (λ a next. k a g next)) (and_then y (λ a next. k a s next)) (and_then z (λ a next. k a s' next))
  then_fronted g s s' front at (got a next) y z b alike = (h a).fronts g s s' front next b.1
  then_fronted g s s' front at (refused n q) y z b alike = alike
  then_fronted g s s' front at x y z b (ends i j) = ends (then_passed s _ i) (then_passed s' _ j)

  pub bind_frontal : Frontal (r >>= k)
  bind_frontal = record {
    bounds = λ s at hi l u. then_bounds s at hi u (r s at) (f.bounds s at hi l u);
    fronts = λ g s s' front at l. then_fronted g s s' front at (r g at) (r s at) (r s' at) (f.bounds g at (length g) l (le_refl (length g))) (f.fronts g s s' front at l);
  }
