-- Which types are fixed, and which are plain.
-- Assumes nothing.
use mathlib.Core.Path.{◌≡◌, refl, sym, ◌∙◌}
use mathlib.Core.Bool.{Bool, true, false, ◌&&◌, ◌||◌, beq, and-false}
use mathlib.Core.List.{List, [], ◌∷◌}
use Prim.Native.Nat.{ℕ, zero, suc, ◌<◌, ◌≤◌}
use native.Mathlib.Omega.{arith}
use borrow.Author.Tests.{ne_eqb, lt-leb, le-leb, leb-true, leb-false}
use lib.Dec.{T, leb, ltb, ltb→lt}
use Rattle.plain_value.specs.Width.{among, width_of}
use Rattle.plain_value.specs.Plain.{plain}
use Rattle.wire.proofs.Table.{below, and_left, and_right}

-- every number of the list is below n
abbrev lower : ℕ → List ℕ → Bool
lower n [] = true
lower n (x ∷ xs) = ltb x n && lower n xs

not_among : (n t : ℕ) (xs : List ℕ) → n ≤ t → T (lower n xs) → among t xs ≡ false
not_among n t [] h b = refl
not_among n t (x ∷ xs) h b =
    let l : x < n = ltb→lt x n (and_left (ltb x n) (lower n xs) b) in
    simp (ne_eqb t x (λ e. omega arith)) (not_among n t xs h (and_right (ltb x n) (lower n xs) b))

-- no number from 20 on is fixed
pub past : (t : ℕ) → 20 ≤ t → 0 ≡ width_of t
unfolding width_of
past t h =
    let none : (xs : List ℕ) → T (lower 20 xs) → among t xs ≡ false = λ xs. not_among 20 t xs h in
    rw (none (1 ∷ 2 ∷ 3 ∷ []) tt, none (4 ∷ 5 ∷ []) tt, none (6 ∷ 7 ∷ 10 ∷ 19 ∷ []) tt, none (8 ∷ 9 ∷ 11 ∷ 13 ∷ []) tt, none (14 ∷ []) tt)

-- the plain types are 1 to 15 and 19 to 21

abbrev pub in_range : ℕ → Bool
in_range t = (leb 1 t && leb t 15) || (leb 19 t && leb t 21)

unfoldable same_plain : ℕ → Bool
same_plain t = beq (in_range t) (plain t)

beq_same : (a b : Bool) → T (beq a b) → a ≡ b
beq_same true true h = refl
beq_same false false h = refl
beq_same true false h = absurd h
beq_same false true h = absurd h

above : (t : ℕ) → 22 ≤ t → in_range t ≡ plain t
unfolding plain
above t h =
    simp (lt-leb t 15 (omega arith), lt-leb t 21 (omega arith), sym (past t (omega arith)), not_among 22 t (12 ∷ 15 ∷ []) h tt, not_among 22 t (20 ∷ 21 ∷ []) h tt, and-false)

inside : (t : ℕ) → t < 22 → T (beq (in_range t) (plain t))
unfolding same_plain plain width_of
inside t h = below same_plain 22 tt t h

pub plain_range : (t : ℕ) → in_range t ≡ plain t
plain_range t = go (leb 22 t) refl
  where
    go : (b : Bool) → leb 22 t ≡ b → in_range t ≡ plain t
    go true e = above t (leb-true 22 t e)
    go false e = beq_same (in_range t) (plain t) (inside t (leb-false 22 t e))

pub plain_low : (t : ℕ) → 1 ≤ t → t ≤ 15 → true ≡ plain t
plain_low t a b = rw (sym (plain_range t), le-leb 1 t a, le-leb t 15 b)

pub plain_high : (t : ℕ) → 19 ≤ t → t ≤ 21 → true ≡ plain t
plain_high t a b = rw (sym (plain_range t), le-leb 19 t a, le-leb t 21 b, lt-leb t 15 (omega arith), le-leb 1 t (omega arith))

pub plain_none : (t : ℕ) → (1 ≤ t → 15 < t) → (19 ≤ t → 21 < t) → false ≡ plain t
plain_none t a b = sym (sym (plain_range t) ∙ go (leb 1 t) refl (leb 19 t) refl)
  where
    go : (x : Bool) → leb 1 t ≡ x → (y : Bool) → leb 19 t ≡ y → ((x && leb t 15) || (y && leb t 21)) ≡ false
    go false ex false ey = refl
    go false ex true ey = rw (lt-leb t 21 (b (leb-true 19 t ey)))
    go true ex false ey = rw (lt-leb t 15 (a (leb-true 1 t ex)))
    go true ex true ey = rw (lt-leb t 15 (a (leb-true 1 t ex)), lt-leb t 21 (b (leb-true 19 t ey)))

-- a width that is not 0
pub positive : (n : ℕ) → (n ≡ 0 → ⊥) → 0 < n
positive zero h = absurd (h refl)
positive (suc n) h = omega arith
