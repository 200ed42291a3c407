-- Holes and covered bytes tile the total, and each hole is as long as possible.
-- Assumes nothing.
use Prim.Native.Nat.{ℕ, zero, suc, ◌+◌, ◌-◌, ◌≤◌, ◌<◌}
use mathlib.Core.Path.{◌≡◌, refl, sym, ap, ◌∙◌}
use mathlib.Core.Bool.{Bool, true, false, not, ◌||◌, false≢true}
use mathlib.Core.List.{◌∷◌}
use native.Mathlib.Omega.{arith}
use borrow.Author.Tests.{ltb-true, ltb-false, lt-ltb, le-ltb, le-leb, lt-leb, not-true, not-false}
use lib.Dec.{ltb}
use Rattle.wire.proofs.Cases.{by_bool, by_lt}
use Rattle.salvage.specs.Holes.{hole_start, hole_end, hole, holes_from, holes_of, in_hole}
use Rattle.salvage.specs.Tiles.{in_holes, hole_stop, Longest}
use Rattle.salvage.proofs.HoleLaws.{start_next, end_next, start_from, end_from, end_after, end_upto}

module _ (m : ℕ → Bool) (n : ℕ) where
  -- ---- in a hole exactly if not marked
  in_hole_lem : (a b i : ℕ) → a ≤ i → i < b → in_hole (hole a b) i ≡ true
  in_hole_lem a b i l u = rw (le-leb a i l, lt-ltb i (a + (b - a)) (omega arith))

  before_hole : (a b i : ℕ) → i < a → in_hole (hole a b) i ≡ false
  before_hole a b i l = rw (lt-leb a i l)

  behind_hole : (a b i : ℕ) → a ≤ b → b ≤ i → in_hole (hole a b) i ≡ false
  behind_hole a b i l u = rw (le-leb a i (omega arith), le-ltb i (a + (b - a)) (omega arith))

  none_before : (k a i : ℕ) → i < a → in_holes (holes_from m n k a) i ≡ false
  unfolding holes_from
  none_before zero a i l = refl
  none_before (suc k) a i l =
      let s = start_from m n a in
      let e = end_from m n a in
      by_bool _ (ltb (hole_start m n a) n)
      (λ t. rw t (ap (λ (b : Bool). b || in_holes (holes_from m n k (hole_end m n a)) i) (before_hole (hole_start m n a) (hole_end m n a) i (omega arith))
      ∙ none_before k (hole_end m n a) i (omega arith)))
      (λ t. rw t)

  tiles : (k a i : ℕ) → n - a ≤ k → a ≤ i → i < n → in_holes (holes_from m n k a) i ≡ not (m i)
  unfolding holes_from
  tiles zero a i l g u = absurd (omega arith)
  tiles (suc k) a i l g u =
      by_bool _ (ltb (hole_start m n a) n)
      (λ t. rw t (some (ltb-true (hole_start m n a) n t) (λ j x. tiles k (hole_end m n a) i j x u)))
      (λ t. rw t (sym ((start_next m n a).none i g (let w = ltb-false (hole_start m n a) n t in omega arith))))
    where
      some : hole_start m n a < n → (n - hole_end m n a ≤ k → hole_end m n a ≤ i → in_holes (holes_from m n k (hole_end m n a)) i ≡ not (m i))
          → (in_hole (hole (hole_start m n a) (hole_end m n a)) i || in_holes (holes_from m n k (hole_end m n a)) i) ≡ not (m i)
      some s more =
          let f = start_from m n a in
          let e = end_after m n a s in
          by_lt _ i (hole_start m n a)
          (λ b. ap (λ (x : Bool). x || in_holes (holes_from m n k (hole_end m n a)) i) (before_hole (hole_start m n a) (hole_end m n a) i b)
          ∙ none_before k (hole_end m n a) i (omega arith) ∙ sym ((start_next m n a).none i g b))
          (λ b. by_lt _ i (hole_end m n a)
          (λ c. ap (λ (x : Bool). x || in_holes (holes_from m n k (hole_end m n a)) i) (in_hole_lem (hole_start m n a) (hole_end m n a) i b c) ∙ sym (ap not ((end_next m n a).none i b c)))
          (λ c. ap (λ (x : Bool). x || in_holes (holes_from m n k (hole_end m n a)) i) (behind_hole (hole_start m n a) (hole_end m n a) i (omega arith) c)
          ∙ more (omega arith) c))

  -- an offset below total lies in a hole exactly if it is not marked
  pub holes_tile : (i : ℕ) → i < n → in_holes (holes_of m n) i ≡ not (m i)
  holes_tile i u = tiles n 0 i (omega arith) (omega arith) u

  -- ---- each is as long as possible
  stop_is : (a b : ℕ) → a ≤ b → hole_stop (hole a b) ≡ b
  stop_is a b l = omega arith

  -- right before a hole; a is 0, or marked, or past the total
  right_before : (a j : ℕ) → (1 ≤ a → a < n → m a ≡ true) → hole_start m n a < n → suc j ≡ hole_start m n a → m j ≡ true
  right_before a j h s e =
      let f = start_from m n a in
      by_lt _ j a
      (λ l. let q : hole_start m n a ≡ a = omega arith in
      let t : m (hole_start m n a) ≡ true = ap m q ∙ h (omega arith) (omega arith) in
      absurd (false≢true (sym (not-true (m (hole_start m n a)) ((start_next m n a).some s)) ∙ t)))
      (λ l. not-false (m j) ((start_next m n a).none j l (omega arith)))

  longest : (k a : ℕ) → (1 ≤ a → a < n → m a ≡ true) → Longest m n a (holes_from m n k a)
  unfolding holes_from
  longest zero a h = tt
  longest (suc k) a h = by_bool _ (ltb (hole_start m n a) n) (λ t. rw t (some (ltb-true (hole_start m n a) n t) (longest k (hole_end m n a)))) (λ t. rw t tt)
    where
      some : hole_start m n a < n → ((1 ≤ hole_end m n a → hole_end m n a < n → m (hole_end m n a) ≡ true) → Longest m n (hole_end m n a) (holes_from m n k (hole_end m n a)))
          → Longest m n a (hole (hole_start m n a) (hole_end m n a) ∷ holes_from m n k (hole_end m n a))
      some s more =
          let e = end_after m n a s in
          let u = end_upto m n a s in
          let q = stop_is (hole_start m n a) (hole_end m n a) (end_from m n a) in
          (start_from m n a, omega arith, omega arith, λ j z. right_before a j h s z, rw q (end_next m n a).some, rw q (more (λ x y. (end_next m n a).some y)))

  pub holes_longest : Longest m n 0 (holes_of m n)
  holes_longest = longest n 0 (λ l u. absurd (omega arith))
