-- The holes one after the other: what a step says of the rest, and that it goes on.
-- Assumes nothing.
use Prim.Native.Nat.{ℕ, zero, suc, ◌+◌, ◌-◌, ◌≤◌, ◌<◌}
use mathlib.Core.Path.{◌≡◌, refl, sym, ap, ◌∙◌}
use mathlib.Core.Bool.{Bool, true, false, not, false≢true}
use mathlib.Core.List.{List, [], ◌∷◌}
use native.Mathlib.Omega.{arith}
use borrow.Author.Tests.{ltb-true, ltb-false, le-ltb, not-true}
use lib.Dec.{ltb}
use lib.ListN.{length}
use Rattle.wire.proofs.Cases.{by_bool, by_eq, by_lt}
use Rattle.marks.proofs.NextLaws.{Next, next_next}
use Rattle.std.proofs.lemmas.Option.{some_pair_parts, none-some}
use Rattle.salvage.specs.Holes.{hole_start, hole_end, hole, next_hole, holes_from, holes_of}
use Rattle.salvage.specs.declared.holes.Hole.{Hole}
use Rattle.std.specs.Prelude.{Option, Some, None}

module _ (m : ℕ → Bool) (n : ℕ) where
  pub start_next : (i : ℕ) → Next (λ j. not (m j)) n i (hole_start m n i)
  start_next i = next_next (λ j. not (m j)) n i

  pub end_next : (i : ℕ) → Next m n (hole_start m n i) (hole_end m n i)
  end_next i = next_next m n (hole_start m n i)

  pub start_from : (i : ℕ) → i ≤ hole_start m n i
  start_from i = (start_next i).from

  pub end_from : (i : ℕ) → hole_start m n i ≤ hole_end m n i
  end_from i = (end_next i).from

  -- a hole has a byte
  pub end_after : (i : ℕ) → hole_start m n i < n → hole_start m n i < hole_end m n i
  end_after i l = by_eq _ (hole_end m n i) (hole_start m n i)
      (λ e. let t : m (hole_start m n i) ≡ true = sym (ap m e) ∙ (end_next i).some (omega arith) in
      absurd (false≢true (sym (not-true (m (hole_start m n i)) ((start_next i).some l)) ∙ t)))
      (λ e. let u = end_from i in omega arith)

  pub end_upto : (i : ℕ) → hole_start m n i < n → hole_end m n i ≤ n
  end_upto i l = by_bool _ (ltb n (hole_end m n i))
      (λ t. let q = (end_next i).upto (ltb-true n (hole_end m n i) t) in omega arith)
      (λ t. ltb-false n (hole_end m n i) t)

  -- all that are left from i on
  abbrev pub holes_after : ℕ → List Hole
  holes_after i = holes_from m n (n - i) i

  no_more : (k i : ℕ) → n ≤ i → holes_from m n k i ≡ []
  unfolding holes_from
  no_more zero i l = refl
  no_more (suc k) i l = let f = start_from i in rw (le-ltb (hole_start m n i) n (omega arith))

  enough : (k j i : ℕ) → n - i ≤ k → n - i ≤ j → holes_from m n k i ≡ holes_from m n j i
  unfolding holes_from
  enough zero j i l u = sym (no_more j i (omega arith))
  enough (suc k) zero i l u = no_more (suc k) i (omega arith)
  enough (suc k) (suc j) i l u =
      by_bool _ (ltb (hole_start m n i) n)
      (λ t. let a = start_from i in let s = ltb-true (hole_start m n i) n t in let b = end_after i s in
      rw t (ap (λ (hs : List Hole). hole (hole_start m n i) (hole_end m n i) ∷ hs) (enough k j (hole_end m n i) (omega arith) (omega arith))))
      (λ t. rw t)

  abbrev pub then_holes : Option (Hole × ℕ) → List Hole
  then_holes (Some (h, end)) = h ∷ holes_after end
  then_holes None = []

  pub holes_step : (i : ℕ) → holes_after i ≡ then_holes (next_hole m n i)
  unfolding holes_from
  holes_step i =
      by_bool _ (ltb (hole_start m n i) n)
      (λ t. let a = start_from i in let s = ltb-true (hole_start m n i) n t in let b = end_after i s in
      let z : n - i ≡ suc (n - i - 1) = omega arith in
      ap (λ (k : ℕ). holes_from m n k i) z
      ∙ rw t (ap (λ (hs : List Hole). hole (hole_start m n i) (hole_end m n i) ∷ hs) (enough (n - i - 1) (n - hole_end m n i) (hole_end m n i) (omega arith) (omega arith))))
      (λ t. none t (n - i))
    where
      none : ltb (hole_start m n i) n ≡ false → (k : ℕ) → holes_from m n k i ≡ then_holes (next_hole m n i)
      none t zero = rw t
      none t (suc k) = rw t

  pub holes_start : holes_after 0 ≡ holes_of m n
  holes_start = enough (n - 0) n 0 (omega arith) (omega arith)

  pub hole_moves : (i : ℕ) (h : Hole) (end : ℕ) → Some (h, end) ≡ next_hole m n i → (i < end) × (end ≤ n)
  hole_moves i h end e = go (ltb (hole_start m n i) n) refl
    where
      is_end : {h g : Hole} {a b : ℕ} → ◌≡◌ {A = Option (Hole × ℕ)} (Some (h, a)) (Some (g, b)) → a ≡ b
      is_end e = (some_pair_parts _ _ _ _ e).1

      go : (b : Bool) → ltb (hole_start m n i) n ≡ b → (i < end) × (end ≤ n)
      go true t =
          let q : ◌≡◌ {A = Option (Hole × ℕ)} (Some (h, end)) (Some (hole (hole_start m n i) (hole_end m n i), hole_end m n i)) = rw t at e in
          let z : end ≡ hole_end m n i = is_end q in
          let a = start_from i in let s = ltb-true (hole_start m n i) n t in let b = end_after i s in let u = end_upto i s in
          (omega arith, omega arith)
      go false t = let q : ◌≡◌ {A = Option (Hole × ℕ)} (Some (h, end)) None = rw t at e in absurd (none-some (h, end) (sym q))

  -- ---- two holes have a byte between them, so that there are at most half as many as offsets, rounded up
  abbrev Most : ℕ → List Hole → Type 0
  Most i hs = (length hs + length hs ≤ n - i + 1) × (m i ≡ true → length hs + length hs ≤ n - i)

  most_next : (i : ℕ) (hs : List Hole) → hole_start m n i < n → (hole_end m n i < n → length hs + length hs ≤ n - hole_end m n i) → (n ≤ hole_end m n i → hs ≡ [])
      → Most i (hole (hole_start m n i) (hole_end m n i) ∷ hs)
  most_next i hs l some none =
      let a = start_from i in
      let b = end_after i l in
      let u = end_upto i l in
      let r : length hs + length hs ≤ n - hole_end m n i = by_lt _ (hole_end m n i) n some (λ g. let z : length hs ≡ 0 = ap length (none g) in omega arith) in
      (omega arith, λ t. let s : i < hole_start m n i = behind t in omega arith)
    where
      behind : m i ≡ true → i < hole_start m n i
      behind t = by_eq _ (hole_start m n i) i
          (λ e. absurd (false≢true (sym (not-true (m (hole_start m n i)) ((start_next i).some l)) ∙ ap m e ∙ t)))
          (λ e. let a = start_from i in omega arith)

  most_from_lem : (k i : ℕ) → Most i (holes_from m n k i)
  unfolding holes_from
  most_from_lem zero i = (omega arith, λ t. omega arith)
  most_from_lem (suc k) i =
      by_bool _ (ltb (hole_start m n i) n)
      (λ t. let s = ltb-true (hole_start m n i) n t in
      rw t (most_next i (holes_from m n k (hole_end m n i)) s (λ l. (most_from_lem k (hole_end m n i)).1 ((end_next i).some l)) (λ l. no_more k (hole_end m n i) l)))
      (λ t. rw t (omega arith, λ u. omega arith))

  pub holes_most : length (holes_of m n) + length (holes_of m n) ≤ n + 1
  holes_most = let h = (most_from_lem n 0).0 in omega arith
