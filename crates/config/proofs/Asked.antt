-- What is asked of a configuration's lists.
-- Assumes nothing.
use mathlib.Core.Path.{◌≡◌, refl, ap, sym, ◌∙◌}
use mathlib.Core.Bool.{Bool, true, false, ◌||◌}
use mathlib.Core.List.{List, [], ◌∷◌}
use Prim.Native.Nat.{ℕ, zero, suc, ◌+◌, ◌-◌, ◌≤◌, ◌<◌}
use native.Mathlib.Omega.{arith}
use borrow.Author.Tests.{lt-ltb, le-ltb}
use lib.Dec.{ltb, eqb}
use Rattle.std.specs.List.{list_any}
use lib.ListN.{length, take, drop, get_or, length-drop, get_or-eq_default}
use lib.Seq.{take_all, take-nil, drop-length}
use Rattle.wire.specs.Lists.{total}
use Rattle.text.specs.Words.{contains, index_of}
use Rattle.text.proofs.Lists.{at_next, at_end}
use Rattle.text.proofs.Parts.{contains_place, lacks_place}
use Rattle.config.specs.Writers.{start_of, fields_of, fields_of_id}

-- a number is in a list where its place is one of the list's
pub place_contains : (x : ℕ) (t : List ℕ) → ltb (index_of x t) (length t) ≡ contains x t
place_contains x t = go (contains x t) refl
  where
    go : (u : Bool) → contains x t ≡ u → ltb (index_of x t) (length t) ≡ contains x t
    go true h = lt-ltb _ _ (contains_place x t h) ∙ sym h
    go false h = le-ltb _ _ (lacks_place x t h) ∙ sym h

-- the same as the library's `contains` tests it
pub any_contains : (x : ℕ) (t : List ℕ) → list_any (λ y. eqb y x) t ≡ contains x t
any_contains x [] = refl
any_contains x (y ∷ t) = ap (λ (b : Bool). eqb y x || b) (any_contains x t)

-- the field types of a writer: of an id that no writer has, and of writer k
pub id_none : (ids starts types r : List ℕ) (w k : ℕ) → k ≡ index_of w ids → length ids ≤ k → r ≡ take 0 (drop 0 types) → r ≡ fields_of_id ids starts types w
id_none ids starts types r w k p h q =
    let e : contains w ids ≡ false = sym (place_contains w ids) ∙ ap (λ (x : ℕ). ltb x (length ids)) (sym p) ∙ le-ltb k (length ids) h in
    rw e q

pub id_some : (ids starts types r : List ℕ) (w k : ℕ) → k ≡ index_of w ids → k < length ids → r ≡ fields_of starts types k → r ≡ fields_of_id ids starts types w
id_some ids starts types r w k p h q =
    let e : contains w ids ≡ true = sym (place_contains w ids) ∙ ap (λ (x : ℕ). ltb x (length ids)) (sym p) ∙ lt-ltb k (length ids) h in
    rw e (q ∙ ap (fields_of starts types) p)

-- below a list's length it does not matter what stands for the places past it
same_at : (l : List ℕ) (k d e : ℕ) → k < length l → get_or l k d ≡ get_or l k e
same_at [] k d e h = absurd (omega arith)
same_at (x ∷ l) zero d e h = refl
same_at (x ∷ l) (suc k) d e h = same_at l k d e (omega arith)

module _ (starts types : List ℕ) (k : ℕ) where
  pub no_start : length starts ≤ k → [] ≡ fields_of starts types k
  no_start h =
      rw (get_or-eq_default starts (length types) h, drop-length types) (sym (take-nil (start_of starts types (k + 1) - length types)))

  module _ (h : k < length starts) where
    start : start_of starts types k ≡ get_or starts k 0
    start = same_at starts k (length types) 0 h

    pub last_fields : length starts ≤ k + 1 → take (length types) (drop (get_or starts k 0) types) ≡ fields_of starts types k
    last_fields l =
        rw (start, get_or-eq_default starts (length types) l)
        (take_all (length types) (drop (get_or starts k 0) types) (omega (arith, length-drop (get_or starts k 0) types))
        ∙ sym (take_all (length types - get_or starts k 0) (drop (get_or starts k 0) types) (omega (arith, length-drop (get_or starts k 0) types))))

    module _ (l : k + 1 < length starts) where
      next : start_of starts types (k + 1) ≡ get_or starts (k + 1) 0
      next = same_at starts (k + 1) (length types) 0 l

      pub no_fields : get_or starts (k + 1) 0 < get_or starts k 0 → [] ≡ fields_of starts types k
      no_fields e = let z : get_or starts (k + 1) 0 - get_or starts k 0 ≡ 0 = omega arith in rw (start, next, z)

      pub some_fields : take (get_or starts (k + 1) 0 - get_or starts k 0) (drop (get_or starts k 0) types) ≡ fields_of starts types k
      some_fields = rw (start, next)

-- a sum, one number more
pub sum_next : (l : List ℕ) (i a r : ℕ) → i < length l → a + total (drop i l) ≡ r → a + get_or l i 0 + total (drop (i + 1) l) ≡ r
sum_next l i a r h v = let z : a + (get_or l i 0 + total (drop (i + 1) l)) ≡ r = rw (at_next l i h) at v in omega arith

pub sum_all : (l : List ℕ) (i a r : ℕ) → length l ≤ i → a + total (drop i l) ≡ r → a ≡ r
sum_all l i a r h v = let z : a + 0 ≡ r = rw (at_end l i h) at v in omega arith
