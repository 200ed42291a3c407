-- A list at a place, and the definitions of `specs/Words.antt` as the library's methods say them.
-- Assumes nothing.
use Rattle.std.specs.Prelude.{unwrap_or}
use Rattle.std.specs.List.{position, position_or_len, starts_with as list_starts_with}
use mathlib.Core.Path.{◌≡◌, refl, sym, ap}
use mathlib.Core.Bool.{Bool, true, false, cond, ◌&&◌}
use mathlib.Core.List.{List, [], ◌∷◌}
use Prim.Native.Nat.{ℕ, ◌+◌, ◌≤◌, ◌<◌}
use native.Mathlib.Numerals.{add-one}
use native.Mathlib.Omega.{arith}
use borrow.Author.Tests.{ltb-false}
use lib.Dec.{eqb, ltb}
use lib.ListN.{length, drop, get_or, drop_of_length-le}
use lib.Seq.{drop-cons}
use Rattle.wire.proofs.Cases.{by_bool}
use Rattle.wire.proofs.Facts.{eqb_same}
use Rattle.text.specs.Words.{index_of, starts_with}

pub either_way : {A : Type 0} (b : Bool) (x : A) → cond b x x ≡ x
either_way true x = refl
either_way false x = refl

module _ (s : List ℕ) (i : ℕ) where
  pub at_next : i < length s → drop i s ≡ get_or s i 0 ∷ drop (i + 1) s
  at_next h = rw (add-one, drop-cons s i 0)

  pub at_end : length s ≤ i → drop i s ≡ []
  at_end h = drop_of_length-le s h

-- the place of a byte, as `position` counts it
place_is : (b : ℕ) (s : List ℕ) → position_or_len (λ x. eqb x b) s ≡ index_of b s
place_is b [] = refl
place_is b (x ∷ s) = by_bool _ (eqb x b) (λ e. rw e) (λ e. rw (e, place_is b s) (omega arith))

pub place_within : (b : ℕ) (s : List ℕ) → index_of b s ≤ length s
place_within b [] = omega arith
place_within b (x ∷ s) = by_bool _ (eqb x b) (λ e. rw e (omega arith)) (λ e. rw e (omega (arith, place_within b s)))

pub position_is : (b : ℕ) (s : List ℕ) → unwrap_or (position (λ x. eqb x b) s) (length s) ≡ index_of b s
position_is b s =
    rw (place_is b s)
    (by_bool _ (ltb (index_of b s) (length s)) (λ e. rw e) (λ e. rw e (omega (arith, place_within b s, ltb-false _ _ e))))

-- a text begins with a word, as `starts_with` compares it
pub starts_with_is : (word t : List ℕ) → list_starts_with eqb t word ≡ starts_with t word
starts_with_is [] t = refl
starts_with_is (w ∷ ws) [] = refl
starts_with_is (w ∷ ws) (x ∷ xs) = rw (eqb_same w x x w (λ e. sym e) (λ e. sym e)) (ap (λ (b : Bool). eqb x w && b) (starts_with_is ws xs))
