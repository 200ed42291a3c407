-- What a layout of marks has to be: what is claimed of partials asks no more of how a mark is held.
use Rattle.std.specs.Prelude.{ℕ, ◌≤◌, ◌<◌, true, false, ◌≡◌, List, length}
use Rattle.marks.specs.Marks.{Layout, marks_for, capacity, marked, mark_at, cleared}

pub record LayoutLaws (L : Layout) : Type 0 where
  -- how many bytes for an area: more for a longer one, and enough for each of its offsets; marks areas of one length have as many offsets
  pub more : (a b : ℕ) → a ≤ b → marks_for L a ≤ marks_for L b
  pub enough : (n i : ℕ) (m : List ℕ) → i ≤ n → marks_for L n ≤ length m → i ≤ capacity L m
  pub even : (m k : List ℕ) → length m ≡ length k → capacity L m ≡ capacity L k
  -- no offset past the area is marked, and none where every byte is 0
  pub none_past : (m : List ℕ) (i : ℕ) → capacity L m ≤ i → marked L m i ≡ false
  pub none_cleared : (m : List ℕ) (i : ℕ) → marked L (cleared m) i ≡ false
  -- marking an offset marks it, changes no other mark, and changes nothing where it is marked already
  pub length_stays : (i : ℕ) (m : List ℕ) → length (mark_at L i m) ≡ length m
  pub then_marked : (m : List ℕ) (i : ℕ) → i < capacity L m → marked L (mark_at L i m) i ≡ true
  pub others_stay : (m : List ℕ) (n i : ℕ) → n < capacity L m → (i ≡ n → ⊥) → marked L (mark_at L n m) i ≡ marked L m i
  pub again_same : (m : List ℕ) (n : ℕ) → marked L m n ≡ true → mark_at L n m ≡ m
