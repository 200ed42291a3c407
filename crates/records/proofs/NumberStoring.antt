-- Laws of numbers of one width stored one after the other.
-- Assumes nothing.
use Prim.Native.Nat.{ℕ, ◌+◌, ◌≤◌, ◌<◌}
use mathlib.Core.Path.{◌≡◌, ap, sym, ◌∙◌}
use mathlib.Core.Bool.{true}
use mathlib.Core.List.{List, ◌∷◌, ◌++◌}
use native.Mathlib.Numerals.{add-one}
use native.Mathlib.Omega.{arith}
use borrow.Author.Tests.{le-leb}
use lib.Dec.{leb}
use lib.ListN.{length, get_or, drop, drop_of_length-le}
use lib.Seq.{sets, drop-cons}
use Rattle.wire.specs.Number.{le_bytes}
use Rattle.wire_writer.specs.Store.{laid}
use Rattle.wire.proofs.Numbers.{length_le_bytes}
use Rattle.wire_writer.proofs.Stores.{sets_append}
use Rattle.records.specs.Numbers.{bytes_each}

-- one number more is stored, and those after it are left
pub number_stored : (w : ℕ) (xs l r e : List ℕ) (i at : ℕ) → i < length xs → at + w ≤ length l → e ≡ laid l at (le_bytes w (get_or xs i 0))
    → sets l at (bytes_each w (drop i xs)) ≡ r → sets e (at + w) (bytes_each w (drop (i + 1) xs)) ≡ r
number_stored w xs l r e i at h room q v =
    let n : length (le_bytes w (get_or xs i 0)) ≡ w = length_le_bytes w (get_or xs i 0) in
    let f : leb (at + length (le_bytes w (get_or xs i 0))) (length l) ≡ true = le-leb (at + length (le_bytes w (get_or xs i 0))) (length l) (omega arith) in
    let s : e ≡ sets l at (le_bytes w (get_or xs i 0)) = rw f at q in
    let d : drop i xs ≡ get_or xs i 0 ∷ drop (i + 1) xs = rw add-one (drop-cons xs i 0 h) in
    let k : sets l at (le_bytes w (get_or xs i 0) ++ bytes_each w (drop (i + 1) xs)) ≡ r = ap (λ (y : List ℕ). sets l at (bytes_each w y)) (sym d) ∙ v in
    ap (λ (y : List ℕ). sets y (at + w) (bytes_each w (drop (i + 1) xs))) s
    ∙ ap (λ (k : ℕ). sets (sets l at (le_bytes w (get_or xs i 0))) (at + k) (bytes_each w (drop (i + 1) xs))) (sym n)
    ∙ sets_append (le_bytes w (get_or xs i 0)) (bytes_each w (drop (i + 1) xs)) l at ∙ k

pub all_stored : (w : ℕ) (xs l r : List ℕ) (i at : ℕ) → length xs ≤ i → sets l at (bytes_each w (drop i xs)) ≡ r → l ≡ r
all_stored w xs l r i at h v = ap (λ (y : List ℕ). sets l at (bytes_each w y)) (sym (drop_of_length-le xs h)) ∙ v
