-- Entries put into a list, one after the other.
-- Assumes nothing.
use Prim.Native.Nat.{ℕ, ◌+◌, ◌*◌, ◌/◌, ◌≤◌, ◌<◌}
use mathlib.Core.Path.{◌≡◌, ap, sym, ◌∙◌}
use mathlib.Core.List.{List, [], ◌∷◌, ◌++◌, append-nil, append_assoc}
use native.Mathlib.Nat.{add-zero}
use native.Mathlib.Omega.{arith}
use borrow.Author.Tests.{le-leb, lt-leb}
use lib.ListN.{length, take, drop, length-drop, drop_of_length-le}
use lib.Seq.{sets, sets-eq, drop-drop, length-take-le}
use Rattle.wire_writer.specs.Store.{laid}
use Rattle.records.specs.Numbers.{number_bytes}
use Rattle.records.proofs.Storing.{bytes_length}
use Rattle.partial_record.specs.List.{entry_laid, entries_put}

-- an entry that does not fit
pub entry_none : (xs l : List ℕ) (k : ℕ) → length xs ≡ 8 → length l / 64 ≤ k → l ≡ entry_laid k xs l
entry_none xs l k n h = rw (lt-leb (64 * k + length (number_bytes xs)) (length l) (omega (arith, bytes_length xs)))

-- and one that is put into its part of the list
pub entry_put : (xs l e : List ℕ) (k m : ℕ) → length xs ≡ 8 → k < length l / 64 → m ≡ 64 → e ≡ laid (take m (drop (64 * k) l)) 0 (number_bytes xs)
    → take (64 * k) l ++ (e ++ drop m (drop (64 * k) l)) ≡ entry_laid k xs l
entry_put xs l e k m n h j q =
    let at : ℕ = 64 * k in
    let b : List ℕ = number_bytes xs in
    let part : List ℕ = take m (drop at l) in
    let lb : length b ≡ 64 = bytes_length xs ∙ ap (λ (i : ℕ). 8 * i) n in
    let ld : m ≤ length (drop at l) = omega (arith, length-drop at l) in
    let lp : length part ≡ 64 = length-take-le m (drop at l) ld ∙ j in
    let s : e ≡ sets part 0 b = rw (le-leb (0 + length b) (length part) (omega arith)) at q in
    let f : e ≡ b = s ∙ sets-eq b part 0 (omega arith) ∙ ap (λ (t : List ℕ). b ++ t) (drop_of_length-le part {i = 0 + length b} (omega arith)) ∙ append-nil b in
    let z : at + m ≡ at + length b = omega arith in
    rw (le-leb (at + length b) (length l) (omega arith))
    (ap (λ (t : List ℕ). take at l ++ (t ++ drop m (drop at l))) f ∙ ap (λ (t : List ℕ). take at l ++ (b ++ t)) (drop-drop m at l)
    ∙ ap (λ (i : ℕ). take at l ++ (b ++ drop i l)) z ∙ sym (append_assoc (take at l) b (drop (at + length b) l)) ∙ sym (sets-eq b l at (omega arith)))

pub puts_append : (xs ys : List (List ℕ)) (k : ℕ) (l : List ℕ) → entries_put (k + length xs) ys (entries_put k xs l) ≡ entries_put k (xs ++ ys) l
puts_append [] ys k l = ap (λ (i : ℕ). entries_put i ys l) (add-zero k)
puts_append (x ∷ xs) ys k l =
    let e : k + length (x ∷ xs) ≡ k + 1 + length xs = omega arith in
    ap (λ (i : ℕ). entries_put i ys (entries_put (k + 1) xs (entry_laid k x l))) e ∙ puts_append xs ys (k + 1) (entry_laid k x l)
