-- Laws of runs of bytes stored into a buffer.
-- Assumes nothing.
use mathlib.Core.Path.{◌≡◌, ap, sym, subst, ◌∙◌}
use mathlib.Core.List.{append_assoc, List, [], ◌∷◌, ◌++◌}
use mathlib.Core.Bool.{true, false}
use Prim.Native.Nat.{ℕ, suc, ◌+◌, ◌/◌, ◌^◌, ◌≤◌}
use native.Mathlib.Nat.{add-zero, add-suc, suc-add}
use lib.Dec.{leb}
use lib.ListN.{length, set, take, drop}
use lib.Seq.{drop-drop, sets, sets-eq}
use Rattle.wire.specs.Number.{le_bytes}
use Rattle.wire_writer.specs.Store.{Stored}
use Rattle.wire.proofs.Numbers.{split_bytes, length_le_bytes}

-- two runs, one after the other
pub sets_append : (x y l : List ℕ) (i : ℕ) → sets (sets l i x) (i + length x) y ≡ sets l i (x ++ y)
sets_append [] y l i = rw add-zero
sets_append (a ∷ x) y l i =
    ap (λ (k : ℕ). sets (sets (set l i a) (suc i) x) k y) (add-suc i (length x) ∙ sym (suc-add i (length x))) ∙ sets_append x y (set l i a) (suc i)

-- a number of a + b bytes is stored as its low a bytes and then those above them
pub sets_split : (a b v : ℕ) (l : List ℕ) (at : ℕ) → sets (sets l at (le_bytes a v)) (at + a) (le_bytes b (v / 256 ^ a)) ≡ sets l at (le_bytes (a + b) v)
sets_split a b v l at =
    ap (λ (k : ℕ). sets (sets l at (le_bytes a v)) (at + k) (le_bytes b (v / 256 ^ a))) (sym (length_le_bytes a v))
    ∙ sets_append (le_bytes a v) (le_bytes b (v / 256 ^ a)) l at ∙ ap (sets l at) (sym (split_bytes a b v))

-- bytes that fit are stored, with the position after them; others are not, and the position stays
pub stored_fits : (b l : List ℕ) (at : ℕ) {exit : List ℕ} {next : ℕ} → next ≡ at + length b → leb next (length l) ≡ true → exit ≡ sets l at b → Stored b l at exit next
stored_fits b l at q e s =
    let f : leb (at + length b) (length l) ≡ true = ap (λ (n : ℕ). leb n (length l)) (sym q) ∙ e in
    record { stored = s ∙ rw f; after = q ∙ rw f }

pub stored_none : (b l : List ℕ) (at : ℕ) → leb (at + length b) (length l) ≡ false → Stored b l at l at
stored_none b l at e = record { stored = rw e; after = rw e }

-- the same number in other words
pub stored_as : (w : ℕ) {m n : ℕ} {entry exit : List ℕ} {at next : ℕ} → m ≡ n → Stored (le_bytes w m) entry at exit next → Stored (le_bytes w n) entry at exit next
stored_as w {entry = entry} {exit = exit} {at = at} {next = next} e s = subst (λ (v : ℕ). Stored (le_bytes w v) entry at exit next) e s

-- a run put in place of as many bytes
pub put_in : (b l : List ℕ) (at k : ℕ) → k ≡ length b → at + length b ≤ length l → take at l ++ (b ++ drop k (drop at l)) ≡ sets l at b
put_in b l at k e h =
    sym (append_assoc (take at l) b (drop k (drop at l)))
    ∙ ap (λ (r : List ℕ). take at l ++ b ++ r) (drop-drop k at l ∙ ap (λ (n : ℕ). drop (at + n) l) e)
    ∙ sym (sets-eq b l at h)
