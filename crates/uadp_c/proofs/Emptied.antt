-- Emptying a lent record is emptying the partial that it stands for: the record that `uadp_empty` leaves is read as `emptied` of what was read
-- before, whatever bytes it has and however short it is.
-- Assumes nothing.
use mathlib.Core.Path.{◌≡◌, refl, sym, ap, subst, ◌∙◌}
use mathlib.Core.Bool.{Bool, true, false, cond}
use mathlib.Core.List.{List, ◌++◌}
use Prim.Native.Nat.{ℕ, ◌+◌, ◌≤◌}
use native.Mathlib.Omega.{arith}
use borrow.Author.Tests.{leb-true}
use lib.Dec.{eqb, leb}
use lib.ListN.{length, take, drop, take-append-drop, length-take}
use lib.Seq.{sets, sets-eq, drop-append-add}
use Rattle.wire.specs.Number.{le, le_bytes}
use Rattle.wire.specs.Answer.{got, refused, item}
use Rattle.wire.proofs.Places.{moved_by, after}
use Rattle.wire.proofs.Steady.{item_steady}
use Rattle.network_message.specs.Payload.{value_or0}
use Rattle.reassembly.specs.Operations.{emptied}
use Rattle.records.specs.Numbers.{number_at}
use Rattle.partial_record.specs.Partial.{partial_in}
use Rattle.uadp_c.specs.Reassembling.{emptied_record}

-- what stands after the first 8 bytes does not depend on them
module _ (a b d : List ℕ) (ha : length a ≡ 8) (hb : length b ≡ 8) where
  item_after_lem : (x : List ℕ) → length x ≡ 8 → (p : ℕ) → item 8 (x ++ d) (8 + p) ≡ moved_by 8 (item 8 d p)
  item_after_lem x h p = subst (λ (n : ℕ). item 8 (x ++ d) (n + p) ≡ moved_by n (item 8 d p)) h (after (item_steady 8) x d p)

  same_item : (p : ℕ) → item 8 (a ++ d) (8 + p) ≡ item 8 (b ++ d) (8 + p)
  same_item p = item_after_lem a ha p ∙ sym (item_after_lem b hb p)

  drop_after : (x : List ℕ) → length x ≡ 8 → drop 80 (x ++ d) ≡ drop 72 d
  drop_after x h = subst (λ (n : ℕ). drop (n + 72) (x ++ d) ≡ drop 72 d) h (drop-append-add x d 72)

  same_text : drop 80 (a ++ d) ≡ drop 80 (b ++ d)
  same_text = drop_after a ha ∙ sym (drop_after b hb)

abbrev zeros : List ℕ
zeros = le_bytes 8 0

-- the first number is 0 then, and it is 0 where the record has no 8 bytes
not_started : (d : List ℕ) → eqb (number_at (zeros ++ d) 0) 1 ≡ false
not_started d = go (leb 8 (length (zeros ++ d)))
  where
    go : (b : Bool) → eqb (value_or0 (cond b (got (le 8 (zeros ++ d) 0) 8) (refused 1 0))) 1 ≡ false
    go true = refl
    go false = refl

too_short : (r : List ℕ) → leb 8 (length r) ≡ false → eqb (number_at r 0) 1 ≡ false
too_short r h = rw h

emptied_long : (f d : List ℕ) → length f ≡ 8 → partial_in (zeros ++ d) ≡ emptied (partial_in (f ++ d))
unfolding emptied
emptied_long f d h =
    let s = same_item zeros f d refl h in
    rw (not_started d, s 0, s 8, s 16, s 24, s 32, s 40, s 48, s 56, same_text zeros f d refl h)

pub emptied_is : (r : List ℕ) → partial_in (emptied_record r) ≡ emptied (partial_in r)
unfolding emptied
emptied_is r = go (leb 8 (length r)) refl
  where
    go : (b : Bool) → leb 8 (length r) ≡ b → partial_in (cond b (sets r 0 zeros) r) ≡ emptied (partial_in r)
    go true h =
        let l : 8 ≤ length r = leb-true 8 (length r) h in
        let n : length (take 8 r) ≡ 8 = omega (arith, length-take 8 r) in
        ap partial_in (sets-eq zeros r 0 l) ∙ emptied_long (take 8 r) (drop 8 r) n ∙ ap (λ (x : List ℕ). emptied (partial_in x)) (take-append-drop 8 r)
    go false h = rw (too_short r h)
