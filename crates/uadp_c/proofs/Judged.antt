-- The ways out of a judgement by a lent record.
-- Assumes nothing.
use Prim.Native.Nat.{ℕ, ◌≤◌, ◌<◌}
use mathlib.Core.Path.{◌≡◌, refl, ap, sym, subst, ◌∙◌}
use mathlib.Core.List.{List}
use borrow.Author.Tests.{lt-ltb, le-ltb}
use lib.ListN.{length}
use Rattle.sequence.specs.Newness.{newness_by, number_after, last_after}
use Rattle.sequence.specs.declared.Newness.{Newness}
use Rattle.sequence.specs.declared.LastSequenceNumber.{LastSequenceNumber}
use Rattle.records.specs.Result.{result_of}
use Rattle.records.specs.LastNumber.{last_in, last_laid}
use Rattle.uadp_c.specs.Sequence.{newness_number, newness_result, record_after, newness_after}

abbrev pub Judges : List ℕ → ℕ → ℕ → List ℕ → Type 0
Judges s received x e = (x ≡ newness_result s received) × (e ≡ newness_after s received)

pub judge_no_room : (s : List ℕ) (received x : ℕ) → length s < 16 → x ≡ result_of 11 0 → Judges s received x s
judge_no_room s received x h r = rw (lt-ltb (length s) 16 h) (r, refl)

pub judged : (s e : List ℕ) (received x : ℕ) (k : LastSequenceNumber) (j n : Newness) → 16 ≤ length s → k ≡ last_in s → j ≡ newness_by k received → j ≡ n
    → x ≡ result_of 0 (newness_number n) → e ≡ record_after s received n → Judges s received x e
judged s e received x k j n h d q t r p =
    let z : n ≡ newness_by (last_in s) received = sym t ∙ q ∙ ap (λ (y : LastSequenceNumber). newness_by y received) d in
    rw (le-ltb (length s) 16 h)
    (subst (λ (y : Newness). (x ≡ result_of 0 (newness_number y)) × (e ≡ record_after s received y)) z (r, p))

-- what a newer number leaves in the record is that number
pub judged_newer : (s e : List ℕ) (received x : ℕ) (k l : LastSequenceNumber) (j : Newness) → 16 ≤ length s → k ≡ last_in s → j ≡ newness_by k received
    → l ≡ last_after k received → j ≡ Newness.Newer → x ≡ result_of 0 0 → e ≡ last_laid l.number s → Judges s received x e
judged_newer s e received x k l j h d q m t r p =
    judged s e received x k j Newness.Newer h d q t r
    (p ∙ ap (λ (y : LastSequenceNumber). last_laid y.number s) (m ∙ ap (number_after k received) (sym q ∙ t)))
