-- Picoseconds held: below 10,000 nothing changes, and from there on 9,999 stands there, and no other byte differs.
-- Assumes nothing.
use Rattle.std.specs.Prelude.{Option, Some, None, is_some}
use Prim.Native.Nat.{ℕ, ◌+◌, ◌≤◌}
use mathlib.Core.Path.{◌≡◌, refl, ap, sym, ◌∙◌}
use mathlib.Core.Bool.{true}
use mathlib.Core.List.{List, ◌++◌, append_assoc}
use native.Mathlib.Omega.{arith}
use borrow.Author.Tests.{le-leb, lt-leb}
use lib.ListN.{length, take, drop, length-append}
use lib.Seq.{sets, sets-eq, take_at, drop_at, length-take-le}
use Rattle.wire.specs.Number.{le, le_bytes}
use Rattle.wire_writer.specs.Writing.{picoseconds_held}
use Rattle.wire_writer.proofs.Refusals.{no}
use Rattle.wire_writer.proofs.Trip.{At, le_at}
use Rattle.acceptance.specs.Again.{Below, Holds}

pub held_below : (x : Option ℕ) (at : ℕ) (s : List ℕ) → Below x at s → picoseconds_held x at s ≡ s
held_below None at s h = refl
held_below (Some v) at s h = rw (lt-leb 10000 (le 2 s at) h)

stored_holds : (at : ℕ) (s : List ℕ) → at + 2 ≤ length s → Holds at s (sets s at (le_bytes 2 9999))
stored_holds at s l =
    let b = le_bytes 2 9999 in
    let t = sets s at b in
    let r = drop (at + 2) s in
    let k : length (take at s) ≡ at = length-take-le at s (omega arith) in
    let e : t ≡ take at s ++ (b ++ r) = sets-eq b s at l ∙ append_assoc (take at s) b r in
    let w : At t at b = (take at s, r, e, k) in
    record {
      before = ap (take at) e ∙ take_at (take at s) (b ++ r) at k;
      there = le_at 2 9999 at (omega arith) t w;
      behind = ap (drop (at + 2)) (sets-eq b s at l) ∙ drop_at (take at s ++ b) r (at + 2) (length-append (take at s) b ∙ ap (λ (n : ℕ). n + 2) k);
    }

pub held_holds : (x : Option ℕ) (at : ℕ) (s : List ℕ) → is_some x ≡ true → 10000 ≤ le 2 s at → at + 2 ≤ length s → Holds at s (picoseconds_held x at s)
held_holds None at s e h l = absurd (no (sym e))
held_holds (Some v) at s e h l = rw (le-leb 10000 (le 2 s at) h) (stored_holds at s l)
