-- How many bytes are printed of a text that was put into a buffer first.
-- Assumes nothing.
use Prim.Native.Nat.{ℕ, ◌+◌, ◌^◌, ◌≤◌, ◌<◌}
use mathlib.Core.Path.{◌≡◌, refl, ap, ◌∙◌}
use mathlib.Core.Bool.{Bool, true, false, cond}
use mathlib.Core.List.{List, []}
use native.Mathlib.Omega.{arith}
use borrow.Author.Tests.{le-leb, leb-true}
use lib.Dec.{leb}
use lib.ListN.{length, take, drop}
use lib.Seq.{sets, length-sets, length-take-le}
use Rattle.wire_writer.specs.Store.{Stored}
use Rattle.text.specs.Decimal.{decimal_text}
use Rattle.text.specs.Hex.{hex_text}
use Rattle.text.proofs.Numerals.{decimal_length}

-- all of it where it fits, else none
printed : (b buffer exit : List ℕ) (k : ℕ) → Stored b buffer 0 exit k → length (take k (drop 0 exit)) ≡ cond (leb (0 + length b) (length buffer)) (0 + length b) 0
printed b buffer exit k w = go (leb (0 + length b) (length buffer)) refl
  where
    go : (t : Bool) → leb (0 + length b) (length buffer) ≡ t → length (take k (drop 0 exit)) ≡ cond t (0 + length b) 0
    go true e =
        let n : k ≡ 0 + length b = rw e at w.after in
        let x : exit ≡ sets buffer 0 b = rw e at w.stored in
        let l : k ≤ length exit = omega (arith, n, leb-true (0 + length b) (length buffer) e, ap length x, length-sets buffer 0 b) in
        length-take-le k exit l ∙ n
    go false e = let n : k ≡ 0 = rw e at w.after in ap (λ (j : ℕ). length (take j exit)) n

-- a number of 8 bytes has at most 20 digits
pub short : (n : ℕ) → n < 2 ^ 64 → length (decimal_text n) ≤ 20
short n h = decimal_length 19 n (omega (arith, h))

pub digits_printed : (n : ℕ) (buffer exit : List ℕ) (k : ℕ) → n < 2 ^ 64 → length buffer ≡ 20 → Stored (decimal_text n) buffer 0 exit k
    → length (take k (drop 0 exit)) ≡ length (decimal_text n)
digits_printed n buffer exit k h l w =
    let t = le-leb (0 + length (decimal_text n)) (length buffer) (omega (arith, short n h, l)) in
    let z : 0 + length (decimal_text n) ≡ length (decimal_text n) = omega arith in
    printed (decimal_text n) buffer exit k w ∙ rw t z

pub hex_printed_lem : (s buffer exit : List ℕ) (k : ℕ) → length buffer ≡ 256 → Stored (hex_text s) buffer 0 exit k
    → length (take k (drop 0 exit)) ≡ length (cond (leb (length (hex_text s)) 256) (hex_text s) [])
hex_printed_lem s buffer exit k l w =
    let z : 0 + length (hex_text s) ≡ length (hex_text s) = omega arith in
    printed (hex_text s) buffer exit k w ∙ rw (z, l) (go (leb (length (hex_text s)) 256))
  where
    go : (t : Bool) → cond t (length (hex_text s)) 0 ≡ length (cond t (hex_text s) [])
    go true = refl
    go false = refl
