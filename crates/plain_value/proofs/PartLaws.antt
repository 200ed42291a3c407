-- A DataValue's parts after its Variant: one after the other, where there are none, and where all fit.
-- Assumes nothing.
use mathlib.Core.Path.{◌≡◌, refl, ap}
use mathlib.Core.Bool.{Bool, true, false, cond}
use mathlib.Core.List.{List}
use Prim.Native.Nat.{ℕ, zero, suc, ◌+◌, ◌*◌, ◌/◌, ◌%◌, ◌≤◌, ◌<◌}
use native.Mathlib.Omega.{arith}
use borrow.Author.Tests.{le-leb}
use lib.Dec.{eqb, eqb→eq}
use lib.ListN.{length}
use Rattle.wire.proofs.Table.{below}
use Rattle.wire.specs.Answer.{Answer, got, refused, and_then, when_on, bit}
use Rattle.plain_value.specs.Plain.{bytes}
use Rattle.plain_value.specs.Parts.{parts, parts_width}

-- nothing more to read
pub then_none : (x : Answer (Unit {0})) → x ≡ and_then x (λ a next. got tt next)
then_none (got tt next) = refl
then_none (refused n place) = refl

pub no_parts : (m : ℕ) → m < 2 → (s : List ℕ) (at : ℕ) → got tt at ≡ parts m s at
unfolding parts
no_parts zero h s at = refl
no_parts (suc zero) h s at = refl
no_parts (suc (suc m)) h s at = absurd (omega arith)

-- their sum by the mask's bits, status and source time from two bits as one number
pub parts_sum : (m : ℕ) → m < 256 → m / 2 % 4 * 4 + m / 8 % 2 * 8 + (m / 16 % 2 * 2 + m / 32 % 2 * 2) ≡ parts_width m
parts_sum m h = eqb→eq _ _ (below (λ n. eqb (n / 2 % 4 * 4 + n / 8 % 2 * 8 + (n / 16 % 2 * 2 + n / 32 % 2 * 2)) (parts_width n)) 256 tt m h)

module _ (s : List ℕ) where
  when_fits : (on : Bool) (w p : ℕ) → p + cond on w 0 ≤ length s → when_on on tt (bytes w) s p ≡ got tt (p + cond on w 0)
  when_fits true w p h = rw (le-leb (p + w) (length s) h)
  when_fits false w p h = ap (got tt) (let e : p ≡ p + 0 = omega arith in e)

  pub parts_fit : (m at : ℕ) → at + parts_width m ≤ length s → got tt (at + parts_width m) ≡ parts m s at
  unfolding parts
  parts_fit m at h =
      let a : ℕ = cond (bit 1 m) 4 0 in
      let b : ℕ = cond (bit 2 m) 8 0 in
      let c : ℕ = cond (bit 4 m) 2 0 in
      let d : ℕ = cond (bit 3 m) 8 0 in
      let e : ℕ = cond (bit 5 m) 2 0 in
      let whole : at + (a + (b + (c + (d + e)))) ≤ length s = h in
      let end : at + (a + (b + (c + (d + e)))) ≡ at + a + b + c + d + e = omega arith in
      let h1 : at + a ≤ length s = omega arith in
      let h2 : at + a + b ≤ length s = omega arith in
      let h3 : at + a + b + c ≤ length s = omega arith in
      let h4 : at + a + b + c + d ≤ length s = omega arith in
      let h5 : at + a + b + c + d + e ≤ length s = omega arith in
      rw (
        when_fits (bit 1 m) 4 at h1,
        when_fits (bit 2 m) 8 (at + a) h2,
        when_fits (bit 4 m) 2 (at + a + b) h3,
        when_fits (bit 3 m) 8 (at + a + b + c) h4,
        when_fits (bit 5 m) 2 (at + a + b + c + d) h5,
      ) (ap (got tt) end)
