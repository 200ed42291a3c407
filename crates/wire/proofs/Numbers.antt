-- Laws of little-endian numbers, over the width, and of the signed numbers that they stand for.
-- Assumes nothing.
use Rattle.wire.specs.declared.Guid.{Guid}
use Rattle.wire.specs.Items.{guid_bytes}
use lib.ListN.{length-append}
use mathlib.Core.Path.{ap₂}
use mathlib.Core.Path.{◌≡◌, refl, ap, sym, ◌∙◌, subst}
use mathlib.Core.List.{List, ◌++◌}
use mathlib.Core.Bool.{Bool, true, false}
use Prim.Native.Nat.{ℕ, zero, suc, ◌+◌, ◌*◌, ◌-◌, ◌/◌, ◌^◌, ◌≤◌, ◌<◌}
use native.Mathlib.Nat.{add-zero, zero-add, suc-add, add_assoc, mul_assoc, mul-add, one-mul, pow-succ', div-one, div-div-eq-div-mul}
use native.Mathlib.Omega.{arith}
use borrow.Author.Tests.{ltb-true, lt-ltb, le-ltb, leb-false}
use lib.Dec.{T, ltb}
use lib.IntN.{ℤ, pos, negsuc, ◌-ℤ◌, nat_abs}
use lib.ListN.{length, get_or}
use lib.Signed.{lt_z, le_z, non_neg}
use mir.Syntax.{Width, w32, w64}
use mir.Val.{Fits, SFits, to_z, of_z, hbits}
use mir.ValLaws.{to_z_pos}
use Rattle.wire.specs.Number.{le, le_bytes, signed, unsigned, InRange}
use Rattle.wire.specs.Items.{length_of}
use Rattle.wire.specs.declared.Length.{Length}

-- a number of a + b bytes is the low a bytes and 256^a times the b bytes after them
pub split : (a b : ℕ) (s : List ℕ) (at : ℕ) → le (a + b) s at ≡ le a s at + 256 ^ a * le b s (at + a)
split zero b s at = simp (zero-add, add-zero, one-mul)
split (suc a) b s at =
    rw (suc-add a b, pow-succ' 256 a)
    (let ih = split a b s (at + 1) in
    let e : at + 1 + a ≡ at + suc a = omega arith in
    ap (λ (x : ℕ). get_or s at 0 + 256 * x) ih
    ∙ simp (e, mul-add, add_assoc, mul_assoc))

-- the bytes of a number of a + b bytes are the low a bytes and those of what is above them
pub split_bytes : (a b v : ℕ) → le_bytes (a + b) v ≡ le_bytes a v ++ le_bytes b (v / 256 ^ a)
split_bytes zero b v = rw zero-add (ap (le_bytes b) (sym (div-one v)))
split_bytes (suc a) b v =
    rw (suc-add a b, split_bytes a b (v / 256), div-div-eq-div-mul v 256 (256 ^ a), ← pow-succ' 256 a)

pub length_le_bytes : (w v : ℕ) → length (le_bytes w v) ≡ w
length_le_bytes zero v = refl
length_le_bytes (suc w) v = ap suc (length_le_bytes w (v / 256))

-- -1 - m in two's complement
below_zero : (m : ℕ) → negsuc 0 -ℤ pos m ≡ negsuc m
below_zero zero = refl
below_zero (suc m) = simp zero-add

-- the same of a machine number m below half the range of a width, as the code's -1 - (m as i32) computes it
pub minus_one : (w : Width) (m : ℕ) → m < 2 ^ hbits w → negsuc 0 -ℤ to_z w m ≡ negsuc m
minus_one w m h = ap (λ (z : ℤ). negsuc 0 -ℤ z) (to_z_pos w m h) ∙ below_zero m

pub minus_one_fits : (w : Width) (m : ℕ) → m < 2 ^ hbits w → SFits w (negsuc 0 -ℤ to_z w m)
minus_one_fits w m h = subst (SFits w) (sym (minus_one w m h)) (record { sfits = h })

-- the three cases of a length
pub null_is : (n : ℤ) → SFits w32 n → of_z w32 n ≡ 4294967295 → Length.Null ≡ length_of n
null_is (pos k) f e = let l : k < 2 ^ 31 = f.sfits in absurd (omega arith)
null_is (negsuc zero) f e = refl
null_is (negsuc (suc k)) f e = let l : suc k < 2 ^ 31 = f.sfits in absurd (omega arith)

pub negative_is : (n : ℤ) → SFits w32 n → (of_z w32 n ≡ 4294967295 → ⊥) → le_z (pos 0) n ≡ false → Length.Negative ≡ length_of n
negative_is (pos k) f e t = let l : k < 0 = leb-false 0 k t in absurd (omega arith)
negative_is (negsuc zero) f e t = absurd (e refl)
negative_is (negsuc (suc k)) f e t = refl

pub of_is : (n : ℤ) → le_z (pos 0) n ≡ true → Length.Of (nat_abs n) ≡ length_of n
of_is (pos k) t = refl
of_is (negsuc k) t = let z : ◌≡◌ {A = ℕ} 0 1 = cc in absurd (omega arith)

pub of_casts : (n : ℤ) → SFits w32 n → le_z (pos 0) n ≡ true → T (non_neg n) × Fits w64 (nat_abs n)
of_casts (pos k) f t = let l : k < 2 ^ 31 = f.sfits in (tt, record { fits = omega arith })
of_casts (negsuc k) f t = let z : ◌≡◌ {A = ℕ} 0 1 = cc in absurd (omega arith)

-- of a negative machine number z the code's -1 - z is the n with z = -(n + 1)
pub record Negative (w : Width) (z : ℤ) : Type 0 where
  pub n : ℕ
  pub small : n < 2 ^ hbits w
  pub is : z ≡ negsuc n
  pub back : negsuc 0 -ℤ z ≡ pos n

pub negative : (w : Width) (z : ℤ) → SFits w z → lt_z z (pos 0) ≡ true → Negative w z
negative w (pos k) f t = let l : k < 0 = ltb-true k 0 t in absurd (omega arith)
negative w (negsuc k) f t =
    let h : 1 ≤ suc k = omega arith in
    let e : suc k - 1 ≡ k = omega arith in
    record { n = k; small = f.sfits; is = refl; back = rw (le-ltb (suc k) 1 h) (ap pos e) }

-- one that is not negative casts as it is
pub not_negative : (w : Width) (z : ℤ) → SFits w z → lt_z z (pos 0) ≡ false → (n : ℕ) × (n < 2 ^ hbits w) × (z ≡ pos n)
not_negative w (pos k) f t = (k, f.sfits, refl)
not_negative w (negsuc k) f t = let z : ◌≡◌ {A = ℕ} 0 1 = cc in absurd (omega arith)

double : (w : ℕ) → 1 ≤ w → 2 ^ (8 * w) ≡ 2 * 2 ^ (8 * w - 1)
double w h =
    let e : 8 * w ≡ suc (8 * w - 1) = omega arith in
    ap (λ (k : ℕ). 2 ^ k) e ∙ pow-succ' 2 (8 * w - 1)

-- reading a signed number from the bytes that stand for it gives it, at every width
pub signed_unsigned : (w : ℕ) (z : ℤ) → 1 ≤ w → InRange w z → signed w (unsigned w z) ≡ z
signed_unsigned w (pos n) k h = rw (lt-ltb n (2 ^ (8 * w - 1)) h)
signed_unsigned w (negsuc n) k h =
    let d : 2 ^ (8 * w) ≡ 2 * 2 ^ (8 * w - 1) = double w k in
    let l : 2 ^ (8 * w - 1) ≤ 2 ^ (8 * w) - 1 - n = omega arith in
    let e : 2 ^ (8 * w) - 1 - (2 ^ (8 * w) - 1 - n) ≡ n = omega arith in
    rw (le-ltb (2 ^ (8 * w) - 1 - n) (2 ^ (8 * w - 1)) l) (ap negsuc e)

-- and the bytes of the signed number that a number stands for are that number's own
pub unsigned_signed : (w n : ℕ) → n < 2 ^ (8 * w) → unsigned w (signed w n) ≡ n
unsigned_signed w n h = go (ltb n (2 ^ (8 * w - 1))) refl
  where
    go : (b : Bool) → ltb n (2 ^ (8 * w - 1)) ≡ b → unsigned w (signed w n) ≡ n
    go true e = rw e
    go false e = rw e (let z : 2 ^ (8 * w) - 1 - (2 ^ (8 * w) - 1 - n) ≡ n = omega arith in z)

-- of the two numbers of a Guid
pub guid_wide : (g : Guid) → length (guid_bytes g) ≡ 16
guid_wide g = length-append (le_bytes 8 g.low) (le_bytes 8 g.high) ∙ ap₂ ◌+◌ (length_le_bytes 8 g.low) (length_le_bytes 8 g.high)
