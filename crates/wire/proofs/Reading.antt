-- Laws of the test whether an item fits, and of answers.
-- Assumes nothing.
use Rattle.wire.specs.declared.refusal.Reason.{Reason}
use Rattle.wire.specs.Refusal.{reason_number}
use mathlib.Core.Path.{◌≡◌, refl, ap, sym, ◌∙◌}
use mathlib.Core.Bool.{Bool, true, false, not}
use Prim.Native.Nat.{ℕ, ◌+◌, ◌≤◌}
use native.Mathlib.Omega.{arith}
use lib.Dec.{leb}
use lib.ListN.{length}
use mathlib.Core.List.{List}
use borrow.Author.Tests.{leb-true, le-leb, not-true, not-false}
use Rattle.wire.specs.Items.{length_of, length_item}
use Rattle.wire.specs.Answer.{Answer, got, refused, and_then, item, signed_item}
use Rattle.wire.specs.Number.{signed}

-- two tests are equal where each follows from the other
pub leb_same : (a b c d : ℕ) → (a ≤ b → c ≤ d) → (c ≤ d → a ≤ b) → leb a b ≡ leb c d
leb_same a b c d f g = go (leb a b) refl (leb c d) refl
  where
    go : (x : Bool) → leb a b ≡ x → (y : Bool) → leb c d ≡ y → leb a b ≡ leb c d
    go true e true e₁ = e ∙ sym e₁
    go true e false e₁ = e ∙ sym (le-leb c d (f (leb-true a b e)))
    go false e true e₁ = le-leb a b (g (leb-true c d e₁)) ∙ sym e₁
    go false e false e₁ = e ∙ sym e₁

-- what the answer b of `has` says where it was no, and where it was yes, of m bytes from the slice's start and the length n
module _ (b : Bool) (m n : ℕ) (e : b ≡ leb m n) where
  pub lacks : not b ≡ true → leb m n ≡ false
  lacks t = sym e ∙ not-true b t

  pub holds : not b ≡ false → leb m n ≡ true
  holds t = sym e ∙ not-false b t

  pub room : not b ≡ false → m ≤ n
  room t = leb-true m n (holds t)

-- what a callee ensures of its result, at the constructor that the result turned out to be
pub told : {A B : Type 0} (f : A → B) {x y : A} {z : B} → f x ≡ z → x ≡ y → f y ≡ z
told f e q = ap f (sym q) ∙ e

-- two accepted answers that are equal have the same value and the same position; an accepted one is no refusal
pub got_value : {A : Type 0} {v v' : A} {n n' : ℕ} → got v n ≡ got v' n' → v ≡ v'
got_value e = cc

pub got_next : {A : Type 0} {v v' : A} {n n' : ℕ} → got v n ≡ got v' n' → n ≡ n'
got_next e = cc

pub not_got : {A : Type 0} {v : A} {n m p : ℕ} → ◌≡◌ {A = Answer A} (refused m p) (got v n) → ⊥
not_got e = let z : ◌≡◌ {A = ℕ} 0 1 = cc in omega arith

-- where the whole is accepted, its first part was accepted, and so was the rest after it
pub invert : {A B : Type 0} (a : Answer A) (k : A → ℕ → Answer B) {y : B} {z : ℕ} → and_then a k ≡ got y z → (x : A) × (n : ℕ) × (a ≡ got x n) × (k x n ≡ got y z)
invert (got x n) k h = (x, n, refl, h)
invert (refused n p) k h = absurd (not_got h)

-- a length is the signed item, and what it says
pub length_is : (s : List ℕ) (at : ℕ) → length_item s at ≡ and_then (signed_item 4 s at) (λ v next. got (length_of v) next)
length_is s at = go (leb (at + 4) (length s)) refl
  where
    go : (b : Bool) → leb (at + 4) (length s) ≡ b → length_item s at ≡ and_then (signed_item 4 s at) (λ v next. got (length_of v) next)
    go true e = rw e
    go false e = rw e

-- a signed item is the item with the signed number that it stands for
pub signed_is : (w : ℕ) (s : List ℕ) (at : ℕ) → signed_item w s at ≡ and_then (item w s at) (λ v next. got (signed w v) next)
signed_is w s at = go (leb (at + w) (length s)) refl
  where
    go : (b : Bool) → leb (at + w) (length s) ≡ b → signed_item w s at ≡ and_then (item w s at) (λ v next. got (signed w v) next)
    go true e = rw e
    go false e = rw e

-- the number of a reason is not 0
pub some_number : (reason : Reason) → reason_number reason ≡ 0 → ⊥
some_number reason h = grind arith
