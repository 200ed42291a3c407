-- Laws of refusals: what a rule that gives 0 says of its tests, and the numbers of several rules in order.
-- Assumes nothing.
use mathlib.Core.Path.{◌≡◌, refl}
use mathlib.Core.Bool.{Bool, true, false, cond}
use mathlib.Core.List.{List}
use Prim.Native.Nat.{ℕ, suc, ◌^◌, ◌<◌}
use native.Mathlib.Omega.{arith}
use lib.Dec.{eqb}
use borrow.Author.Tests.{eqb-true, eqb-false}
use Rattle.wire.specs.Number.{le_bytes}
use Rattle.wire.specs.Answer.{refused, Reader, item, ruled}
use Rattle.wire_writer.specs.Writing.{or_else}
use Rattle.wire_writer.proofs.Trip.{At, Reads, item_is}

-- a refusal on true, and a rest on false
pub passed : (b : Bool) (k r : ℕ) → cond b (suc k) r ≡ 0 → (b ≡ false) × (r ≡ 0)
passed true k r h = absurd (omega arith)
passed false k r h = (refl, h)

-- a refusal on false
pub held : (b : Bool) (k : ℕ) → cond b 0 (suc k) ≡ 0 → b ≡ true
held true k h = refl
held false k h = absurd (omega arith)

-- none of two
pub both_zero : (a b : ℕ) → or_else a b ≡ 0 → (a ≡ 0) × (b ≡ 0)
both_zero a b h = go (eqb a 0) refl h
  where
    go : (t : Bool) → eqb a 0 ≡ t → cond t b a ≡ 0 → (a ≡ 0) × (b ≡ 0)
    go true e q = (eqb-true a 0 e, q)
    go false e q = absurd (eqb-false a 0 e q)

-- a test is not both
pub no : true ≡ false → ⊥
no c = let y : ◌≡◌ {A = ℕ} 0 1 = cc in omega arith

-- one of two: the first, or the first passes and it is the second
pub or_case : (P : ℕ → Type 0) (a b : ℕ) → eqb (or_else a b) 0 ≡ false → (eqb a 0 ≡ false → P a) → (a ≡ 0 → eqb b 0 ≡ false → P b) → P (or_else a b)
or_case P a b h f g = go (eqb a 0) refl h
  where
    go : (t : Bool) → eqb a 0 ≡ t → eqb (cond t b a) 0 ≡ false → P (cond t b a)
    go true e q = g (eqb-true a 0 e) q
    go false e q = f e

-- a reader at position m, over bytes b that stand there, refuses by k at m
abbrev pub Refuses : {A : Type 0} → Reader A → ℕ → List ℕ → ℕ → Type 0
Refuses r m b k = (s : List ℕ) → At s m b → r s m ≡ refused k m

-- an item that breaks a rule
pub broken : (w : ℕ) (rule : ℕ → ℕ) (m : ℕ) (b : List ℕ) (v : ℕ) → eqb (rule v) 0 ≡ false → Reads (item w) m b v → Refuses (ruled w rule) m b (rule v)
broken w rule m b v h f s a = rw (f s a, h)

pub number_broken : (w : ℕ) (rule : ℕ → ℕ) (v m : ℕ) → v < 256 ^ w → eqb (rule v) 0 ≡ false → Refuses (ruled w rule) m (le_bytes w v) (rule v)
number_broken w rule v m h e = broken w rule m (le_bytes w v) v e (item_is w v m h)
