-- What passing over a value tells of it: at each way its answer was.
-- Assumes nothing.
use mathlib.Core.Path.{◌≡◌, ap, sym}
use Prim.Native.Nat.{ℕ, ◌+◌, ◌-◌, ◌<◌, ◌≤◌}
use native.Mathlib.Omega.{arith}
use mathlib.Core.List.{List}
use Rattle.wire.specs.Answer.{Answer, got, refused, Reader, and_then, each}
use Rattle.wire.proofs.Reading.{got_next, not_got}
use Rattle.wire.proofs.Each.{each_done, each_step, each_stop}
use Rattle.plain_value.specs.Plain.{passing}

module _ {A : Type 0} where
  -- passed over up to e: it was accepted, and ends there
  pub passed : (x : Answer A) {e : ℕ} → and_then x (λ a next. got (tt {0}) next) ≡ got tt e → (a : A) × (x ≡ got a e)
  passed (got a next) h = (a, ap (got a) (got_next h))
  passed (refused n place) h = absurd (not_got h)

  -- refused in passing: refused alike
  pub unpassed : (x : Answer A) {n place : ℕ} → and_then x (λ a next. got (tt {0}) next) ≡ refused n place → x ≡ refused n place
  unpassed (got a next) h = absurd (not_got (sym h))
  unpassed (refused m p) h = cc

-- a loop over n values of which i are passed: one turn, a refusal, and its end; the same where a value is passed over
module _ {A : Type 0} (r : Reader A) (s : List ℕ) (n i p : ℕ) where
  pub each_turn : i < n → {a : A} {e : ℕ} → r s p ≡ got a e → each r (n - i) s p ≡ each r (n - (i + 1)) s e
  each_turn h q =
      let one : n - (i + 1) ≡ n - i - 1 = omega arith in
      rw one (each_step r s (n - i) p (omega arith) q)

  pub each_halt : i < n → {m place : ℕ} → r s p ≡ refused m place → each r (n - i) s p ≡ refused m place
  each_halt h q = each_stop r s (n - i) p (omega arith) q

  pub each_end : n ≤ i → each r (n - i) s p ≡ got tt p
  each_end h = each_done r s (n - i) p (omega arith)

  pub pass_turn : i < n → {e : ℕ} → passing r s p ≡ got tt e → each r (n - i) s p ≡ each r (n - (i + 1)) s e
  pass_turn h q = each_turn h (passed (r s p) q).1

  pub pass_halt : i < n → {m place : ℕ} → passing r s p ≡ refused m place → each r (n - i) s p ≡ refused m place
  pass_halt h q = each_halt h (unpassed (r s p) q)
