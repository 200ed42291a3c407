-- The steps of the loop that looks for a letter in a word.
-- Assumes nothing.
use Rattle.std.specs.Prelude.{None}
use mathlib.Core.Path.{◌≡◌, refl}
use mathlib.Core.List.{List}
use Prim.Native.Nat.{ℕ, zero, suc, ◌+◌, ◌-◌, ◌≤◌, ◌<◌}
use native.Mathlib.Omega.{arith}
use borrow.Author.Tests.{lt-ltb, le-ltb, eq-eqb, ne_eqb}
use lib.ListN.{length, get_or}
use Rattle.text.specs.Decimal.{decimal_at}
use Rattle.vector_lines.specs.Items.{after_item, lettered_from, lettered_in}

module _ (b : ℕ) (s : List ℕ) where
  -- so many items suffice, and what is still to be looked at from a position on says all
  abbrev pub Left : ℕ → Type 0
  Left at = (n : ℕ) × (length s - at ≤ n) × (lettered_in b s ≡ lettered_from n b s at)

  pub begin : Left 0
  begin = (length s, omega arith, refl)

  pub found : (at : ℕ) → Left at → at < length s → get_or s at 0 ≡ b → lettered_in b s ≡ decimal_at 18446744073709551615 44 s (at + 1)
  found at (zero, h, e) l q = absurd (omega arith)
  found at (suc n, h, e) l q = rw (e, lt-ltb at (length s) l, eq-eqb (get_or s at 0) b q)

  pub passed : (at next : ℕ) → Left at → at < length s → (get_or s at 0 ≡ b → ⊥) → next ≡ after_item 44 s at → length s - next ≤ length s - at - 1 → Left next
  passed at next (zero, h, e) l q r d = absurd (omega arith)
  passed at next (suc n, h, e) l q r d = (n, omega arith, rw (e, lt-ltb at (length s) l, ne_eqb (get_or s at 0) b q, r))

  pub none : (at : ℕ) → Left at → length s ≤ at → lettered_in b s ≡ None
  none at (zero, h, e) l = e
  none at (suc n, h, e) l = rw (e, le-ltb at (length s) l)
