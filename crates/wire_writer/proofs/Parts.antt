-- Laws of parts that are stored and measured one after the other, and of refusals in order.
-- Assumes nothing.
use mathlib.Core.Path.{◌≡◌, refl, ap, ap₂, subst, ◌∙◌, sym}
use mathlib.Core.List.{List, ◌∷◌, ◌++◌, []}
use Prim.Native.Nat.{ℕ, zero, suc, ◌+◌, ◌*◌, ◌/◌, ◌%◌, ◌^◌, ◌<◌}
use native.Mathlib.Nat.{pow-suc}
use native.Mathlib.Omega.{arith}
use lib.Arith.{mod-mul}
use Rattle.wire.specs.Number.{le_bytes}
use Rattle.wire_writer.specs.Store.{Stored}
use Rattle.wire_writer.specs.Writing.{Puts, or_else, needed, byte_bytes}
use Rattle.wire_writer.proofs.Putting.{puts}
use lib.ListN.{length, length-append}
use mathlib.Core.Bool.{Bool, true, false, cond}
use lib.Dec.{eqb}

-- the same bytes in other words
pub puts_as : {b b' entry exit : List ℕ} {at next : ℕ} → b ≡ b' → Puts b entry at exit next → Puts b' entry at exit next
puts_as {entry = entry} {exit = exit} {at = at} {next = next} e p = subst (λ (b : List ℕ). Puts b entry at exit next) e p

-- a length as its low bytes
positive : (w : ℕ) → 0 < 256 ^ w
positive zero = omega arith
positive (suc w) = omega (arith, positive w, pow-suc 256 w)

low : (w n : ℕ) → le_bytes w (n % 256 ^ w) ≡ le_bytes w n
low zero n = refl
low (suc w) n =
    let p : 256 ^ suc w ≡ 256 ^ w * 256 = pow-suc 256 w in
    let q : 0 < 256 ^ w = positive w in
    let e : n % 256 ^ suc w ≡ (n / 256 % 256 ^ w) * 256 + n % 256 = ap (λ (m : ℕ). n % m) p ∙ mod-mul n q (omega arith) in
    let a : n % 256 ^ suc w % 256 ≡ n % 256 = omega (arith, e) in
    let b : n % 256 ^ suc w / 256 ≡ n / 256 % 256 ^ w = omega (arith, e) in
    rw (a, b) (ap (λ (l : List ℕ). n % 256 ∷ l) (low w (n / 256)))

pub low16_puts : (n : ℕ) {entry exit : List ℕ} {at next : ℕ} → Stored (le_bytes 2 (n % 65536)) entry at exit next → Puts (le_bytes 2 n) entry at exit next
low16_puts n s = puts_as (low 2 n) (puts s)

pub low32_puts : (n : ℕ) {entry exit : List ℕ} {at next : ℕ} → Stored (le_bytes 4 (n % 4294967296)) entry at exit next → Puts (le_bytes 4 n) entry at exit next
low32_puts n s = puts_as (low 4 n) (puts s)

-- refusals in order
pub or_as : {r a b a' b' : ℕ} → r ≡ or_else a b → a ≡ a' → b ≡ b' → r ≡ or_else a' b'
or_as q e f = q ∙ ap₂ or_else e f

-- of two parts
pub add_sizes : {m n : ℕ} (x y : List ℕ) → m ≡ length x → n ≡ length y → m + n ≡ length (x ++ y)
add_sizes x y e f = ap₂ ◌+◌ e f ∙ sym (length-append x y)

-- of a flag byte
pub byte_sized : (e : ℕ) → needed e ≡ length (byte_bytes e)
byte_sized e = go (eqb e 0)
  where
    go : (b : Bool) → cond b 0 1 ≡ length (cond b [] (le_bytes 1 e))
    go true = refl
    go false = refl
