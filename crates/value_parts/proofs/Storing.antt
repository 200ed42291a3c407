-- The ways out of the functions that put a Variant.
-- Assumes nothing.
use mathlib.Core.Path.{◌≡◌, refl, sym, ap, ◌∙◌}
use mathlib.Core.Bool.{Bool, true, false, cond, ◌||◌}
use mathlib.Core.List.{List}
use Prim.Native.Nat.{ℕ, ◌+◌, ◌<◌}
use native.Mathlib.Omega.{arith}
use lib.Dec.{ltb}
use lib.ListN.{length, length-append}
use borrow.Author.Tests.{lt-ltb, ltb-true}
use Rattle.wire_writer.specs.Writing.{room_refusal}
use Rattle.wire_writer.proofs.Refusals.{both_zero}
use Rattle.value.specs.Value.{variant_rule}
use Rattle.value_parts.specs.declared.put.Form.{Form}
use Rattle.value_parts.specs.Put.{first_byte, head_bytes, variant_bytes, type_rule, form_rule, put_rule}

-- the types that are taken, tested in another order
pub same_taken : (p b c : Bool) → ((b || (c || false)) || p) ≡ ((p || b) || c)
same_taken true true c = refl
same_taken true false true = refl
same_taken true false false = refl
same_taken false true c = refl
same_taken false false true = refl
same_taken false false false = refl

-- two tests that pass alike
pub either : (a b : Bool) (k : ℕ) → cond a 0 (cond b 0 k) ≡ cond (a || b) 0 k
either true b k = refl
either false b k = refl

pub size_of : (t : ℕ) (f : Form) (b : List ℕ) {h : ℕ} → h ≡ length (head_bytes t f (length b)) → h + length b ≡ length (variant_bytes t f b)
size_of t f b e = ap (λ (k : ℕ). k + length b) e ∙ sym (length-append (head_bytes t f (length b)) b)

-- a type that is put fits into its bits
pub put_small : (t : ℕ) (f : Form) (n : ℕ) → put_rule t f n ≡ 0 → t < 64
put_small t f n h = go (ltb t 64) refl (both_zero (type_rule t f) (form_rule t f n) h).0
  where
    go : (b : Bool) → ltb t 64 ≡ b → cond b (variant_rule (first_byte t f)) 4 ≡ 0 → t < 64
    go true e q = ltb-true t 64 e
    go false e q = absurd (omega arith)

-- more bytes than a datagram has
pub too_long : (t : ℕ) (f : Form) (b : List ℕ) (room : ℕ) → 65535 < length b → 10 ≡ room_refusal (length (variant_bytes t f b)) room
too_long t f b room h = rw (lt-ltb 65535 (length (variant_bytes t f b)) (omega (arith, length-append (head_bytes t f (length b)) b)))

pub ten : ◌≡◌ {A = ℕ} 10 0 → ⊥
ten e = omega (arith, e)
