-- What was put is read back: a decimal up to the byte that ends it, and hex.
-- Assumes nothing.
use Rattle.std.specs.Prelude.{Some}
use mathlib.Core.Path.{◌≡◌, refl}
use mathlib.Core.Bool.{true, false}
use mathlib.Core.List.{List, [], ◌∷◌, ◌++◌}
use mathlib.Core.Logic.{⊎_elim}
use Prim.Native.Nat.{ℕ, ◌+◌, ◌*◌, ◌/◌, ◌%◌, ◌≤◌, ◌<◌}
use native.Mathlib.Omega.{arith}
use borrow.Author.Tests.{ne_eqb, le-ltb, le-leb, lt-leb, ltb-true, ltb-false}
use lib.Dec.{ltb}
use lib.ListN.{length, drop}
use Rattle.text.specs.Decimal.{is_digit, all_digits, decimal_at, decimal_text}
use Rattle.text.specs.Hex.{hex_digit, hex_text, hex_value, all_hex, hex_bytes, hex_of}
use Rattle.wire.proofs.Facts.{cases}
use Rattle.text.proofs.Parts.{digits_contain, digits_place, digits_before}
use Rattle.text.proofs.Numerals.{decimal_all_digits, decimal_back}
use Rattle.text.proofs.Putting.{hex_length}

-- a decimal that was put, and a byte that is no digit after it: read up to that byte, it gives the number
pub decimal_read_back : (end : ℕ) (rest : List ℕ) (limit n : ℕ) (s : List ℕ) (at : ℕ) → is_digit end ≡ false → n ≤ limit → drop at s ≡ decimal_text n ++ end ∷ rest
    → decimal_at limit end s at ≡ Some (n, at + length (decimal_text n) + 1)
decimal_read_back end rest limit n s at d h e =
    let a : all_digits (decimal_text n) ≡ true = decimal_all_digits n in
    rw (e, digits_contain end d rest (decimal_text n) a, digits_before end d rest (decimal_text n) a, digits_place end d rest (decimal_text n) a, decimal_back limit n h)

-- a hex digit has its number
digit_back : (v : ℕ) → v < 16 → hex_value (hex_digit v) ≡ v
digit_back v h =
    ⊎_elim
    (λ e. let b : v < 10 = ltb-true v 10 e in rw (e, le-leb 48 (48 + v) (omega arith), le-leb (48 + v) 57 (omega arith)) (omega arith))
    (λ e. let b : 10 ≤ v = ltb-false v 10 e in
    rw (e, le-leb 48 (87 + v) (omega arith), lt-leb (87 + v) 57 (omega arith), le-ltb (87 + v) 97 (omega arith), le-ltb 102 (87 + v) (omega arith)) (omega arith))
    (cases (ltb v 10))

-- bytes
abbrev pub Bytes : List ℕ → Type 0
Bytes [] = Unit {0}
Bytes (b ∷ s) = (b < 256) × Bytes s

hex_digits : (s : List ℕ) → Bytes s → all_hex (hex_text s) ≡ true
hex_digits [] w = refl
hex_digits (b ∷ s) w =
    let h : b / 16 < 16 = omega (arith, w.0) in
    rw (digit_back (b / 16) h, digit_back (b % 16) (omega arith), ne_eqb (b / 16) 16 (λ e. omega arith), ne_eqb (b % 16) 16 (λ e. omega arith)) (hex_digits s w.1)

hex_same : (s : List ℕ) → Bytes s → hex_bytes (hex_text s) ≡ s
hex_same [] w = refl
hex_same (b ∷ s) w =
    let h : b / 16 < 16 = omega (arith, w.0) in
    let e : 16 * (b / 16) + b % 16 ≡ b = omega arith in
    rw (digit_back (b / 16) h, digit_back (b % 16) (omega arith), e, hex_same s w.1)

-- bytes that were put as hex are read back
pub hex_read_back : (s : List ℕ) → Bytes s → hex_of (hex_text s) ≡ Some s
hex_read_back s w =
    let e : length (hex_text s) % 2 ≡ 1 → ⊥ = λ q. omega (arith, hex_length s) in
    rw (ne_eqb (length (hex_text s) % 2) 1 e, hex_digits s w, hex_same s w)
