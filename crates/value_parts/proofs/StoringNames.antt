-- The ways out of the functions that put a name or a matrix.
-- Assumes nothing.
use mathlib.Core.Path.{◌≡◌, refl, sym, ◌∙◌}
use mathlib.Core.Bool.{Bool, true, false, cond}
use mathlib.Core.List.{List, ◌++◌}
use Prim.Native.Nat.{ℕ, ◌+◌, ◌/◌, ◌≤◌, ◌<◌}
use native.Mathlib.Omega.{arith}
use lib.Dec.{eqb, leb, ltb}
use lib.ListN.{length, length-append}
use borrow.Author.Tests.{lt-ltb, ltb-true, ltb-false, leb-true, eqb-true}
use Rattle.wire.specs.Number.{le_bytes}
use Rattle.wire.proofs.Numbers.{length_le_bytes}
use Rattle.wire_writer.specs.Writing.{room_refusal, or_else}
use Rattle.wire_writer.proofs.Refusals.{both_zero, held}
use Rattle.value.specs.Value.{variant_rule}
use Rattle.value.proofs.FirstByte.{array_first, matrix_first}
use Rattle.plain_value.specs.Dimensions.{given_sizes_rule}
use Rattle.value_parts.specs.declared.put.Form.{Form}
use Rattle.value_parts.specs.Put.{count_given, form_rule, six_unless}
use Rattle.value_parts.specs.PutName.{has_locale, has_text, string_if, name_head, name_bytes, name_kind_rule, absent_rule, name_rule}
use Rattle.value_parts.specs.PutMatrix.{matrix_head, sizes_bytes, matrix_bytes, matrix_rule}

-- a String that is there takes 4 bytes more
pub string_length : (on : Bool) (b : List ℕ) → on ≡ true → length b + 4 ≡ length (string_if on b)
string_length true b e = omega (arith, length-append (le_bytes 4 (length b)) b, length_le_bytes 4 (length b))
string_length false b e = absurd (let z : ◌≡◌ {A = ℕ} 0 1 = cc in omega arith)

-- one that has bytes, and breaks no rule, is there
there : (on : Bool) (b : List ℕ) → absent_rule on (length b) ≡ 0 → length b ≤ length (string_if on b)
there true b h = omega (arith, string_length true b refl)
there false b h = omega (arith, eqb-true (length b) 0 (held (eqb (length b) 0) 5 h))

module _ (t n : ℕ) (locale text : List ℕ) where
  pub name_size : {h a b : ℕ} → h ≡ length (name_head t n) → a ≡ length (string_if (has_locale t n) locale) → b ≡ length (string_if (has_text t n) text)
      → h + (a + b) ≡ length (name_bytes t n locale text)
  name_size eh ea eb =
      omega (
        arith,
        eh,
        ea,
        eb,
        length-append (name_head t n) (string_if (has_locale t n) locale ++ string_if (has_text t n) text),
        length-append (string_if (has_locale t n) locale) (string_if (has_text t n) text),
      )

  -- the rules of both Strings
  abbrev strings : ℕ
  strings = or_else (absent_rule (has_locale t n) (length locale)) (absent_rule (has_text t n) (length text))

  module _ (rule : name_rule t n (length locale) (length text) ≡ 0) where
    after_number : (six_unless (leb n 65535) ≡ 0) × (strings ≡ 0)
    after_number = both_zero (six_unless (leb n 65535)) strings (both_zero (name_kind_rule t n) (or_else (six_unless (leb n 65535)) strings) rule).1

    pub strings_rules : (absent_rule (has_locale t n) (length locale) ≡ 0) × (absent_rule (has_text t n) (length text) ≡ 0)
    strings_rules =
        both_zero (absent_rule (has_locale t n) (length locale)) (absent_rule (has_text t n) (length text)) after_number.1

    pub kind_fine : name_kind_rule t n ≡ 0
    kind_fine = (both_zero (name_kind_rule t n) (or_else (six_unless (leb n 65535)) strings) rule).0

    pub number_fits : n < 65536
    number_fits = omega (arith, leb-true n 65535 (held (leb n 65535) 5 after_number.0))

    all : length (name_bytes t n locale text) ≡ length (name_head t n) + (length (string_if (has_locale t n) locale) + length (string_if (has_text t n) text))
    all = sym (name_size refl refl refl)

    -- what fits a datagram has Strings that do
    pub locale_short : length (name_bytes t n locale text) ≤ 65535 → length locale ≤ 65535
    locale_short h = omega (arith, h, all, there (has_locale t n) locale strings_rules.0)

    pub text_short : length (name_bytes t n locale text) ≤ 65535 → length text ≤ 65535
    text_short h = omega (arith, h, all, there (has_text t n) text strings_rules.1)

-- an array's rules are a matrix's
pub matrix_as_array : (t : ℕ) → t < 64 → variant_rule (t + 128) ≡ variant_rule (t + 192)
matrix_as_array t h = (array_first t h).rule ∙ sym (matrix_first t h).rule

module _ (t : ℕ) (sizes b : List ℕ) where
  pub matrix_size : 9 + length b + length sizes ≡ length (matrix_bytes t sizes b)
  matrix_size =
      let x = length-append (matrix_head t (length b)) (b ++ sizes_bytes sizes) in
      let y = length-append b (sizes_bytes sizes) in
      let z = length-append (le_bytes 4 (length sizes / 4)) sizes in
      let h = length-append (le_bytes 1 (t + 192)) (le_bytes 4 (count_given t Form.Array (length b))) in
      omega (arith, x, y, z, h, length_le_bytes 1 (t + 192), length_le_bytes 4 (count_given t Form.Array (length b)), length_le_bytes 4 (length sizes / 4))

  pub sizes_long : (room : ℕ) → 65535 < length sizes → 10 ≡ room_refusal (length (matrix_bytes t sizes b)) room
  sizes_long room h = rw (lt-ltb 65535 (length (matrix_bytes t sizes b)) (omega (arith, matrix_size)))

-- what breaks no rule has a type that fits its bits, and no more bytes than a datagram
pub matrix_fits : (t : ℕ) (sizes : List ℕ) (n : ℕ) → matrix_rule t sizes n ≡ 0 → (t < 64) × (n < 65536)
matrix_fits t sizes n rule =
    let x = both_zero (cond (ltb t 64) (or_else (variant_rule (t + 192)) (form_rule t Form.Array n)) 4) (cond (ltb 65535 n) 10 (given_sizes_rule (count_given t Form.Array n) sizes)) rule in
    (small (ltb t 64) refl x.0, few (ltb 65535 n) refl x.1)
  where
    small : (b : Bool) → ltb t 64 ≡ b → cond b (or_else (variant_rule (t + 192)) (form_rule t Form.Array n)) 4 ≡ 0 → t < 64
    small true e q = ltb-true t 64 e
    small false e q = absurd (omega (arith, q))

    few : (b : Bool) → ltb 65535 n ≡ b → cond b 10 (given_sizes_rule (count_given t Form.Array n) sizes) ≡ 0 → n < 65536
    few true e q = absurd (omega (arith, q))
    few false e q = omega (arith, ltb-false 65535 n e)
