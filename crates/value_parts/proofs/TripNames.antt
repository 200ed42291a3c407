-- A name or a matrix that was put is told as what was given, with the very bytes.
-- Assumes nothing.
use mathlib.Core.Path.{◌≡◌, refl, sym, ap, subst, ◌∙◌}
use mathlib.Core.Bool.{Bool, true, false, cond}
use mathlib.Core.List.{List, [], ◌∷◌, ◌++◌}
use Prim.Native.Nat.{ℕ, zero, suc, ◌+◌, ◌*◌, ◌/◌, ◌%◌, ◌≤◌, ◌<◌}
use native.Mathlib.Nat.{div-le_self, div-add-mod', add-zero}
use native.Mathlib.Omega.{arith}
use borrow.Author.Tests.{le-leb, lt-ltb, le-ltb, ltb-false, eqb-true}
use lib.Dec.{eqb, ltb}
use lib.ListN.{length, get_or, take, drop, length-append, take-append-drop, get_or-append}
use lib.Seq.{get_or-append-add}
use Rattle.wire.specs.Number.{le, le_bytes}
use Rattle.wire.specs.Answer.{Answer, got, Reader, and_then, when_on, bit}
use Rattle.wire_writer.specs.Writing.{Writes, or_else}
use Rattle.std.specs.Prelude.{Ok}
use Rattle.wire_writer.proofs.Answering.{reported}
use Rattle.wire_writer.proofs.Trip.{At, first, second, fits_at, item_is, ruled_is}
use Rattle.wire_writer.proofs.Refusals.{held, both_zero}
use Rattle.plain_value.specs.Width.{width_of, fixed}
use Rattle.plain_value.specs.Plain.{string, qualified_name, localized_text, text_mask_rule, text, plain, plain_value, plain_values}
use Rattle.plain_value.specs.Dimensions.{fours, sizes_rule, dimensions, given_sizes_rule}
use Rattle.value.specs.Value.{Measure, measure, variant_rule, scalar, elements, dimensioned, matrix_of, matrix, variant_of, value_at, variant_at}
use Rattle.value.specs.declared.Shape.{Shape}
use Rattle.value.proofs.FirstByte.{matrix_first}
use Rattle.value.proofs.FirstItems.{fixed_first}
use Rattle.value_parts.specs.declared.put.Form.{Form}
use Rattle.value_parts.specs.Told.{told_variant_at}
use Rattle.value_parts.specs.Name.{text_here, after_text, name_at, name_of}
use Rattle.value_parts.specs.Put.{count_given, form_rule}
use Rattle.value_parts.specs.PutName.{has_locale, has_text, string_if, name_head, name_bytes, name_kind_rule, absent_rule, name_rule, name_output, given_text, given_name, given_name_parts}
use Rattle.value_parts.specs.PutMatrix.{matrix_head, sizes_bytes, matrix_bytes, matrix_rule, matrix_output, given_matrix_parts}
use Rattle.value_parts.proofs.StoringNames.{kind_fine, number_fits, strings_rules, locale_short, text_short, string_length, matrix_size, matrix_fits}
use Rattle.value_parts.proofs.Trip.{there_is, count_there, first_true}

-- a number reads alike in bytes and where these bytes stand
module _ (s : List ℕ) (m : ℕ) (b : List ℕ) (a : At s m b) where
  byte_at : (i : ℕ) → i < length b → get_or s (m + i) 0 ≡ get_or b i 0
  byte_at i h =
      ap (λ (l : List ℕ). get_or l (m + i) 0) a.2 ∙ ap (λ (k : ℕ). get_or (a.0 ++ (b ++ a.1)) (k + i) 0) (sym a.3) ∙ get_or-append-add a.0 (b ++ a.1) i 0
      ∙ get_or-append b a.1 0 i h

  number_at : (w i : ℕ) → i + w ≤ length b → le w s (m + i) ≡ le w b i
  number_at zero i h = refl
  number_at (suc w) i h =
      let e : m + i + 1 ≡ m + (i + 1) = omega arith in
      rw (byte_at i (omega arith), e, number_at w (i + 1) (omega arith))

-- ---- a matrix

module _ (s : List ℕ) (p : ℕ) (t n : ℕ) (sizes : List ℕ) (rule : given_sizes_rule n sizes ≡ 0) (few : length sizes ≤ 65535) (a : At s p (sizes_bytes sizes)) where
  abbrev many : ℕ
  many = length sizes / 4

  sizes_rules : (length sizes % 4 ≡ 0) × (0 < length sizes) × (sizes_rule n (fours many (le (4 * many) sizes 0)) ≡ 0)
  sizes_rules = go (eqb (length sizes % 4) 0) refl (eqb (length sizes) 0) refl rule
    where
      go : (x : Bool) → eqb (length sizes % 4) 0 ≡ x → (y : Bool) → eqb (length sizes) 0 ≡ y
          → ◌≡◌ {A = ℕ} (cond x (cond y 5 (sizes_rule n (fours many (le (4 * many) sizes 0)))) 6) 0
          → (length sizes % 4 ≡ 0) × (0 < length sizes) × (sizes_rule n (fours many (le (4 * many) sizes 0)) ≡ 0)
      go true ex true ey q = absurd (omega (arith, q))
      go true ex false ey q = (eqb-true (length sizes % 4) 0 ex, some (length sizes) ey, q)
        where
          some : (k : ℕ) → eqb k 0 ≡ false → 0 < k
          some zero e = absurd (let z : ◌≡◌ {A = ℕ} 0 1 = cc in omega arith)
          some (suc k) e = omega arith
      go false ex y ey q = absurd (omega (arith, q))

  whole : 4 * many ≡ length sizes
  whole = omega (arith, sizes_rules.0, div-add-mod' (length sizes) 4)

  dimensions_there : dimensions n s p ≡ got many (p + 4 + 4 * many)
  unfolding dimensions
  dimensions_there =
      let some : many < 2147483648 = omega (arith, div-le_self (length sizes) 4, few) in
      let count = count_there s p many some (first s p (le_bytes 4 many) sizes a) in
      let list = second s p (le_bytes 4 many) sizes a in
      let fits : p + 4 + 4 * many ≤ length s = omega (arith, fits_at s (p + 4) sizes list, whole) in
      let positive : 0 < many = omega (arith, whole, sizes_rules.1) in
      let within : 0 + 4 * many ≤ length sizes = omega (arith, whole) in
      let value : le (4 * many) s (p + 4) ≡ le (4 * many) sizes 0 = ap (le (4 * many) s) (sym (add-zero (p + 4))) ∙ number_at s (p + 4) sizes list (4 * many) 0 within in
      rw (count, lt-ltb 0 many positive, le-leb (p + 4 + 4 * many) (length s) fits, value, sizes_rules.2)

module _ (s : List ℕ) (m t : ℕ) (sizes b : List ℕ) (rule : matrix_rule t sizes (length b) ≡ 0) (few : length sizes ≤ 65535) (a : At s m (matrix_bytes t sizes b)) where
  abbrev n : ℕ
  n = length b

  abbrev c : ℕ
  c = count_given t Form.Array n

  abbrev k : ℕ
  k = length sizes / 4

  small : t < 64
  small = (matrix_fits t sizes n rule).0

  short : n ≤ 65535
  short = omega (arith, (matrix_fits t sizes n rule).1)

  rules : (variant_rule (t + 192) ≡ 0) × (form_rule t Form.Array n ≡ 0) × (given_sizes_rule c sizes ≡ 0)
  rules =
      let x = both_zero (cond (ltb t 64) (or_else (variant_rule (t + 192)) (form_rule t Form.Array n)) 4) (cond (ltb 65535 n) 10 (given_sizes_rule c sizes)) rule in
      let types : or_else (variant_rule (t + 192)) (form_rule t Form.Array n) ≡ 0 =
      ap (λ (y : Bool). cond y (or_else (variant_rule (t + 192)) (form_rule t Form.Array n)) 4) (sym (lt-ltb t 64 small)) ∙ x.0 in
      let y = both_zero (variant_rule (t + 192)) (form_rule t Form.Array n) types in
      (y.0, y.1, ap (λ (y : Bool). cond y 10 (given_sizes_rule c sizes)) (sym (le-ltb 65535 n short)) ∙ x.1)

  wide : fixed t ≡ true
  wide = (first_true (fixed t) _ 3 rules.1).0

  elements_whole : (c < 2147483648) × (c * width_of t ≡ n)
  elements_whole =
      let w : ℕ = width_of t in
      let r = first_true (fixed t) _ 3 rules.1 in
      let z : n % w ≡ 0 = eqb-true (n % w) 0 (held (eqb (n % w) 0) 5 r.1) in
      let ck : c ≡ n / w = rw r.0 in
      (omega (arith, ck, div-le_self n w, short), ap (λ (x : ℕ). x * w) ck ∙ sym (add-zero (n / w * w)) ∙ ap (λ (x : ℕ). n / w * w + x) (sym z) ∙ div-add-mod' n w)

  head : At s m (matrix_head t n)
  head = first s m (matrix_head t n) (b ++ sizes_bytes sizes) a

  rest : At s (m + 5) (b ++ sizes_bytes sizes)
  rest = second s m (matrix_head t n) (b ++ sizes_bytes sizes) a

  list : At s (m + 5 + n) (sizes_bytes sizes)
  list = second s (m + 5) b (sizes_bytes sizes) rest

  abbrev nested : ℕ → Reader Measure
  nested = value_at 99

  by_first : variant_at s m ≡ variant_of nested (t + 192) s (m + 1)
  unfolding value_at
  by_first =
      ap (λ (x : Answer ℕ). and_then x (λ v next. variant_of nested v s next))
      (ruled_is 1 variant_rule (t + 192) m (omega (arith, small)) rules.0 s (first s m (le_bytes 1 (t + 192)) (le_bytes 4 c) head))

  by_type : variant_of nested (t + 192) s (m + 1) ≡ matrix nested t s (m + 1)
  by_type = let f = matrix_first t small in rw (f.type, (fixed_first t wide).3, f.array, f.dimensions)

  by_count : matrix nested t s (m + 1) ≡ matrix_of nested t c s (m + 5)
  unfolding matrix
  by_count =
      let five : m + 1 + 4 ≡ m + 5 = omega arith in
      rw (count_there s (m + 1) c elements_whole.0 (second s m (le_bytes 1 (t + 192)) (le_bytes 4 c) head), five)

  by_elements : (q : ℕ) → q * width_of t ≡ n → matrix_of nested t q s (m + 5) ≡ dimensioned t q s (m + 5 + n)
  unfolding elements plain_values
  by_elements q e =
      let fits : m + 5 + n ≤ length s = fits_at s (m + 5) b (first s (m + 5) b (sizes_bytes sizes) rest) in
      rw ((fixed_first t wide).4, wide, e, le-leb (m + 5 + n) (length s) fits)

  by_sizes : dimensioned t c s (m + 5 + n) ≡ got (measure t (Shape.Matrix c k)) (m + 5 + n + 4 + 4 * k)
  by_sizes = rw (dimensions_there s (m + 5 + n) t c sizes rules.2 few list)

  matrix_measured : variant_at s m ≡ got (measure t (Shape.Matrix c k)) (m + length (matrix_bytes t sizes b))
  matrix_measured =
      by_first ∙ by_type ∙ by_count ∙ by_elements c elements_whole.1 ∙ by_sizes
      ∙ ap (got (measure t (Shape.Matrix c k))) (omega (arith, matrix_size t sizes b, whole s (m + 5 + n) t c sizes rules.2 few list))

  -- wherever the bytes of an accepted matrix stand
  matrix_told : (told_variant_at s m ≡ got (given_matrix_parts m t sizes b) (m + length (matrix_bytes t sizes b)))
      × (take (length b) (drop (m + 5) s) ≡ b) × (take (length sizes) (drop (m + 9 + length b) s) ≡ sizes)
  matrix_told =
      let five : m + 1 + 4 ≡ m + 5 = omega arith in
      let place : m + 5 + n + 4 ≡ m + 9 + n = omega arith in (
        rw (matrix_measured, five),
        there_is s (m + 5) b (first s (m + 5) b (sizes_bytes sizes) rest),
        subst (λ (q : ℕ). take (length sizes) (drop q s) ≡ sizes) place (there_is s (m + 5 + n + 4) sizes (second s (m + 5 + n) (le_bytes 4 k) sizes list)),
      )

-- and in the buffer that `put_matrix` left
pub matrix_written : (t : ℕ) (sizes b entry exit : List ℕ) (n : ℕ) → Writes (matrix_output t sizes b) entry exit (Ok n)
    → (told_variant_at exit 0 ≡ got (given_matrix_parts 0 t sizes b) (0 + length (matrix_bytes t sizes b)))
    × (take (length b) (drop 5 exit) ≡ b) × (take (length sizes) (drop (9 + length b) exit) ≡ sizes)
matrix_written t sizes b entry exit n w =
    let r = reported (matrix_rule t sizes (length b)) (matrix_bytes t sizes b) entry exit n w in
    let few : length sizes ≤ 65535 = omega (arith, matrix_size t sizes b, r.limit) in
    matrix_told exit 0 t sizes b r.number few ([], drop n exit, sym (take-append-drop n exit) ∙ ap (λ (l : List ℕ). l ++ drop n exit) r.front, refl)

-- ---- a name

-- a String that may be there
module _ (s : List ℕ) (p : ℕ) (on : Bool) (b : List ℕ) (short : length b ≤ 65535) (a : At s p (string_if on b)) where
  string_there : At s p (le_bytes 4 (length b) ++ b) → string s p ≡ got tt (p + 4 + length b)
  unfolding string
  string_there x =
      let fits : p + 4 + length b ≤ length s = fits_at s (p + 4) b (second s p (le_bytes 4 (length b)) b x) in
      rw (count_there s p (length b) (omega (arith, short)) (first s p (le_bytes 4 (length b)) b x), le-leb (p + 4 + length b) (length s) fits)

module _ (s : List ℕ) (p : ℕ) (b : List ℕ) (short : length b ≤ 65535) where
  string_read : (on : Bool) → At s p (string_if on b) → when_on on tt string s p ≡ got tt (p + length (string_if on b))
  string_read true a =
      let e : p + 4 + length b ≡ p + length (string_if true b) = omega (arith, string_length true b refl) in
      string_there s p true b short a a ∙ ap (got tt) e
  string_read false a = ap (got tt) (sym (add-zero p))

  text_here_lem : (on : Bool) → At s p (string_if on b) → text_here on s p ≡ given_text on p b
  text_here_lem true a = rw (count_there s p (length b) (omega (arith, short)) (first s p (le_bytes 4 (length b)) b a))
  text_here_lem false a = refl

  text_after_lem : (on : Bool) → At s p (string_if on b) → after_text on s p ≡ p + length (string_if on b)
  text_after_lem true a =
      let e : p + 4 + length b ≡ p + length (string_if true b) = omega (arith, string_length true b refl) in
      rw (string_there s p true b short a) e
  text_after_lem false a = sym (add-zero p)

  text_bytes : (on : Bool) → absent_rule on (length b) ≡ 0 → At s p (string_if on b) → take (length b) (drop (given_text on p b).place s) ≡ b
  text_bytes true rule a = there_is s (p + 4) b (second s p (le_bytes 4 (length b)) b a)
  text_bytes false rule a = none b (eqb-true (length b) 0 (held (eqb (length b) 0) 5 rule))
    where
      none : (l : List ℕ) → length l ≡ 0 → take (length l) (drop 0 s) ≡ l
      none [] e = refl
      none (x ∷ xs) e = absurd (omega (arith, e))

module _ (s : List ℕ) (m n : ℕ) (locale text : List ℕ) (few : length locale ≤ 65535) (less : length text ≤ 65535) where
  abbrev inside : ℕ → Reader Measure
  inside = value_at 99

  module _ (fits : n < 65536) (a : At s m (name_bytes 20 n locale text)) where
    index : At s (m + 1) (le_bytes 2 n)
    index = second s m (le_bytes 1 20) (le_bytes 2 n) (first s m (name_head 20 n) (string_if true text) a)

    called : At s (m + 3) (string_if true text)
    called = second s m (name_head 20 n) (string_if true text) a

    qualified_measured : variant_at s m ≡ got (measure 20 Shape.Scalar) (m + length (name_bytes 20 n locale text))
    unfolding value_at variant_rule scalar plain plain_value text qualified_name width_of
    qualified_measured =
        let byte = first s m (le_bytes 1 20) (le_bytes 2 n) (first s m (name_head 20 n) (string_if true text) a) in
        let two : m + 1 + 2 ≤ length s = fits_at s (m + 1) (le_bytes 2 n) index in
        let three : m + 1 + 2 ≡ m + 3 = omega arith in
        let e : m + 3 + 4 + length text ≡ m + length (name_bytes 20 n locale text) =
        omega (arith, length-append (name_head 20 n) (string_if true text), string_length true text refl) in
        rw (ruled_is 1 variant_rule 20 m (omega arith) refl s byte, le-leb (m + 1 + 2) (length s) two, three, string_there s (m + 3) true text less called called, e)

    qualified_name_lem : name_at 20 s (m + 1) ≡ given_name m 20 n locale text
    qualified_name_lem =
        let three : m + 1 + 2 ≡ m + 3 = omega arith in
        rw (item_is 2 n (m + 1) (omega (arith, fits)) s index, three, text_here_lem s (m + 3) text less true called, add-zero (m + 3))

  module _ (mask : n ≤ 3) (a : At s m (name_bytes 21 n locale text)) where
    abbrev strings : List ℕ
    strings = string_if (bit 0 n) locale ++ string_if (bit 1 n) text

    front : At s m (name_head 21 n)
    front = first s m (name_head 21 n) strings a

    bits_there : At s (m + 1) (le_bytes 1 n)
    bits_there = second s m (le_bytes 1 21) (le_bytes 1 n) front

    both : At s (m + 2) strings
    both = second s m (name_head 21 n) strings a

    locale_there : At s (m + 2) (string_if (bit 0 n) locale)
    locale_there = first s (m + 2) (string_if (bit 0 n) locale) (string_if (bit 1 n) text) both

    text_there : At s (m + 2 + length (string_if (bit 0 n) locale)) (string_if (bit 1 n) text)
    text_there = second s (m + 2) (string_if (bit 0 n) locale) (string_if (bit 1 n) text) both

    localized_read : localized_text s (m + 1) ≡ got tt (m + length (name_bytes 21 n locale text))
    unfolding localized_text
    localized_read =
        let two : m + 1 + 1 ≡ m + 2 = omega arith in
        let e : m + 2 + length (string_if (bit 0 n) locale) + length (string_if (bit 1 n) text) ≡ m + length (name_bytes 21 n locale text) =
        omega (arith, length-append (name_head 21 n) strings, length-append (string_if (bit 0 n) locale) (string_if (bit 1 n) text)) in
        rw (
          ruled_is 1 text_mask_rule n (m + 1) (omega (arith, mask)) (rw (le-ltb 3 n mask)) s bits_there,
          two,
          string_read s (m + 2) locale few (bit 0 n) locale_there,
          string_read s (m + 2 + length (string_if (bit 0 n) locale)) text less (bit 1 n) text_there,
          e,
        )

    localized_measured : variant_at s m ≡ got (measure 21 Shape.Scalar) (m + length (name_bytes 21 n locale text))
    unfolding value_at variant_rule scalar plain plain_value text width_of
    localized_measured =
        rw (ruled_is 1 variant_rule 21 m (omega arith) refl s (first s m (le_bytes 1 21) (le_bytes 1 n) front), localized_read)

    localized_name : name_at 21 s (m + 1) ≡ given_name m 21 n locale text
    localized_name =
        let two : m + 1 + 1 ≡ m + 2 = omega arith in
        rw (
          item_is 1 n (m + 1) (omega (arith, mask)) s bits_there,
          two,
          text_here_lem s (m + 2) locale few (bit 0 n) locale_there,
          text_after_lem s (m + 2) locale few (bit 0 n) locale_there,
          text_here_lem s (m + 2 + length (string_if (bit 0 n) locale)) text less (bit 1 n) text_there,
        )

-- wherever the bytes of an accepted name stand
abbrev NameTold : List ℕ → ℕ → ℕ → ℕ → List ℕ → List ℕ → Type 0
NameTold s m t n locale text =
    (told_variant_at s m ≡ got (given_name_parts m t n locale text) (m + length (name_bytes t n locale text)))
    × (name_of s (given_name_parts m t n locale text) ≡ given_name m t n locale text)

by_kind : (t n : ℕ) (P : ℕ → Type 0) → name_kind_rule t n ≡ 0 → P 20 → (n ≤ 3 → P 21) → P t
by_kind t n P h q l = go (eqb t 20) refl (eqb t 21) refl (ltb 3 n) refl h
  where
    go : (x : Bool) → eqb t 20 ≡ x → (y : Bool) → eqb t 21 ≡ y → (z : Bool) → ltb 3 n ≡ z → ◌≡◌ {A = ℕ} (cond x 0 (cond y (cond z 3 0) 4)) 0 → P t
    go true ex y ey z ez e = subst P (sym (eqb-true t 20 ex)) q
    go false ex true ey true ez e = absurd (omega (arith, e))
    go false ex true ey false ez e = subst P (sym (eqb-true t 21 ey)) (l (ltb-false 3 n ez))
    go false ex false ey z ez e = absurd (omega (arith, e))

name_told : (s : List ℕ) (m t n : ℕ) (locale text : List ℕ) → length locale ≤ 65535 → length text ≤ 65535 → name_kind_rule t n ≡ 0 → n < 65536
    → At s m (name_bytes t n locale text) → NameTold s m t n locale text
unfolding width_of
name_told s m t n locale text few less kind fits =
    by_kind t n (λ (x : ℕ). At s m (name_bytes x n locale text) → NameTold s m x n locale text) kind
    (λ a. (rw (qualified_measured s m n locale text few less fits a), qualified_name_lem s m n locale text few less fits a))
    (λ mask a. (rw (localized_measured s m n locale text few less mask a), localized_name s m n locale text few less mask a))

-- its Strings' very bytes
name_bytes_lem : (s : List ℕ) (m t n : ℕ) (locale text : List ℕ) → length locale ≤ 65535 → length text ≤ 65535
    → absent_rule (has_locale t n) (length locale) ≡ 0 → absent_rule (has_text t n) (length text) ≡ 0 → At s m (name_bytes t n locale text)
    → (take (length locale) (drop (given_name m t n locale text).locale.place s) ≡ locale) × (take (length text) (drop (given_name m t n locale text).text.place s) ≡ text)
name_bytes_lem s m t n locale text few less l k a =
    let at : ℕ = m + length (name_head t n) in
    let x = string_if (has_locale t n) locale in
    let y = string_if (has_text t n) text in
    let both = second s m (name_head t n) (x ++ y) a in
    (text_bytes s at locale few (has_locale t n) l (first s at x y both), text_bytes s (at + length x) text less (has_text t n) k (second s at x y both))

-- and in the buffer that `put_name` left
pub name_written : (t n : ℕ) (locale text entry exit : List ℕ) (k : ℕ) → Writes (name_output t n locale text) entry exit (Ok k)
    → (told_variant_at exit 0 ≡ got (given_name_parts 0 t n locale text) (0 + length (name_bytes t n locale text)))
    × (name_of exit (given_name_parts 0 t n locale text) ≡ given_name 0 t n locale text)
    × (take (length locale) (drop (given_name 0 t n locale text).locale.place exit) ≡ locale)
    × (take (length text) (drop (given_name 0 t n locale text).text.place exit) ≡ text)
name_written t n locale text entry exit k w =
    let r = reported (name_rule t n (length locale) (length text)) (name_bytes t n locale text) entry exit k w in
    let here : At exit 0 (name_bytes t n locale text) = ([], drop k exit, sym (take-append-drop k exit) ∙ ap (λ (l : List ℕ). l ++ drop k exit) r.front, refl) in
    let rules = strings_rules t n locale text r.number in
    let few = locale_short t n locale text r.number r.limit in
    let less = text_short t n locale text r.number r.limit in
    let told = name_told exit 0 t n locale text few less (kind_fine t n locale text r.number) (number_fits t n locale text r.number) here in
    let bytes = name_bytes_lem exit 0 t n locale text few less rules.0 rules.1 here in
    (told.0, told.1, bytes.0, bytes.1)
