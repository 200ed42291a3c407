-- Variants that hold a length and a run, passed over: Strings, ByteStrings, arrays of them and of a fixed type.
-- Assumes nothing.
use mathlib.Core.Path.{◌≡◌, refl, sym, ap, ◌∙◌}
use mathlib.Core.Bool.{Bool, true, false, ◌||◌}
use mathlib.Core.List.{List, [], ◌∷◌}
use Prim.Native.Nat.{ℕ, ◌+◌, ◌*◌, ◌%◌, ◌<◌}
use native.Mathlib.Omega.{arith}
use borrow.Author.Tests.{le-leb, lt-ltb, eqb-true}
use lib.Dec.{eqb, leb}
use lib.ListN.{length, get_or}
use Rattle.wire.specs.Answer.{Answer, got, refused, and_then, item, each}
use Rattle.wire.specs.Items.{length_item}
use Rattle.wire.specs.declared.Length.{Length}
use Rattle.plain_value.specs.Width.{among, width_of, fixed}
use Rattle.plain_value.specs.Plain.{passing, bytes, string, text, plain, plain_value, plain_values, after_length}
use Rattle.value.specs.Value.{measure, taken, variant_rule, scalar, elements, array_of, array, value_at, variant_at}
use Rattle.value.specs.Quick.{units, texts, variants}
use Rattle.value.specs.declared.Shape.{Shape}
use Rattle.value.proofs.Heads.{pass_found}
use Rattle.value.proofs.FirstByte.{array_first}
use Rattle.value.proofs.FirstItems.{fixed_first}

module _ (s : List ℕ) (at : ℕ) (h : at < length s) where
  here : leb (at + 1) (length s) ≡ true
  here = le-leb (at + 1) (length s) (omega arith)

  -- a String or ByteString
  string_12 : get_or s at 0 ≡ 12 → passing variant_at s at ≡ string s (at + 1)
  unfolding value_at variant_rule plain width_of scalar plain_value text
  string_12 e = rw (here, e) (sym (pass_found (string s (at + 1)) (measure 12 Shape.Scalar)))

  string_15 : get_or s at 0 ≡ 15 → passing variant_at s at ≡ string s (at + 1)
  unfolding value_at variant_rule plain width_of scalar plain_value text
  string_15 e = rw (here, e) (sym (pass_found (string s (at + 1)) (measure 15 Shape.Scalar)))

  pub text_variant : (t : ℕ) → get_or s at 0 ≡ t → (eqb t 12 || eqb t 15) ≡ true → passing variant_at s at ≡ string s (at + 1)
  text_variant t e q = go (eqb t 12) refl (eqb t 15) refl q
    where
      go : (x : Bool) → eqb t 12 ≡ x → (y : Bool) → eqb t 15 ≡ y → (x || y) ≡ true → passing variant_at s at ≡ string s (at + 1)
      go true ex y ey z = string_12 (e ∙ eqb-true t 12 ex)
      go false ex true ey z = string_15 (e ∙ eqb-true t 15 ey)
      go false ex false ey z = absurd (let n : ◌≡◌ {A = ℕ} 0 1 = cc in omega arith)

-- an array of a fixed type
array_units : (t : ℕ) → fixed t ≡ true → plain t ≡ true → (x : Answer Length) (s : List ℕ) (at : ℕ)
    → and_then (and_then x (λ l next. after_length (λ z p. got (measure t Shape.NullArray) p) (array_of (value_at 99) t) at l s next)) (λ m last. got tt last)
    ≡ and_then x (λ l next. after_length (λ z p. got tt p) (λ n. bytes (n * width_of t)) at l s next)
unfolding elements plain_values
array_units t f p (got Length.Null next) s at = refl
array_units t f p (got (Length.Of n) next) s at = rw (p, f) (sym (pass_found (bytes (n * width_of t) s next) (measure t (Shape.Array n))))
array_units t f p (got Length.Negative next) s at = refl
array_units t f p (refused n place) s at = refl

pub or_true : (a : Bool) → (a || true) ≡ true
or_true true = refl
or_true false = refl

pub array_variant : (s : List ℕ) (at t w : ℕ) → at < length s → get_or s at 0 ≡ t + 128 → t < 64 → 0 < w → w ≡ width_of t → passing variant_at s at ≡ units w s (at + 1)
unfolding value_at array
array_variant s at t w h e small some same =
    let byte : t + 128 + 256 * 0 ≡ t + 128 = omega arith in
    let f : fixed t ≡ true = lt-ltb 0 (width_of t) (rw same at some) in
    let first = fixed_first t f in
    let a = array_first t small in
    let all : taken t ≡ true = rw first.4 (or_true (among t (0 ∷ 23 ∷ 24 ∷ []))) in
    rw (here s at h, e, byte, a.rule, all, first.3, a.type, first.3, a.array, a.flat, same) (array_units t f first.4 (length_item s (at + 1)) s (at + 1))

-- an array of Strings or ByteStrings
array_texts : (t : ℕ) → fixed t ≡ false → plain t ≡ true → (x : Answer Length) (s : List ℕ) (at : ℕ)
    → and_then (and_then x (λ l next. after_length (λ z p. got (measure t Shape.NullArray) p) (array_of (value_at 99) t) at l s next)) (λ m last. got tt last)
    ≡ and_then x (λ l next. after_length (λ z p. got tt p) (each (text t)) at l s next)
unfolding elements plain_values
array_texts t f p (got Length.Null next) s at = refl
array_texts t f p (got (Length.Of n) next) s at = rw (p, f) (sym (pass_found (each (text t) n s next) (measure t (Shape.Array n))))
array_texts t f p (got Length.Negative next) s at = refl
array_texts t f p (refused n place) s at = refl

-- an array of Variants
array_variants : (x : Answer Length) (s : List ℕ) (at : ℕ)
    → and_then (and_then x (λ l next. after_length (λ z p. got (measure 24 Shape.NullArray) p) (array_of (value_at 99) 24) at l s next)) (λ m last. got tt last)
    ≡ and_then x (λ l next. after_length (λ z p. got tt p) (each (value_at 99 24)) at l s next)
unfolding elements plain width_of
array_variants (got Length.Null next) s at = refl
array_variants (got (Length.Of n) next) s at = sym (pass_found (each (value_at 99 24) n s next) (measure 24 (Shape.Array n)))
array_variants (got Length.Negative next) s at = refl
array_variants (refused n place) s at = refl

pub first_byte : (s : List ℕ) (at : ℕ) → at < length s → item 1 s at ≡ got (get_or s at 0) (at + 1)
first_byte s at h = let byte : get_or s at 0 + 256 * 0 ≡ get_or s at 0 = omega arith in rw (here s at h, byte)

module _ (s : List ℕ) (at : ℕ) {next : ℕ} where
  strings_140 : item 1 s at ≡ got 140 next → passing variant_at s at ≡ texts 12 s next
  unfolding value_at variant_rule plain width_of array
  strings_140 e = rw e (array_texts 12 refl refl (length_item s next) s next)

  strings_143 : item 1 s at ≡ got 143 next → passing variant_at s at ≡ texts 15 s next
  unfolding value_at variant_rule plain width_of array
  strings_143 e = rw e (array_texts 15 refl refl (length_item s next) s next)

  pub variants_variant : (b : ℕ) → item 1 s at ≡ got b next → b ≡ 152 → passing variant_at s at ≡ variants s next
  unfolding value_at variant_rule plain width_of array
  variants_variant b e q = let first : item 1 s at ≡ got 152 next = e ∙ ap (λ (n : ℕ). got n next) q in rw first (array_variants (length_item s next) s next)

  pub strings_variant : (b : ℕ) → item 1 s at ≡ got b next → (eqb b 140 || eqb b 143) ≡ true → passing variant_at s at ≡ texts (b % 64) s next
  strings_variant b e q = go (eqb b 140) refl (eqb b 143) refl q
    where
      go : (x : Bool) → eqb b 140 ≡ x → (y : Bool) → eqb b 143 ≡ y → (x || y) ≡ true → passing variant_at s at ≡ texts (b % 64) s next
      go true ex y ey z =
          let k = eqb-true b 140 ex in
          strings_140 (e ∙ ap (λ (n : ℕ). got n next) k) ∙ ap (λ (n : ℕ). texts (n % 64) s next) (sym k)
      go false ex true ey z =
          let k = eqb-true b 143 ey in
          strings_143 (e ∙ ap (λ (n : ℕ). got n next) k) ∙ ap (λ (n : ℕ). texts (n % 64) s next) (sym k)
      go false ex false ey z = absurd (let n : ◌≡◌ {A = ℕ} 0 1 = cc in omega arith)
