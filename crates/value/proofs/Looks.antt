-- What one look tells of a Variant that holds no other value, and of a DataValue that holds none but such a Variant.
-- Assumes nothing.
use mathlib.Core.Path.{◌≡◌, refl, sym, ap, ◌∙◌}
use mathlib.Core.Bool.{Bool, true, false, ◌||◌}
use mathlib.Core.List.{List, [], ◌∷◌}
use Prim.Native.Nat.{ℕ, ◌+◌, ◌*◌, ◌-◌, ◌%◌, ◌<◌, ◌≤◌}
use native.Mathlib.Omega.{arith}
use borrow.Author.Tests.{le-leb, lt-ltb, eqb-true}
use lib.Dec.{T, eqb, leb}
use lib.ListN.{length, get_or}
use Rattle.wire.specs.Answer.{Answer, got, refused, and_then, map_answer, when_on, bit}
use Rattle.wire.proofs.Reading.{not_got}
use Rattle.wire.specs.Items.{length_item}
use Rattle.wire.specs.declared.Length.{Length}
use Rattle.wire.proofs.Table.{below}
use Rattle.plain_value.specs.Width.{among, width_of, fixed}
use Rattle.plain_value.specs.Parts.{parts, parts_width}
use Rattle.plain_value.specs.Plain.{passing, bytes, text, plain, plain_value, plain_values, after_length}
use Rattle.plain_value.proofs.PartLaws.{parts_fit}
use Rattle.value.specs.Value.{Measure, measure, taken, variant_rule, mask_rule, scalar, elements, array_of, array, matrix, value_at, variant_at, data_value_at}
use Rattle.value.specs.Quick.{scalar_size, text_at, run_at, dimensioned_at}
use Rattle.value.specs.declared.Shape.{Shape}
use Rattle.value.proofs.FirstByte.{array_first, matrix_first}
use Rattle.value.proofs.FirstItems.{fixed_first, yes}
use Rattle.value.proofs.Runs.{or_true}

-- what a look tells: all, or the end alone

pub told_whole : (a : Answer Measure) {m : Measure} {next : ℕ} → map_answer (λ k. k) a ≡ got m next → a ≡ got m next
told_whole (got k n) e = e
told_whole (refused n place) e = absurd (not_got e)

pub told_end : (a : Answer Measure) {next : ℕ} → map_answer (λ k. tt {0}) a ≡ got tt next → and_then a (λ k n. got (tt {0}) n) ≡ got tt next
told_end (got k n) e = e
told_end (refused n place) e = absurd (not_got e)

module _ (s : List ℕ) (at : ℕ) (h : at < length s) where
  here : leb (at + 1) (length s) ≡ true
  here = le-leb (at + 1) (length s) (omega arith)

  -- a String or ByteString
  look_12 : get_or s at 0 ≡ 12 → variant_at s at ≡ text_at 12 s (at + 1)
  unfolding value_at variant_rule plain width_of scalar plain_value text
  look_12 e = rw (here, e)

  look_15 : get_or s at 0 ≡ 15 → variant_at s at ≡ text_at 15 s (at + 1)
  unfolding value_at variant_rule plain width_of scalar plain_value text
  look_15 e = rw (here, e)

  pub text_look : (t : ℕ) → get_or s at 0 ≡ t → (eqb t 12 || eqb t 15) ≡ true → variant_at s at ≡ text_at t s (at + 1)
  text_look t e q = go (eqb t 12) refl (eqb t 15) refl q
    where
      go : (x : Bool) → eqb t 12 ≡ x → (y : Bool) → eqb t 15 ≡ y → (x || y) ≡ true → variant_at s at ≡ text_at t s (at + 1)
      go true ex y ey z = let k = eqb-true t 12 ex in look_12 (e ∙ k) ∙ ap (λ (n : ℕ). text_at n s (at + 1)) (sym k)
      go false ex true ey z = let k = eqb-true t 15 ey in look_15 (e ∙ k) ∙ ap (λ (n : ℕ). text_at n s (at + 1)) (sym k)
      go false ex false ey z = absurd (let n : ◌≡◌ {A = ℕ} 0 1 = cc in omega arith)

-- an array of a fixed type
run_look : (t : ℕ) → fixed t ≡ true → plain t ≡ true → (x : Answer Length) (s : List ℕ) (at : ℕ)
    → and_then x (λ l next. after_length (λ z p. got (measure t Shape.NullArray) p) (array_of (value_at 99) t) at l s next)
    ≡ and_then x (λ l next. after_length (λ z p. got (measure t Shape.NullArray) p) (λ n z p. and_then (bytes (n * width_of t) z p) (λ a q. got (measure t (Shape.Array n)) q)) at l s next)
unfolding elements plain_values
run_look t f p (got Length.Null next) s at = refl
run_look t f p (got (Length.Of n) next) s at = rw (p, f)
run_look t f p (got Length.Negative next) s at = refl
run_look t f p (refused n place) s at = refl

pub array_look : (s : List ℕ) (at t w : ℕ) → at < length s → get_or s at 0 ≡ t + 128 → t < 64 → 0 < w → w ≡ width_of t → variant_at s at ≡ run_at t w s (at + 1)
unfolding value_at array
array_look s at t w h e small some same =
    let byte : t + 128 + 256 * 0 ≡ t + 128 = omega arith in
    let f : fixed t ≡ true = lt-ltb 0 (width_of t) (rw same at some) in
    let first = fixed_first t f in
    let a = array_first t small in
    let all : taken t ≡ true = rw first.4 (or_true (among t (0 ∷ 23 ∷ 24 ∷ []))) in
    rw (here s at h, e, byte, a.rule, all, first.3, a.type, first.3, a.array, a.flat, same) (run_look t f first.4 (length_item s (at + 1)) s (at + 1))

-- a matrix of a fixed type

pub matrix_counted : (s : List ℕ) (at t w : ℕ) {n next : ℕ} → 0 < w → w ≡ width_of t → length_item s at ≡ got (Length.Of n) next
    → matrix (value_at 99) t s at ≡ dimensioned_at t n (n * w) s next
unfolding matrix elements plain_values
matrix_counted s at t w some same e =
    let f : fixed t ≡ true = lt-ltb 0 (width_of t) (rw same at some) in
    rw (e, (fixed_first t f).4, f, same)

pub matrix_look : (s : List ℕ) (at t w : ℕ) → at < length s → get_or s at 0 ≡ t + 192 → t < 64 → 0 < w → w ≡ width_of t → variant_at s at ≡ matrix (value_at 99) t s (at + 1)
unfolding value_at
matrix_look s at t w h e small some same =
    let byte : t + 192 + 256 * 0 ≡ t + 192 = omega arith in
    let first = fixed_first t (lt-ltb 0 (width_of t) (rw same at some)) in
    let m = matrix_first t small in
    let all : taken t ≡ true = rw first.4 (or_true (among t (0 ∷ 23 ∷ 24 ∷ []))) in
    rw (here s at h, e, byte, m.rule, all, first.3, m.type, first.3, m.array, m.dimensions)

-- a DataValue, whose mask has neither of its two highest bits

unfoldable mask_fine : ℕ → Bool
mask_fine m = eqb (mask_rule m) 0

mask_low : (m : ℕ) → m < 64 → mask_rule m ≡ 0
unfolding mask_fine
mask_low m h = eqb-true (mask_rule m) 0 (go (below mask_fine 64 tt m h))
  where
    go : T (eqb (mask_rule m) 0) → eqb (mask_rule m) 0 ≡ true
    go = yes (eqb (mask_rule m) 0)

pub data_value_look : (s : List ℕ) (at m after w : ℕ) → at < length s → m ≡ get_or s at 0 → m < 64
    → when_on (bit 0 m) tt (passing (value_at 99 24)) s (at + 1) ≡ got tt after → w ≡ parts_width m → after + w ≤ length s → passing data_value_at s at ≡ got tt (after + w)
unfolding value_at
data_value_look s at m after w h e small q same fits =
    let byte : m + 256 * 0 ≡ m = omega arith in
    let p : parts m s after ≡ got tt (after + w) = rw same (sym (parts_fit s m after (rw same at fits))) in
    rw (here s at h, sym e, byte, mask_low m small, q, p)

-- the element of an array of a fixed type, by the size of a scalar
pub unit_width : (t size : ℕ) → size ≡ scalar_size t → 2 ≤ size → size - 1 ≡ width_of t
unit_width t size same some = go (eqb t 0) refl (eqb (width_of t) 0) refl
  where
    go : (x : Bool) → eqb t 0 ≡ x → (y : Bool) → eqb (width_of t) 0 ≡ y → size - 1 ≡ width_of t
    go true ex y ey = absurd (let e : size ≡ 1 = same ∙ rw ex in omega arith)
    go false ex true ey = absurd (let e : size ≡ 0 = same ∙ rw (ex, ey) in omega arith)
    go false ex false ey = let e : size ≡ width_of t + 1 = same ∙ rw (ex, ey) in omega arith

pub bit_on : (m : ℕ) → (m % 2 ≡ 0 → ⊥) → bit 0 m ≡ true
bit_on m e = let one : m % 2 ≡ 1 = omega arith in rw one
