-- What a Variant's first items tell where it is accepted: of a null and a scalar of a fixed type all; of any other its type number and shape.
-- Assumes nothing.
use mathlib.Core.Path.{◌≡◌, refl, sym, ap, ◌∙◌}
use mathlib.Core.Bool.{Bool, true, false, cond, not, ◌&&◌, ◌||◌}
use mathlib.Core.List.{List}
use Prim.Native.Nat.{ℕ, suc, ◌+◌, ◌*◌, ◌<◌, ◌≤◌}
use native.Mathlib.Omega.{arith}
use borrow.Author.Tests.{leb-true, leb-false, le-leb, ltb-true, lt-ltb, eq-eqb, eqb-true, eqb-false}
use lib.Dec.{T, eqb, leb, eqb→eq}
use lib.ListN.{length, get_or}
use Rattle.wire.specs.Answer.{got, refused, Reader, and_then, ◌>>◌, pure, refuse, item, ruled, when_on, bit}
use Rattle.wire.specs.Items.{length_item}
use Rattle.wire.specs.declared.Length.{Length}
use Rattle.wire.proofs.Reading.{got_value, not_got, invert}
use Rattle.wire.proofs.Table.{below, and_left, and_right}
use Rattle.plain_value.specs.Width.{width_of, fixed}
use Rattle.plain_value.specs.Parts.{parts}
use Rattle.plain_value.specs.Plain.{passing, bytes, after_length, plain, plain_value}
use Rattle.value.specs.Value.{Measure, measure, type_of, is_array, has_dimensions, variant_rule, mask_rule, scalar, elements, array_of, array, variant_of, data_value_of, value_at, variant_at, data_value_at, raw_at}
use Rattle.value.specs.Quick.{scalar_size, fixed_end, array_at, described_at}
use Rattle.value.specs.declared.Shape.{Shape}
use Rattle.plain_value.proofs.Widths.{past, positive}
use Rattle.plain_value.proofs.Passing.{passed}

-- ---- a scalar of a fixed type

-- a first byte that is a fixed type's number: no rule is broken, and it is no array
unfoldable fine : ℕ → Bool
fine b = not (fixed b) || (eqb (variant_rule b) 0 && (eqb (type_of b) b && (not (is_array b) && (not (eqb b 0) && plain b))))

pub yes : (b : Bool) → T b → b ≡ true
yes true t = refl
yes false t = absurd t

pub no : (b : Bool) → T (not b) → b ≡ false
no true t = absurd t
no false t = refl

second : (a b : Bool) → a ≡ true → T (not a || b) → T b
second true b e t = t
second false b e t = absurd (let z : ◌≡◌ {A = ℕ} 0 1 = cc in omega arith)

fine_below : (b : ℕ) → b < 20 → T (fine b)
unfolding fine variant_rule plain width_of
fine_below b h = below fine 20 tt b h

abbrev pub FixedFirst : ℕ → Type 0
FixedFirst b = (variant_rule b ≡ 0) × (type_of b ≡ b) × (is_array b ≡ false) × (eqb b 0 ≡ false) × (plain b ≡ true)

tested : (b : ℕ) → fixed b ≡ true → T (fine b) → FixedFirst b
unfolding fine
tested b e t =
    let t1 = second (fixed b) _ e t in
    let t2 = and_right (eqb (variant_rule b) 0) _ t1 in
    let t3 = and_right (eqb (type_of b) b) _ t2 in
    let t4 = and_right (not (is_array b)) _ t3 in (
      eqb→eq _ _ (and_left (eqb (variant_rule b) 0) _ t1),
      eqb→eq _ _ (and_left (eqb (type_of b) b) _ t2),
      no _ (and_left (not (is_array b)) _ t3),
      no _ (and_left (not (eqb b 0)) _ t4),
      yes _ (and_right (not (eqb b 0)) _ t4),
    )

pub fixed_first : (b : ℕ) → fixed b ≡ true → FixedFirst b
fixed_first b e = go (leb 20 b) refl
  where
    go : (x : Bool) → leb 20 b ≡ x → FixedFirst b
    go true h =
        let z : 0 ≡ width_of b = past b (leb-true 20 b h) in
        let l : 0 < width_of b = ltb-true 0 (width_of b) e in
        absurd (omega arith)
    go false h = tested b e (fine_below b (leb-false 20 b h))

-- such a Variant that fits is measured by its width
fixed_measured : (l : ℕ) (s : List ℕ) (at : ℕ) → 0 < width_of (get_or s at 0) → at + width_of (get_or s at 0) + 1 ≤ length s
    → value_at (suc l) 24 s at ≡ got (measure (get_or s at 0) Shape.Scalar) (at + width_of (get_or s at 0) + 1)
unfolding value_at scalar plain_value
fixed_measured l s at f h =
    let b : ℕ = get_or s at 0 in
    let w : ℕ = width_of b in
    let fx : fixed b ≡ true = lt-ltb 0 w f in
    let first : FixedFirst b = fixed_first b fx in
    let here : leb (at + 1) (length s) ≡ true = le-leb (at + 1) (length s) (omega arith) in
    let fits : leb (at + 1 + w) (length s) ≡ true = le-leb (at + 1 + w) (length s) (omega arith) in
    let byte : b + 256 * 0 ≡ b = omega arith in
    let end : at + 1 + w ≡ at + w + 1 = omega arith in
    rw (here, byte, first.0, first.1, first.3, first.2, first.4, fx, fits, end)

null_measured : (l : ℕ) (s : List ℕ) (at : ℕ) → at < length s → get_or s at 0 ≡ 0 → value_at (suc l) 24 s at ≡ got (measure 0 Shape.Scalar) (at + 1)
unfolding value_at variant_rule plain width_of
null_measured l s at h e =
    let here : leb (at + 1) (length s) ≡ true = le-leb (at + 1) (length s) (omega arith) in
    rw (here, e)

-- a null and a scalar of a fixed type, by its size
pub scalar_measured : (l : ℕ) (s : List ℕ) (at size : ℕ) → at < length s → size ≡ scalar_size (get_or s at 0) → 0 < size → at + size ≤ length s
    → value_at (suc l) 24 s at ≡ got (measure (get_or s at 0) Shape.Scalar) (at + size)
scalar_measured l s at size h same some fits = go (eqb (get_or s at 0) 0) refl (eqb (width_of (get_or s at 0)) 0) refl
  where
    b : ℕ
    b = get_or s at 0

    go : (x : Bool) → eqb b 0 ≡ x → (y : Bool) → eqb (width_of b) 0 ≡ y → value_at (suc l) 24 s at ≡ got (measure b Shape.Scalar) (at + size)
    go true ex y ey =
        let null : b ≡ 0 = eqb-true b 0 ex in
        let one : size ≡ 1 = same ∙ rw ex in
        let end : at + 1 ≡ at + size = omega arith in
        null_measured l s at h null ∙ ap (λ (n : ℕ). got (measure n Shape.Scalar) (at + 1)) (sym null) ∙ ap (got (measure b Shape.Scalar)) end
    go false ex true ey = absurd (let none : size ≡ 0 = same ∙ rw (ex, ey) in omega arith)
    go false ex false ey =
        let w : ℕ = width_of b in
        let wide : size ≡ w + 1 = same ∙ rw (ex, ey) in
        let end : at + w + 1 ≡ at + size = omega arith in
        fixed_measured l s at (positive w (eqb-false w 0 ey)) (omega arith) ∙ ap (got (measure b Shape.Scalar)) end

pub fixed_variant : (l : ℕ) (s : List ℕ) (at : ℕ) {e : ℕ} → e ≡ fixed_end s at → at < e → (at < length s) × (value_at (suc l) 24 s at ≡ got (measure (get_or s at 0) Shape.Scalar) e)
fixed_variant l s at {e} q up = go (leb (length s) at) refl (leb (at + scalar_size (get_or s at 0)) (length s)) refl
  where
    size : ℕ
    size = scalar_size (get_or s at 0)

    go : (x : Bool) → leb (length s) at ≡ x → (y : Bool) → leb (at + size) (length s) ≡ y
        → (at < length s) × (value_at (suc l) 24 s at ≡ got (measure (get_or s at 0) Shape.Scalar) e)
    go true ex y ey = absurd (let same : e ≡ at = q ∙ rw ex in omega arith)
    go false ex false ey = absurd (let same : e ≡ at = q ∙ rw (ex, ey) in omega arith)
    go false ex true ey =
        let inside : at < length s = leb-false (length s) at ex in
        let end : e ≡ at + size = q ∙ rw (ex, ey) in
        (inside, scalar_measured l s at size inside refl (omega arith) (leb-true (at + size) (length s) ey) ∙ ap (got (measure (get_or s at 0) Shape.Scalar)) (sym end))

-- ---- any accepted Variant

-- where the type is 0 and no rule is broken, it is no array
null_scalar : (b : ℕ) → eqb (type_of b) 0 ≡ true → variant_rule b ≡ 0 → is_array b ≡ false
unfolding variant_rule
null_scalar b e r = go (is_array b) refl (has_dimensions b) refl
  where
    go : (x : Bool) → is_array b ≡ x → (y : Bool) → has_dimensions b ≡ y → x ≡ false
    go false ex y ey = refl
    go true ex true ey = absurd (let z : 3 ≡ 0 = sym (rw (ex, ey, e)) ∙ r in omega arith)
    go true ex false ey = absurd (let z : 3 ≡ 0 = sym (rw (ex, ey, e)) ∙ r in omega arith)

-- a first byte below 192 that breaks no rule has no dimensions
unfoldable flat_fine : ℕ → Bool
flat_fine b = not (eqb (variant_rule b) 0) || not (has_dimensions b)

flat : (b : ℕ) → b < 192 → variant_rule b ≡ 0 → has_dimensions b ≡ false
unfolding flat_fine variant_rule plain width_of
flat b h r = go (below flat_fine 192 tt b h)
  where
    go : T (flat_fine b) → has_dimensions b ≡ false
    go p = no (has_dimensions b) (second (eqb (variant_rule b) 0) (not (has_dimensions b)) (eq-eqb (variant_rule b) 0 r) p)

abbrev null : ℕ → Reader Measure
null t = pure (measure t Shape.NullArray)

module _ (s : List ℕ) (e : ℕ) {m : Measure} where
  -- the length of an accepted array
  by_length : (t next : ℕ) → array (value_at 99) t s next ≡ got m e → got m e ≡ array_at e t s next
  unfolding array
  by_length t next q = let i = invert (length_item s next) (λ l after. after_length (null t) (array_of (value_at 99) t) next l s after) q in go i.0 i.1 i.2 i.3
    where
      go : (l : Length) (after : ℕ) → length_item s next ≡ got l after → after_length (null t) (array_of (value_at 99) t) next l s after ≡ got m e → got m e ≡ array_at e t s next
      go Length.Null after h r = rw (h, sym (got_value r))
      go (Length.Of n) after h r =
          let j = invert (elements (value_at 99) t n s after) (λ a last. got (measure t (Shape.Array n)) last) r in
          rw (h, sym (got_value j.3))
      go Length.Negative after h r = absurd (not_got r)

  -- what follows its first byte
  by_first : (b next : ℕ) → variant_rule b ≡ 0 → has_dimensions b ≡ false → variant_of (value_at 99) b s next ≡ got m e
      → got m e ≡ cond (is_array b) (array_at e (type_of b) s next) (got (measure (type_of b) Shape.Scalar) e)
  unfolding scalar
  by_first b next r f q = go (eqb (type_of b) 0) refl (is_array b) refl (rw f at q)
    where
      go : (x : Bool) → eqb (type_of b) 0 ≡ x → (y : Bool) → is_array b ≡ y
          → cond x (λ z p. got (measure 0 Shape.Scalar) p) (cond y (array (value_at 99) (type_of b)) (scalar (value_at 99) (type_of b))) s next ≡ got m e
          → got m e ≡ cond y (array_at e (type_of b) s next) (got (measure (type_of b) Shape.Scalar) e)
      go true ex true ey h = absurd (let z = sym ey ∙ null_scalar b ex r in let n : ◌≡◌ {A = ℕ} 0 1 = cc in omega arith)
      go true ex false ey h = rw (sym (got_value h), eqb-true (type_of b) 0 ex)
      go false ex true ey h = by_length (type_of b) next h
      go false ex false ey h =
          let j = invert (cond (plain (type_of b)) (plain_value (type_of b)) (passing (value_at 99 (type_of b))) s next) (λ a last. got (measure (type_of b) Shape.Scalar) last) h in
          rw (sym (got_value j.3))

-- an item that a rule lets pass
ruled_got : (rule : ℕ → ℕ) (s : List ℕ) (at : ℕ) {b next : ℕ} → ruled 1 rule s at ≡ got b next → (item 1 s at ≡ got b next) × (rule b ≡ 0)
ruled_got rule s at q = let i = invert (item 1 s at) (λ v after. cond (eqb (rule v) 0) (got v after) (refused (rule v) at)) q in go i.0 i.1 i.2 (eqb (rule i.0) 0) refl i.3
  where
    go : (v after : ℕ) → item 1 s at ≡ got v after → (x : Bool) → eqb (rule v) 0 ≡ x → {b next : ℕ} → cond x (got v after) (refused (rule v) at) ≡ got b next
        → (item 1 s at ≡ got b next) × (rule b ≡ 0)
    go v after h true ex r = (h ∙ r, ap rule (sym (got_value r)) ∙ eqb-true (rule v) 0 ex)
    go v after h false ex r = absurd (not_got r)

by_item : (s : List ℕ) (at e : ℕ) {b next : ℕ} → item 1 s at ≡ got b next → described_at e s at ≡ cond (is_array b) (array_at e (type_of b) s next) (got (measure (type_of b) Shape.Scalar) e)
by_item s at e h = rw h

-- such a Variant whose first byte is below 192
pub described_is : (s : List ℕ) (at : ℕ) {b n e : ℕ} → item 1 s at ≡ got b n → b < 192 → passing variant_at s at ≡ got tt e → variant_at s at ≡ described_at e s at
unfolding value_at
described_is s at {e = e} here small q =
    let x = passed (variant_at s at) q in
    let i = invert (ruled 1 variant_rule s at) (λ b next. variant_of (value_at 99) b s next) x.1 in
    let f = ruled_got variant_rule s at i.2 in
    let below : i.0 < 192 = omega (arith, small, got_value (sym here ∙ f.0)) in
    x.1 ∙ by_first s e i.0 i.1 f.1 (flat i.0 below f.1) i.3 ∙ sym (by_item s at e f.0)

-- ---- an accepted DataValue

pub data_value_is : (s : List ℕ) (at : ℕ) {e : ℕ} → passing data_value_at s at ≡ got tt e → data_value_at s at ≡ got (measure 23 Shape.Scalar) e
unfolding value_at
data_value_is s at {e} q =
    let x = passed (data_value_at s at) q in
    let i = invert (ruled 1 mask_rule s at) (λ b next. data_value_of (value_at 99) b s next) x.1 in
    let j = invert (when_on (bit 0 i.0) tt (passing (value_at 99 24)) s i.1) (λ a next. and_then (parts i.0 s next) (λ z last. got (measure 23 Shape.Scalar) last)) i.3 in
    let k = invert (parts i.0 s j.1) (λ z last. got (measure 23 Shape.Scalar) last) j.3 in
    x.1 ∙ ap (λ (m : Measure). got m e) (sym (got_value k.3))

-- ---- an accepted element of RawData

pub raw_is : (t : ℕ) (s : List ℕ) (at : ℕ) {e : ℕ} → passing (raw_at t) s at ≡ got tt e → raw_at t s at ≡ got (measure t Shape.Scalar) e
raw_is t s at {e} q = let x = passed (raw_at t s at) q in x.1 ∙ go (fixed t) x.1
  where
    go : (f : Bool) {m : Measure} → cond f (bytes (width_of t) >> pure (measure t Shape.Scalar)) (refuse 4) s at ≡ got m e → got m e ≡ got (measure t Shape.Scalar) e
    go true h = let k = invert (bytes (width_of t) s at) (λ z last. got (measure t Shape.Scalar) last) h in ap (λ (m : Measure). got m e) (sym (got_value k.3))
    go false h = absurd (not_got h)
