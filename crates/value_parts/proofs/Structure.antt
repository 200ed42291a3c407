-- What an accepted Variant's first items are.
-- Assumes nothing.
use mathlib.Core.Path.{◌≡◌, refl, sym, subst}
use mathlib.Core.Bool.{Bool, true, false, cond, ◌||◌, false≢true}
use mathlib.Core.List.{List}
use mathlib.Core.Logic.{◌⊎◌, inl, inr}
use Prim.Native.Nat.{ℕ, suc, ◌+◌, ◌≤◌}
use borrow.Author.Tests.{leb-true, eqb-true}
use lib.Dec.{eqb, leb}
use lib.ListN.{length}
use Rattle.wire.specs.Number.{le, signed}
use Rattle.wire.specs.Answer.{Answer, got, refused, Reader, pure, item, ruled}
use Rattle.wire.specs.Items.{length_of, length_item}
use Rattle.wire.proofs.Reading.{got_value, got_next, not_got, invert}
use Rattle.wire_writer.proofs.Back.{ruled_back}
use Rattle.plain_value.specs.Width.{width_of}
use Rattle.plain_value.specs.Plain.{passing, bytes, after_length, string, length_first, text, plain, plain_value}
use Rattle.value.specs.Value.{Measure, measure, type_of, is_array, has_dimensions, variant_rule, scalar, array_of, array, dimensioned, matrix_of, matrix, variant_of, value_at}
use Rattle.value.specs.declared.Shape.{Shape}
use Rattle.value_parts.specs.Told.{is_counted}

-- w bytes that were read stand there
pub there : {A : Type 0} (w : ℕ) (s : List ℕ) (at : ℕ) (x : A) {v : A} {next : ℕ} → cond (leb (at + w) (length s)) (got x (at + w)) (refused 1 at) ≡ got v next
    → (next ≡ at + w) × (at + w ≤ length s) × (x ≡ v)
there {A} w s at x {v} {next} q = go (leb (at + w) (length s)) refl q
  where
    go : (b : Bool) → leb (at + w) (length s) ≡ b → cond {A = Answer A} b (got x (at + w)) (refused 1 at) ≡ got v next → (next ≡ at + w) × (at + w ≤ length s) × (x ≡ v)
    go true e r = (sym (got_next r), leb-true _ _ e, got_value r)
    go false e r = absurd (not_got r)

-- the first byte of an accepted Variant, and what follows it
pub record First (s : List ℕ) (at levels : ℕ) (m : Measure) (e : ℕ) : Type 0 where
  pub b : ℕ
  pub here : at + 1 ≤ length s
  pub byte : item 1 s at ≡ got b (at + 1)
  pub rule : variant_rule b ≡ 0
  pub rest : variant_of (value_at levels) b s (at + 1) ≡ got m e

pub first_of : (levels : ℕ) (s : List ℕ) (at : ℕ) {m : Measure} {e : ℕ} → value_at (suc levels) 24 s at ≡ got m e → First s at levels m e
unfolding value_at
first_of levels s at {m} {e} q =
    let i = invert (ruled 1 variant_rule s at) (λ b next. variant_of (value_at levels) b s next) q in
    let f = ruled_back 1 variant_rule s at i.0 i.1 i.2 in
    let t = there 1 s at (le 1 s at) f.0 in
    record {
      b = i.0;
      here = t.1;
      byte = subst (λ (n : ℕ). item 1 s at ≡ got i.0 n) t.0 f.0;
      rule = f.1;
      rest = subst (λ (n : ℕ). variant_of (value_at levels) i.0 s n ≡ got m e) t.0 i.3;
    }

-- ---- a length or count

-- a String or ByteString's type
pub text_is : (t : ℕ) → length_first t ≡ true → (t ≡ 12) ⊎ (t ≡ 15)
text_is t e = go (eqb t 12) refl (eqb t 15) refl e
  where
    go : (x : Bool) → eqb t 12 ≡ x → (y : Bool) → eqb t 15 ≡ y → (x || (y || false)) ≡ true → (t ≡ 12) ⊎ (t ≡ 15)
    go true ex y ey h = inl (eqb-true t 12 ex)
    go false ex true ey h = inr (eqb-true t 15 ey)
    go false ex false ey h = absurd (false≢true h)

-- an accepted String's length stands there
pub string_there : (s : List ℕ) (at : ℕ) {x : Unit {0}} {e : ℕ} → string s at ≡ got x e → at + 4 ≤ length s
unfolding string
string_there s at q =
    let i = invert (length_item s at) (λ l next. after_length (pure tt) bytes at l s next) q in
    (there 4 s at (length_of (signed 4 (le 4 s at))) i.2).1

array_there : (nested : ℕ → Reader Measure) (t : ℕ) (s : List ℕ) (at : ℕ) {m : Measure} {e : ℕ} → array nested t s at ≡ got m e → at + 4 ≤ length s
unfolding array
array_there nested t s at q =
    let i = invert (length_item s at) (λ l next. after_length (pure (measure t Shape.NullArray)) (array_of nested t) at l s next) q in
    (there 4 s at (length_of (signed 4 (le 4 s at))) i.2).1

matrix_there : (nested : ℕ → Reader Measure) (t : ℕ) (s : List ℕ) (at : ℕ) {m : Measure} {e : ℕ} → matrix nested t s at ≡ got m e → at + 4 ≤ length s
unfolding matrix
matrix_there nested t s at q =
    let i = invert (length_item s at) (λ l next. after_length (dimensioned t 0) (matrix_of nested t) at l s next) q in
    (there 4 s at (length_of (signed 4 (le 4 s at))) i.2).1

twelve_there : (nested : ℕ → Reader Measure) (s : List ℕ) (at : ℕ) {m : Measure} {e : ℕ} → scalar nested 12 s at ≡ got m e → at + 4 ≤ length s
unfolding scalar plain plain_value text width_of
twelve_there nested s at h = string_there s at (invert (string s at) (λ x last. got (measure 12 Shape.Scalar) last) h).2

fifteen_there : (nested : ℕ → Reader Measure) (s : List ℕ) (at : ℕ) {m : Measure} {e : ℕ} → scalar nested 15 s at ≡ got m e → at + 4 ≤ length s
unfolding scalar plain plain_value text width_of
fifteen_there nested s at h = string_there s at (invert (string s at) (λ x last. got (measure 15 Shape.Scalar) last) h).2

text_there : (nested : ℕ → Reader Measure) (t : ℕ) (s : List ℕ) (at : ℕ) {m : Measure} {e : ℕ} → length_first t ≡ true → scalar nested t s at ≡ got m e → at + 4 ≤ length s
text_there nested t s at {m} {e} l q = go (text_is t l)
  where
    go : (t ≡ 12) ⊎ (t ≡ 15) → at + 4 ≤ length s
    go (inl z) = twelve_there nested s at (subst (λ (t : ℕ). scalar nested t s at ≡ got m e) z q)
    go (inr z) = fifteen_there nested s at (subst (λ (t : ℕ). scalar nested t s at ≡ got m e) z q)

-- what a scalar is measured as
scalar_is : (nested : ℕ → Reader Measure) (t : ℕ) (s : List ℕ) (at : ℕ) {m : Measure} {e : ℕ} → scalar nested t s at ≡ got m e → measure t Shape.Scalar ≡ m
unfolding scalar
scalar_is nested t s at q =
    got_value (invert (cond (plain t) (plain_value t) (passing (nested t)) s at) (λ x last. got (measure t Shape.Scalar) last) q).3

-- an accepted Variant that has a length or count has these 4 bytes after its first
pub counted_there : (levels : ℕ) (s : List ℕ) (at : ℕ) {m : Measure} {e : ℕ} → value_at (suc levels) 24 s at ≡ got m e → is_counted m.kind m.shape ≡ true → at + 1 + 4 ≤ length s
counted_there levels s at {m} {e} q c = let f = first_of levels s at q in go f.b (eqb (type_of f.b) 0) (is_array f.b) (has_dimensions f.b) f.rest
  where
    go : (b : ℕ) (x y z : Bool)
        → cond x (λ z p. got (measure 0 Shape.Scalar) p)
        (cond y (cond z (matrix (value_at levels) (type_of b)) (array (value_at levels) (type_of b))) (scalar (value_at levels) (type_of b))) s (at + 1) ≡ got m e
        → at + 1 + 4 ≤ length s
    go b true y z h = absurd (false≢true (subst (λ (k : Measure). is_counted k.kind k.shape ≡ true) (sym (got_value h)) c))
    go b false true true h = matrix_there (value_at levels) (type_of b) s (at + 1) h
    go b false true false h = array_there (value_at levels) (type_of b) s (at + 1) h
    go b false false z h =
        text_there (value_at levels) (type_of b) s (at + 1)
        (subst (λ (k : Measure). is_counted k.kind k.shape ≡ true) (sym (scalar_is (value_at levels) (type_of b) s (at + 1) h)) c) h
