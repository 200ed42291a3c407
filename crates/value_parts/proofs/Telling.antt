-- The ways out of the functions that tell a value apart.
-- Assumes nothing.
use mathlib.Core.Path.{◌≡◌, refl, sym, ap, ◌∙◌}
use mathlib.Core.Bool.{Bool, true, false, cond, ◌||◌, false≢true}
use mathlib.Core.List.{List}
use mathlib.Core.Logic.{◌⊎◌, inl, inr}
use Prim.Native.Nat.{ℕ}
use Rattle.wire.specs.Answer.{got, refused, Reader, and_then}
use Rattle.wire.proofs.Reading.{not_got}
use Rattle.plain_value.specs.Width.{width_of, fixed}
use Rattle.plain_value.specs.Plain.{passing, bytes, string, text, length_first}
use Rattle.plain_value.proofs.Passing.{passed}
use Rattle.value.specs.Value.{Measure, measure, raw_at}
use Rattle.value.specs.declared.Shape.{Shape}
use Rattle.value.proofs.FirstItems.{raw_is, fixed_first}
use Rattle.value_parts.specs.Told.{told_raw_at}
use Rattle.value_parts.proofs.Structure.{text_is}

pub or_none_lem : (b : Bool) → b ≡ (b || false)
or_none_lem true = refl
or_none_lem false = refl

-- a value of type 12 is a String, and so is one of type 15
pub text_string : (t : ℕ) → (t ≡ 12) ⊎ (t ≡ 15) → (s : List ℕ) (at : ℕ) → text t s at ≡ string s at
unfolding text
text_string t (inl z) s at = ap (λ (k : ℕ). text k s at) z
text_string t (inr z) s at = ap (λ (k : ℕ). text k s at) z

-- ---- RawData

-- a fixed type carries no length, and is not 0
pub fixed_plainly : (t : ℕ) → fixed t ≡ true → (length_first t ≡ false)
unfolding width_of
fixed_plainly t f = go (length_first t) refl
  where
    go : (b : Bool) → length_first t ≡ b → b ≡ false
    go false e = refl
    go true e = both (text_is t e)
      where
        both : (t ≡ 12) ⊎ (t ≡ 15) → true ≡ false
        both (inl z) = absurd (false≢true (sym (ap (λ (k : ℕ). fixed k) z) ∙ f))
        both (inr z) = absurd (false≢true (sym (ap (λ (k : ℕ). fixed k) z) ∙ f))

-- what is accepted is of a fixed type
raw_fixed : (t : ℕ) (s : List ℕ) (at : ℕ) {e : ℕ} → passing (raw_at t) s at ≡ got tt e → fixed t ≡ true
raw_fixed t s at {e} q = go (fixed t) (passed (raw_at t s at) q).1
  where
    go : (b : Bool) {m : Measure} → cond {A = Reader Measure} b (λ z p. and_then (bytes (width_of t) z p) (λ x next. got (measure t Shape.Scalar) next)) (λ z p. refused 4 p) s at ≡ got m e → b ≡ true
    go true h = refl
    go false h = absurd (not_got h)

pub raw_told : (t : ℕ) (s : List ℕ) (at : ℕ) {e w : ℕ} → passing (raw_at t) s at ≡ got tt e → w ≡ width_of t
    → got (record { kind = t; shape = Shape.Scalar; width = w; null = false; first = at; end = e }) e ≡ told_raw_at t s at
raw_told t s at q w = let f = raw_fixed t s at q in rw (raw_is t s at q, fixed_plainly t f, (fixed_first t f).3, sym w)
