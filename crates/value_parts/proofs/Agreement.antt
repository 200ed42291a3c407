-- Telling a value apart agrees with measuring it: each accepts what the other accepts, with the same type, shape and end, and refuses the
-- rest by the same number and place.
-- Assumes nothing.
use mathlib.Core.Path.{◌≡◌, refl, sym, ap, subst, ◌∙◌}
use mathlib.Core.Bool.{Bool, true, false, cond, false≢true}
use mathlib.Core.List.{List}
use Prim.Native.Nat.{ℕ, ◌+◌}
use Rattle.wire.specs.Answer.{Answer, got, refused, and_then, item, ruled, when_on, map_answer, bit}
use Rattle.wire.proofs.Reading.{got_value, got_next, not_got, invert}
use Rattle.wire_writer.proofs.Back.{ruled_back}
use Rattle.plain_value.specs.Plain.{passing, bytes}
use Rattle.plain_value.proofs.Passing.{passed}
use Rattle.value_parts.proofs.Deeper.{deeper}
use Rattle.plain_value.specs.Parts.{parts}
use Rattle.value.specs.Value.{Measure, measure, mask_rule, data_value_of, value_at, variant_at, data_value_at, raw_at}
use Rattle.value.specs.declared.Shape.{Shape}
use Rattle.value_parts.specs.Told.{measure_of, parts_from, told_inside, told_variant_at, told_raw_at}
use Rattle.value_parts.specs.DataValue.{as_measure, is_got, placed_at, no_variant_at, told_parts_at, told_after_mask_at, told_data_value_at}
use Rattle.value_parts.specs.declared.told.ValueParts.{ValueParts}
use Rattle.value_parts.specs.declared.data_value.FieldParts.{FieldParts}

same_measure : (x : Answer Measure) (f : Measure → ℕ → ValueParts) → ((m : Measure) (e : ℕ) → measure_of (f m e) ≡ m)
    → map_answer measure_of (and_then x (λ m e. got (f m e) e)) ≡ x
same_measure (got m e) f h = ap (λ (k : Measure). got k e) (h m e)
same_measure (refused n place) f h = refl

-- a Variant
pub variant_agrees : (s : List ℕ) (at : ℕ) → map_answer measure_of (told_variant_at s at) ≡ variant_at s at
variant_agrees s at = same_measure (variant_at s at) (λ m e. parts_from s _ m e) (λ m e. refl)

-- an element of RawData
pub raw_agrees : (t : ℕ) (s : List ℕ) (at : ℕ) → map_answer measure_of (told_raw_at t s at) ≡ raw_at t s at
raw_agrees t s at = same_measure (raw_at t s at) (λ m e. parts_from s at m e) (λ m e. refl)

-- ---- a DataValue

map_then : {A B C : Type 0} (f : B → C) (x : Answer A) (k : A → ℕ → Answer B) → map_answer f (and_then x k) ≡ and_then x (λ a n. map_answer f (k a n))
map_then f (got a n) k = refl
map_then f (refused n p) k = refl

same_then : {A B : Type 0} (x : Answer A) {k l : A → ℕ → Answer B} → ((a : A) (n : ℕ) → k a n ≡ l a n) → and_then x k ≡ and_then x l
same_then (got a n) h = h a n
same_then (refused n p) h = refl

module _ (s : List ℕ) where
  -- a part and its place, and what follows it
  placed_step : (on : Bool) (w at : ℕ) (k : ℕ → ℕ → Answer FieldParts) (j : ℕ → Answer (Unit {0}))
      → ((place n : ℕ) → map_answer as_measure (k place n) ≡ and_then (j n) (λ x e. got (measure 23 Shape.Scalar) e))
      → map_answer as_measure (and_then (placed_at on w s at) k) ≡ and_then (and_then (when_on on tt (bytes w) s at) (λ x n. j n)) (λ x e. got (measure 23 Shape.Scalar) e)
  placed_step true w at k j h = go (bytes w s at)
    where
      go : (x : Answer (Unit {0}))
          → map_answer as_measure (and_then (and_then x (λ y n. got at n)) k) ≡ and_then (and_then x (λ y n. j n)) (λ y e. got (measure 23 Shape.Scalar) e)
      go (got y n) = h at n
      go (refused n p) = refl
  placed_step false w at k j h = h 0 at

  -- the last part
  placed_last : (on : Bool) (w at : ℕ) (f : ℕ → ℕ → FieldParts)
      → map_answer as_measure (and_then (placed_at on w s at) (λ place n. got (f place n) n)) ≡ and_then (when_on on tt (bytes w) s at) (λ x e. got (measure 23 Shape.Scalar) e)
  placed_last true w at f = go (bytes w s at)
    where
      go : (x : Answer (Unit {0}))
          → map_answer as_measure (and_then (and_then x (λ y n. got at n)) (λ place n. got (f place n) n)) ≡ and_then x (λ y e. got (measure 23 Shape.Scalar) e)
      go (got y n) = refl
      go (refused n p) = refl
  placed_last false w at f = refl

  parts_agree : (m p : ℕ) (v : ValueParts) (at : ℕ) → map_answer as_measure (told_parts_at m p v s at) ≡ and_then (parts m s at) (λ x e. got (measure 23 Shape.Scalar) e)
  unfolding parts
  parts_agree m p v at =
      placed_step (bit 1 m) 4 at _ _ (λ a n1.
      placed_step (bit 2 m) 8 n1 _ _ (λ b n2.
      placed_step (bit 4 m) 2 n2 _ _ (λ c n3.
      placed_step (bit 3 m) 8 n3 _ _ (λ d n4.
      placed_last (bit 5 m) 2 n4 (λ e n5. _)))))

  after_mask : (m at : ℕ) → map_answer as_measure (told_after_mask_at m s at) ≡ data_value_of (value_at 99) m s at
  after_mask m at = go (bit 0 m)
    where
      rest : ℕ → Answer Measure
      rest n = and_then (parts m s n) (λ x e. got (measure 23 Shape.Scalar) e)

      inside : (x : Answer Measure)
          → map_answer as_measure (and_then (and_then x (λ k e. got (parts_from s (at + 1) k e) e)) (λ v n. told_parts_at m at v s n)) ≡ and_then (and_then x (λ y n. got (tt {0}) n)) (λ y n. rest n)
      inside (got k e) = parts_agree m at (parts_from s (at + 1) k e) e
      inside (refused n p) = refl

      go : (b : Bool) → map_answer as_measure (and_then (cond b (told_inside 99) no_variant_at s at) (λ v n. told_parts_at m (cond b at 0) v s n))
          ≡ and_then (when_on b tt (passing (value_at 99 24)) s at) (λ y n. rest n)
      go true = inside (value_at 99 24 s at)
      go false = parts_agree m 0 _ at

  pub data_value_agrees : (at : ℕ) → map_answer as_measure (told_data_value_at s at) ≡ data_value_at s at
  unfolding value_at
  data_value_agrees at = map_then as_measure (ruled 1 mask_rule s at) (λ m n. told_after_mask_at m s n) ∙ same_then (ruled 1 mask_rule s at) after_mask

  -- what measuring refuses
  pub data_value_refused : (at : ℕ) {n p : ℕ} → data_value_at s at ≡ refused n p → refused n p ≡ told_data_value_at s at
  data_value_refused at q = sym (go (told_data_value_at s at) (data_value_agrees at ∙ q))
    where
      go : (x : Answer FieldParts) {n p : ℕ} → map_answer as_measure x ≡ refused n p → x ≡ refused n p
      go (got a e) h = absurd (not_got (sym h))
      go (refused k r) h = cc

-- ---- an accepted DataValue

is_got_lem : {A : Type 0} (x : Answer A) → is_got x ≡ true → (a : A) × (e : ℕ) × (x ≡ got a e)
is_got_lem (got a e) h = (a, e, refl)
is_got_lem (refused n p) h = absurd (false≢true h)

pub got_is : {A : Type 0} {x : Answer A} {a : A} {e : ℕ} → x ≡ got a e → is_got x ≡ true
got_is q = ap is_got q

-- its mask breaks no rule, and the Variant that the mask announces is accepted one level deeper
pub mask_of : (s : List ℕ) (at : ℕ) {m next : ℕ} → is_got (data_value_at s at) ≡ true → item 1 s at ≡ got m next
    → (ruled 1 mask_rule s at ≡ got m next) × (bit 0 m ≡ true → is_got (value_at 99 24 s next) ≡ true)
unfolding value_at
mask_of s at {m} {next} h q =
    let g = is_got_lem (data_value_at s at) h in
    let i = invert (ruled 1 mask_rule s at) (λ b n. data_value_of (value_at 99) b s n) g.2 in
    let f = ruled_back 1 mask_rule s at i.0 i.1 i.2 in
    let same = sym f.0 ∙ q in
    (i.2 ∙ same, λ on. inside i.0 i.1 (got_value same) (got_next same) i.3 on)
  where
    taken : (b n : ℕ) (x : Bool) {y : Measure} {z : ℕ}
        → and_then (when_on x tt (passing (value_at 99 24)) s n) (λ u k. and_then (parts b s k) (λ w e. got (measure 23 Shape.Scalar) e)) ≡ got y z → x ≡ true
        → is_got (value_at 99 24 s n) ≡ true
    taken b n true r on =
        let j = invert (passing (value_at 99 24) s n) (λ u k. and_then (parts b s k) (λ w e. got (measure 23 Shape.Scalar) e)) r in
        got_is (passed (value_at 99 24 s n) j.2).1
    taken b n false r on = absurd (false≢true on)

    inside : (b n : ℕ) → b ≡ m → n ≡ next → {y : Measure} {z : ℕ} → data_value_of (value_at 99) b s n ≡ got y z → bit 0 m ≡ true → is_got (value_at 99 24 s next) ≡ true
    inside b n eb en r on = subst (λ (k : ℕ). is_got (value_at 99 24 s k) ≡ true) en (taken b n (bit 0 b) r (ap (λ (k : ℕ). bit 0 k) eb ∙ on))

-- accepted inside, it is told alike with a level more
pub told_deeper : (s : List ℕ) (at : ℕ) → is_got (value_at 99 24 s at) ≡ true → told_inside 99 s at ≡ told_variant_at s at
told_deeper s at h =
    let g = is_got_lem (value_at 99 24 s at) h in
    rw (g.2, deeper 99 24 s at g.2)
