-- The ways out of a step of a head record's field cursor.
-- Assumes nothing.
use Prim.Native.Nat.{ℕ, ◌≤◌, ◌<◌}
use mathlib.Core.Path.{◌≡◌, refl, sym, ap, subst, ◌∙◌}
use mathlib.Core.Bool.{Bool}
use mathlib.Core.List.{List}
use borrow.Author.Tests.{lt-ltb, le-ltb}
use lib.ListN.{length}
use Rattle.wire.specs.Answer.{Answer, got, refused}
use Rattle.wire_writer.specs.Store.{laid}
use Rattle.dataset_fields.specs.Fields.{FieldStepped, next_field_at}
use Rattle.dataset_fields.specs.declared.fields.Field.{Field}
use Rattle.dataset_fields.specs.declared.fields.Cursor.{Cursor}
use Rattle.records.specs.Numbers.{number_at, number_bytes}
use Rattle.records.specs.Sizes.{FIELD_SIZE, HEAD_SIZE}
use Rattle.records.specs.Result.{result_of}
use Rattle.records.specs.Writers.{types_for}
use Rattle.message_record.specs.Message.{field_numbers, cursor_in, cursor_laid}
use Rattle.message_record.specs.Quick.{plain_step, FieldPut, StepTells}
use Rattle.message_record.specs.declared.quick.Stepped.{Stepped}
use Rattle.uadp_c.specs.Fields.{step_result, head_after, field_after}

abbrev pub Steps : Answer FieldStepped → List ℕ → List ℕ → ℕ → List ℕ → List ℕ → Type 0
Steps a head field x h f = (x ≡ step_result a head field) × (h ≡ head_after a head field) × (f ≡ field_after a head field)

-- the step that was made is the one that the records tell of
pub stepped : (c s ty head : List ℕ) (w : ℕ) (k : Cursor) (y : Answer FieldStepped) → ty ≡ types_for c w → k ≡ cursor_in head → y ≡ next_field_at k ty s
    → y ≡ next_field_at (cursor_in head) (types_for c w) s
stepped c s ty head w k y e d q = q ∙ ap (λ (t : List ℕ). next_field_at k t s) e ∙ ap (λ (t : Cursor). next_field_at t (types_for c w) s) d

pub step_refused_lem : (a : Answer FieldStepped) (head field : List ℕ) (n p x : ℕ) → refused n p ≡ a → x ≡ result_of n p → Steps a head field x head field
step_refused_lem a head field n p x q h = subst (λ (y : Answer FieldStepped). Steps y head field x head field) q (h, refl, refl)

pub step_no_head : (a : Answer FieldStepped) (head field : List ℕ) (f : Field) (k : Cursor) (next x : ℕ) → got (record { field = f; cursor = k }) next ≡ a
    → length head < HEAD_SIZE → x ≡ result_of 11 0 → Steps a head field x head field
step_no_head a head field f k next x q h r =
    subst (λ (y : Answer FieldStepped). Steps y head field x head field) q (rw (lt-ltb (length head) HEAD_SIZE h) (r, refl, refl))

pub step_no_field : (a : Answer FieldStepped) (head field : List ℕ) (f : Field) (k : Cursor) (next x : ℕ) → got (record { field = f; cursor = k }) next ≡ a
    → HEAD_SIZE ≤ length head → length field < FIELD_SIZE → x ≡ result_of 11 0 → Steps a head field x head field
step_no_field a head field f k next x q g h r =
    subst (λ (y : Answer FieldStepped). Steps y head field x head field) q
    (rw (le-ltb (length head) HEAD_SIZE g, lt-ltb (length field) FIELD_SIZE h) (r, refl, refl))

pub step_done : (a : Answer FieldStepped) (head field h₁ e : List ℕ) (f : Field) (k : Cursor) (next x : ℕ) → got (record { field = f; cursor = k }) next ≡ a
    → HEAD_SIZE ≤ length head → FIELD_SIZE ≤ length field → x ≡ result_of 0 f.offset → h₁ ≡ cursor_laid k head
    → e ≡ laid field 0 (number_bytes (field_numbers f)) → Steps a head field x h₁ e
step_done a head field h₁ e f k next x q g h r p₁ p₂ =
    subst (λ (y : Answer FieldStepped). Steps y head field x h₁ e) q
    (rw (le-ltb (length head) HEAD_SIZE g, le-ltb (length field) FIELD_SIZE h) (r, p₁, p₂))

-- the ways out of a step that was told in line, which answers what the step that the records tell of answers
module _ (c s head field h₁ e : List ℕ) (w : ℕ) (r : Stepped)
    (told : (types : List ℕ) → StepTells (plain_step (number_at head 10) (cursor_in head) s) r (next_field_at (cursor_in head) types s) head field h₁ e) where
  abbrev Step : List ℕ → Answer FieldStepped
  Step k = next_field_at (cursor_in k) (types_for c w) s

  abbrev plain : Bool
  plain = plain_step (number_at head 10) (cursor_in head) s

  told_so : (x : Stepped) → r ≡ x → StepTells plain x (Step head) head field h₁ e
  told_so x i = subst (λ (t : Stepped). StepTells plain t (Step head) head field h₁ e) i (told (types_for c w))

  pub told_done : (offset x : ℕ) → r ≡ Stepped.Done offset → HEAD_SIZE ≤ length head → FIELD_SIZE ≤ length field → x ≡ result_of 0 offset → Steps (Step head) head field x h₁ e
  told_done offset x i g h q = go (Step head) refl (told_so (Stepped.Done offset) i)
    where
      go : (y : Answer FieldStepped) → y ≡ Step head → FieldPut y offset head field h₁ e → Steps (Step head) head field x h₁ e
      go (got z next) z₀ (o, p₁, p₂) = step_done (Step head) head field h₁ e z.field z.cursor next x z₀ g h (q ∙ ap (result_of 0) o) p₁ p₂
      go (refused n place) z₀ p = absurd p

  pub told_end : (x : ℕ) → r ≡ Stepped.End → x ≡ result_of 10 0 → Steps (Step head) head field x h₁ e
  told_end x i q = let t = told_so Stepped.End i in rw (t.1, t.2) (step_refused_lem (Step head) head field 10 0 x (sym t.0) q)

  -- what was not told is what a step of the records as they were answers
  pub told_not : (x : ℕ) (h₂ e₂ : List ℕ) → r ≡ Stepped.Not → Steps (Step h₁) h₁ e x h₂ e₂ → Steps (Step head) head field x h₂ e₂
  told_not x h₂ e₂ i g =
      let t = told_so Stepped.Not i in
      subst (λ (k : List ℕ). Steps (Step k) k field x h₂ e₂) t.1 (subst (λ (k : List ℕ). Steps (Step h₁) h₁ k x h₂ e₂) t.2 g)
