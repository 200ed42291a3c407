-- The fields of a front, step by step.
-- Assumes nothing.
use Prim.Native.Nat.{ℕ, suc, ◌+◌, ◌-◌, ◌<◌}
use mathlib.Core.Path.{◌≡◌, refl, sym, ap, ◌∙◌}
use mathlib.Core.Bool.{Bool, true, false, cond, false≢true}
use mathlib.Core.List.{List, []}
use native.Mathlib.Omega.{arith}
use borrow.Author.Tests.{leb-true, leb-false, lt-leb}
use lib.Dec.{leb, eqb}
use lib.ListN.{length}
use Rattle.std.specs.Prelude.{Result, Ok, Err}
use Rattle.wire.specs.Answer.{Answer, got, refused}
use Rattle.dataset_header.specs.Flags.{Valid, not_valid, valid}
use Rattle.dataset_fields.specs.Fields.{field_at, padding_at, cursor_before}
use Rattle.dataset_fields.specs.declared.fields.Field.{Field}
use Rattle.dataset_fields.specs.declared.fields.Cursor.{Cursor}
use Rattle.dataset_message.specs.Message.{Message}
use Rattle.salvage.specs.Front.{Shown, shown, bad, ends, past_by, shown_by, shown_at, promised, Salvage, salvaged, refusal, with_field, after_last, on_field, fields_shown, on_front, front_shown, salvage_at, opens, open_at, shown_step, last_by, next_shown, salvage_from, salvage_opened, tally_from, tally_by}
use Rattle.salvage.specs.Quick.{is_whole}
use Rattle.salvage.specs.declared.front.FieldShown.{FieldShown}

module _ (types f s : List ℕ) where
  -- what a step leaves
  abbrev pub then_saved : ℕ → Result FieldShown (ℕ × ℕ) → Salvage
  then_saved count (Ok (FieldShown.Is x after)) = with_field x (salvage_from types f s after)
  then_saved count (Ok FieldShown.Ends) = salvaged (promised count) []
  then_saved count (Ok FieldShown.Last) = salvaged (promised count) []
  then_saved count (Err (n, place)) = refusal n place

  abbrev field_of : Cursor → Shown Field
  field_of c = shown_at (field_at c.delta c.encoding types c.next) f s c.at

  last_saved : (count : ℕ) (a : Answer (Unit {0})) → after_last count a ≡ then_saved count (last_by a)
  last_saved count (got u z) = refl
  last_saved count (refused n place) = refl

  field_saved : (c : Cursor) (x : Shown Field)
      → on_field c.count x (λ end. fields_shown c.count c.delta c.encoding types (c.count - (c.next + 1)) (c.next + 1) f s end) ≡ then_saved c.count (shown_step c x)
  field_saved c (shown x end) = refl
  field_saved c (bad n place) = refl
  field_saved c ends = refl

  saved_step : (c : Cursor) → salvage_from types f s c ≡ then_saved c.count (next_shown types f s c)
  unfolding fields_shown
  saved_step c = go (leb c.count c.next) refl
    where
      go : (b : Bool) → leb c.count c.next ≡ b → salvage_from types f s c ≡ then_saved c.count (next_shown types f s c)
      go true t =
          let l = leb-true c.count c.next t in
          let z : c.count - c.next ≡ 0 = omega arith in
          rw (z, t) (last_saved c.count (padding_at f c.at))
      go false t =
          let l = leb-false c.count c.next t in
          let z : c.count - c.next ≡ suc (c.count - (c.next + 1)) = omega arith in
          rw (z, t) (field_saved c (field_of c))

  abbrev no_field : Result FieldShown (ℕ × ℕ) → Bool
  no_field (Ok (FieldShown.Is x a)) = false
  no_field (Ok FieldShown.Ends) = true
  no_field (Ok FieldShown.Last) = true
  no_field (Err e) = true

  -- a step that hands out a field goes on
  pub record Onward (c after : Cursor) : Type 0 where
    pub left : c.next < c.count
    pub next : after.next ≡ c.next + 1
    pub count : after.count ≡ c.count

  step_on : (c : Cursor) (x : Field) (after : Cursor) → Ok (FieldShown.Is x after) ≡ next_shown types f s c → Onward c after
  step_on c x after e = go (leb c.count c.next) refl
    where
      is_after : {x y : Field} {a b : Cursor} → ◌≡◌ {A = Result FieldShown (ℕ × ℕ)} (Ok (FieldShown.Is x a)) (Ok (FieldShown.Is y b)) → a ≡ b
      is_after e = cc

      padded : (a : Answer (Unit {0})) → Ok (FieldShown.Is x after) ≡ last_by a → ⊥
      padded (got u z) q = false≢true (ap no_field q)
      padded (refused n p) q = false≢true (ap no_field q)

      stepped : c.next < c.count → (y : Shown Field) → Ok (FieldShown.Is x after) ≡ shown_step c y → Onward c after
      stepped l (shown y end) q = record { left = l; next = ap (λ (d : Cursor). d.next) (is_after q); count = ap (λ (d : Cursor). d.count) (is_after q) }
      stepped l (bad n p) q = absurd (false≢true (ap no_field q))
      stepped l ends q = absurd (false≢true (ap no_field q))

      go : (b : Bool) → leb c.count c.next ≡ b → Onward c after
      go true t = absurd (padded (padding_at f c.at) (rw t at e))
      go false t = stepped (leb-false c.count c.next t) (field_of c) (rw t at e)

  -- ---- counting
  tally_field : (k : ℕ) (x : Field) (v : Salvage) → tally_from k (with_field x v) ≡ tally_from (k + 1) v
  tally_field k x (salvaged p fs) = let z : k + suc (length fs) ≡ k + 1 + length fs = omega arith in ap Ok z
  tally_field k x (refusal n place) = refl

  pub tally_on : (k : ℕ) (c : Cursor) (x : Field) (after : Cursor) → Ok (FieldShown.Is x after) ≡ next_shown types f s c
      → tally_from (k + 1) (salvage_from types f s after) ≡ tally_from k (salvage_from types f s c)
  tally_on k c x after e =
      sym (tally_field k x (salvage_from types f s after)) ∙ ap (λ (y : Result FieldShown (ℕ × ℕ)). tally_from k (then_saved c.count y)) e ∙ sym (ap (tally_from k) (saved_step c))

  -- ---- by what the front's own reader answers
  pub field_step : (c : Cursor) (x : Field) (end : ℕ) → c.next < c.count → field_at c.delta c.encoding types c.next f c.at ≡ got x end
      → Ok (FieldShown.Is x (cursor_before c (c.next + 1) end)) ≡ next_shown types f s c
  field_step c x end l e = rw (lt-leb c.count c.next l, e)

  -- where no field is whole, what a step says is how it ends
  pub tally_stops : (k : ℕ) (c : Cursor) → (c.next < c.count → is_whole (field_at c.delta c.encoding types c.next f c.at) ≡ false)
      → tally_by k (next_shown types f s c) ≡ tally_from k (salvage_from types f s c)
  tally_stops k c stops = go (next_shown types f s c) refl ∙ sym (ap (tally_from k) (saved_step c))
    where
      none : (x : Field) (after : Cursor) → Ok (FieldShown.Is x after) ≡ next_shown types f s c → ⊥
      none x after e = whole (field_at c.delta c.encoding types c.next f c.at) refl
        where
          on : Onward c after
          on = step_on c x after e

          not_shown : (n p : ℕ) (y : Answer Field) → Ok (FieldShown.Is x after) ≡ shown_step c (shown_by (refused n p) y) → ⊥
          not_shown n p y q = past (eqb n 1) (past_by p y) q
            where
              past : (a b : Bool) → Ok (FieldShown.Is x after) ≡ shown_step c (cond a (cond b (bad 1 p) ends) (bad n p)) → ⊥
              past true true i = false≢true (ap no_field i)
              past true false i = false≢true (ap no_field i)
              past false b i = false≢true (ap no_field i)

          whole : (a : Answer Field) → field_at c.delta c.encoding types c.next f c.at ≡ a → ⊥
          whole (got y end) q = false≢true (sym (rw q at (stops on.left)))
          whole (refused n p) q =
              not_shown n p (field_at c.delta c.encoding types c.next s c.at) (rw (lt-leb c.count c.next on.left, q) at e)

      last_tally : salvaged (promised c.count) [] ≡ salvaged (promised c.count) [] → Ok k ≡ tally_from k (salvaged (promised c.count) [])
      last_tally i = let z : k ≡ k + 0 = omega arith in ap Ok z

      go : (y : Result FieldShown (ℕ × ℕ)) → y ≡ next_shown types f s c → tally_by k y ≡ tally_from k (then_saved c.count y)
      go (Ok (FieldShown.Is x after)) e = absurd (none x after e)
      go (Ok FieldShown.Ends) e = last_tally refl
      go (Ok FieldShown.Last) e = last_tally refl
      go (Err (n, place)) e = refl

-- the front read at once, and opened and then read on
module _ (total : ℕ) (types f s : List ℕ) where
  front_opened : (x : Shown (Valid Message)) → on_front types f s x ≡ salvage_opened types f s (opens x)
  front_opened (shown not_valid at) = refl
  front_opened (shown (valid m) at) = refl
  front_opened (bad n place) = refl
  front_opened ends = refl

  pub salvage_opened_lem : salvage_at total types f s ≡ salvage_opened types f s (open_at total types f s)
  salvage_opened_lem = front_opened (front_shown total types f s)
