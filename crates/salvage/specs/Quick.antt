-- What the quick ways over the fields of a front answer. No part of document 02: they tie the loops to its definitions.
use Rattle.std.specs.Prelude.{ℕ, ◌-◌, ◌≤◌, ◌<◌, ◌≡◌, Bool, true, false, List, length, get_or}
use Rattle.wire.specs.Answer.{Answer, got, refused}
use Rattle.value.specs.declared.Shape.{Shape}
use Rattle.dataset_header.specs.declared.flags.Encoding.{Encoding}
use Rattle.dataset_fields.specs.declared.fields.Field.{Field}
use Rattle.dataset_fields.specs.declared.fields.Cursor.{Cursor}
use Rattle.dataset_fields.specs.Fields.{field_at}
use Rattle.salvage.specs.Front.{salvage_from, tally_from}

-- the field k of a fixed type at a position, told by its first byte
abbrev pub fixed_field : List ℕ → ℕ → ℕ → ℕ → Field
fixed_field f k at end = record { index = k; kind = get_or f at 0; shape = Shape.Scalar; offset = at; length = end - at }

-- a position behind `at` is the end of such a field
pub record FixedTo (delta : Bool) (encoding : Encoding) (f : List ℕ) (at end : ℕ) : Type 0 where
  pub inside : at < end → at < length f
  pub field : at < end → (types : List ℕ) (k : ℕ) → field_at delta encoding types k f at ≡ got (fixed_field f k at end) end

-- the end of a field at a position; of a refused one the position itself
abbrev pub EndsAt : ℕ → Answer Field → ℕ → Type 0
EndsAt at (got x next) end = (end ≡ next) × (at < next)
EndsAt at (refused n place) end = end ≡ at

abbrev pub is_whole : Answer Field → Bool
is_whole (got x next) = true
is_whole (refused n place) = false

-- the cursor c stands behind the fields from `first` on that are whole in the front
pub record PassedTo (types f : List ℕ) (first c : Cursor) : Type 0 where
  pub from : first.next ≤ c.next
  pub same : (s : List ℕ) → tally_from (c.next - first.next) (salvage_from types f s c) ≡ tally_from 0 (salvage_from types f s first)
  pub stops : c.next < c.count → is_whole (field_at c.delta c.encoding types c.next f c.at) ≡ false
