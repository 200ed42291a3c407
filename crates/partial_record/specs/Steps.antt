-- The steps of putting a list. No part of document 02: they tie the loops to its definitions.
use Rattle.std.specs.Prelude.{ℕ, ◌-◌, ◌≡◌, List, length, Result, Ok, Err}
use Rattle.wire.specs.Answer.{Answer, got, refused}
use Rattle.wire.specs.Refusal.{reason_number}
use Rattle.wire.specs.declared.refusal.Refusal.{Refusal}
use Rattle.dataset_header.specs.Flags.{encoding_number}
use Rattle.dataset_fields.specs.declared.fields.Field.{Field}
use Rattle.dataset_fields.specs.declared.fields.Cursor.{Cursor}
use Rattle.dataset_fields.specs.Fields.{walked}
use Rattle.message_record.specs.Message.{field_numbers}
use Rattle.salvage.specs.Front.{salvaged, refusal, salvage_opened}
use Rattle.salvage.specs.declared.front.Opening.{Opening}
use Rattle.partial_record.specs.List.{entry_laid, encoding_told, promise_by}
use Rattle.partial_record.specs.declared.salvage_record.Found.{Found}

-- entry k of a field that is accepted
abbrev pub field_put : ℕ → Answer Field → List ℕ → List ℕ
field_put k (got x end) out = entry_laid k (field_numbers x) out
field_put k (refused n place) out = out

-- the fields from a cursor on that are whole in the front
abbrev pub whole_fields : List ℕ → List ℕ → Cursor → List Field
whole_fields types f c = walked c.delta c.encoding types (c.count - c.next) c.next f c.at

-- what is found where the front f of the area s was opened
abbrev pub Finds : List ℕ → List ℕ → List ℕ → Result Opening (ℕ × ℕ) → Result Found Refusal → Type 0
Finds types f s opened (Err r) = salvage_opened types f s opened ≡ refusal (reason_number r.reason) r.place
Finds types f s opened (Ok x) =
    (salvage_opened types f s opened ≡ salvaged (promise_by x.known x.first.count) (whole_fields types f x.first))
    × (x.fields ≡ length (whole_fields types f x.first)) × (encoding_told opened ≡ encoding_number x.first.encoding)
