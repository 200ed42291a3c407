-- The parts of a walk that its functions speak of.
use Rattle.std.specs.Prelude.{ℕ, ◌+◌, ◌≤◌, ◌≡◌, List, length, take, drop, Option, Result}
use Rattle.wire.specs.Answer.{got, and_then}
use Rattle.wire.specs.Refusal.{answer_to}
use Rattle.wire.specs.declared.refusal.Refusal.{Refusal}
use Rattle.publisher_id.specs.declared.publisher.PublisherId.{PublisherId}
use Rattle.network_header.specs.declared.header.PayloadHeader.{PayloadHeader}
use Rattle.network_message.specs.declared.payload.Payload.{Payload}
use Rattle.network_message.specs.declared.payload.MessagePlace.{MessagePlace}
use Rattle.dataset_header.specs.declared.header.Header.{Header}
use Rattle.dataset_fields.specs.Fields.{fields_at, padding_at}
use Rattle.dataset_fields.specs.declared.fields.Cursor.{Cursor}
use Rattle.dataset_message.specs.Message.{end_at, opened_at}
use Rattle.walk.specs.Lines.{fields_left}
use Rattle.walk.specs.declared.lines.Listed.{Listed}
use Rattle.walk_records.specs.Walk.{fields_from, records_by, message_records, records_put}

-- the records of the message in place p of datagram d
abbrev pub set_from : List ℕ → MessagePlace → Option ℕ → List ℕ → List (List ℕ)
set_from types p writer d = message_records types (take p.length (drop p.offset d)) p writer

-- a payload, with its PayloadHeader and where that ends; the PublisherId does not matter
abbrev pub bare : PayloadHeader → ℕ → Payload → Listed
bare header end payload =
    record { publisher = PublisherId.Absent; publisher_end = 0; header = header; header_end = end; payload = payload }

-- a number of 8 bytes
abbrev pub Word : ℕ → Type 0
Word n = n ≤ 18446744073709551615

-- the fields from the cursor on were read, up to the first that is refused, and their records put from record k on; r is the number of the
-- record after theirs, and how they went
pub record FieldsPut (types bytes : List ℕ) (p : MessagePlace) (c : Cursor) (k : ℕ) (r : ℕ × Result ℕ Refusal)
    (entry exit : List ℕ) : Type 0 where
  pub answer : answer_to (tt {0}) r.1 ≡ fields_at c.delta c.encoding types (fields_left c) c.next bytes c.at
  pub number : r.0 ≡ k + length (fields_from types bytes p (fields_left c) c)
  pub buffer : exit ≡ records_put k (fields_from types bytes p (fields_left c) c) entry

-- the same of the fields and the padding after them
pub record RestPut (types bytes : List ℕ) (p : MessagePlace) (c : Cursor) (k : ℕ) (r : ℕ × Result ℕ Refusal)
    (entry exit : List ℕ) : Type 0 where
  pub answer : answer_to (tt {0}) r.1
      ≡ and_then (fields_at c.delta c.encoding types (fields_left c) c.next bytes c.at)
      (λ _ end. and_then (padding_at bytes end) (λ _ z. got tt end))
  pub number : r.0 ≡ k + length (fields_from types bytes p (fields_left c) c)
  pub buffer : exit ≡ records_put k (fields_from types bytes p (fields_left c) c) entry

-- the records xs were put from record k on, and record r comes after them
pub record RecordsPut (xs : List (List ℕ)) (k r : ℕ) (entry exit : List ℕ) : Type 0 where
  pub number : r ≡ k + length xs
  pub buffer : exit ≡ records_put k xs entry

-- the records of a message that was read up to the cursor before its first field
abbrev pub opened_records : List ℕ → List ℕ → MessagePlace → Option ℕ → Header → Cursor → List (List ℕ)
opened_records types bytes p writer h c = records_by types bytes p writer (opened_at h c types bytes) (end_at h c types bytes)
