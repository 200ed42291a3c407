-- What src/quick.rt is handed and answers; no definition of reassembly speaks of it.
use Rattle.std.specs.Prelude.{ℕ, true, List, Result, Ok, Err}
use Rattle.publisher_id.specs.PublisherRecord.{lent_record}
use Rattle.publisher_id.specs.declared.publisher_record.PublisherRecord.{PublisherRecord}
use Rattle.reassembly.specs.declared.operations.Outcome.{Outcome}
use Rattle.reassembly.specs.declared.quick.Held.{Held}
use Rattle.reassembly.specs.declared.record.PartialRecord.{PartialRecord}
use Rattle.wire.specs.declared.refusal.Refusal.{Refusal}

-- the record of a started partial with this publisher
abbrev pub record_with : Held → PublisherRecord → PartialRecord
record_with h p = record {
  started = true;
  message = record { origin = record { publisher = p; group = h.group; writer = h.writer; number = h.number }; total = h.total };
  covered = h.covered;
}

-- with a lent text
abbrev pub held_record : Held → List ℕ → PartialRecord
held_record h t = record_with h (lent_record h.publisher t)

-- the outcome: the record with its new number of covered bytes; a refusal leaves it
abbrev pub more_of : Result ℕ Refusal → PartialRecord → Outcome
more_of (Ok n) r = record { verdict = Ok tt; rec = record { started = r.started; message = r.message; covered = n } }
more_of (Err e) r = record { verdict = Err e; rec = r }
