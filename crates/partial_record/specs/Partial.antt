-- The record of a partial as lent bytes (include/uadp.h, "Partial record").
use Rattle.std.specs.Prelude.{ℕ, ◌%◌, ◌^◌, ◌<◌, ◌≡◌, cond, List, [], ◌∷◌, ◌++◌, eqb, length, take, drop, replicate}
use Rattle.wire.specs.Constants.{MOST_TEXT_ID}
use Rattle.std.specs.Prelude.{Option, Some, None}
use Rattle.wire_writer.specs.Fits.{Fits16}
use Rattle.publisher_id.specs.PublisherRecord.{code_of, lent_record}
use Rattle.publisher_id.specs.declared.publisher_record.PublisherRecord.{PublisherRecord}
use Rattle.reassembly.specs.declared.quick.Held.{Held}
use Rattle.reassembly.specs.declared.record.Message.{Message}
use Rattle.reassembly.specs.declared.record.PartialRecord.{PartialRecord}
use Rattle.records.specs.Numbers.{number_at, number_bytes}
use Rattle.records.specs.Publisher.{publisher_by, publisher_number, FitsId}
use Rattle.records.specs.Items.{flag_number, is_on, has_item, item_value}

-- "at offset 80, 64 bytes for a String"
abbrev pub TEXT_AT : ℕ
TEXT_AT = 80

abbrev pub text_in : List ℕ → List ℕ
text_in s = take MOST_TEXT_ID (drop TEXT_AT s)

abbrev pub publisher_in : List ℕ → PublisherRecord
publisher_in s = lent_record (publisher_by (number_at s 1) (number_at s 2)) (text_in s)

-- "6  1 where there is a WriterGroupId   7  the WriterGroupId"; of its number the lowest bytes count
abbrev pub group_id_in : List ℕ → Option ℕ
group_id_in s = cond (is_on (number_at s 6)) (Some (number_at s 7 % 65536)) None

-- "3  DataSetWriterId   4  message number   5  total size"
abbrev pub message_in : List ℕ → Message
message_in s =
    record {
      origin = record { publisher = publisher_in s; group = group_id_in s; writer = number_at s 3 % 65536; number = number_at s 4 % 65536 };
      total = number_at s 5;
    }

-- which number is that of the covered bytes
abbrev pub COVERED : ℕ
COVERED = 8

-- "0  1 started, else not   8  covered bytes"
abbrev pub partial_in : List ℕ → PartialRecord
partial_in s = record { started = eqb (number_at s 0) 1; message = message_in s; covered = number_at s COVERED }

-- of a started one what is not its text
abbrev pub started_in : List ℕ → Held
started_in s =
    record {
      publisher = (publisher_in s).id;
      group = group_id_in s;
      writer = (message_in s).origin.writer;
      number = (message_in s).origin.number;
      total = (message_in s).total;
      covered = (partial_in s).covered;
    }

-- what handing out and a question of how far it is look at: the record with no text, group, writer and message number
abbrev pub asked_in : List ℕ → PartialRecord
asked_in s =
    record {
      started = eqb (number_at s 0) 1;
      message =
          record {
            origin =
                record {
                  publisher = record { id = publisher_by (number_at s 1) (number_at s 2); text = replicate MOST_TEXT_ID 0 };
                  group = None;
                  writer = 0;
                  number = 0;
                };
            total = number_at s 5;
          };
      covered = number_at s COVERED;
    }

-- the record's numbers, from 0; the last one is spare and holds 0
abbrev pub partial_numbers : PartialRecord → List ℕ
partial_numbers r =
    flag_number r.started ∷ code_of r.message.origin.publisher.id ∷ publisher_number r.message.origin.publisher.id
    ∷ r.message.origin.writer
    ∷ r.message.origin.number ∷ r.message.total
    ∷ has_item r.message.origin.group ∷ item_value r.message.origin.group ∷ r.covered ∷ 0 ∷ []

-- the record's bytes
abbrev pub partial_bytes : PartialRecord → List ℕ
partial_bytes r = number_bytes (partial_numbers r) ++ r.message.origin.publisher.text

-- each number of a record fits its type, and its text has 64 bytes, as a value of the code has

pub record FitsRecord (r : PartialRecord) : Type 0 where
  pub id : FitsId r.message.origin.publisher.id
  pub text : length r.message.origin.publisher.text ≡ MOST_TEXT_ID
  pub group : Fits16 r.message.origin.group
  pub writer : r.message.origin.writer < 65536
  pub number : r.message.origin.number < 65536
  pub total : r.message.total < 256 ^ 8
  pub covered : r.covered < 256 ^ 8
