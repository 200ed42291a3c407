-- What the code's types say of a partial's record: each number fits, and its text has 64 bytes.
-- Assumes nothing.
use mathlib.Core.List.{List}
use native.Mathlib.Omega.{arith}
use mir.Val.{Val}
use denote.Laws.{Is}
use denote.Struct.Declared as struct
use denote.Struct.Laws as structLaws
use Rattle.publisher_id.specs.contracts.publisher_record.PublisherRecord as publisher
use Rattle.publisher_id.proofs.publisher_record.PublisherRecord.TheLaws as publisherLaws
use Rattle.reassembly.specs.contracts.record.Message as message
use Rattle.reassembly.proofs.record.Message.TheLaws as messageLaws
use Rattle.reassembly.specs.contracts.record.MessageOrigin as origin
use Rattle.reassembly.proofs.record.MessageOrigin.TheLaws as originLaws
use Rattle.reassembly.specs.contracts.record.PartialRecord as partial
use Rattle.reassembly.proofs.record.PartialRecord.TheLaws as partialLaws
use Rattle.reassembly.specs.declared.record.PartialRecord.{PartialRecord}
use Rattle.partial_record.specs.Partial.{FitsRecord}
use Rattle.records.proofs.Fitting.{fits_id}
use Rattle.wire_writer.proofs.Fitting.{fits16}

pub fits_record : (k : PartialRecord) (vs : List Val) → Is (struct.row partial.the_type) k vs → FitsRecord k
fits_record k vs h =
    let r = structLaws.owed partial.the_type partialLaws.the_laws k vs h in
    let m = structLaws.owed message.the_type messageLaws.the_laws k.message _ r.1.0 in
    let o = structLaws.owed origin.the_type originLaws.the_laws k.message.origin _ m.0 in
    let p = structLaws.owed publisher.the_type publisherLaws.the_laws k.message.origin.publisher _ o.0 in
    record {
      id = fits_id k.message.origin.publisher.id _ p.0;
      text = p.1.0.1.0.1;
      group = fits16 k.message.origin.group _ o.1.0;
      writer = omega (arith, o.1.1.0);
      number = omega (arith, o.1.1.1.0);
      total = omega (arith, m.1.0);
      covered = omega (arith, r.1.1.0);
    }
