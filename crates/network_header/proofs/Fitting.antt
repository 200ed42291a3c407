-- What the code's types say of an envelope: each number fits.
-- Assumes nothing.
use Rattle.std.specs.Prelude.{Option, Some, None}
use mathlib.Core.List.{List}
use native.Mathlib.Omega.{arith}
use mir.Val.{Val}
use denote.Laws.{Is}
use Rattle.std.specs.contracts.option.Option as option
use denote.Enum.Declared as enum
use denote.Struct.Declared as struct
use denote.Enum.Laws as enumLaws
use denote.Struct.Laws as structLaws
use Rattle.wire.specs.contracts.Guid as guid
use Rattle.wire.proofs.Guid.TheLaws as guidLaws
use Rattle.wire.specs.declared.Guid.{Guid}
use Rattle.publisher_id.specs.contracts.publisher.PublisherId as publisher
use Rattle.publisher_id.proofs.publisher.PublisherId.TheLaws as publisherLaws
use Rattle.publisher_id.specs.declared.publisher.PublisherId.{PublisherId}
use Rattle.network_header.specs.contracts.header.PayloadHeader as payload_header
use Rattle.network_header.proofs.header.PayloadHeader.TheLaws as payloadHeaderLaws
use Rattle.network_header.specs.declared.header.PayloadHeader.{PayloadHeader}
use Rattle.network_header.specs.contracts.group.GroupFields as fields
use Rattle.network_header.proofs.group.GroupFields.TheLaws as fieldsLaws
use Rattle.network_header.specs.declared.group.GroupFields.{GroupFields}
use Rattle.network_header.specs.contracts.envelope.Envelope as envelope
use Rattle.network_header.proofs.envelope.Envelope.TheLaws as envelopeLaws
use Rattle.network_header.specs.declared.envelope.Envelope.{Envelope}
use Rattle.wire_writer.specs.Fits.{FitsGuid}
use Rattle.wire_writer.proofs.Fitting.{fits16, fits32, fits_i64}
use Rattle.publisher_id.specs.Publisher.{FitsPublisher}
use Rattle.network_header.specs.Header.{FitsClass, FitsPayloadHeader}
use Rattle.network_header.specs.Group.{FitsFields, FitsGroup}
use Rattle.network_header.specs.Envelope.{FitsEnvelope}

fits_publisher : (x : PublisherId) (vs : List Val) → Is (enum.row publisher.the_type) x vs → FitsPublisher x
fits_publisher PublisherId.Absent vs h = tt
fits_publisher (PublisherId.Byte v) vs h = omega (arith, (enumLaws.owed publisher.the_type publisherLaws.the_laws (PublisherId.Byte v) vs h).0)
fits_publisher (PublisherId.UInt16 v) vs h = omega (arith, (enumLaws.owed publisher.the_type publisherLaws.the_laws (PublisherId.UInt16 v) vs h).0)
fits_publisher (PublisherId.UInt32 v) vs h = omega (arith, (enumLaws.owed publisher.the_type publisherLaws.the_laws (PublisherId.UInt32 v) vs h).0)
fits_publisher (PublisherId.UInt64 v) vs h = omega (arith, (enumLaws.owed publisher.the_type publisherLaws.the_laws (PublisherId.UInt64 v) vs h).0)
fits_publisher (PublisherId.Text n) vs h = tt

fits_guid : (x : Guid) (vs : List Val) → Is (struct.row guid.the_type) x vs → FitsGuid x
fits_guid x vs h = let k = structLaws.owed guid.the_type guidLaws.the_laws x vs h in (omega (arith, k.0), omega (arith, k.1.0))

fits_class : (x : Option Guid) (vs : List Val) → Is (option.the_row (struct.row guid.the_type)) x vs → FitsClass x
fits_class None vs h = tt
fits_class (Some g) vs h = fits_guid g _ h.1.1.1.1.0

fits_fields : (x : GroupFields) (vs : List Val) → Is (struct.row fields.the_type) x vs → FitsFields x
fits_fields x vs h =
    let k = structLaws.owed fields.the_type fieldsLaws.the_laws x vs h in
    (fits16 x.writer_group _ k.0, fits32 x.version _ k.1.0, fits16 x.number _ k.1.1.0, fits16 x.sequence _ k.1.1.1.0)

fits_group : (x : Option GroupFields) (vs : List Val) → Is (option.the_row (struct.row fields.the_type)) x vs → FitsGroup x
fits_group None vs h = tt
fits_group (Some g) vs h = fits_fields g _ h.1.1.1.1.0

fits_payload_header : (x : PayloadHeader) (vs : List Val) → Is (enum.row payload_header.the_type) x vs → FitsPayloadHeader x
fits_payload_header PayloadHeader.Absent vs h = tt
fits_payload_header (PayloadHeader.Ids n) vs h = tt
fits_payload_header (PayloadHeader.Chunk w) vs h = omega (arith, (enumLaws.owed payload_header.the_type payloadHeaderLaws.the_laws (PayloadHeader.Chunk w) vs h).0)
fits_payload_header PayloadHeader.Probe vs h = tt

pub fits_envelope : (x : Envelope) (vs : List Val) → Is (struct.row envelope.the_type) x vs → FitsEnvelope x
fits_envelope x vs h =
    let k = structLaws.owed envelope.the_type envelopeLaws.the_laws x vs h in
    record {
      publisher = fits_publisher x.publisher _ k.0;
      class_id = fits_class x.class_id _ k.1.0;
      group = fits_group x.group _ k.1.1.0;
      payload_header = fits_payload_header x.payload_header _ k.1.1.1.1.0;
      timestamp = fits_i64 x.timestamp _ k.1.1.1.1.1.0;
      picoseconds = fits16 x.picoseconds _ k.1.1.1.1.1.1.0;
    }
