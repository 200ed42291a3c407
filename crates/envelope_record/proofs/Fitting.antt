-- What the code's types say of an envelope with its places and its payload: each number fits the record's.
-- Assumes nothing.
use Rattle.std.specs.Prelude.{Option, Some, None}
use Prim.Native.Nat.{ℕ, ◌^◌, ◌<◌}
use mathlib.Core.List.{List}
use native.Mathlib.Omega.{arith}
use mir.Val.{Val}
use denote.Laws.{Is}
use denote.Builtin as builtin
use Rattle.std.specs.contracts.option.Option as option
use denote.Enum.Declared as enum
use denote.Struct.Declared as struct
use denote.Enum.Laws as enumLaws
use denote.Struct.Laws as structLaws
use Rattle.network_header.proofs.Fitting.{fits_envelope}
use Rattle.network_header.specs.contracts.header.PayloadHeader as payload_header
use Rattle.network_header.proofs.header.PayloadHeader.TheLaws as payloadHeaderLaws
use Rattle.network_header.specs.declared.header.PayloadHeader.{PayloadHeader}
use Rattle.network_header.specs.contracts.envelope.Envelope as envelope
use Rattle.network_header.proofs.envelope.Envelope.TheLaws as envelopeLaws
use Rattle.network_header.specs.declared.envelope.Envelope.{Envelope}
use Rattle.network_header.specs.contracts.envelope.Places as places
use Rattle.network_header.proofs.envelope.Places.TheLaws as placesLaws
use Rattle.network_header.specs.declared.envelope.Places.{Places}
use Rattle.network_message.specs.contracts.payload.Sizes as sizes
use Rattle.network_message.proofs.payload.Sizes.TheLaws as sizesLaws
use Rattle.network_message.specs.declared.payload.Sizes.{Sizes}
use Rattle.network_message.specs.contracts.payload.Payload as payload
use Rattle.network_message.proofs.payload.Payload.TheLaws as payloadLaws
use Rattle.network_message.specs.declared.payload.Payload.{Payload}
use Rattle.records.proofs.Fitting.{fits_id}
use Rattle.records.specs.Items.{item_value}
use Rattle.envelope_record.specs.Envelope.{header_number, sizes_place, FitsEnvelopeRecord}

fits_header : (x : PayloadHeader) (vs : List Val) → Is (enum.row payload_header.the_type) x vs → header_number x < 65536
fits_header PayloadHeader.Absent vs h = omega arith
fits_header (PayloadHeader.Ids n) vs h = omega (arith, (enumLaws.owed payload_header.the_type payloadHeaderLaws.the_laws (PayloadHeader.Ids n) vs h).0)
fits_header (PayloadHeader.Chunk w) vs h = omega (arith, (enumLaws.owed payload_header.the_type payloadHeaderLaws.the_laws (PayloadHeader.Chunk w) vs h).0)
fits_header PayloadHeader.Probe vs h = omega arith

fits_promoted : (x : Option ℕ) (vs : List Val) → Is (option.the_row builtin.usize) x vs → item_value x < 256 ^ 8
fits_promoted None vs h = omega arith
fits_promoted (Some n) vs h = omega (arith, h.1.1.1.1.0.1)

fits_sizes : (x : Sizes) (vs : List Val) → Is (enum.row sizes.the_type) x vs → sizes_place x < 256 ^ 8
fits_sizes Sizes.Rest vs h = omega arith
fits_sizes (Sizes.Listed p) vs h = omega (arith, (enumLaws.owed sizes.the_type sizesLaws.the_laws (Sizes.Listed p) vs h).0)
fits_sizes Sizes.Configured vs h = omega arith

pub fits_envelope_record : (x : Envelope) (w : Places) (p : Payload) (vs us ws : List Val) → Is (struct.row envelope.the_type) x vs → Is (struct.row places.the_type) w us
    → Is (struct.row payload.the_type) p ws → FitsEnvelopeRecord (record { envelope = x; places = w; payload = p })
fits_envelope_record x w p vs us ws a b c =
    let e = structLaws.owed envelope.the_type envelopeLaws.the_laws x vs a in
    let k = structLaws.owed places.the_type placesLaws.the_laws w us b in
    let l = structLaws.owed payload.the_type payloadLaws.the_laws p ws c in
    record {
      envelope = fits_envelope x vs a;
      publisher = fits_id x.publisher _ e.0;
      header = fits_header x.payload_header _ e.1.1.1.1.0;
      promoted = fits_promoted x.promoted _ e.1.1.1.1.1.1.1.0;
      publisher_end = omega (arith, k.0);
      header_end = omega (arith, k.1.0);
      start = omega (arith, k.1.1.0);
      count = omega (arith, l.0);
      sizes = fits_sizes p.sizes _ l.1.0;
      first = omega (arith, l.1.1.0);
    }
