-- Where the parts of a written DataSetMessage stand, and its header read back.
-- Assumes nothing.
use mathlib.Core.Path.{◌≡◌, refl, ap, sym, ◌∙◌, subst}
use mathlib.Core.List.{List, [], ◌++◌, append-nil}
use Prim.Native.Nat.{ℕ, ◌+◌}
use native.Mathlib.Nat.{zero-add}
use lib.ListN.{length, length-append, length-replicate}
use Rattle.wire.specs.Answer.{got}
use Rattle.wire_writer.specs.Writing.{picoseconds_refusal}
use Rattle.wire_writer.proofs.Trip.{At, first, second}
use Rattle.dataset_header.specs.Flags.{valid, is_delta, kind_rule}
use Rattle.dataset_header.specs.Header.{message_header_at, message_header_bytes, FitsHeader}
use Rattle.dataset_fields.specs.Fields.{fields_bytes, zeros}
use Rattle.dataset_message.specs.Writer.{GivenMessage, is_fielded, is_raw_data, given_fields, count_bytes, encode}
use Rattle.dataset_header.proofs.HeaderTrip.{header_is}

module _ (g : GivenMessage) where
  abbrev pub fields_part : List ℕ
  fields_part = fields_bytes (is_delta g.header.kind) g.indices (given_fields g)

  abbrev pub count_part : List ℕ
  count_part = count_bytes (is_fielded g) (is_raw_data g) (length g.lengths)

  abbrev pub start : ℕ
  start = length (message_header_bytes g.header)

  all_at : At (encode g) 0 (encode g)
  all_at = ([], [], sym (append-nil (encode g)), refl)

  pub header_at : At (encode g) 0 (message_header_bytes g.header)
  header_at = first (encode g) 0 (message_header_bytes g.header) (count_part ++ (fields_part ++ zeros g.padding)) all_at

  pub body_at_lem : At (encode g) start (count_part ++ (fields_part ++ zeros g.padding))
  body_at_lem =
      subst (λ (n : ℕ). At (encode g) n (count_part ++ (fields_part ++ zeros g.padding))) (zero-add start)
      (second (encode g) 0 (message_header_bytes g.header) (count_part ++ (fields_part ++ zeros g.padding)) all_at)

  pub sizes : length (encode g) ≡ start + (length count_part + (length fields_part + g.padding))
  sizes = simp (length-append, length-replicate)

  pub header_read : FitsHeader g.header → kind_rule g.header.kind g.header.encoding ≡ 0 → picoseconds_refusal g.header.picoseconds ≡ 0
      → message_header_at (encode g) 0 ≡ got (valid g.header) start
  header_read fits kind pico = header_is g.header fits kind pico (encode g) header_at ∙ ap (got (valid g.header)) (zero-add start)
