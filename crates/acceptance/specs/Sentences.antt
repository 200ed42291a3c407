-- Single sentences of document 01 that hold beside the three demands, one field each. Premises that speak of a function are its contract.
use Rattle.wire.specs.declared.refusal.Reason.{Reason}
use Rattle.std.specs.Prelude.{Some, Result, Ok}
use Rattle.std.specs.Prelude.{ℕ, ◌+◌, ◌*◌, ◌-◌, ◌%◌, ◌≤◌, ◌<◌, ◌≡◌, true, false, List, ◌∷◌, ◌++◌, length, get_or, take, drop}
use Rattle.wire.specs.Constants.{MOST_FIELDS, MOST_WRITERS, OVER_LIMIT}
use Rattle.wire.specs.Answer.{got, refused}
use Rattle.text.specs.Decimal.{is_digit, decimal_at, decimal_text}
use Rattle.text.specs.Hex.{hex_of, hex_text}
use Rattle.sequence.specs.Newness.{distance_of}
use Rattle.config_text.specs.Config.{config_of, config_in}
use Rattle.dataset_header.specs.Flags.{valid}
use Rattle.dataset_fields.specs.Fields.{next_field_at, cursor_before}
use Rattle.dataset_fields.specs.declared.fields.Cursor.{Cursor}
use Rattle.dataset_fields.specs.declared.fields.Field.{Field}
use Rattle.dataset_message.specs.Message.{Message, message_at, field_place_at}
use Rattle.dataset_message.specs.Writer.{GivenMessage, WroteMessage, message_reading_refusal, body_agrees, encode}
use Rattle.round_trip.specs.DataSetMessage.{MessageBack, fields_read}
use Rattle.chunk.specs.Payload.{chunk_payload_at}
use Rattle.chunk.specs.Cutting.{cut_rule, cut_data, chunk_bytes, CutWrote}
use Rattle.uadp_c.specs.Chunks.{chunk_count}
use Rattle.walk.specs.declared.entry.Line.{Line}
use Rattle.listing.specs.Line.{PutLine}

pub record Sentences : Type 0 where
  -- "d = (received - 1 - last) modulo 65,536", by `sequence::distance`: the number by which the last one and 1 reach the received one
  pub distance : (last received d : ℕ) → (d ≡ distance_of last received) × (last ≤ 65535)
      → ((last + 1 + d) % 65536 ≡ received % 65536) × (d < 65536)
  -- "decimals without leading zeros": one that was put reads back, up to the byte that ends it
  pub decimals : (end : ℕ) (rest : List ℕ) (limit n : ℕ) (s : List ℕ) (at : ℕ) → is_digit end ≡ false → n ≤ limit
      → drop at s ≡ decimal_text n ++ end ∷ rest → decimal_at limit end s at ≡ Some (n, at + length (decimal_text n) + 1)
  -- "a string id is lower-case hex": the bytes of one in a datagram whose line was put, n bytes that end at a position, read back
  pub hex : (d entry exit : List ℕ) (line : Line) (r : Result ℕ Reason) → PutLine d line entry exit r → (n end : ℕ)
      → hex_of (hex_text (take n (drop (end - n) d))) ≡ Some (take n (drop (end - n) d))
  -- "At most 16 writers, 64 fields in all", whatever the text
  pub within : (text : List ℕ) → ((config_in (config_of text)).writers ≤ MOST_WRITERS) × ((config_in (config_of text)).fields ≤ MOST_FIELDS)
  -- "a step after the last field, is 10"
  pub after_the_last : (c : Cursor) (types s : List ℕ) (at : ℕ) → at ≤ length s
      → next_field_at (cursor_before c c.count at) types s ≡ refused OVER_LIMIT 0
  -- "asks for field k": the k-th of the fields that the walk over the message visits
  pub looked_up : (types s : List ℕ) (m : Message) (end : ℕ) → message_at types s ≡ got (valid m) end → (none : Field) (k : ℕ)
      → k < m.cursor.count → (next : ℕ) × (field_place_at types k s ≡ got (get_or (fields_read types s m) k none) next)
  -- "Cutting writes chunk k's payload": the bytes that it reports read back as that chunk, its data after 14 bytes of numbers
  pub cut : (p : List ℕ) (number size k : ℕ) (entry exit : List ℕ) (n : ℕ) → CutWrote p number size k entry exit (Ok n)
      → chunk_payload_at (take n exit) 0
      ≡ got (record { number = number; offset = k * size; total = length p; first = 14; length = length (cut_data p size k) })
      (length (chunk_bytes p number size k))
  -- "k past the last 10": where the first chunk is cut, all below the number that uadp_chunks tells are, and none from there on
  pub counted : (total size k : ℕ) → cut_rule total size 0 ≡ 0
      → (k < chunk_count total size → cut_rule total size k ≡ 0) × (chunk_count total size ≤ k → cut_rule total size k ≡ OVER_LIMIT)
  -- "what would read back otherwise .. by 6": what reading accepts and reads back as given is not refused by 6 for its body
  pub six : (types : List ℕ) (g : GivenMessage) (entry exit : List ℕ) (r : Result ℕ Reason) → WroteMessage types g entry exit r
      → message_reading_refusal types g ≡ 0 → MessageBack types g (encode g) → body_agrees types g ≡ true
