-- How what is found lies in what was read: nothing is left out, and nothing overlaps.
use Rattle.std.specs.Prelude.{ℕ, suc, ◌+◌, ◌-◌, ◌<◌, ◌≡◌, cond, List, length, get_or, take, drop}
use Rattle.wire.specs.Lists.{total}
use Rattle.wire.specs.Answer.{got}
use Rattle.network_message.specs.Payload.{place_step_at}
use Rattle.network_message.specs.Envelope.{NetworkMessage, message_place_at}
use Rattle.network_message.specs.declared.payload.MessagePlace.{MessagePlace}
use Rattle.dataset_fields.specs.Fields.{next_field_at, cursor_before, zeros}
use Rattle.dataset_fields.specs.declared.fields.Field.{Field}
use Rattle.dataset_message.specs.Message.{Message, field_place_at}

-- where message k of an accepted datagram starts, by the messages' lengths, and its place
abbrev pub tile_start : NetworkMessage → List ℕ → ℕ → ℕ
tile_start m lengths k = m.payload.first + total (take k lengths)

abbrev pub tile_place : NetworkMessage → List ℕ → ℕ → MessagePlace
tile_place m lengths k = record { index = k; offset = tile_start m lengths k; length = get_or lengths k 0 }

-- The messages of the accepted datagram s: the first stands at the payload's first message byte, each starts where the one before it ends
-- and has at least a byte, and the last ends where the datagram ends. Lookup of message k and a cursor's step find the same.
pub record MessagesTile (sizes s : List ℕ) (m : NetworkMessage) : Type 0 where
  pub lengths : List ℕ
  pub many : length lengths ≡ m.payload.count
  pub whole : m.payload.first + total lengths ≡ length s
  pub some : (k : ℕ) → k < length lengths → 0 < get_or lengths k 0
  pub looked_up : (k : ℕ) → k < length lengths → message_place_at sizes k s ≡ got (tile_place m lengths k) (tile_start m lengths (suc k))
  pub stepped : (k : ℕ) → k < length lengths
      → place_step_at m.payload sizes (record { index = k; at = tile_start m lengths k }) s
      ≡ got (record { place = tile_place m lengths k; cursor = record { index = k + 1; at = tile_start m lengths (suc k) } })
      (tile_start m lengths (suc k))

-- Field k of the accepted message s, which fills the bytes from `start` to `end`: a delta's index stands before its value, which has at
-- least a byte. Lookup of field k and a cursor's step find the same.
pub record FieldTile (types s : List ℕ) (m : Message) (k start end : ℕ) : Type 0 where
  pub field : Field
  pub offset : field.offset ≡ start + cond m.cursor.delta 2 0
  pub ends : field.offset + field.length ≡ end
  pub some : 0 < field.length
  pub looked_up : field_place_at types k s ≡ got field end
  pub stepped : next_field_at (cursor_before m.cursor k start) types s
      ≡ got (record { field = field; cursor = cursor_before m.cursor (k + 1) end }) end

-- The fields: the first starts right after the header, or FieldCount, where the cursor that reading hands back stands; each starts where
-- the one before it ends; after the last only zeros remain.
pub record FieldsTile (types s : List ℕ) (m : Message) : Type 0 where
  pub starts : ℕ → ℕ
  pub first : starts 0 ≡ m.cursor.at
  pub last : starts m.cursor.count ≡ m.end
  pub fields : (k : ℕ) → k < m.cursor.count → FieldTile types s m k (starts k) (starts (k + 1))
  pub padding : drop m.end s ≡ zeros (length s - m.end)
