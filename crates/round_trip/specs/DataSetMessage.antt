-- What the round trips of DataSetMessages say.
use Rattle.std.specs.Prelude.{ℕ, ◌+◌, ◌-◌, ◌<◌, zero, suc, ◌≤◌, ◌≡◌, Bool, cond, true, false, not, ◌&&◌, ◌||◌, List, [], ◌∷◌, leb, ltb, eqb, length, get_or}
use Rattle.value.specs.Value.{Measure}
use Rattle.wire.specs.Answer.{Answer, got, refused}
use Rattle.dataset_header.specs.declared.flags.Encoding.{Encoding}
use Rattle.dataset_fields.specs.declared.fields.Field.{Field}
use Rattle.dataset_header.specs.Flags.{valid, is_delta}
use Rattle.dataset_fields.specs.Fields.{encoded_at, fields_bytes, walked, values_joined, lengths_of, indices_of}
use Rattle.dataset_message.specs.Message.{Message, message_at, field_place_at, field_bytes}
use Rattle.dataset_header.specs.Header.{message_header_bytes, message_held}
use Rattle.dataset_message.specs.Writer.{GivenMessage, given_message, is_key, is_fielded, is_raw_data, given_fields, count_bytes, encode, whole_given, lists_given, message_refusal}
use Rattle.dataset_message.specs.Rewrite.{again}

-- where the first field of a written message starts, and where its last field ends

abbrev pub first_of : GivenMessage → ℕ
first_of g = length (message_header_bytes g.header) + length (count_bytes (is_fielded g) (is_raw_data g) (length g.lengths))

abbrev pub end_of : GivenMessage → ℕ
end_of g = first_of g + length (fields_bytes (is_delta g.header.kind) g.indices (given_fields g))

-- what is read of a written message: the header that was given, and a cursor before the first of as many fields as were given
abbrev pub message_written : GivenMessage → Message
message_written g =
    record {
      header = g.header;
      cursor =
          record {
            encoding = g.header.encoding;
            delta = is_delta g.header.kind;
            next = 0;
            count = length g.lengths;
            at = first_of g;
          };
      end = end_of g;
    }

-- field k of the written message s: the index and the bytes that were given
pub record FieldBack (types : List ℕ) (g : GivenMessage) (s : List ℕ) (k : ℕ) : Type 0 where
  pub place : Field
  pub end : ℕ
  pub looked_up : field_place_at types k s ≡ got place end
  pub index : place.index ≡ cond (is_delta g.header.kind) (get_or g.indices k 0) k
  pub bytes : field_bytes (field_place_at types k s) s ≡ get_or (given_fields g) k []

-- the written message s reads back as what was given; a key frame has nothing left after its header exactly if it is a heartbeat
pub record MessageBack (types : List ℕ) (g : GivenMessage) (s : List ℕ) : Type 0 where
  pub message : message_at types s ≡ got (valid (message_written g)) (end_of g)
  pub heartbeat : is_key g.header.kind ≡ true → leb (length s) (length (message_header_bytes g.header)) ≡ g.heartbeat
  pub field : (k : ℕ) → k < length g.lengths → FieldBack types g s k
  pub padding : length s - end_of g ≡ g.padding

-- the fields' values one after the other, how long each is, and their indices

-- the fields of a message that was read
abbrev pub fields_read : List ℕ → List ℕ → Message → List Field
fields_read types s m = walked m.cursor.delta m.cursor.encoding types m.cursor.count 0 s m.cursor.at

-- a message that was read, to be written again: its header; of a key frame, that it is a heartbeat where nothing is left after the
-- header; its fields' bytes, and a delta's indices; what is left after its last field
abbrev pub taken_again : List ℕ → List ℕ → Message → GivenMessage
taken_again types s m =
    given_message m.header (leb (length s) (length (message_header_bytes m.header)))
    (values_joined s (fields_read types s m)) (lengths_of (fields_read types s m))
    (cond m.cursor.delta (indices_of (fields_read types s m)) [])
    (length s - m.end)

-- reading refuses by n what would be written
abbrev pub ReadingRefuses : List ℕ → GivenMessage → ℕ → Type 0
ReadingRefuses types g n = (place : ℕ) × (message_at types (encode g) ≡ refused n place)

-- Each field given is one whole value of its encoding and type, and counts and lists agree, so that what would be written is one thing: the
-- lengths add up, a delta has as many indices as fields, FieldCount holds the number of fields, and nothing is given with a heartbeat.
pub record PartsAgree (types : List ℕ) (g : GivenMessage) : Type 0 where
  pub whole : whole_given types g ≡ true
  pub lists : lists_given g ≡ true
  pub counted : is_fielded g ≡ true → is_raw_data g ≡ false → length g.lengths ≤ 65535
  pub heartbeat : is_fielded g ≡ false → is_key g.header.kind ≡ true → (length g.lengths ≡ 0) × (g.padding ≡ 0)

-- Of the first t fields each is whole up to the first that is refused, and that one has a byte; where it is cut short, nothing follows it,
-- since the bytes after it could mend it. `bare` says that no padding follows the fields.

abbrev pub plainly_by : ℕ → Bool → Bool → Answer Measure → Bool
plainly_by n last rest (got m end) = eqb end n && rest
plainly_by n last rest (refused number place) = ltb 0 n && (not (eqb number 1) || last)

unfoldable pub plainly : Encoding → List ℕ → Bool → ℕ → ℕ → List (List ℕ) → Bool
plainly encoding types bare zero k vs = true
plainly encoding types bare (suc t) k [] = true
plainly encoding types bare (suc t) k (v ∷ vs) =
    plainly_by (length v) (bare && eqb (length vs) 0) (plainly encoding types bare t (k + 1) vs) (encoded_at encoding types k v 0)

-- how many fields reading counts
abbrev pub fields_counted : Bool → ℕ → ℕ → ℕ
fields_counted raw configured n = cond raw configured n

-- What the writer refuses stands where reading finds it, also where a field is no whole value: FieldCount holds the number of fields, and
-- a field is refused plainly.
pub record Tellable (types : List ℕ) (g : GivenMessage) : Type 0 where
  pub counted : is_raw_data g ≡ false → length g.lengths ≤ 65535
  pub plain :
      plainly g.header.encoding types (eqb g.padding 0)
      (fields_counted (is_raw_data g) (length types) (length g.lengths)) 0 (given_fields g) ≡ true

-- an accepted message s, its parts taken as read: the writer accepts them, and they are s again, with its picoseconds held
pub record Rewritten (types s : List ℕ) (m : Message) : Type 0 where
  pub accepted : message_refusal types (taken_again types s m) ≡ 0
  pub same : encode (taken_again types s m) ≡ message_held m.header s
  pub parts : again s m ≡ message_held m.header s
