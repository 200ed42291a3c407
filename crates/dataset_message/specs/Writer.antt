-- A DataSetMessage as it is written: its bytes, and what the writer refuses (document 01, "Numbers given back" and
-- "The DataSetMessage"; document 02, Req 02).
use Rattle.std.specs.Prelude.{ℕ, ◌+◌, ◌-◌, Bool, true, false, cond, not, ◌&&◌, ◌||◌, List, [], ◌∷◌, ◌++◌, eqb, leb, ltb, length, take, drop, Result}
use Rattle.wire.specs.Lists.{total}
use Rattle.wire.specs.Constants.{CUT_SHORT, DISAGREE, NOT_CONFIGURED, NOT_TAKEN}
use Rattle.wire.specs.Number.{le_bytes}
use Rattle.dataset_header.specs.Flags.{is_delta, is_raw, kind_rule}
use Rattle.wire_writer.specs.Writing.{or_else, picoseconds_refusal, Output, unless, Writes}
use Rattle.wire.specs.declared.refusal.Reason.{Reason}
use Rattle.dataset_header.specs.declared.flags.Encoding.{Encoding}
use Rattle.dataset_header.specs.declared.flags.Kind.{Kind}
use Rattle.dataset_header.specs.declared.header.Header.{Header}
use Rattle.dataset_header.specs.Header.{message_header_bytes, FitsHeader}
use Rattle.wire_writer.specs.Fits.{Numbers}
use Rattle.plain_value.specs.Width.{width_of, fixed}
use Rattle.dataset_fields.specs.Fields.{values_of, fields_refusal, fields_whole, reached, fields_bytes, zeros, number_of, padding_at}

-- What is given to be written: the header; of a key frame, whether it is a heartbeat; the fields' encoded values one after the
-- other and how long each is; a delta's indices; how many bytes of padding follow.
pub record GivenMessage : Type 0 where
  pub header : Header
  pub heartbeat : Bool
  pub values : List ℕ
  pub lengths : List ℕ
  pub indices : List ℕ
  pub padding : ℕ

abbrev pub given_message : Header → Bool → List ℕ → List ℕ → List ℕ → ℕ → GivenMessage
given_message h heartbeat values lengths indices padding =
    record { header = h; heartbeat = heartbeat; values = values; lengths = lengths; indices = indices; padding = padding }

-- each number given fits its type: of every value of the code this is so, and the writer's contract says it
pub record FitsGiven (g : GivenMessage) : Type 0 where
  pub header : FitsHeader g.header
  pub indices : Numbers g.indices

-- whether something follows the header of a message of this kind: not of a heartbeat, nor of a keep alive
abbrev pub has_fields : Kind → Bool → Bool
has_fields Kind.Key heartbeat = not heartbeat
has_fields Kind.Delta heartbeat = true
has_fields Kind.Event heartbeat = true
has_fields Kind.KeepAlive heartbeat = false

abbrev pub is_raw_data : GivenMessage → Bool
is_raw_data g = is_raw g.header.encoding

abbrev pub is_fielded : GivenMessage → Bool
is_fielded g = has_fields g.header.kind g.heartbeat

abbrev pub given_fields : GivenMessage → List (List ℕ)
given_fields g = values_of g.lengths g.values

-- "FieldCount 2 and the fields; RawData has no count"
abbrev pub count_bytes : Bool → Bool → ℕ → List ℕ
count_bytes fielded raw n = cond (fielded && not raw) (le_bytes 2 n) []

-- the message
abbrev pub encode : GivenMessage → List ℕ
encode g =
    message_header_bytes g.header
    ++ (count_bytes (is_fielded g) (is_raw_data g) (length g.lengths)
    ++ (fields_bytes (is_delta g.header.kind) g.indices (given_fields g) ++ zeros g.padding))

abbrev pub is_key : Kind → Bool
is_key Kind.Key = true
is_key Kind.Delta = false
is_key Kind.Event = false
is_key Kind.KeepAlive = false

-- What reading refuses of the fields, each measured alone: the first that is cut short or faulty gives its own number.
abbrev pub own_refusal : Bool → Encoding → List ℕ → List (List ℕ) → ℕ
own_refusal fielded encoding types vs = cond fielded (fields_refusal encoding types 0 (reached (is_raw encoding) types vs)) 0

-- each field that is read is one whole value: no byte stands behind it
abbrev pub each_whole : Bool → Encoding → List ℕ → List (List ℕ) → Bool
each_whole fielded encoding types vs = cond fielded (fields_whole encoding types 0 (reached (is_raw encoding) types vs)) true

-- the lengths add up to the values' bytes; a delta has an index for each field, another message none
abbrev pub lists_agree : Bool → List ℕ → List ℕ → List ℕ → Bool
lists_agree delta values lengths indices = eqb (total lengths) (length values) && eqb (length indices) (cond delta (length lengths) 0)

-- "RawData .. its fields are the configured ones": those that are not given are read in so many bytes of padding
unfoldable pub missing_refusal : List ℕ → ℕ → ℕ
missing_refusal [] padding = 0
missing_refusal (t ∷ types) padding =
    cond (fixed t) (cond (leb (width_of t) padding) (missing_refusal types (padding - width_of t)) CUT_SHORT) NOT_TAKEN

-- "After the last field, or a keep alive's header, only zero bytes may remain (else 7 ..)": the values' bytes from a position on
abbrev pub left_refusal : List ℕ → ℕ → ℕ
left_refusal values at = number_of (padding_at values at)

-- What reading refuses after the header of RawData, where each field given is whole. "A key frame with nothing left is a heartbeat. Else
-- .. its fields are the configured ones (none: 8)": fields are missing, or stand past the configured ones.
abbrev pub raw_refusal : List ℕ → List ℕ → List ℕ → ℕ → ℕ
raw_refusal types values lengths padding =
    cond (eqb (length values) 0 && eqb padding 0) 0
    (cond (eqb (length types) 0) NOT_CONFIGURED
    (or_else (missing_refusal (drop (length lengths) types) padding) (left_refusal values (total (take (length types) lengths)))))

-- the same after any header; behind a keep alive's header the fields are bytes left over, and a heartbeat has none
abbrev pub layout_refusal : Bool → Bool → Bool → List ℕ → List ℕ → List ℕ → ℕ → ℕ
layout_refusal fielded raw key types values lengths padding =
    cond fielded (cond raw (raw_refusal types values lengths padding) 0) (cond key 0 (left_refusal values 0))

-- in RawData the number of fields is the configured one, and not 0, as that would be a heartbeat; else it is a number of 2 bytes
abbrev pub count_agrees : Bool → ℕ → ℕ → Bool
count_agrees raw configured n = cond raw (ltb 0 n && eqb n configured) (leb n 65535)

-- the number of fields and the padding read back as given: without fields there are none, and a heartbeat is not padded
abbrev pub counts_agree : Bool → Bool → Bool → ℕ → ℕ → ℕ → Bool
counts_agree fielded raw key configured n padding =
    cond fielded (count_agrees raw configured n) (eqb n 0 && (not key || eqb padding 0))

-- these of a message given

abbrev pub own_given : List ℕ → GivenMessage → ℕ
own_given types g = own_refusal (is_fielded g) g.header.encoding types (given_fields g)

abbrev pub whole_given : List ℕ → GivenMessage → Bool
whole_given types g = each_whole (is_fielded g) g.header.encoding types (given_fields g)

abbrev pub lists_given : GivenMessage → Bool
lists_given g = lists_agree (is_delta g.header.kind) g.values g.lengths g.indices

abbrev pub layout_given : List ℕ → GivenMessage → ℕ
layout_given types g =
    layout_refusal (is_fielded g) (is_raw_data g) (is_key g.header.kind) types g.values g.lengths g.padding

abbrev pub counts_given : List ℕ → GivenMessage → Bool
counts_given types g =
    counts_agree (is_fielded g) (is_raw_data g) (is_key g.header.kind) (length types) (length g.lengths) g.padding

-- What reading refuses after the header: a field's own number; where each is whole and the lists agree, so that what would be written is
-- one thing, reading's number of that (`round_trip` has the law).
abbrev pub body_refusal : List ℕ → GivenMessage → ℕ
body_refusal types g = or_else (own_given types g) (cond (whole_given types g && lists_given g) (layout_given types g) 0)

-- "A writer refuses what reading would refuse, by the same number in reading order"; at their turn picoseconds of 10,000 and up, by 3
-- (Req 02), though reading takes them as 9,999
abbrev pub message_reading_refusal : List ℕ → GivenMessage → ℕ
message_reading_refusal types g =
    or_else (kind_rule g.header.kind g.header.encoding)
    (or_else (picoseconds_refusal g.header.picoseconds)
    (body_refusal types g))

-- whether it is the turn of the picoseconds, and they are refused: nothing that stands before them is, and they are 10,000 or more. This
-- refusal alone is the writer's own.
abbrev pub message_picoseconds_turn : GivenMessage → Bool
message_picoseconds_turn g =
    eqb (kind_rule g.header.kind g.header.encoding) 0 && not (eqb (picoseconds_refusal g.header.picoseconds) 0)

-- what follows the header reads back as it is given: each field whole, as many as are read, and the padding
abbrev pub body_agrees : List ℕ → GivenMessage → Bool
body_agrees types g = whole_given types g && counts_given types g

-- "then .. what would read back otherwise (as a padded heartbeat), by 6"
abbrev pub reads_back : List ℕ → GivenMessage → Bool
reads_back types g = body_agrees types g && lists_given g

abbrev pub message_refusal : List ℕ → GivenMessage → ℕ
message_refusal types g = or_else (message_reading_refusal types g) (cond (reads_back types g) 0 DISAGREE)

-- how many bytes the message takes: its header, FieldCount, a delta's indices, the values and the padding
abbrev pub size_of_given : ℕ → Bool → Bool → ℕ → ℕ → ℕ → ℕ
size_of_given front counted delta bytes count padding =
    front + cond delta (2 + (count + (count + (bytes + padding)))) (cond counted (2 + (bytes + padding)) (bytes + padding))

-- a size, as far as the limits tell it apart
abbrev pub limited : ℕ → ℕ
limited n = cond (leb 65536 n) 65536 n

-- what is written of a message given: its bytes, unless it is refused
abbrev pub message_output : List ℕ → GivenMessage → Output
message_output types g = unless (message_refusal types g) (encode g)

-- what the writer promises, of the buffer before and after and its answer: that what it was given fits its types, and what it wrote
abbrev pub WroteMessage : List ℕ → GivenMessage → List ℕ → List ℕ → Result ℕ Reason → Type 0
WroteMessage types g entry exit r = FitsGiven g × Writes (message_output types g) entry exit r
