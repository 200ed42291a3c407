-- The lines of a listing and their text (document 01, "Configuration and listing").
use Rattle.std.specs.Prelude.{ℕ, ◌-◌, ◌≤◌, ◌≡◌, Bool, false, cond, List, [], ◌∷◌, ◌++◌, ltb, length, take, drop, Result, Ok, Err}
use Rattle.std.proofs.lemmas.List.Edits.{sets}
use Rattle.wire.specs.declared.refusal.Reason.{Reason}
use Rattle.wire_writer.specs.Fits.{Bytes}
use Rattle.text.specs.Decimal.{decimal_text}
use Rattle.text.specs.Hex.{hex_text}
use Rattle.publisher_id.specs.declared.publisher.PublisherId.{PublisherId}
use Rattle.publisher_id.specs.Publisher.{text_too_long}
use Rattle.dataset_header.specs.declared.flags.Kind.{Kind}
use Rattle.dataset_header.specs.declared.flags.Encoding.{Encoding}
use Rattle.value.specs.Value.{dimensions_of}
use Rattle.dataset_fields.specs.declared.fields.Field.{Field}
use Rattle.listing.specs.Columns.{tabbed, line_end, dash, optional_text, shape_text}
use Rattle.walk.specs.declared.entry.SetPlace.{SetPlace}
use Rattle.walk.specs.declared.entry.Line.{Line}

-- ---- the fixed words
abbrev pub net_word : List ℕ
net_word = 110 ∷ 101 ∷ 116 ∷ []

abbrev pub set_word : List ℕ
set_word = 115 ∷ 101 ∷ 116 ∷ []

abbrev pub field_word : List ℕ
field_word = 102 ∷ 105 ∷ 101 ∷ 108 ∷ 100 ∷ []

abbrev pub bad_word : List ℕ
bad_word = 98 ∷ 97 ∷ 100 ∷ []

abbrev pub invalid_word : List ℕ
invalid_word = 105 ∷ 110 ∷ 118 ∷ 97 ∷ 108 ∷ 105 ∷ 100 ∷ []

-- "kind (key, delta, event, alive)"
abbrev pub kind_word : Kind → List ℕ
kind_word Kind.Key = 107 ∷ 101 ∷ 121 ∷ []
kind_word Kind.Delta = 100 ∷ 101 ∷ 108 ∷ 116 ∷ 97 ∷ []
kind_word Kind.Event = 101 ∷ 118 ∷ 101 ∷ 110 ∷ 116 ∷ []
kind_word Kind.KeepAlive = 97 ∷ 108 ∷ 105 ∷ 118 ∷ 101 ∷ []

-- "encoding (variant, raw, value)"
abbrev pub encoding_word : Encoding → List ℕ
encoding_word Encoding.Variant = 118 ∷ 97 ∷ 114 ∷ 105 ∷ 97 ∷ 110 ∷ 116 ∷ []
encoding_word Encoding.RawData = 114 ∷ 97 ∷ 119 ∷ []
encoding_word Encoding.DataValue = 118 ∷ 97 ∷ 108 ∷ 117 ∷ 101 ∷ []

-- "id type (u8, u16, u32, u64, str), id"; "a string id is lower-case hex": its n bytes end at a position of the datagram
abbrev pub id_text : List ℕ → PublisherId → ℕ → List ℕ
id_text d PublisherId.Absent end = tabbed dash ++ tabbed dash
id_text d (PublisherId.Byte v) end = tabbed (117 ∷ 56 ∷ []) ++ tabbed (decimal_text v)
id_text d (PublisherId.UInt16 v) end = tabbed (117 ∷ 49 ∷ 54 ∷ []) ++ tabbed (decimal_text v)
id_text d (PublisherId.UInt32 v) end = tabbed (117 ∷ 51 ∷ 50 ∷ []) ++ tabbed (decimal_text v)
id_text d (PublisherId.UInt64 v) end = tabbed (117 ∷ 54 ∷ 52 ∷ []) ++ tabbed (decimal_text v)
id_text d (PublisherId.Text n) end = tabbed (115 ∷ 116 ∷ 114 ∷ []) ++ tabbed (hex_text (take n (drop (end - n) d)))

-- ---- the lines
-- "net: length, id type, id, messages"
abbrev pub net_text : List ℕ → ℕ → PublisherId → ℕ → ℕ → List ℕ
net_text d n id end messages = net_word ++ (tabbed (decimal_text n) ++ (id_text d id end ++ (tabbed (decimal_text messages) ++ line_end)))

-- "set: message, writer id, offset, length, .."
abbrev pub place_text : SetPlace → List ℕ
place_text p =
    set_word
    ++ (tabbed (decimal_text p.message)
    ++ (tabbed (optional_text p.writer) ++ (tabbed (decimal_text p.offset) ++ tabbed (decimal_text p.length))))

-- ".. kind, encoding, sequence"
abbrev pub head_text : Kind → Encoding → List ℕ
head_text k e = tabbed (kind_word k) ++ tabbed (encoding_word e)

-- "`bad`, number, place"
abbrev pub refusal_text : ℕ → ℕ → List ℕ
refusal_text n place = tabbed (decimal_text n) ++ (tabbed (decimal_text place) ++ line_end)

-- "field: message, index (a delta's own), type (23 for a DataValue), element count .., offset, length"; "how many dimensions it has .. as a
-- last column of `field` lines"
abbrev pub value_text : Field → List ℕ
value_text f =
    tabbed (shape_text f.shape)
    ++ (tabbed (decimal_text f.offset)
    ++ (tabbed (decimal_text f.length) ++ (tabbed (decimal_text (dimensions_of f.shape)) ++ line_end)))

abbrev pub field_text : ℕ → Field → List ℕ
field_text m f = field_word
    ++ (tabbed (decimal_text m) ++ (tabbed (decimal_text f.index) ++ (tabbed (decimal_text f.kind) ++ value_text f)))

-- a line of the listing of datagram d. "A refused message ends its `set` line after the length with `bad`, number, place, one not valid
-- with `invalid`"
unfoldable pub line_text : List ℕ → Line → List ℕ
line_text d (Line.Net n id end messages) = net_text d n id end messages
line_text d (Line.Set p k e q) = place_text p ++ (head_text k e ++ (tabbed (optional_text q) ++ line_end))
line_text d (Line.SetInvalid p) = place_text p ++ (tabbed invalid_word ++ line_end)
line_text d (Line.SetBad p n place) = place_text p ++ (tabbed bad_word ++ refusal_text n place)
line_text d (Line.Field m f) = field_text m f
line_text d (Line.Bad n place) = bad_word ++ refusal_text n place

-- ---- putting a line
-- a line made up by a caller may have a string id above 64 bytes, which no accepted datagram has
abbrev pub id_too_long : PublisherId → Bool
id_too_long PublisherId.Absent = false
id_too_long (PublisherId.Byte v) = false
id_too_long (PublisherId.UInt16 v) = false
id_too_long (PublisherId.UInt32 v) = false
id_too_long (PublisherId.UInt64 v) = false
id_too_long (PublisherId.Text n) = text_too_long n

abbrev pub too_long : Line → Bool
too_long (Line.Net n id end messages) = id_too_long id
too_long (Line.Set p k e q) = false
too_long (Line.SetInvalid p) = false
too_long (Line.SetBad p n place) = false
too_long (Line.Field m f) = false
too_long (Line.Bad n place) = false

-- a buffer of 256 bytes holds any line; a shorter one is 11, and such an id is 10
unfoldable pub line_refusal : List ℕ → Line → Result (Unit {0}) Reason
line_refusal l x = cond (too_long x) (Err Reason.OverLimit) (cond (ltb (length l) 256) (Err Reason.NoRoom) (Ok tt))

abbrev pub put_by : Result (Unit {0}) Reason → List ℕ → Result ℕ Reason
put_by (Ok u) t = Ok (length t)
put_by (Err reason) t = Err reason

abbrev pub buffer_by : Result (Unit {0}) Reason → List ℕ → List ℕ → List ℕ
buffer_by (Ok u) l t = sets l 0 t
buffer_by (Err reason) l t = l

-- the answer, and the buffer l afterwards: the line's text at its start and the rest as it was, or all as it was
abbrev pub line_put : List ℕ → List ℕ → Line → Result ℕ Reason
line_put l d x = put_by (line_refusal l x) (line_text d x)

abbrev pub line_after : List ℕ → List ℕ → Line → List ℕ
line_after l d x = buffer_by (line_refusal l x) l (line_text d x)

-- how many bytes a line put there takes
abbrev pub put_length : Result ℕ Reason → ℕ
put_length (Ok n) = n
put_length (Err reason) = 0

-- what `put_line` promises, of the buffer before and after and its answer; and that the datagram's bytes are bytes
abbrev pub PutLine : List ℕ → Line → List ℕ → List ℕ → Result ℕ Reason → Type 0
PutLine d x entry exit r = (r ≡ line_put entry d x) × (exit ≡ line_after entry d x) × (put_length r ≤ 256) × Bytes d
