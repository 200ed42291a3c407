-- What is salvaged as lent bytes: a record that tells of it, and a list of the holes and fields (include/uadp.h, `uadp_salvage`).
use Rattle.std.specs.Prelude.{ℕ, ◌+◌, ◌*◌, ◌/◌, Bool, true, false, cond, not, List, [], ◌∷◌, ◌++◌, eqb, ltb, length, take, Result, Ok, Err}
use Rattle.wire.specs.Constants.{NO_ROOM}
use Rattle.wire_writer.specs.Store.{laid}
use Rattle.marks.specs.Offsets.{next_passing}
use Rattle.marks.specs.Marks.{in_use, marked}
use Rattle.dataset_header.specs.Flags.{encoding_number}
use Rattle.dataset_header.specs.declared.flags.Encoding.{Encoding}
use Rattle.dataset_fields.specs.declared.fields.Field.{Field}
use Rattle.dataset_fields.specs.declared.fields.Cursor.{Cursor}
use Rattle.records.specs.Numbers.{number_bytes}
use Rattle.message_record.specs.Message.{field_numbers}
use Rattle.salvage.specs.Holes.{holes_of}
use Rattle.salvage.specs.Front.{Promise, missing, promised, Salvage, salvaged, refusal, salvage_at, open_at}
use Rattle.salvage.specs.declared.holes.Hole.{Hole}
use Rattle.salvage.specs.declared.front.Opening.{Opening}

-- how many bytes an entry of the list has, and the record that tells of it
abbrev pub ENTRY_SIZE : ℕ
ENTRY_SIZE = 64

abbrev pub SALVAGE_SIZE : ℕ
SALVAGE_SIZE = 64

-- ---- the list

-- the 8 numbers of a hole: its offset and length stand where a field's do
abbrev pub hole_numbers : Hole → List ℕ
hole_numbers h = 0 ∷ 0 ∷ 0 ∷ 0 ∷ h.offset ∷ h.length ∷ 0 ∷ 0 ∷ []

-- the 8 numbers of a field that is a scalar
abbrev pub scalar_numbers : ℕ → ℕ → ℕ → ℕ → List ℕ
scalar_numbers kind index offset length = kind ∷ 0 ∷ 0 ∷ index ∷ offset ∷ length ∷ 0 ∷ 0 ∷ []

-- "one entry a hole, then one a field"
abbrev pub hole_entries : List Hole → List (List ℕ)
hole_entries [] = []
hole_entries (h ∷ hs) = hole_numbers h ∷ hole_entries hs

abbrev pub field_entries : List Field → List (List ℕ)
field_entries [] = []
field_entries (x ∷ xs) = field_numbers x ∷ field_entries xs

-- entry k (from 0) stands at 64 * k
abbrev pub entry_laid : ℕ → List ℕ → List ℕ → List ℕ
entry_laid k x out = laid out (ENTRY_SIZE * k) (number_bytes x)

abbrev pub entries_put : ℕ → List (List ℕ) → List ℕ → List ℕ
entries_put k [] out = out
entries_put k (x ∷ xs) out = entries_put (k + 1) xs (entry_laid k x out)

-- ---- the record

-- whether the count is known, and how many fields it promised
abbrev pub known_number : Promise → ℕ
known_number missing = 0
known_number (promised n) = 1

abbrev pub promised_number : Promise → ℕ
promised_number missing = 0
promised_number (promised n) = n

-- "holes, fields, whether the count is known, promised, front, total, the fields' encoding", and a spare one
abbrev pub told_numbers : ℕ → ℕ → Promise → ℕ → ℕ → ℕ → List ℕ
told_numbers holes fields p front total encoding =
    holes ∷ fields ∷ known_number p ∷ promised_number p ∷ front ∷ total ∷ encoding ∷ 0 ∷ []

-- the encoding that is told: 0 where no cursor stands before the fields
abbrev pub encoding_told : Result Opening (ℕ × ℕ) → ℕ
encoding_told (Ok Opening.Missing) = 0
encoding_told (Ok Opening.NotValid) = 0
encoding_told (Ok (Opening.At c)) = encoding_number c.encoding
encoding_told (Err refused) = 0

-- ---- both lent buffers afterwards, and the answer: how many entries the list has, or a refusal's number and place
pub record SavedPut : Type 0 where
  pub answer : Result ℕ (ℕ × ℕ)
  pub told : List ℕ
  pub list : List ℕ

abbrev pub saved_put : Result ℕ (ℕ × ℕ) → List ℕ → List ℕ → SavedPut
saved_put a told list = record { answer = a; told = told; list = list }

-- a refusal of the message first; "last, no room 11". No byte changes then.
abbrev pub put_saved : List Hole → ℕ → ℕ → ℕ → List ℕ → List ℕ → Salvage → SavedPut
put_saved hs front total encoding told list (refusal n place) = saved_put (Err (n, place)) told list
put_saved hs front total encoding told list (salvaged p fs) =
    cond (ltb (length told) SALVAGE_SIZE) (saved_put (Err (NO_ROOM, 0)) told list)
    (cond (ltb (length list / ENTRY_SIZE) (length hs + length fs)) (saved_put (Err (NO_ROOM, 0)) told list)
    (saved_put (Ok (length hs + length fs))
    (laid told 0 (number_bytes (told_numbers (length hs) (length fs) p front total encoding)))
    (entries_put 0 (hole_entries hs ++ field_entries fs) list)))

-- ---- of a partial's areas
module _ (types payload marks : List ℕ) (total : ℕ) where
  -- "Front: the positions before the first hole, all below total if there is none"
  abbrev pub front_end : ℕ
  front_end = next_passing (λ i. not (marked in_use marks i)) total 0

  abbrev pub front_bytes : List ℕ
  front_bytes = take front_end payload

  abbrev pub area_bytes : List ℕ
  area_bytes = take total payload

  abbrev pub holes_in : List Hole
  holes_in = holes_of (marked in_use marks) total

  -- "A partial not started has no holes, fields or count": its total is 0
  abbrev pub open_in : Result Opening (ℕ × ℕ)
  open_in = cond (eqb total 0) (Ok Opening.Missing) (open_at (length area_bytes) types front_bytes area_bytes)

  abbrev pub salvage_in : Salvage
  salvage_in = cond (eqb total 0) (salvaged missing []) (salvage_at (length area_bytes) types front_bytes area_bytes)

  abbrev pub salvage_put : List ℕ → List ℕ → SavedPut
  salvage_put told list = put_saved holes_in front_end total (encoding_told open_in) told list salvage_in

-- a cursor's promise, where it is known
abbrev pub promise_by : Bool → ℕ → Promise
promise_by true n = promised n
promise_by false n = missing

-- a cursor that stands behind the front, before no field
abbrev pub none_at : ℕ → Cursor
none_at at = record { encoding = Encoding.Variant; delta = false; next = 0; count = 0; at = at }
