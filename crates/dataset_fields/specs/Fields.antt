-- The fields of a DataSetMessage and the cursor over them (document 01, "The DataSetMessage" and "Values").
use Rattle.std.specs.Prelude.{ℕ, zero, suc, ◌+◌, ◌-◌, Bool, false, cond, ◌&&◌, true, List, [], ◌∷◌, ◌++◌, leb, ltb, eqb, length, replicate, get_or, take, drop, Result, Ok, Err}
use Rattle.wire.specs.Constants.{CUT_SHORT, DISAGREE, LEFT_OVER, NOT_CONFIGURED, OVER_LIMIT}
use Rattle.wire.specs.Answer.{Answer, got, refused, Reader, item, here, when_on, pure, and_then, ◌>>=◌, ◌>>◌}
use Rattle.wire.specs.Refusal.{reason_number}
use Rattle.wire.specs.declared.refusal.Refusal.{Refusal}
use Rattle.value.specs.Value.{variant_at, data_value_at, raw_at, Measure}
use Rattle.dataset_header.specs.declared.flags.Encoding.{Encoding}
use Rattle.dataset_fields.specs.declared.fields.Field.{Field}
use Rattle.dataset_fields.specs.declared.fields.Cursor.{Cursor}
use Rattle.wire.specs.Number.{le_bytes}
use Rattle.wire_writer.specs.Writing.{or_else}

-- RawData: "its fields are the configured ones"; of a field past them "the configuration doesn't say"
abbrev pub raw_field_at : List ℕ → ℕ → Reader Measure
raw_field_at types k s at = cond (leb (length types) k) (refused NOT_CONFIGURED 0) (raw_at (get_or types k 0) s at)

-- the value of field k: a Variant, a DataValue, or in RawData an element of its configured type
abbrev pub encoded_at : Encoding → List ℕ → ℕ → Reader Measure
encoded_at Encoding.Variant types k = variant_at
encoded_at Encoding.RawData types k = raw_field_at types k
encoded_at Encoding.DataValue types k = data_value_at

-- "Delta: .. an index of 2 and a value each"; else field k has the index k
abbrev pub index_at : Bool → ℕ → Reader ℕ
index_at delta k = when_on delta k (item 2)

-- field k: its index, and its value's type, shape, offset and length
abbrev pub field_at : Bool → Encoding → List ℕ → ℕ → Reader Field
field_at delta encoding types k = do
  i ← index_at delta k
  offset ← here
  m ← encoded_at encoding types k
  end ← here
  pure (record { index = i; kind = m.kind; shape = m.shape; offset = offset; length = end - offset })

-- n fields, the first of them field k
unfoldable pub fields_at : Bool → Encoding → List ℕ → ℕ → ℕ → Reader (Unit {0})
fields_at delta encoding types zero k = pure tt
fields_at delta encoding types (suc n) k = field_at delta encoding types k >> fields_at delta encoding types n (k + 1)

-- "A made-up cursor is read at the byte it names; past the end it is 1, after that 10"; "a step after the last field, is 10"
pub record FieldStepped : Type 0 where
  pub field : Field
  pub cursor : Cursor

abbrev pub next_field_at : Cursor → List ℕ → List ℕ → Answer FieldStepped
next_field_at c types s =
    cond (ltb (length s) c.at) (refused CUT_SHORT c.at)
    (cond (leb c.count c.next) (refused OVER_LIMIT 0)
    (and_then (field_at c.delta c.encoding types c.next s c.at)
    (λ f end.
    got
    (record { field = f; cursor = record { encoding = c.encoding; delta = c.delta; next = c.next + 1; count = c.count; at = end } })
    end)))

-- "only zero bytes may remain (else 7, at the first other byte)"
unfoldable pub zeros_at : ℕ → Reader (Unit {0})
zeros_at zero s at = got tt at
zeros_at (suc n) s at = cond (eqb (get_or s at 0) 0) (zeros_at n s (at + 1)) (refused LEFT_OVER at)

abbrev pub padding_at : Reader (Unit {0})
padding_at s at = zeros_at (length s - at) s at

-- what a step of the code says
abbrev pub answer_field_step : Result (Field × Cursor) Refusal → Answer FieldStepped
answer_field_step (Ok (f, c)) = got (record { field = f; cursor = c }) c.at
answer_field_step (Err r) = refused (reason_number r.reason) r.place

-- the cursor after k steps
unfoldable pub walk_at : Cursor → List ℕ → ℕ → List ℕ → Answer Cursor
walk_at c types zero s = got c c.at
walk_at c types (suc k) s = and_then (walk_at c types k s) (λ d _. and_then (next_field_at d types s) (λ x next. got x.cursor next))

-- the cursor c, before field k, which starts at q
abbrev pub cursor_before : Cursor → ℕ → ℕ → Cursor
cursor_before c k q = record { encoding = c.encoding; delta = c.delta; next = k; count = c.count; at = q }

-- the fields' encoded values, which stand one after the other, each as long as its length says
unfoldable pub values_of : List ℕ → List ℕ → List (List ℕ)
values_of [] values = []
values_of (n ∷ lengths) values = take n values ∷ values_of lengths (drop n values)

-- an answer's number, 0 where it is accepted
abbrev pub number_of : {A : Type 0} → Answer A → ℕ
number_of (got a next) = 0
number_of (refused n place) = n

-- whether an answer is accepted and ends at n
abbrev pub ends_at : {A : Type 0} → ℕ → Answer A → Bool
ends_at n (got a next) = eqb next n
ends_at n (refused m place) = false

-- Each field is measured alone. The first that is cut short or faulty gives its own number; the first of them is field k.
unfoldable pub fields_refusal : Encoding → List ℕ → ℕ → List (List ℕ) → ℕ
fields_refusal encoding types k [] = 0
fields_refusal encoding types k (v ∷ vs) = or_else (number_of (encoded_at encoding types k v 0)) (fields_refusal encoding types (k + 1) vs)

-- no byte of a field stands behind its value, where it "would read back otherwise"
unfoldable pub fields_whole : Encoding → List ℕ → ℕ → List (List ℕ) → Bool
fields_whole encoding types k [] = true
fields_whole encoding types k (v ∷ vs) = ends_at (length v) (encoded_at encoding types k v 0) && fields_whole encoding types (k + 1) vs

-- the fields' own refusal, then "what would read back otherwise .. by 6"
abbrev pub fields_number : Encoding → List ℕ → ℕ → List (List ℕ) → ℕ
fields_number encoding types k vs = or_else (fields_refusal encoding types k vs) (cond (fields_whole encoding types k vs) 0 DISAGREE)

-- the fields that are read: in RawData no more than are configured
abbrev pub reached : Bool → List ℕ → List (List ℕ) → List (List ℕ)
reached raw types vs = cond raw (take (length types) vs) vs

-- "Delta: an index of 2 and a value each"
abbrev pub index_bytes : Bool → ℕ → List ℕ
index_bytes true i = le_bytes 2 i
index_bytes false i = []

-- the fields one after the other
unfoldable pub fields_bytes : Bool → List ℕ → List (List ℕ) → List ℕ
fields_bytes delta indices [] = []
fields_bytes delta indices (v ∷ vs) = index_bytes delta (get_or indices 0 0) ++ (v ++ fields_bytes delta (drop 1 indices) vs)

-- padding
abbrev pub zeros : ℕ → List ℕ
zeros n = replicate n 0

-- the fields of a message that was read, by the walk: n fields, the first of them field k
abbrev pub and_field : Answer Field → (Field → ℕ → List Field) → List Field
and_field (got f end) onward = f ∷ onward f end
and_field (refused number place) onward = []

unfoldable pub walked : Bool → Encoding → List ℕ → ℕ → ℕ → List ℕ → ℕ → List Field
walked delta encoding types zero k s at = []
walked delta encoding types (suc n) k s at =
    and_field (field_at delta encoding types k s at) (λ f end. walked delta encoding types n (k + 1) s end)

-- the encoded bytes of a field
abbrev pub field_bytes_of : List ℕ → Field → List ℕ
field_bytes_of s f = take f.length (drop f.offset s)

unfoldable pub values_joined : List ℕ → List Field → List ℕ
values_joined s [] = []
values_joined s (f ∷ fs) = field_bytes_of s f ++ values_joined s fs

unfoldable pub lengths_of : List Field → List ℕ
lengths_of [] = []
lengths_of (f ∷ fs) = f.length ∷ lengths_of fs

unfoldable pub indices_of : List Field → List ℕ
indices_of [] = []
indices_of (f ∷ fs) = f.index ∷ indices_of fs
