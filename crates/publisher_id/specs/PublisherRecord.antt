-- A PublisherId with the bytes of a string, and when two are equal.
use Rattle.std.specs.Prelude.{ℕ, ◌-◌, Bool, true, false, ◌&&◌, List, [], ◌∷◌, leb, eqb, take, drop, replicate}
use Rattle.wire.specs.Constants.{MOST_TEXT_ID}
use Rattle.wire_writer.specs.Store.{laid}
use Rattle.publisher_id.specs.declared.publisher.PublisherId.{PublisherId}
use Rattle.publisher_id.specs.declared.publisher_record.PublisherRecord.{PublisherRecord}

-- "Ids are equal only if type and content are, or both are absent": an id's type, its number and its text
pub record Publisher : Type 0 where
  pub code : ℕ
  pub value : ℕ
  pub text : List ℕ

abbrev pub code_of : PublisherId → ℕ
code_of PublisherId.Absent = 0
code_of (PublisherId.Byte v) = 1
code_of (PublisherId.UInt16 v) = 2
code_of (PublisherId.UInt32 v) = 3
code_of (PublisherId.UInt64 v) = 4
code_of (PublisherId.Text n) = 5

-- an absent id and a string have no number
abbrev pub id_number_of : PublisherId → ℕ
id_number_of PublisherId.Absent = 0
id_number_of (PublisherId.Byte v) = v
id_number_of (PublisherId.UInt16 v) = v
id_number_of (PublisherId.UInt32 v) = v
id_number_of (PublisherId.UInt64 v) = v
id_number_of (PublisherId.Text n) = 0

-- only a string has a length
abbrev pub text_length_of : PublisherId → ℕ
text_length_of PublisherId.Absent = 0
text_length_of (PublisherId.Byte v) = 0
text_length_of (PublisherId.UInt16 v) = 0
text_length_of (PublisherId.UInt32 v) = 0
text_length_of (PublisherId.UInt64 v) = 0
text_length_of (PublisherId.Text n) = n

abbrev pub publisher_of : PublisherRecord → Publisher
publisher_of p = record { code = code_of p.id; value = id_number_of p.id; text = take (text_length_of p.id) p.text }

unfoldable pub same_text : List ℕ → List ℕ → Bool
same_text [] [] = true
same_text [] (y ∷ ys) = false
same_text (x ∷ xs) [] = false
same_text (x ∷ xs) (y ∷ ys) = eqb x y && same_text xs ys

unfoldable pub same_publisher : Publisher → Publisher → Bool
same_publisher a b = eqb a.code b.code && (eqb a.value b.value && same_text a.text b.text)

-- "a string publisher of at most 64 bytes"
unfoldable pub publisher_fits : PublisherRecord → Bool
publisher_fits p = leb (text_length_of p.id) MOST_TEXT_ID

-- the record of an id and a text: a shorter one is filled up with 0, a longer one is not copied
abbrev pub lent_record : PublisherId → List ℕ → PublisherRecord
lent_record id t = record { id = id; text = laid (replicate MOST_TEXT_ID 0) 0 t }

-- the record of an id that ends at a position: a string's bytes stand before it; a longer one than a record holds is not copied
abbrev pub record_at : PublisherId → ℕ → List ℕ → PublisherRecord
record_at id end s = lent_record id (take (text_length_of id) (drop (end - text_length_of id) s))
