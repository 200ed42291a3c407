-- A partial: its record and its two areas, and when it is sound.
use Rattle.std.specs.Prelude.{ℕ, Bool, true, false, not, ◌&&◌, ◌||◌, ◌≡◌, List, length, leb, eqb}
use Rattle.std.specs.Prelude.{Option, Some, None}
use Rattle.marks.specs.Marks.{Layout, in_use, marks_for, count_marked}
use Rattle.publisher_id.specs.PublisherRecord.{Publisher, publisher_of, same_publisher, publisher_fits}
use Rattle.reassembly.specs.declared.record.Message.{Message}
use Rattle.reassembly.specs.declared.record.MessageOrigin.{MessageOrigin}
use Rattle.reassembly.specs.declared.record.PartialRecord.{PartialRecord}

-- where a message comes from: publisher, group id or that there was none, writer id and message number
pub record Origin : Type 0 where
  pub publisher : Publisher
  pub group : Option ℕ
  pub writer : ℕ
  pub number : ℕ

abbrev pub origin_of : MessageOrigin → Origin
origin_of o = record { publisher = publisher_of o.publisher; group = o.group; writer = o.writer; number = o.number }

-- which message: its origin and total
pub record Identity : Type 0 where
  pub origin : Origin
  pub total : ℕ

abbrev pub identity_of : Message → Identity
identity_of m = record { origin = origin_of m.origin; total = m.total }

-- "Absent equals only absent" (document 02, Req 06)
abbrev pub same_group : Option ℕ → Option ℕ → Bool
same_group None None = true
same_group None (Some b) = false
same_group (Some a) None = false
same_group (Some a) (Some b) = eqb a b

unfoldable pub same_origin : Origin → Origin → Bool
same_origin a b =
    same_publisher a.publisher b.publisher
    && (same_group a.group b.group && (eqb a.writer b.writer && eqb a.number b.number))

unfoldable pub same_message : Identity → Identity → Bool
same_message a b = same_origin a.origin b.origin && eqb a.total b.total

-- a partial is a record with two lent areas, payload and marks, and the layout of its marks
pub record Partial : Type 0 where
  pub rec : PartialRecord
  pub layout : Layout
  pub payload : List ℕ
  pub marks : List ℕ

-- one whose marks are held as the code holds them
abbrev pub partial : PartialRecord → List ℕ → List ℕ → Partial
partial r p m = record { rec = r; layout = in_use; payload = p; marks = m }

-- its room: how long the payload area is
abbrev pub room_of : Partial → ℕ
room_of s = length s.payload

-- sound over areas of n and k bytes: marks of the length that the layout gives and, if started, total from 1 to that length, a number of
-- covered bytes not above total ("a started record's number above total is 12", document 02, Req 07) and a string publisher of at most 64
-- bytes
unfoldable pub sound_by : Layout → PartialRecord → ℕ → ℕ → Bool
sound_by L r n k =
    eqb (marks_for L n) k
    && (not r.started
    || (leb 1 r.message.total
    && (leb r.message.total n && (leb r.covered r.message.total && publisher_fits r.message.origin.publisher))))

abbrev pub sound : Partial → Bool
sound s = sound_by s.layout s.rec (length s.payload) (length s.marks)

-- how many bytes below total are marked
abbrev pub marked_count : Partial → ℕ
marked_count s = count_marked s.layout s.rec.message.total s.marks

-- its number is right: that of the covered bytes; "one not started always counts as right" (document 02, Req 07)
abbrev pub Right : Partial → Type 0
Right s = s.rec.started ≡ true → s.rec.covered ≡ marked_count s

-- a partial that is in order, as every claim asks: it is sound, and its number is right
pub record Good (s : Partial) : Type 0 where
  pub is_sound : sound s ≡ true
  pub is_right : Right s
