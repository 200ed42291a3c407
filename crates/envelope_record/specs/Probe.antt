-- The records of a probe and of one of its ids or strings (include/uadp.h).
use Rattle.std.specs.Prelude.{Option, Some, None}
use Rattle.std.specs.Prelude.{ℕ, ◌+◌, ◌*◌, ◌≡◌, Bool, true, cond, ◌&&◌, List, [], ◌∷◌, eqb, leb, ltb}
use Rattle.wire.specs.Number.{le_bytes}
use Rattle.wire.specs.Constants.{MOST_DATAGRAM}
use Rattle.wire_writer.specs.Store.{laid}
use Rattle.config.specs.Writers.{at_most}
use Rattle.probe.specs.declared.body.Probe.{Probe}
use Rattle.probe.specs.declared.items.ProbeCursor.{ProbeCursor}
use Rattle.probe.specs.declared.items.ProbeItem.{ProbeItem}
use Rattle.probe.specs.Body.{information_rule}
use Rattle.probe.specs.Items.{item_count}
use Rattle.probe.specs.Put.{information_of}
use Rattle.records.specs.Numbers.{number_at}
use Rattle.records.specs.Items.{is_on, fits_item}

-- "1 for a null list, else 0"
abbrev pub null_number : Option ℕ → ℕ
null_number None = 1
null_number (Some n) = 0

abbrev pub probe_null : Probe → ℕ
probe_null (Probe.MetaData l) = null_number l
probe_null (Probe.Writers l) = null_number l
probe_null (Probe.Group g b) = 0
probe_null (Probe.Connections l g w) = null_number l

-- "where the first id or string stands": behind ProbeType, InformationType and count; 0 for a WriterGroup's, and for a start above the most
-- bytes of a datagram, which no probe has
abbrev pub list_start : Probe → ℕ → ℕ
list_start (Probe.MetaData l) start = start + 6
list_start (Probe.Writers l) start = start + 6
list_start (Probe.Group g b) start = 0
list_start (Probe.Connections l g w) start = start + 6

abbrev pub list_place : Probe → ℕ → ℕ
list_place p start = cond (ltb MOST_DATAGRAM start) 0 (list_start p start)

-- "WriterGroupId"; "IncludeWriterGroups of connections"; "IncludeDataSetWriters of a WriterGroup and of connections"
abbrev pub probe_group : Probe → ℕ
probe_group (Probe.MetaData l) = 0
probe_group (Probe.Writers l) = 0
probe_group (Probe.Group g b) = g
probe_group (Probe.Connections l g w) = 0

abbrev pub include_groups : Probe → ℕ
include_groups (Probe.MetaData l) = 0
include_groups (Probe.Writers l) = 0
include_groups (Probe.Group g b) = 0
include_groups (Probe.Connections l g w) = g

abbrev pub include_writers : Probe → ℕ
include_writers (Probe.MetaData l) = 0
include_writers (Probe.Writers l) = 0
include_writers (Probe.Group g b) = b
include_writers (Probe.Connections l g w) = w

-- the 16 numbers of a probe that starts at a position: InformationType, null, count, where the list stands, WriterGroupId, two Booleans;
-- the cursor stands before the first item; the last seven are spare and hold 0
abbrev pub probe_numbers : Probe → ℕ → List ℕ
probe_numbers p start =
    information_of p ∷ probe_null p ∷ item_count p ∷ list_place p start ∷ probe_group p ∷ include_groups p ∷ include_writers p
    ∷ 0 ∷ list_place p start
    ∷ 0 ∷ 0 ∷ 0 ∷ 0 ∷ 0 ∷ 0 ∷ 0 ∷ []

-- a probe in a record to be written from, or walked over

abbrev pub list_given : ℕ → ℕ → Option ℕ
list_given null count = cond (is_on null) None (Some count)

-- "another type lists nothing"
abbrev pub probe_by : ℕ → Option ℕ → ℕ → ℕ → ℕ → Probe
probe_by t l g a b =
    cond (eqb t 2) (Probe.MetaData l) (cond (eqb t 3) (Probe.Writers l) (cond (eqb t 5) (Probe.Connections l a b) (Probe.Group g b)))

-- "the numbers 0, 1, 2, 4, 5 and 6 are read"; "a number that does not fit its item counts as the largest that does"
abbrev pub probe_in : List ℕ → Probe
probe_in s =
    probe_by (number_at s 0) (list_given (number_at s 1) (number_at s 2)) (at_most 65535 (number_at s 4)) (at_most 255 (number_at s 5))
    (at_most 255 (number_at s 6))

-- "types by number as in reading"
abbrev pub information_refusal : List ℕ → ℕ
information_refusal s = information_rule (at_most 255 (number_at s 0))

-- "a number that does not fit its item": whether the number of each item that is present fits it; a count is the writer's to judge
abbrev pub probe_fits : List ℕ → Bool
probe_fits s =
    fits_item (eqb (number_at s 0) 4) 65535 (number_at s 4)
    && (fits_item (eqb (number_at s 0) 5) 255 (number_at s 5) && fits_item (leb 4 (number_at s 0)) 255 (number_at s 6))

-- the item cursor, the numbers 7 and 8; and the record with its cursor moved
abbrev pub item_cursor_in : List ℕ → ProbeCursor
item_cursor_in s = record { index = number_at s 7; at = number_at s 8 }

abbrev pub item_cursor_laid : ProbeCursor → List ℕ → List ℕ
item_cursor_laid c s = laid (laid s (8 * 7) (le_bytes 8 c.index)) (8 * 8) (le_bytes 8 c.at)

-- the 4 numbers of an item: its number, "offset of its bytes", their length, "the id; of a string 1 if null, else 0"
abbrev pub value_number : Bool → ℕ → ℕ
value_number null id = cond null 1 id

abbrev pub item_numbers : ProbeItem → List ℕ
item_numbers x = x.index ∷ x.offset ∷ x.length ∷ value_number x.null x.id ∷ []

-- what the library reads in the probe record r is the probe that starts at a position, each number of which fits its item, and the cursor
-- before its first id or string
pub record ProbeRecordBack (r : List ℕ) (p : Probe) (start : ℕ) : Type 0 where
  pub probe : probe_in r ≡ p
  pub type : information_refusal r ≡ 0
  pub fitting : probe_fits r ≡ true
  pub cursor : item_cursor_in r ≡ record { index = 0; at = list_place p start }
