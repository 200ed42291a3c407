-- A probe's body written from its parts (document 02, Req 01). Ids and strings are given as they are to stand: ids of 2 bytes each, strings
-- each with its length of 4 bytes.
use Rattle.std.specs.Prelude.{Option, Some, None}
use Rattle.std.specs.Prelude.{ℕ, ◌+◌, ◌*◌, ◌-◌, ◌<◌, cond, List, [], ◌++◌, eqb, leb, length, take, drop}
use Rattle.wire.specs.Constants.{DISAGREE}
use Rattle.wire.specs.Number.{le_bytes}
use Rattle.wire.specs.Answer.{Answer, got, refused, each}
use Rattle.wire_writer.specs.Writing.{Output, unless, unused}
use Rattle.plain_value.specs.Plain.{string}
use Rattle.probe.specs.declared.body.Probe.{Probe}
use Rattle.probe.specs.Items.{count_in}

-- the ProbeType of the Publisher information probe
abbrev pub INFORMATION_PROBE : ℕ
INFORMATION_PROBE = 1

-- the number of 4 bytes that stands for -1
abbrev pub NULL_COUNT : ℕ
NULL_COUNT = 4294967295

-- the first count that is no Int32
abbrev pub COUNT_END : ℕ
COUNT_END = 2147483648

-- the InformationType of a probe
abbrev pub information_of : Probe → ℕ
information_of (Probe.MetaData l) = 2
information_of (Probe.Writers l) = 3
information_of (Probe.Group g b) = 4
information_of (Probe.Connections l g w) = 5

-- ProbeType 1, InformationType 1
abbrev pub probe_head_bytes : Probe → List ℕ
probe_head_bytes p = le_bytes 1 INFORMATION_PROBE ++ le_bytes 1 (information_of p)

-- "Int32 count"; null is -1
abbrev pub list_count_bytes : Option ℕ → List ℕ
list_count_bytes None = le_bytes 4 NULL_COUNT
list_count_bytes (Some n) = le_bytes 4 n

-- what follows the InformationType: a count and its ids; the group id with its Boolean; a count, its strings and two Booleans
abbrev pub parts_bytes : List ℕ → Probe → List ℕ
parts_bytes list (Probe.MetaData l) = list_count_bytes l ++ list
parts_bytes list (Probe.Writers l) = list_count_bytes l ++ list
parts_bytes list (Probe.Group g b) = le_bytes 2 g ++ le_bytes 1 b
parts_bytes list (Probe.Connections l g w) = list_count_bytes l ++ (list ++ (le_bytes 1 g ++ le_bytes 1 w))

abbrev pub probe_bytes : List ℕ → Probe → List ℕ
probe_bytes list p = probe_head_bytes p ++ parts_bytes list p

-- what would read back otherwise is 6: ids of another number than the count, a count that is no Int32, a list where none is
abbrev pub ids_rule : ℕ → ℕ → ℕ
ids_rule n len = cond (leb COUNT_END n) DISAGREE (cond (eqb len (2 * n)) 0 DISAGREE)

abbrev pub id_list_rule : Option ℕ → ℕ → ℕ
id_list_rule None len = unused len
id_list_rule (Some n) len = ids_rule n len

-- strings: what reading refuses of the list alone by its own number, then what would read back otherwise by 6
abbrev pub strings_end : ℕ → ℕ → Answer (Unit {0}) → ℕ
strings_end n len (got x end) = cond (leb COUNT_END n) DISAGREE (cond (eqb end len) 0 DISAGREE)
strings_end n len (refused k place) = k

abbrev pub strings_rule : ℕ → List ℕ → ℕ
strings_rule n list = strings_end n (length list) (each string n list 0)

abbrev pub string_list_rule : Option ℕ → List ℕ → ℕ
string_list_rule None list = unused (length list)
string_list_rule (Some n) list = strings_rule n list

-- the number by which a probe with this list is refused, 0 for none
abbrev pub probe_body_refusal : List ℕ → Probe → ℕ
probe_body_refusal list (Probe.MetaData l) = id_list_rule l (length list)
probe_body_refusal list (Probe.Writers l) = id_list_rule l (length list)
probe_body_refusal list (Probe.Group g b) = unused (length list)
probe_body_refusal list (Probe.Connections l g w) = string_list_rule l list

-- what is written of a probe: its bytes, unless it is refused
abbrev pub probe_output : List ℕ → Probe → Output
probe_output list p = unless (probe_body_refusal list p) (probe_bytes list p)

-- each number of a probe fits its type, as of every value of the code
abbrev pub FitsProbe : Probe → Type 0
FitsProbe (Probe.MetaData l) = Unit {0}
FitsProbe (Probe.Writers l) = Unit {0}
FitsProbe (Probe.Group g b) = (g < 65536) × (b < 256)
FitsProbe (Probe.Connections l g w) = (g < 256) × (w < 256)

-- the ids or strings of a probe that was read at a position of s, as they stand there: behind ProbeType, InformationType and count; two
-- Booleans stand behind strings
abbrev pub list_in : List ℕ → ℕ → Probe → List ℕ
list_in s at (Probe.MetaData l) = take (2 * count_in l) (drop (at + 6) s)
list_in s at (Probe.Writers l) = take (2 * count_in l) (drop (at + 6) s)
list_in s at (Probe.Group g b) = []
list_in s at (Probe.Connections l g w) = take (length s - 2 - (at + 6)) (drop (at + 6) s)
