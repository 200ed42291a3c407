-- The Publisher information probe (document 02, Req 01; its layout is source document 000's, Tables 146 to 150).
use Rattle.std.specs.Prelude.{Option, Some, None}
use Rattle.std.specs.Prelude.{ℕ, ◌*◌, cond, List, eqb, ltb, length}
use Rattle.wire.specs.Constants.{LEFT_OVER, NOT_PERMITTED, NOT_TAKEN}
use Rattle.wire.specs.Answer.{Answer, got, refused, Reader, item, ruled, run, each, pure, and_then, ◌>>=◌, ◌>>◌}
use Rattle.plain_value.specs.Plain.{by_length, string}
use Rattle.probe.specs.declared.body.Probe.{Probe}

-- ProbeType: 1 is the Publisher information probe; "a probe or information type that Part 14 defines and this request doesn't name is 4,
-- any other is 3": 2 finds applications
abbrev pub probe_type_rule : ℕ → ℕ
probe_type_rule t = cond (eqb t 1) 0 (cond (eqb t 2) NOT_TAKEN NOT_PERMITTED)

-- InformationType: 2 and 3 are the data set probes, 4 asks for a WriterGroup, 5 for connections; 1 asks for server endpoints
abbrev pub information_rule : ℕ → ℕ
information_rule t = cond (eqb t 1) NOT_TAKEN (cond (ltb t 2) NOT_PERMITTED (cond (ltb 5 t) NOT_PERMITTED 0))

-- n ids of 2 bytes, one item
abbrev pub listed_ids : ℕ → Reader (Option ℕ)
listed_ids n = run (2 * n) >> pure (Some n)

-- "writer id lists for data set probes (Int32 count)"; "An array that is null lists nothing"
abbrev pub id_list_at : Reader (Option ℕ)
id_list_at = by_length (pure None) listed_ids

-- n strings, one after the other
abbrev pub listed_strings : ℕ → Reader (Option ℕ)
listed_strings n = each string n >> pure (Some n)

-- "the string list for connections"
abbrev pub string_list_at : Reader (Option ℕ)
string_list_at = by_length (pure None) listed_strings

-- the two data set probes
abbrev pub meta_data_at : Reader Probe
meta_data_at = id_list_at >>= λ l. pure (Probe.MetaData l)

abbrev pub writers_at : Reader Probe
writers_at = id_list_at >>= λ l. pure (Probe.Writers l)

-- "group id with its Boolean (any byte, kept)"
abbrev pub group_probe_at : Reader Probe
group_probe_at = do
  g ← item 2
  b ← item 1
  pure (Probe.Group g b)

-- behind the names the Booleans IncludeWriterGroups and IncludeDataSetWriters, any byte, kept
abbrev pub includes_at : Option ℕ → Reader Probe
includes_at l = do
  g ← item 1
  w ← item 1
  pure (Probe.Connections l g w)

abbrev pub connections_at : Reader Probe
connections_at = string_list_at >>= includes_at

-- what follows an InformationType
abbrev pub probe_of : ℕ → Reader Probe
probe_of t = cond (eqb t 2) meta_data_at (cond (eqb t 3) writers_at (cond (eqb t 4) group_probe_at connections_at))

abbrev pub information_at : Reader Probe
information_at = ruled 1 information_rule >>= probe_of

-- ProbeType, InformationType and what follows it
unfoldable pub probe_at : Reader Probe
probe_at = ruled 1 probe_type_rule >> information_at

-- "bytes after the probe are 7"
abbrev pub body_ends : List ℕ → Probe → ℕ → Answer Probe
body_ends s p next = cond (eqb next (length s)) (got p next) (refused LEFT_OVER next)

abbrev pub probe_body_at : Reader Probe
probe_body_at s at = and_then (probe_at s at) (body_ends s)
