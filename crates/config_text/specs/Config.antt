-- The configuration text, document 01: lines as in `Line`; "At most 16 writers, 64 fields in all, ids distinct; else 16, as is a last
-- line without newline." The number 16 comes with the line, counted from 1.
use Rattle.std.specs.Prelude.{Bool, false, cond, not, ◌&&◌, List, [], ◌∷◌, ℕ, ◌+◌, eqb, leb, ltb, take, set, Result, Ok, Err}
use Rattle.wire.specs.Constants.{MOST_FIELDS, MOST_WRITERS}
use Rattle.text.specs.Words.{contains}
use Rattle.config_text.specs.Line.{Says, writer, field, bad, newline, says_of}
use Rattle.config.specs.declared.Config.{Config}
use Rattle.wire.specs.declared.refusal.Reason.{Reason}
use Rattle.wire.specs.declared.refusal.Refusal.{Refusal}
use Rattle.wire.specs.Refusal.{reason_number}
use Rattle.config.specs.Writers.{empty_config}

-- the lines of a text: each without its newline; what stands after the last newline is a line that lacks it
pub data TextLine : Type 0 where
  ended : List ℕ → TextLine
  unended : List ℕ → TextLine

abbrev pub onto : ℕ → List TextLine → List TextLine
onto b [] = unended (b ∷ []) ∷ []
onto b (ended l ∷ ls) = ended (b ∷ l) ∷ ls
onto b (unended l ∷ ls) = unended (b ∷ l) ∷ ls

abbrev pub lines_of : List ℕ → List TextLine
lines_of [] = []
lines_of (b ∷ bs) = cond (eqb b newline) (ended [] ∷ lines_of bs) (onto b (lines_of bs))

-- "a last line without newline" is bad
abbrev pub line_says : TextLine → Says
line_says (ended l) = says_of l
line_says (unended l) = bad

-- at most 16 writers, and an id that none of them has
abbrev pub is_new : List ℕ → ℕ → ℕ → Bool
is_new ids n id = cond (leb MOST_WRITERS n) false (not (contains id (take n ids)))

-- whether a line may come after so many writers, with these ids, and so many fields: a field needs a writer above it, and is at most the
-- 64th
abbrev pub permits : List ℕ → ℕ → ℕ → Says → Bool
permits ids writers fields (writer id size) = is_new ids writers id
permits ids writers fields (field t) = not (eqb writers 0) && ltb fields MOST_FIELDS
permits ids writers fields bad = false

abbrev pub may_follow : Config → Says → Bool
may_follow c y = permits c.ids c.writers c.fields y

-- the configuration with what the line says: one writer more, whose fields come after those so far; one field more
abbrev pub with : Config → Says → Config
with c (writer id size) = record {
  writers = c.writers + 1;
  fields = c.fields;
  ids = set c.ids c.writers id;
  sizes = set c.sizes c.writers size;
  starts = set c.starts c.writers c.fields;
  types = c.types;
}
with c (field t) = record {
  writers = c.writers;
  fields = c.fields + 1;
  ids = c.ids;
  sizes = c.sizes;
  starts = c.starts;
  types = set c.types c.fields t;
}
with c bad = c

-- the answers: the configuration; or a refusal by 16, with the line
abbrev pub accepted : Config → Result Config Refusal
accepted c = Ok c

abbrev pub bad_line : ℕ → Result Config Refusal
bad_line n = Err (record { reason = Reason.BadLine; place = n })

-- what is told of an answer: its number, 0 where it is accepted; its place; and the configuration, the empty one of a refused text
abbrev pub config_number : Result Config Refusal → ℕ
config_number (Ok c) = 0
config_number (Err r) = reason_number r.reason

abbrev pub place_in : Result Config Refusal → ℕ
place_in (Ok c) = 0
place_in (Err r) = r.place

abbrev pub config_in : Result Config Refusal → Config
config_in (Ok c) = c
config_in (Err r) = empty_config

-- the lines in order, from line n: the first one that is not permitted is answered
abbrev pub read_lines : Config → ℕ → List TextLine → Result Config Refusal
read_lines c n [] = accepted c
read_lines c n (l ∷ ls) = cond (may_follow c (line_says l)) (read_lines (with c (line_says l)) (n + 1) ls) (bad_line n)

-- a text's configuration, or its first bad line
unfoldable pub config_of : List ℕ → Result Config Refusal
config_of text = read_lines empty_config 1 (lines_of text)
