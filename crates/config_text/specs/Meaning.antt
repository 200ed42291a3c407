-- What a configuration text means: its writers in order, each with its id, its size and the types of its fields (document 01,
-- "Configuration and listing").
use Rattle.std.specs.Prelude.{cond, List, [], ◌∷◌, ℕ, eqb}
use Rattle.config_text.specs.Line.{Says, writer, field, bad}
use Rattle.config_text.specs.Config.{TextLine, lines_of, line_says}

pub record ConfiguredWriter : Type 0 where
  pub id : ℕ
  -- 0 for `-`
  pub size : ℕ
  pub types : List ℕ

-- what the lines say, one after the other
abbrev pub all_say : List TextLine → List Says
all_say [] = []
all_say (l ∷ ls) = line_says l ∷ all_say ls

-- "`field`, a fixed type's number, for the writer above": the types of the `field` lines up to the next `writer` line
abbrev pub types_under : List Says → List ℕ
types_under [] = []
types_under (field t ∷ ls) = t ∷ types_under ls
types_under (writer id size ∷ ls) = []
types_under (bad ∷ ls) = types_under ls

-- "`writer`, id, size": a writer for each `writer` line, with the fields under it
abbrev pub writers_said : List Says → List ConfiguredWriter
writers_said [] = []
writers_said (writer id size ∷ ls) = record { id = id; size = size; types = types_under ls } ∷ writers_said ls
writers_said (field t ∷ ls) = writers_said ls
writers_said (bad ∷ ls) = writers_said ls

abbrev pub meaning_of : List ℕ → List ConfiguredWriter
meaning_of text = writers_said (all_say (lines_of text))

-- of some writers: their ids, their sizes, and the types of the one with an id, none where no writer has it
abbrev pub writer_ids : List ConfiguredWriter → List ℕ
writer_ids [] = []
writer_ids (w ∷ ws) = w.id ∷ writer_ids ws

abbrev pub writer_sizes : List ConfiguredWriter → List ℕ
writer_sizes [] = []
writer_sizes (w ∷ ws) = w.size ∷ writer_sizes ws

abbrev pub types_by_id : List ConfiguredWriter → ℕ → List ℕ
types_by_id [] id = []
types_by_id (w ∷ ws) id = cond (eqb w.id id) w.types (types_by_id ws id)
