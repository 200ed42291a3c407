-- What a configuration says of its writers: their ids, sizes and starts in order, and the types of all fields. A size of 0 is none; a
-- writer's start is how many fields stand before its own.
use Rattle.std.specs.Prelude.{Bool, cond, not, List, [], ℕ, ◌+◌, ◌-◌, ltb, length, get_or, take, drop, replicate, Option, Some, None}
use Rattle.wire.specs.Lists.{total}
use Rattle.wire.specs.Constants.{MOST_FIELDS, MOST_WRITERS}
use Rattle.text.specs.Words.{index_of, contains}
use Rattle.config.specs.declared.Config.{Config}
use Rattle.config.specs.declared.WriterLists.{WriterLists}

-- a number, or the most that it may be
abbrev pub at_most : ℕ → ℕ → ℕ
at_most most n = cond (ltb most n) most n

-- where the fields of writer k start; behind the last writer, where they all end
abbrev pub start_of : List ℕ → List ℕ → ℕ → ℕ
start_of starts types k = get_or starts k (length types)

-- the field types of writer k: from its start to the next writer's
abbrev pub fields_of : List ℕ → List ℕ → ℕ → List ℕ
fields_of starts types k = take (start_of starts types (k + 1) - start_of starts types k) (drop (start_of starts types k) types)

-- those of the first writer with the id, none where no writer has it
abbrev pub fields_of_id : List ℕ → List ℕ → List ℕ → ℕ → List ℕ
fields_of_id ids starts types id = cond (contains id ids) (fields_of starts types (index_of id ids)) []

-- those of a message, by its writer's id
abbrev pub types_of : List ℕ → List ℕ → List ℕ → Option ℕ → List ℕ
types_of ids starts types None = []
types_of ids starts types (Some id) = fields_of_id ids starts types id

-- what a configuration says, as lists: the writers' ids, sizes (0 for none) and starts of their fields, and the types of all fields
pub record Writers : Type 0 where
  pub ids : List ℕ
  pub sizes : List ℕ
  pub starts : List ℕ
  pub types : List ℕ

abbrev pub writers_of : Config → Writers
writers_of c =
    record {
      ids = take (at_most MOST_WRITERS c.writers) c.ids;
      sizes = take (at_most MOST_WRITERS c.writers) c.sizes;
      starts = take (at_most MOST_WRITERS c.writers) c.starts;
      types = take c.fields c.types;
    }

abbrev pub writers : List ℕ → List ℕ → List ℕ → List ℕ → Writers
writers ids sizes starts types = record { ids = ids; sizes = sizes; starts = starts; types = types }

-- what the code's lists hold
abbrev pub lists_in : WriterLists → Writers
lists_in l = writers l.ids.now l.sizes.now l.starts.now l.types.now

-- the field types of a message under what a configuration says
abbrev pub types_by : Writers → Option ℕ → List ℕ
types_by w writer = types_of w.ids w.starts w.types writer

-- every writer has a size
abbrev pub all_sized : List ℕ → Bool
all_sized sizes = not (contains 0 sizes)

-- the sum of the sizes of at most 16 writers
abbrev pub sum_of_sizes : List ℕ → ℕ
sum_of_sizes sizes = total (take MOST_WRITERS sizes)

abbrev pub empty_config : Config
empty_config =
    record {
      writers = 0;
      fields = 0;
      ids = replicate MOST_WRITERS 0;
      sizes = replicate MOST_WRITERS 0;
      starts = replicate MOST_WRITERS 0;
      types = replicate MOST_FIELDS 0;
    }
