-- The configuration record (include/uadp.h, "Configuration record").
use Rattle.std.specs.Prelude.{ℕ, ◌≡◌, Result, Ok, Err, cond, List, [], ◌++◌, ltb, length, take, drop, get_or, replicate}
use Rattle.wire.specs.Constants.{MOST_FIELDS, MOST_WRITERS}
use Rattle.records.specs.Sizes.{CONFIG_SIZE}
use Rattle.wire.specs.Number.{le_bytes}
use Rattle.wire.specs.Answer.{Answer, got, refused}
use Rattle.wire_writer.specs.Fits.{Numbers}
use Rattle.config.specs.declared.Config.{Config}
use Rattle.wire.specs.Refusal.{reason_number}
use Rattle.wire.specs.declared.refusal.Refusal.{Refusal}
use Rattle.config.specs.Writers.{at_most, fields_of_id}
use Rattle.network_message.specs.Payload.{listed}
use Rattle.records.specs.Numbers.{bytes_each}
use Rattle.records.specs.Result.{Filling}

-- "A configuration record shorter than its layout is the empty configuration"
abbrev pub number_in : ℕ → ℕ → List ℕ → ℕ
number_in i most c = cond (ltb (length c) CONFIG_SIZE) 0 (at_most most (get_or c i 0))

-- "0: number of writers (above 16 counts as 16); 1: number of fields (above 64 counts as 64)"
abbrev pub writers_in : List ℕ → ℕ
writers_in c = number_in 0 MOST_WRITERS c

abbrev pub fields_in : List ℕ → ℕ
fields_in c = number_in 1 MOST_FIELDS c

-- the 16 numbers of 2 bytes from a position
abbrev pub sixteen : ℕ → List ℕ → List ℕ
sixteen at c = cond (ltb (length c) CONFIG_SIZE) (replicate MOST_WRITERS 0) (listed MOST_WRITERS c at)

-- "2: 16 DataSetWriterIds of 2 bytes; 34: 16 sizes of 2 bytes, 0 for none"
abbrev pub ids_in : List ℕ → List ℕ
ids_in c = take (writers_in c) (sixteen 2 c)

abbrev pub sizes_in : List ℕ → List ℕ
sizes_in c = take (writers_in c) (sixteen 34 c)

-- "66: 16 bytes: how many fields stand before each writer's own; 82: 64 bytes: the fields' type numbers"
abbrev pub starts_in : List ℕ → List ℕ
starts_in c = take (writers_in c) (drop 66 c)

abbrev pub types_in : List ℕ → List ℕ
types_in c = take (fields_in c) (drop 82 c)

-- the configured field types of a writer: "above 65535 it is none"
abbrev pub types_for : List ℕ → ℕ → List ℕ
types_for c writer = cond (ltb 65535 writer) [] (fields_of_id (ids_in c) (starts_in c) (types_in c) writer)

-- the record's bytes, in the layout's order
abbrev pub config_bytes : Config → List ℕ
config_bytes c =
    ((((le_bytes 1 (at_most MOST_WRITERS c.writers) ++ le_bytes 1 (at_most MOST_FIELDS c.fields))
    ++ bytes_each 2 c.ids) ++ bytes_each 2 c.sizes) ++ c.starts)
    ++ c.types

-- the record of a configuration text: "Refusals: 16 with the line, counted from 1; 11"
abbrev pub config_filling : Result Config Refusal → Answer Filling
config_filling (Ok c) = got (record { value = 0; bytes = config_bytes c }) 0
config_filling (Err r) = refused (reason_number r.reason) r.place

-- a configuration whose numbers fit their types, with lists of 16 and 64, as a value of the code has
pub record FitsConfig (c : Config) : Type 0 where
  pub ids : (length c.ids ≡ MOST_WRITERS) × Numbers c.ids
  pub sizes : (length c.sizes ≡ MOST_WRITERS) × Numbers c.sizes
  pub starts : length c.starts ≡ MOST_WRITERS
  pub types : length c.types ≡ MOST_FIELDS

-- what the library reads in the record r is what the configuration c says
pub record ConfigBack (r : List ℕ) (c : Config) : Type 0 where
  pub ids : ids_in r ≡ take (at_most MOST_WRITERS c.writers) c.ids
  pub sizes : sizes_in r ≡ take (at_most MOST_WRITERS c.writers) c.sizes
  pub starts : starts_in r ≡ take (at_most MOST_WRITERS c.writers) c.starts
  pub types : types_in r ≡ take (at_most MOST_FIELDS c.fields) c.types
