-- A datagram walked under a configuration record (include/uadp.h, `uadp_walk`).
use Rattle.std.specs.Prelude.{ℕ, List}
use Rattle.walk.specs.Lines.{Writers, writers}
use Rattle.records.specs.Result.{result_of}
use Rattle.records.specs.Writers.{ids_in, sizes_in, starts_in, types_in}
use Rattle.wire.specs.Answer.{Answer, got, refused}

-- the writers of a configuration record
abbrev pub configured : List ℕ → Writers
configured c = writers (ids_in c) (sizes_in c) (starts_in c) (types_in c)

-- "Value: how many there are in all", or the refusal's number and place
abbrev pub walk_result : Answer ℕ → ℕ
walk_result (got k next) = result_of 0 k
walk_result (refused n place) = result_of n place
