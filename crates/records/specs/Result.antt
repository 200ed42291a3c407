-- What a function of the library answers: one number (include/uadp.h, "Result").
use Rattle.std.specs.Prelude.{ℕ, ◌+◌, ◌*◌, cond, List, leb, length}
use Rattle.wire.specs.Constants.{NO_ROOM}
use Rattle.wire.specs.Answer.{Answer, got, refused}
use Rattle.wire_writer.specs.Store.{laid}
use Rattle.config.specs.Writers.{at_most}

-- "its low byte is document 01's number, and what stands above it is the value or place (at most 2^56 - 1)"
abbrev pub result_of : ℕ → ℕ → ℕ
result_of number value = number + 256 * at_most 72057594037927935 value

-- what fills a lent record: the function's value, and the record's bytes
pub record Filling : Type 0 where
  pub value : ℕ
  pub bytes : List ℕ

-- "A record to be filled that is shorter than its layout is refused with UADP_NO_ROOM, after all else"
abbrev pub result_in : Answer Filling → List ℕ → ℕ
result_in (got x next) out = cond (leb (length x.bytes) (length out)) (result_of 0 x.value) (result_of NO_ROOM 0)
result_in (refused n place) out = result_of n place

-- "what stands behind the record stays as it is"; "A refusal leaves every lent byte as it was"
abbrev pub filled_in : Answer Filling → List ℕ → List ℕ
filled_in (got x next) out = laid out 0 x.bytes
filled_in (refused n place) out = out
