-- What cutting answers (include/uadp.h, `uadp_cut`).
use Rattle.std.specs.Prelude.{ℕ}
use Rattle.wire.specs.Answer.{Answer, got, refused}
use Rattle.records.specs.Result.{result_of}

-- the number of bytes, or the refusal's number with place 0
abbrev pub cut_result : Answer (Unit {0}) → ℕ
cut_result (got x n) = result_of 0 n
cut_result (refused n place) = result_of n place
