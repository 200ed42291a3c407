-- What the writing functions answer, and what they leave in the buffer (include/uadp.h, "writing").
use Rattle.std.specs.Prelude.{ℕ, Bool, true, false, List, length}
use Rattle.wire.specs.Answer.{Answer, got, refused}
use Rattle.wire.specs.Constants.{DISAGREE}
use Rattle.wire_writer.specs.Writing.{Output, writing, refusing, written_of}
use Rattle.records.specs.Result.{result_of}

-- "value: how many" bytes were put; a refusal's number, with "place 0"
abbrev pub writer_result : Answer (Unit {0}) → ℕ
writer_result (got x next) = result_of 0 next
writer_result (refused n place) = result_of n place

-- what a writing function answers for a buffer; `bufferOf` is what it leaves there
abbrev pub output_result : List ℕ → Output → ℕ
output_result out output = writer_result (written_of (length out) output)

-- what is written from a record: "a number that does not fit its item is 6, after reading's numbers". A refusal stays: what else the writer
-- refuses before it looks at the room is reading's number, or 6 too.
abbrev pub fitting : Bool → Output → Output
fitting true output = output
fitting false (writing bytes) = refusing DISAGREE
fitting false (refusing n) = refusing n
