-- Sequence numbers judged by a lent record (include/uadp.h, `uadp_newness`).
use Rattle.std.specs.Prelude.{ℕ, cond, List, ltb, length}
use Rattle.records.specs.Sizes.{SEQUENCE_SIZE}
use Rattle.wire.specs.Constants.{NO_ROOM}
use Rattle.sequence.specs.Newness.{newness_by}
use Rattle.sequence.specs.declared.Newness.{Newness}
use Rattle.records.specs.Result.{result_of}
use Rattle.records.specs.LastNumber.{last_in, last_laid}

-- "0 newer, 1 old or same, 2 invalid"
abbrev pub newness_number : Newness → ℕ
newness_number Newness.Newer = 0
newness_number Newness.OldOrSame = 1
newness_number Newness.Invalid = 2

-- "11 for a record shorter than its layout"
abbrev pub newness_result : List ℕ → ℕ → ℕ
newness_result s received =
    cond (ltb (length s) SEQUENCE_SIZE) (result_of NO_ROOM 0)
    (result_of 0 (newness_number (newness_by (last_in s) received)))

-- ""newer" alone changes the record"
abbrev pub record_after : List ℕ → ℕ → Newness → List ℕ
record_after s received Newness.Newer = last_laid received s
record_after s received Newness.OldOrSame = s
record_after s received Newness.Invalid = s

abbrev pub newness_after : List ℕ → ℕ → List ℕ
newness_after s received = cond (ltb (length s) SEQUENCE_SIZE) s (record_after s received (newness_by (last_in s) received))
