-- The sequence record: the last sequence number that was newer (include/uadp.h).
use Rattle.std.specs.Prelude.{ℕ, ◌%◌, not, List, [], ◌∷◌, eqb}
use Rattle.sequence.specs.declared.LastSequenceNumber.{LastSequenceNumber}
use Rattle.wire_writer.specs.Store.{laid}
use Rattle.records.specs.Numbers.{number_at, number_bytes}

-- "0: 0 before any number was received, else 1; 1: the last number"
abbrev pub last_in : List ℕ → LastSequenceNumber
last_in s = record { seen = not (eqb (number_at s 0) 0); number = number_at s 1 % 65536 }

-- the record with this last number
abbrev pub last_laid : ℕ → List ℕ → List ℕ
last_laid n s = laid s 0 (number_bytes (1 ∷ n ∷ []))
