-- Records as lent bytes: numbers of 8 bytes, lowest byte first, one after the other (include/uadp.h).
use Rattle.std.specs.Prelude.{ℕ, ◌*◌, List, [], ◌∷◌, ◌++◌}
use Rattle.wire.specs.Number.{le_bytes}
use Rattle.wire.specs.Answer.{item}
use Rattle.network_message.specs.Payload.{value_or0}

-- number i of a record: "a number that does not fit counts as 0"
abbrev pub number_at : List ℕ → ℕ → ℕ
number_at s i = value_or0 (item 8 s (8 * i))

-- the bytes of items, one after the other
abbrev pub all_bytes : {A : Type 0} → (A → List ℕ) → List A → List ℕ
all_bytes bytes [] = []
all_bytes bytes (x ∷ xs) = bytes x ++ all_bytes bytes xs

-- the bytes of numbers of w bytes each
abbrev pub bytes_each : ℕ → List ℕ → List ℕ
bytes_each w = all_bytes (le_bytes w)

abbrev pub number_bytes : List ℕ → List ℕ
number_bytes xs = bytes_each 8 xs
