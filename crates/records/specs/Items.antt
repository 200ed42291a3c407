-- Items that may be absent, as numbers of a record (include/uadp.h).
use Rattle.std.specs.Prelude.{ℕ, ℤ, Bool, true, false, not, cond, eqb, leb, Option, Some, None}
use Rattle.wire.specs.Number.{unsigned, signed}
use Rattle.config.specs.Writers.{at_most}

-- "1 sequence number, 2 timestamp, ..": whether an item is present, as a number; and its value, "0 where absent"
abbrev pub has_item : {A : Type 0} → Option A → ℕ
has_item None = 0
has_item (Some v) = 1

abbrev pub value : {A : Type 0} → (A → ℕ) → Option A → ℕ
value to_number None = 0
value to_number (Some v) = to_number v

-- of 2 and of 4 bytes
abbrev pub item_value : Option ℕ → ℕ
item_value = value (λ v. v)

-- "signed (two's complement)"
abbrev pub value_i64 : Option ℤ → ℕ
value_i64 = value (unsigned 8)

abbrev pub flag_number : Bool → ℕ
flag_number true = 1
flag_number false = 0

abbrev pub is_on : ℕ → Bool
is_on n = not (eqb n 0)

-- an item in a record to be written from
abbrev pub given : {A : Type 0} → (ℕ → A) → Bool → ℕ → Option A
given from_number on v = cond on (Some (from_number v)) None

-- "a number that does not fit its item counts as the largest that does"
abbrev pub given16 : Bool → ℕ → Option ℕ
given16 = given (at_most 65535)

abbrev pub given32 : Bool → ℕ → Option ℕ
given32 = given (at_most 4294967295)

-- whether the number of an item, where the item is present, fits it: it is at most the largest that does
abbrev pub fits_item : Bool → ℕ → ℕ → Bool
fits_item on most v = cond on (leb v most) true

-- "signed (two's complement)"
abbrev pub given_i64 : Bool → ℕ → Option ℤ
given_i64 = given (signed 8)
