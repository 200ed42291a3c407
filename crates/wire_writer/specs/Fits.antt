-- What theorems ask of numbers and bytes: that each fits its type, as every value of the code does.
use Rattle.std.specs.Prelude.{Option, Some, None, ℤ}
use Rattle.std.specs.Prelude.{ℕ, ◌<◌, ◌^◌, List, get_or}
use Rattle.wire.specs.declared.Guid.{Guid}
use Rattle.wire.specs.Number.{InRange}

-- each element is a byte
abbrev pub Bytes : List ℕ → Type 0
Bytes s = (i : ℕ) → get_or s i 0 < 256

-- each element is a number of 2 bytes
abbrev pub Numbers : List ℕ → Type 0
Numbers xs = (k : ℕ) → get_or xs k 0 < 65536

abbrev pub FitsGuid : Guid → Type 0
FitsGuid g = (g.low < 256 ^ 8) × (g.high < 256 ^ 8)

abbrev pub Fits16 : Option ℕ → Type 0
Fits16 None = Unit
Fits16 (Some v) = v < 65536

abbrev pub Fits32 : Option ℕ → Type 0
Fits32 None = Unit
Fits32 (Some v) = v < 4294967296

abbrev pub FitsI64 : Option ℤ → Type 0
FitsI64 None = Unit
FitsI64 (Some z) = InRange 8 z
