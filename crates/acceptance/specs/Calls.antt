-- How many bytes a call on a partial reads: places count in the datagram.
use Rattle.std.specs.Prelude.{ℕ, length}
use Rattle.reassembly.specs.Machine.{Call}
use Rattle.reassembly.specs.Machine.Call.{Empty, Take, Combine, Ask, HandOut}

abbrev pub bytes_read : Call → ℕ
bytes_read Empty = 0
bytes_read (Take d sizes) = length d
bytes_read (Combine f) = 0
bytes_read Ask = 0
bytes_read HandOut = 0
