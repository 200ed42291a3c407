-- A datagram's listing under a configuration record (include/uadp.h, `uadp_list`).
use Rattle.std.specs.Prelude.{ℕ, List, Option, Some, None}
use Rattle.wire.specs.Constants.{OVER_LIMIT}
use Rattle.records.specs.Result.{result_of}
use Rattle.walk.specs.Lines.{writers, listing_of}
use Rattle.listing.specs.Text.{lines_text}
use Rattle.records.specs.Writers.{ids_in, sizes_in, starts_in, types_in}

-- "the whole listing of a datagram, each line ended by a newline"
abbrev pub listing_text : List ℕ → List ℕ → List ℕ
listing_text c d = lines_text d (listing_of 0 0 (writers (ids_in c) (sizes_in c) (starts_in c) (types_in c)) d)

-- "what stands above it is the value (at most 2^56 - 1)"
abbrev pub MOST_VALUE : ℕ
MOST_VALUE = 72057594037927935

-- "Value: how many bytes the listing has"; a listing above that, which no datagram has, is 10
abbrev pub length_result : Option ℕ → ℕ
length_result (Some n) = result_of 0 n
length_result None = result_of OVER_LIMIT 0
