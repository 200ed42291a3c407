-- What the listing program lists (document 01, "Configuration and listing"): "The program takes it from `readers.txt` (empty if absent) and
-- holds a datagram from standard input in one buffer of 65,535 bytes."
use Rattle.std.specs.Prelude.{ℕ, Bool, cond, List, eqb}
use Rattle.wire.specs.Constants.{OVER_LIMIT}
use Rattle.walk.specs.Lines.{start_cursor}
use Rattle.walk.specs.declared.lines.LineCursor.{LineCursor}

-- how many bytes of the configuration text it holds
abbrev pub TEXT_ROOM : ℕ
TEXT_ROOM = 4096

-- the cursor before its first line: "A refused configuration, or else datagram"; a datagram of which there is more than the buffer holds
-- is 10
abbrev pub program_cursor : Bool → ℕ → ℕ → List ℕ → List ℕ → LineCursor
program_cursor more number place sizes s =
    cond (eqb number 0) (cond more (LineCursor.Bad OVER_LIMIT 0) (start_cursor 0 0 sizes s)) (LineCursor.Bad number place)
