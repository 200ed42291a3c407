-- How many bytes each lent record has (include/uadp.h).
use Rattle.std.specs.Prelude.{ℕ}

-- The configuration record's bytes.
abbrev pub CONFIG_SIZE : ℕ
CONFIG_SIZE = 146

-- The envelope record's bytes.
abbrev pub ENVELOPE_SIZE : ℕ
ENVELOPE_SIZE = 256

-- The head record's bytes.
abbrev pub HEAD_SIZE : ℕ
HEAD_SIZE = 160

-- The field record's bytes.
abbrev pub FIELD_SIZE : ℕ
FIELD_SIZE = 64

-- The message record's bytes.
abbrev pub PLACE_SIZE : ℕ
PLACE_SIZE = 32

-- The bytes of a record of the walk.
abbrev pub WALK_SIZE : ℕ
WALK_SIZE = 80

-- The partial record's bytes.
abbrev pub PARTIAL_SIZE : ℕ
PARTIAL_SIZE = 144

-- The sequence record's bytes.
abbrev pub SEQUENCE_SIZE : ℕ
SEQUENCE_SIZE = 16

-- The value record's bytes.
abbrev pub VALUE_SIZE : ℕ
VALUE_SIZE = 192

-- The chunk record's bytes.
abbrev pub CHUNK_SIZE : ℕ
CHUNK_SIZE = 128

-- The probe record's bytes.
abbrev pub PROBE_SIZE : ℕ
PROBE_SIZE = 128

-- The bytes of the record of a probe's id or string.
abbrev pub ITEM_SIZE : ℕ
ITEM_SIZE = 32
