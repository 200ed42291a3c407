-- The numbers that document 01 gives back and its limits, by the names that the code and the C header have. 0 is done.
use Rattle.std.specs.Prelude.{ℕ}

-- "cut short: an item doesn't fit in what is left"
abbrev pub CUT_SHORT : ℕ
CUT_SHORT = 1

-- "version not 1"
abbrev pub BAD_VERSION : ℕ
BAD_VERSION = 2

-- "a bit or number not permitted"
abbrev pub NOT_PERMITTED : ℕ
NOT_PERMITTED = 3

-- "in the standard, not taken here"
abbrev pub NOT_TAKEN : ℕ
NOT_TAKEN = 4

-- "bad length"
abbrev pub BAD_LENGTH : ℕ
BAD_LENGTH = 5

-- "counts, sizes or offsets disagree"
abbrev pub DISAGREE : ℕ
DISAGREE = 6

-- "bytes left over"
abbrev pub LEFT_OVER : ℕ
LEFT_OVER = 7

-- "the configuration doesn't say"
abbrev pub NOT_CONFIGURED : ℕ
NOT_CONFIGURED = 8

-- "nested too deep"
abbrev pub TOO_DEEP : ℕ
TOO_DEEP = 9

-- "over a limit"
abbrev pub OVER_LIMIT : ℕ
OVER_LIMIT = 10

-- "no room in the lent buffer"
abbrev pub NO_ROOM : ℕ
NO_ROOM = 11

-- "reassembly record unsound"
abbrev pub UNSOUND : ℕ
UNSOUND = 12

-- "chunk or partial of another message"
abbrev pub OTHER_MESSAGE : ℕ
OTHER_MESSAGE = 13

-- "a held byte differs"
abbrev pub BYTE_DIFFERS : ℕ
BYTE_DIFFERS = 14

-- "not complete"
abbrev pub NOT_COMPLETE : ℕ
NOT_COMPLETE = 15

-- "bad configuration line"
abbrev pub BAD_LINE : ℕ
BAD_LINE = 16

-- The most bytes of a datagram.
abbrev pub MOST_DATAGRAM : ℕ
MOST_DATAGRAM = 65535

-- The most bytes of a string PublisherId.
abbrev pub MOST_TEXT_ID : ℕ
MOST_TEXT_ID = 64

-- The largest TotalSize of a chunked message.
abbrev pub MOST_TOTAL : ℕ
MOST_TOTAL = 16384

-- The most configured writers.
abbrev pub MOST_WRITERS : ℕ
MOST_WRITERS = 16

-- The most configured fields of all writers together.
abbrev pub MOST_FIELDS : ℕ
MOST_FIELDS = 64

-- The first number of picoseconds that the writers refuse and that reading takes as the one below it.
abbrev pub PICOSECONDS_END : ℕ
PICOSECONDS_END = 10000

-- The most picoseconds: what more than these read as.
abbrev pub MOST_PICOSECONDS : ℕ
MOST_PICOSECONDS = 9999

-- How deep values nest: the field's own value is level 1.
abbrev pub LEVELS : ℕ
LEVELS = 100

-- The type number of a DataValue.
abbrev pub DATA_VALUE : ℕ
DATA_VALUE = 23

-- The type number of a Variant.
abbrev pub VARIANT : ℕ
VARIANT = 24
