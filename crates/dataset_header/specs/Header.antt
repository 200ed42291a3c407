-- The header of a DataSetMessage (document 01, "The DataSetMessage").
use Rattle.std.specs.Prelude.{ℕ, ◌+◌, List, ◌++◌, length}
use Rattle.wire.specs.Answer.{got, Reader, pure, and_then, ◌>>=◌}
use Rattle.wire.specs.Optional.{optional16, optional32, optional_i64, picoseconds_at}
use Rattle.dataset_header.specs.declared.flags.Flags.{Flags}
use Rattle.dataset_header.specs.declared.header.Header.{Header}
use Rattle.dataset_header.specs.declared.header.Times.{Times}
use Rattle.dataset_header.specs.declared.header.Versions.{Versions}
use Rattle.dataset_header.specs.Flags.{Valid, not_valid, valid, message_flags_at, message_flag_bytes}
use Rattle.wire_writer.specs.Writing.{optional16_bytes, optional32_bytes, optional_i64_bytes, picoseconds_held}
use Rattle.wire_writer.specs.Fits.{Fits16, Fits32, FitsI64}

-- "Then sequence 2, timestamp 8, picoseconds 2 (as above), status 2, major 4, minor 4, each by its flag"; they read as the envelope's
abbrev pub message_times_at : Flags → Reader Times
message_times_at f = do
  q ← optional16 f.sequence
  t ← optional_i64 f.timestamp
  p ← picoseconds_at f.picoseconds
  pure (record { sequence = q; timestamp = t; picoseconds = p })

abbrev pub versions_at : Flags → Reader Versions
versions_at f = do
  u ← optional16 f.status
  a ← optional32 f.major
  i ← optional32 f.minor
  pure (record { status = u; major = a; minor = i })

abbrev pub header_of : Flags → Times → Versions → Header
header_of f t v =
    record {
      encoding = f.encoding;
      kind = f.kind;
      sequence = t.sequence;
      timestamp = t.timestamp;
      picoseconds = t.picoseconds;
      status = v.status;
      major = v.major;
      minor = v.minor;
    }

abbrev pub message_items_at : Flags → Reader (Valid Header)
message_items_at f = do
  t ← message_times_at f
  v ← versions_at f
  pure (valid (header_of f t v))

-- what follows the flags of a valid message
abbrev pub after_flags : Valid Flags → Reader (Valid Header)
after_flags not_valid s at = got not_valid at
after_flags (valid f) s at = message_items_at f s at

abbrev pub message_header_at : Reader (Valid Header)
message_header_at s at = and_then (message_flags_at s at) (λ f next. after_flags f s next)

-- "Then sequence 2, timestamp 8, picoseconds 2, status 2, major 4, minor 4, each by its flag"
abbrev pub times_bytes : Header → List ℕ
times_bytes h = optional16_bytes h.sequence ++ (optional_i64_bytes h.timestamp ++ optional16_bytes h.picoseconds)

abbrev pub versions_bytes : Header → List ℕ
versions_bytes h = optional16_bytes h.status ++ (optional32_bytes h.major ++ optional32_bytes h.minor)

abbrev pub message_header_bytes : Header → List ℕ
message_header_bytes h = message_flag_bytes h ++ (times_bytes h ++ versions_bytes h)

-- where the picoseconds of a message stand: behind Flags1 and Flags2, which announces them, the sequence and the timestamp
abbrev pub message_picoseconds_place : Header → ℕ
message_picoseconds_place h = 2 + (length (optional16_bytes h.sequence) + length (optional_i64_bytes h.timestamp))

-- a message that was read with this header, written again: "the rewritten .. message header holds 9,999 there", where it had 10,000 or more
abbrev pub message_held : Header → List ℕ → List ℕ
message_held h s = picoseconds_held h.picoseconds (message_picoseconds_place h) s

-- each number of a header fits its type, as a value of the code does
pub record FitsHeader (h : Header) : Type 0 where
  pub sequence : Fits16 h.sequence
  pub timestamp : FitsI64 h.timestamp
  pub picoseconds : Fits16 h.picoseconds
  pub status : Fits16 h.status
  pub major : Fits32 h.major
  pub minor : Fits32 h.minor
