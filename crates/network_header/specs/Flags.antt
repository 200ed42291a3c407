-- Byte 0, ExtendedFlags1 and ExtendedFlags2 (document 01, "The envelope").
use Rattle.std.specs.Prelude.{is_some}
use Rattle.std.specs.Prelude.{ℕ, ◌/◌, ◌+◌, ◌*◌, Bool, cond, ◌&&◌, leb, eqb, List, ◌++◌}
use Rattle.wire.specs.Constants.{BAD_VERSION, NOT_PERMITTED, NOT_TAKEN}
use Rattle.wire.specs.Answer.{Reader, ruled, when_on, pure, ◌>>=◌, bit, bits}
use Rattle.network_header.specs.declared.flags.Flags.{Flags}
use Rattle.wire.specs.Number.{le_bytes}
use Rattle.network_header.specs.declared.envelope.Envelope.{Envelope}
use Rattle.wire_writer.specs.Writing.{num, needed, byte_bytes}
use Rattle.publisher_id.specs.Publisher.{publisher_on, id_type_of}
use Rattle.network_header.specs.Header.{payload_header_on, probe_on}

-- "bits 0-3 version 1 (else 2)"
abbrev pub byte0_rule : ℕ → ℕ
byte0_rule b = cond (eqb (bits 0 4 b) 1) 0 BAD_VERSION

-- ExtendedFlags1: "0 is 3"; type 5 to 7 is 3, ignored if PublisherId is off; bit 4, security, is 4; bit 6, PicoSeconds, without bit 5 is 3
abbrev pub extended1_rule : Bool → ℕ → ℕ
extended1_rule publisher e =
    cond (eqb e 0) NOT_PERMITTED
    (cond (publisher && leb 5 (bits 0 3 e)) NOT_PERMITTED
    (cond (bit 4 e) NOT_TAKEN
    (cond (bit 6 e && eqb (bits 5 1 e) 0) NOT_PERMITTED 0)))

-- Req 01: "a probe with PayloadHeader or promoted fields on is 3 .. A chunked probe stays 4, ahead of that 3; both stand at the
-- ExtendedFlags2 byte"
abbrev pub probe_rule : Bool → ℕ → ℕ
probe_rule header e = cond (bit 0 e) NOT_TAKEN (cond header NOT_PERMITTED (cond (bit 1 e) NOT_PERMITTED 0))

-- ExtendedFlags2, with byte 0's bit for the PayloadHeader: "0 is 3. Bits 5-7 set, or type (bits 2-4) 3 to 7, is 3"; type 2 is 4, and
-- type 1 is a probe
abbrev pub extended2_rule : Bool → ℕ → ℕ
extended2_rule header e =
    cond (eqb e 0) NOT_PERMITTED
    (cond (leb 32 e) NOT_PERMITTED
    (cond (leb 3 (bits 2 3 e)) NOT_PERMITTED
    (cond (eqb (bits 2 3 e) 2) NOT_TAKEN
    (cond (eqb (bits 2 3 e) 1) (probe_rule header e) 0))))

-- what the three bytes say: a byte that is not there counts as 0
abbrev pub flags_of : ℕ → ℕ → ℕ → Flags
flags_of b e f =
    record {
      publisher = bit 4 b;
      group = bit 5 b;
      payload_header = bit 6 b;
      kind = bits 0 3 e;
      class_id = bit 3 e;
      timestamp = bit 5 e;
      picoseconds = bit 6 e;
      chunk = bit 0 f;
      promoted = bit 1 f;
      probe = eqb (bits 2 3 f) 1;
    }

abbrev pub flags_at : Reader Flags
flags_at = do
  b ← ruled 1 byte0_rule
  e ← when_on (eqb (b / 128) 1) 0 (ruled 1 (extended1_rule (bit 4 b)))
  f ← when_on (eqb (e / 128) 1) 0 (ruled 1 (extended2_rule (bit 6 b)))
  pure (flags_of b e f)

-- the flags that an envelope needs
abbrev pub flags_for : Envelope → Flags
flags_for x =
    record {
      publisher = publisher_on x.publisher;
      group = is_some x.group;
      payload_header = payload_header_on x.payload_header;
      kind = id_type_of x.publisher;
      class_id = is_some x.class_id;
      timestamp = is_some x.timestamp;
      picoseconds = is_some x.picoseconds;
      chunk = x.chunk;
      promoted = is_some x.promoted;
      probe = probe_on x.payload_header;
    }

-- bit 0 chunk; bit 1 promoted; bits 2-4 the type, of a probe 1
abbrev pub extended2_of : Flags → ℕ
extended2_of f = num f.chunk + (2 * num f.promoted + 4 * num f.probe)

-- bits 0-2 PublisherId type, bit 3 DataSetClassId, 5 Timestamp, 6 PicoSeconds, 7 ExtendedFlags2
abbrev pub extended1_of : Flags → ℕ
extended1_of f =
    f.kind + (8 * num f.class_id + (32 * num f.timestamp + (64 * num f.picoseconds + 128 * needed (extended2_of f))))

-- bits 0-3 version 1; bits 4 PublisherId, 5 GroupHeader, 6 PayloadHeader, 7 ExtendedFlags1
abbrev pub byte0_of : Flags → ℕ
byte0_of f =
    1 + (16 * num f.publisher + (32 * num f.group + (64 * num f.payload_header + 128 * needed (extended1_of f))))

-- an extended byte that would be 0 is left out
abbrev pub flag_bytes : Flags → List ℕ
flag_bytes f = le_bytes 1 (byte0_of f) ++ (byte_bytes (extended1_of f) ++ byte_bytes (extended2_of f))

-- what reading refuses: "PicoSeconds, without [Timestamp] is 3"
abbrev pub times_refusal : Bool → Bool → ℕ
times_refusal picoseconds timestamp = cond picoseconds (cond timestamp 0 NOT_PERMITTED) 0

-- what reading refuses: a chunked probe is 4, "ahead of" a probe with promoted fields, which is 3
abbrev pub probe_refusal : Bool → Bool → Bool → ℕ
probe_refusal probe chunk promoted = cond probe (cond chunk NOT_TAKEN (cond promoted NOT_PERMITTED 0)) 0
