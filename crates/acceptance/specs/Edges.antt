-- Document 01's twelve edge readings: one table, one statement.
use Rattle.std.specs.Prelude.{None}
use Rattle.std.specs.Prelude.{ℕ, ◌≡◌, true, false, List, [], ◌∷◌}
use Rattle.wire.specs.Constants.{BYTE_DIFFERS, NOT_COMPLETE, NOT_PERMITTED}
use Rattle.wire.specs.Answer.{Answer, got, refused}
use Rattle.sequence.specs.Newness.{newness_of}
use Rattle.sequence.specs.declared.Newness.{Newness}
use Rattle.sequence.specs.declared.Newness.TheVariants.{Newer, OldOrSame, Invalid}
use Rattle.value.specs.Value.{variant_at, measure}
use Rattle.value.specs.Value.{Measure}
use Rattle.value.specs.declared.Shape.{Shape}
use Rattle.publisher_id.specs.declared.publisher.PublisherId.{PublisherId}
use Rattle.publisher_id.specs.declared.publisher_record.PublisherRecord.{PublisherRecord}
use Rattle.reassembly.specs.Record.{Partial, partial}
use Rattle.reassembly.specs.Machine.{Call, Reply}
use Rattle.reassembly.specs.Machine.Call.{Take, Ask, HandOut}
use Rattle.reassembly.specs.Machine.Reply.{done, said, handed, refused as refusal}
use Rattle.reassembly.specs.Calls.{replies}

-- a reading: a received sequence number by the last one; a Variant at the start of some bytes; a list of calls on a partial
pub data EdgeReading : Type 0 where
  newness : ℕ → ℕ → Newness → EdgeReading
  variant : List ℕ → Answer Measure → EdgeReading
  calls : List Call → Partial → List Reply → EdgeReading

-- a chunk of publisher 4711, writer 21, message 7 and total 5 with three bytes at an offset: byte 0 D1 (PublisherId, PayloadHeader,
-- ExtendedFlags1), 81 (UInt16, ExtendedFlags2), 01 (chunk), 67 12, 15 00; then 07 00, the offset, 05 00 00 00, 03 00 00 00 and the bytes
abbrev pub chunk_call : ℕ → ℕ → ℕ → ℕ → Call
chunk_call offset a b c =
    Take
    (209 ∷ 129 ∷ 1 ∷ 103 ∷ 18 ∷ 21 ∷ 0
    ∷ 7 ∷ 0 ∷ offset ∷ 0 ∷ 0 ∷ 0 ∷ 5 ∷ 0 ∷ 0 ∷ 0 ∷ 3 ∷ 0 ∷ 0 ∷ 0 ∷ a ∷ b ∷ c ∷ [])
    []

-- a partial just emptied, over areas that hold anything
abbrev nobody : PublisherRecord
nobody = record { id = PublisherId.Absent; text = [] }

abbrev pub fresh : Partial
fresh =
    partial
    (record {
      started = false;
      message = record { origin = record { publisher = nobody; group = None; writer = 0; number = 0 }; total = 0 };
      covered = 4;
    })
    (9 ∷ 9 ∷ 9 ∷ 9 ∷ 9 ∷ []) (251 ∷ [])

-- "N1 to N7, last 5: received 6 newer, 5 old, 16,389 newer, 16,390 invalid, 49,158 invalid, 49,159 old; last 65,535: 0 newer. V1 `00` is
-- null, length 1. V2 `85 FF FF FF FF` null array, length 5. V3 `18` is 3. R1: total 5, chunks at 0 and 2 of 3 bytes agreeing at 2:
-- complete. R2: disagreeing there: 14."
abbrev pub table : List EdgeReading
table =
    newness 5 6 Newer
    ∷ newness 5 5 OldOrSame
    ∷ newness 5 16389 Newer
    ∷ newness 5 16390 Invalid
    ∷ newness 5 49158 Invalid
    ∷ newness 5 49159 OldOrSame
    ∷ newness 65535 0 Newer
    ∷ variant (0 ∷ []) (got (measure 0 Shape.Scalar) 1)
    ∷ variant (133 ∷ 255 ∷ 255 ∷ 255 ∷ 255 ∷ []) (got (measure 5 Shape.NullArray) 5)
    ∷ variant (24 ∷ []) (refused NOT_PERMITTED 0)
    ∷ calls (chunk_call 0 1 2 3 ∷ chunk_call 2 3 4 5 ∷ Ask ∷ HandOut ∷ []) fresh
    (done ∷ done ∷ said true ∷ handed (1 ∷ 2 ∷ 3 ∷ 4 ∷ 5 ∷ []) ∷ [])
    ∷ calls (chunk_call 0 1 2 3 ∷ chunk_call 2 8 4 5 ∷ Ask ∷ HandOut ∷ []) fresh
    (done ∷ refusal BYTE_DIFFERS 0 ∷ said false ∷ refusal NOT_COMPLETE 0 ∷ [])
    ∷ []

-- a reading holds if the definition that the contracts cite answers so
abbrev pub Holds : EdgeReading → Type 0
Holds (newness last received x) = newness_of last received ≡ x
Holds (variant bytes x) = variant_at bytes 0 ≡ x
Holds (calls ks s x) = replies ks s ≡ x

abbrev pub AllHold : List EdgeReading → Type 0
AllHold [] = Unit {0}
AllHold (x ∷ xs) = Holds x × AllHold xs
