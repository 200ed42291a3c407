-- A probe, its ids and strings as records, and a probe's body written (include/uadp.h, "probes").
use Rattle.std.specs.Prelude.{ℕ, ◌≤◌, ◌≡◌, cond, List, eqb, ltb, length}
use Rattle.wire.specs.Constants.{NO_ROOM}
use Rattle.wire.specs.Answer.{Answer, got, refused, map_answer}
use Rattle.wire_writer.specs.Fits.{Bytes}
use Rattle.wire_writer.specs.Store.{laid}
use Rattle.wire_writer.specs.Writing.{Output, refusing}
use Rattle.network_message.specs.ProbeMessage.{ProbeMessage, probe_message_at}
use Rattle.probe.specs.Items.{ItemStepped, item_step_at}
use Rattle.probe.specs.Put.{probe_output}
use Rattle.records.specs.Numbers.{number_bytes}
use Rattle.records.specs.Result.{result_of, Filling, result_in, filled_in}
use Rattle.records.specs.Sizes.{ITEM_SIZE, PROBE_SIZE}
use Rattle.records.specs.Writers.{sizes_in}
use Rattle.envelope_record.specs.Probe.{probe_numbers, probe_in, information_refusal, probe_fits, item_cursor_in, item_cursor_laid, item_numbers, ProbeRecordBack}
use Rattle.uadp_c.specs.Writing.{fitting}

-- "Value: where the probe starts"
abbrev pub probe_filling : Answer ProbeMessage → Answer Filling
probe_filling a =
    map_answer
    (λ (m : ProbeMessage). record { value = m.places.payload; bytes = number_bytes (probe_numbers m.probe m.places.payload) }) a

-- where there is room, what was read is what the library reads in the probe record afterwards
abbrev pub ProbeReads : Answer ProbeMessage → List ℕ → List ℕ → Type 0
ProbeReads (got m next) entry exit = PROBE_SIZE ≤ length entry → ProbeRecordBack exit m.probe m.places.payload
ProbeReads (refused n place) entry exit = Unit {0}

-- the contract of `uadp_probe`, of a call on the probe record `entry`: its result, and the record afterwards; and that each element of the
-- datagram is a byte
pub record ProbeRead (d config entry : List ℕ) (result : ℕ) (exit : List ℕ) : Type 0 where
  pub answer : result ≡ result_in (probe_filling (probe_message_at (sizes_in config) d)) entry
  pub filled : exit ≡ filled_in (probe_filling (probe_message_at (sizes_in config) d)) entry
  pub reads : ProbeReads (probe_message_at (sizes_in config) d) entry exit
  pub bytes : Bytes d

-- the id or string that a probe record's cursor stands before, and the cursor before the next one
abbrev pub item_step : List ℕ → List ℕ → Answer ItemStepped
item_step probe d = item_step_at (probe_in probe) (item_cursor_in probe) d

-- "Value: the item's number"; "11 for either record"
abbrev pub item_result : Answer ItemStepped → List ℕ → List ℕ → ℕ
item_result (got x next) probe item =
    cond (ltb (length probe) PROBE_SIZE) (result_of NO_ROOM 0)
    (cond (ltb (length item) ITEM_SIZE) (result_of NO_ROOM 0)
    (result_of 0 x.item.index))
item_result (refused n p) probe item = result_of n p

-- the probe record afterwards: its numbers 7 and 8 are the next item's number and where it starts
abbrev pub probe_after : Answer ItemStepped → List ℕ → List ℕ → List ℕ
probe_after (got x next) probe item =
    cond (ltb (length probe) PROBE_SIZE) probe
    (cond (ltb (length item) ITEM_SIZE) probe
    (item_cursor_laid x.cursor probe))
probe_after (refused n p) probe item = probe

-- the item record afterwards
abbrev pub item_after : Answer ItemStepped → List ℕ → List ℕ → List ℕ
item_after (got x next) probe item =
    cond (ltb (length probe) PROBE_SIZE) item
    (cond (ltb (length item) ITEM_SIZE) item (laid item 0 (number_bytes (item_numbers x.item))))
item_after (refused n p) probe item = item

-- what is written from a probe record and a list: the InformationType's own number first, then as other writers have it
abbrev pub probe_put : List ℕ → List ℕ → Output
probe_put probe list =
    cond (eqb (information_refusal probe) 0) (fitting (probe_fits probe) (probe_output list (probe_in probe)))
    (refusing (information_refusal probe))
