-- DEMAND 1 as one type: a field for each sentence, the sentence above it. proofs/Demand1.antt gives a value of it. "Any datagram, any
-- configuration text, any reassembly area, any made-up record or cursor gets an answer; the caller has checked nothing": no public function
-- has a `requires`, and each contract is an equation with a definition that answers for every argument. What is left to say is what a
-- refusal tells, and that it leaves every lent byte as it was. The terms are those of the contracts.
use Rattle.std.specs.Prelude.{Option, Err}
use Rattle.wire.specs.Refusal.{reason_number}
use Rattle.wire.specs.declared.refusal.Reason.{Reason}
use Rattle.std.specs.Prelude.{ℕ, ◌≤◌, ◌%◌, ◌≡◌, true, List, [], ◌∷◌, length}
use Rattle.wire.specs.Constants.{BAD_LINE, CUT_SHORT, NO_ROOM, OVER_LIMIT}
use Rattle.wire.specs.Answer.{Answer, refused}
use Rattle.wire_writer.specs.Writing.{Output, Writes, written_of, buffer_after, answer_written}
use Rattle.value.specs.Value.{variant_at, data_value_at, raw_at}
use Rattle.config_text.specs.Config.{config_of, lines_of, config_number, place_in}
use Rattle.network_message.specs.Payload.{place_step_at, PlaceStepped}
use Rattle.network_message.specs.Envelope.{network_message_at, message_place_at, message_bytes}
use Rattle.network_message.specs.ProbeMessage.{probe_message_at}
use Rattle.network_message.specs.declared.payload.Payload.{Payload}
use Rattle.network_message.specs.declared.payload.MessageCursor.{MessageCursor}
use Rattle.dataset_fields.specs.Fields.{next_field_at, FieldStepped}
use Rattle.dataset_fields.specs.declared.fields.Cursor.{Cursor}
use Rattle.dataset_message.specs.Message.{message_at, front_at, ended_at, field_place_at, field_bytes}
use Rattle.network_header.specs.declared.envelope.Envelope.{Envelope}
use Rattle.network_message.specs.Writer as N
use Rattle.dataset_message.specs.Writer as M
use Rattle.rewriting.specs.Same.{message_same, datagram_same}
use Rattle.probe.specs.Items.{ItemStepped, item_step_at}
use Rattle.probe.specs.Put.{probe_output}
use Rattle.probe.specs.declared.body.Probe.{Probe}
use Rattle.probe.specs.declared.items.ProbeCursor.{ProbeCursor}
use Rattle.chunk.specs.Datagram.{chunk_at}
use Rattle.chunk.specs.Cutting.{cut_answer, cut_buffer}
use Rattle.walk.specs.Lines.{Writers}
use Rattle.walk_records.specs.Walk.{walk_of, walk_records, records_put}
use Rattle.listing.specs.Text.{text_written, text_after}
use Rattle.reassembly.specs.Record.{Partial}
use Rattle.reassembly.specs.Machine.{Call}
use Rattle.reassembly.specs.Machine.Reply.{refused as refusedBy}
use Rattle.reassembly.specs.Calls.{answers, leaves}
use Rattle.reassembly_laws.specs.Refusing.{one_of}
use Rattle.records.specs.Result.{Filling, result_in, filled_in}
use Rattle.salvage.specs.Front.{open_at, next_shown}
use Rattle.uadp_c.specs.Cutting.{cut_result}
use Rattle.uadp_c.specs.Fields.{step_result, head_after, field_after}
use Rattle.uadp_c.specs.Messages.{message_result, envelope_after, place_after}
use Rattle.uadp_c.specs.Probes.{item_result, probe_after, item_after}
use Rattle.uadp_c.specs.Reassembling.{Lent}
use Rattle.uadp_c.specs.History.{LentCall, Called, Unchanged}
use Rattle.uadp_c.specs.Salvaging.{salvage_lent, Salvages}
use Rattle.uadp_c.specs.Sequence.{newness_result, newness_after}
use Rattle.uadp_c.specs.Walks.{walk_result}
use Rattle.uadp_c.specs.Writing.{writer_result, output_result}
use Rattle.value_parts.specs.declared.put.Form.{Form}
use Rattle.value_parts.specs.Put.{variant_output}
use Rattle.value_parts.specs.PutName.{name_output}
use Rattle.value_parts.specs.PutMatrix.{matrix_output}
use Rattle.acceptance.specs.Refusals.{Refusal, StepRefusal, datagram_refusals, chunk_refusals, value_refusals, message_refusals, field_step_refusals, field_refusals, end_refusals, cut_refusals, call_refusals, datagram_writer_refusals, message_writer_refusals, datagram_again_refusals, message_again_refusals, probe_step_refusals, probe_writer_refusals, value_writer_refusals, matrix_writer_refusals, salvage_refusals}
use Rattle.acceptance.specs.Calls.{bytes_read}

-- a C result's number is not 0
abbrev pub IsRefused : ℕ → Type 0
IsRefused result = result % 256 ≡ 0 → ⊥

pub record Demand1 : Type 0 where
  -- ---- "Every refusal .. returns the number and a place: the first byte of the offending item; the line from 1 for number 16; 0 for 8 and
  -- 10 to 15. Places count from the read slice's start".
  -- Of a datagram, of a DataSetMessage and of a chunk.
  pub datagram : (sizes s : List ℕ) (n place : ℕ) → network_message_at sizes s ≡ refused n place
      → Refusal datagram_refusals n place (length s)
  pub message : (types s : List ℕ) (n place : ℕ) → message_at types s ≡ refused n place → Refusal message_refusals n place (length s)
  pub chunk : (sizes s : List ℕ) (n place : ℕ) → chunk_at sizes s ≡ refused n place → Refusal chunk_refusals n place (length s)
  -- Of a probe's datagram, where only a probe is asked for.
  pub probe : (sizes s : List ℕ) (n place : ℕ) → probe_message_at sizes s ≡ refused n place → Refusal datagram_refusals n place (length s)
  -- Of a value measured at any position: a Variant, a DataValue, an element of RawData of any type.
  pub variant : (s : List ℕ) (at n place : ℕ) → variant_at s at ≡ refused n place → StepRefusal value_refusals n place (length s) at
  pub data_value_lem : (s : List ℕ) (at n place : ℕ) → data_value_at s at ≡ refused n place
      → StepRefusal value_refusals n place (length s) at
  pub raw : (t : ℕ) (s : List ℕ) (at n place : ℕ) → raw_at t s at ≡ refused n place → StepRefusal value_refusals n place (length s) at
  -- Of a configuration text: 16, and the line that breaks a rule, counted from 1.
  pub configuration : (text : List ℕ) → (config_number (config_of text) ≡ 0 → ⊥)
      → (config_number (config_of text) ≡ BAD_LINE) × (1 ≤ place_in (config_of text)) × (place_in (config_of text) ≤ length (lines_of text))
  -- ---- Of looking message k up, and of a step from message to message with a cursor and a payload that may be made up. A part that is
  -- refused is empty.
  pub message_lookup : (sizes s : List ℕ) (k n place : ℕ) → message_place_at sizes k s ≡ refused n place
      → Refusal datagram_refusals n place (length s) × (message_bytes (message_place_at sizes k s) s ≡ [])
  pub message_step_lem : (p : Payload) (sizes : List ℕ) (c : MessageCursor) (s : List ℕ) (n place : ℕ)
      → place_step_at p sizes c s ≡ refused n place → StepRefusal (CUT_SHORT ∷ OVER_LIMIT ∷ []) n place (length s) c.at
  -- Of looking field k up, and of a step from field to field with a cursor that may be made up.
  pub field_lookup : (types s : List ℕ) (k n place : ℕ) → field_place_at types k s ≡ refused n place
      → Refusal field_refusals n place (length s) × (field_bytes (field_place_at types k s) s ≡ [])
  pub field_step : (c : Cursor) (types s : List ℕ) (n place : ℕ) → next_field_at c types s ≡ refused n place
      → StepRefusal field_step_refusals n place (length s) c.at
  -- Of opening a message, which reads its front alone, and of its end by a cursor that may be made up.
  pub opened : (types s : List ℕ) (n place : ℕ) → front_at types s ≡ refused n place → Refusal message_refusals n place (length s)
  pub ended : (c : Cursor) (s : List ℕ) (n place : ℕ) → ended_at c s ≡ refused n place → StepRefusal end_refusals n place (length s) c.at
  -- Of a step over the ids and strings of a probe, with a probe and a cursor that may be made up.
  pub probe_step : (p : Probe) (c : ProbeCursor) (s : List ℕ) (n place : ℕ) → item_step_at p c s ≡ refused n place
      → StepRefusal probe_step_refusals n place (length s) c.at
  -- ---- "Every refusal leaves all lent bytes and records unchanged"; "a writer's [place] is 0".
  -- Both writers and both rewritings, whatever is to be written, by the contract of every writer (`entry` and `exit` are the buffer before
  -- and after, `reason` is what the code answered); cutting; a listing.
  pub writer : (output : Output) (entry exit : List ℕ) (reason : Reason) → Writes output entry exit (Err reason)
      → (exit ≡ entry) × (written_of (length entry) output ≡ refused (reason_number reason) 0)
  -- The numbers of each: reading's as document 01 names them for writers, 3 for picoseconds of 10,000 and up, 6, 10, 11; of rewriting
  -- reading's own, 10, 11, and 6 for a message that is not valid.
  pub datagram_writer : (g : N.GivenDatagram) (x : Envelope) (sizes configured entry exit : List ℕ) (reason : Reason)
      → Writes (N.datagram_output g x sizes configured) entry exit (Err reason)
      → one_of datagram_writer_refusals (reason_number reason) ≡ true
  pub message_writer : (types : List ℕ) (m : M.GivenMessage) (entry exit : List ℕ) (reason : Reason)
      → Writes (M.message_output types m) entry exit (Err reason) → one_of message_writer_refusals (reason_number reason) ≡ true
  pub probe_writer : (list : List ℕ) (p : Probe) (entry exit : List ℕ) (reason : Reason)
      → Writes (probe_output list p) entry exit (Err reason) → one_of probe_writer_refusals (reason_number reason) ≡ true
  pub value_writer : (t : ℕ) (f : Form) (b entry exit : List ℕ) (reason : Reason) → Writes (variant_output t f b) entry exit (Err reason)
      → one_of value_writer_refusals (reason_number reason) ≡ true
  pub name_writer : (t number : ℕ) (locale text entry exit : List ℕ) (reason : Reason)
      → Writes (name_output t number locale text) entry exit (Err reason) → one_of value_writer_refusals (reason_number reason) ≡ true
  pub matrix_writer : (t : ℕ) (sizes b entry exit : List ℕ) (reason : Reason) → Writes (matrix_output t sizes b) entry exit (Err reason)
      → one_of matrix_writer_refusals (reason_number reason) ≡ true
  pub datagram_again_lem : (sizes s entry exit : List ℕ) (reason : Reason) → Writes (datagram_same sizes s) entry exit (Err reason)
      → one_of datagram_again_refusals (reason_number reason) ≡ true
  pub message_again_lem : (types s entry exit : List ℕ) (reason : Reason) → Writes (message_same types s) entry exit (Err reason)
      → one_of message_again_refusals (reason_number reason) ≡ true
  pub cut : (p : List ℕ) (number size k : ℕ) (out : List ℕ) (n place : ℕ) → cut_answer p number size k (length out) ≡ refused n place
      → (one_of cut_refusals n ≡ true) × (cut_buffer p number size k out ≡ out)
  pub listing : (out text : List ℕ) (reason : Reason) → text_written out text ≡ Err reason
      → (reason_number reason ≡ NO_ROOM) × (text_after out text ≡ out)
  -- The same of the writers' definitions alone, whatever the code answers: of any number that a definition refuses with, a reason's or not,
  -- and of the buffer that it leaves.
  pub writer_told : (output : Output) (entry : List ℕ) (n place : ℕ) → written_of (length entry) output ≡ refused n place
      → (buffer_after entry output ≡ entry) × (place ≡ 0)
  pub datagram_writer_told : (g : N.GivenDatagram) (x : Envelope) (sizes configured : List ℕ) (room n : ℕ)
      → written_of room (N.datagram_output g x sizes configured) ≡ refused n 0
      → one_of datagram_writer_refusals n ≡ true
  pub message_writer_told : (types : List ℕ) (m : M.GivenMessage) (room n : ℕ)
      → written_of room (M.message_output types m) ≡ refused n 0 → one_of message_writer_refusals n ≡ true
  pub probe_writer_told : (list : List ℕ) (p : Probe) (room n : ℕ)
      → written_of room (probe_output list p) ≡ refused n 0 → one_of probe_writer_refusals n ≡ true
  pub value_writer_told : (t : ℕ) (f : Form) (b : List ℕ) (room n : ℕ) → written_of room (variant_output t f b) ≡ refused n 0
      → one_of value_writer_refusals n ≡ true
  pub name_writer_told : (t number : ℕ) (locale text : List ℕ) (room n : ℕ)
      → written_of room (name_output t number locale text) ≡ refused n 0 → one_of value_writer_refusals n ≡ true
  pub matrix_writer_told : (t : ℕ) (sizes b : List ℕ) (room n : ℕ) → written_of room (matrix_output t sizes b) ≡ refused n 0
      → one_of matrix_writer_refusals n ≡ true
  pub datagram_again_told : (sizes s : List ℕ) (room n : ℕ) → written_of room (datagram_same sizes s) ≡ refused n 0
      → one_of datagram_again_refusals n ≡ true
  pub message_again_told : (types s : List ℕ) (room n : ℕ) → written_of room (message_same types s) ≡ refused n 0
      → one_of message_again_refusals n ≡ true
  -- A walk: its refusal is the datagram's.
  pub walk : (w : Writers) (d out : List ℕ) (n place : ℕ) → walk_of w d ≡ refused n place
      → Refusal datagram_refusals n place (length d) × (records_put 0 (walk_records w d) out ≡ out)
  -- The five calls of reassembly, for sound and unsound partials.
  pub call : (k : Call) (s : Partial) (n place : ℕ) → answers k s ≡ refusedBy n place
      → Refusal call_refusals n place (bytes_read k) × (leaves k s ≡ s)
  -- ---- THE SAME THROUGH C, for any bytes in any record: a result whose low byte is not 0 leaves every lent byte as it was.
  -- Of opening the covered front of a message, and of a step from field to field of it with a cursor that may be made up: the
  -- DataSetMessage's own numbers, and a place in the front or the byte that the cursor names.
  pub salvage_opened_lem : (total : ℕ) (types f s : List ℕ) (n place : ℕ) → open_at total types f s ≡ Err (n, place)
      → Refusal message_refusals n place (length f)
  pub salvage_step : (types f s : List ℕ) (c : Cursor) (n place : ℕ) → next_shown types f s c ≡ Err (n, place)
      → StepRefusal message_refusals n place (length f) c.at
  -- Salvaging: "12, then the DataSetMessage's own numbers as far as the covered front shows them ..; last, no room 11". A place counts in
  -- the message.
  pub salvage : (rec payload marks config told list : List ℕ) (n place : ℕ)
      → (salvage_lent rec payload marks config told list).answer ≡ Err (n, place)
      → Refusal salvage_refusals n place (length payload)
  -- uadp_config, uadp_read, uadp_read_message, uadp_open_message, uadp_field, uadp_value, uadp_element, uadp_chunk, uadp_probe: what is
  -- read fills one record.
  pub lent_filling : (read : Answer Filling) (out : List ℕ) → IsRefused (result_in read out) → filled_in read out ≡ out
  -- uadp_next_message, uadp_next_field, uadp_next_probe_item: a record's cursor moves, and another record is filled.
  pub lent_message_step : (writer : ℕ → Option ℕ) (step : Answer PlaceStepped) (envelope place : List ℕ)
      → IsRefused (message_result step envelope place)
      → (envelope_after step envelope place ≡ envelope) × (place_after writer step envelope place ≡ place)
  pub lent_field_step : (step : Answer FieldStepped) (head field : List ℕ) → IsRefused (step_result step head field)
      → (head_after step head field ≡ head) × (field_after step head field ≡ field)
  pub lent_probe_step : (step : Answer ItemStepped) (probe item : List ℕ) → IsRefused (item_result step probe item)
      → (probe_after step probe item ≡ probe) × (item_after step probe item ≡ item)
  -- uadp_write, uadp_write_message, uadp_rewrite, uadp_rewrite_message, uadp_put_value, uadp_put_name, uadp_put_matrix, uadp_put_probe;
  -- uadp_cut; uadp_list; uadp_walk; uadp_newness.
  pub lent_writer : (out : List ℕ) (output : Output) → IsRefused (output_result out output) → buffer_after out output ≡ out
  pub lent_cut : (p : List ℕ) (number size k : ℕ) (out : List ℕ) → IsRefused (cut_result (cut_answer p number size k (length out)))
      → cut_buffer p number size k out ≡ out
  pub lent_listing : (out text : List ℕ) → IsRefused (writer_result (answer_written (text_written out text))) → text_after out text ≡ out
  pub lent_walk : (w : Writers) (d out : List ℕ) → IsRefused (walk_result (walk_of w d)) → records_put 0 (walk_records w d) out ≡ out
  pub lent_newness : (s : List ℕ) (received : ℕ) → IsRefused (newness_result s received) → newness_after s received ≡ s
  -- uadp_empty, uadp_take_in, uadp_combine, uadp_complete, uadp_hand_out.
  pub lent_call : (k : LentCall) (b a : Lent) → Called k b a → IsRefused a.result → Unchanged b a
  -- uadp_salvage.
  pub lent_salvage : (rec payload marks config told list : List ℕ) (r : ℕ) (told-after list-after : List ℕ)
      → Salvages (salvage_lent rec payload marks config told list) r told-after list-after → IsRefused r
      → (told-after ≡ told) × (list-after ≡ list)
