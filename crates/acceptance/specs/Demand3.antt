-- DEMAND 3 as one type: a field for each sentence, the sentence above it. proofs/Demand3.antt gives a value of it. From code to claim:
-- the contracts of reassembly/src/operations.rt say what each call `answers` and `leaves`, those of uadp_c/src/reassembling.rt that a
-- call was `Called`. `Good` partials are the sound ones whose number of covered bytes is right, as that of one not started always is. The
-- plain machine is reassembly/specs/Machine.antt; its state knows no number.
use Rattle.std.specs.Prelude.{ℕ, ◌≤◌, ◌%◌, ◌≡◌, ◌↔◌, true, false, List, [], length, take}
use Rattle.wire_writer.specs.Store.{laid}
use Rattle.marks.specs.Marks.{Layout}
use Rattle.marks.specs.Layouts.{LayoutLaws}
use Rattle.reassembly.specs.Record.{Partial, Identity, room_of, sound, Right, Good}
use Rattle.reassembly.specs.Reading.{reading_at}
use Rattle.reassembly.specs.Reading.Reading.{chunk}
use Rattle.reassembly.specs.Machine.{Call, state_of, alone}
use Rattle.reassembly.specs.Machine.Call.{Ask, HandOut}
use Rattle.reassembly.specs.Machine.Reply.{said, handed, refused}
use Rattle.reassembly.specs.Judge.{Complete, Equal}
use Rattle.reassembly.specs.Operations.{take_in, combine, hand_out}
use Rattle.reassembly.specs.Calls.{answers, leaves}
use Rattle.reassembly.specs.declared.record.Message.{Message}
use Rattle.reassembly.specs.declared.record.PartialRecord.{PartialRecord}
use Rattle.reassembly.specs.Verdict.{Done}
use Rattle.reassembly_laws.specs.AnyList.{AnyList}
use Rattle.reassembly_laws.specs.Combining.{EqualRoom, EitherOrder, EitherGrouping}
use Rattle.reassembly_laws.specs.Equality.{EqualInWords}
use Rattle.reassembly_laws.specs.Alone.{chunk_alone, IsAlone, AsPartial}
use Rattle.reassembly_laws.specs.Cutting.{Arrival, AllArrive, IsChunk, IsCut, Restored}
use Rattle.reassembly_laws.specs.Refusing.{MayRefuse}
use Rattle.reassembly_laws.specs.Layouts.{SameButMarks, SameCalls, SameHistory, in_layout}
use Rattle.config_text.specs.Config.{config_of, config_number, config_in}
use Rattle.records.specs.Result.{filled_in}
use Rattle.wire.specs.Answer.{got}
use Rattle.network_message.specs.Envelope.{NetworkMessage, network_message_at}
use Rattle.dataset_header.specs.Flags.{valid}
use Rattle.dataset_message.specs.Message.{message_at, front_at, Message as DataSetMessage}
use Rattle.records.specs.Sizes.{CONFIG_SIZE, ENVELOPE_SIZE, PLACE_SIZE, HEAD_SIZE, FIELD_SIZE, PARTIAL_SIZE}
use Rattle.records.specs.Writers.{sizes_in, types_for, ConfigBack, config_filling}
use Rattle.partial_record.specs.Partial.{partial_in, partial_bytes, FitsRecord}
use Rattle.uadp_c.specs.Reassembling.{Lent}
use Rattle.uadp_c.specs.ByCalls.{AllLong, HeadRead, HeadOpened, OpenedByCalls, FieldCall, FieldCalls, last_head, FieldsByCalls, EnvelopeRead, MessageCall, MessageCalls, last_envelope, MessagesByCalls, DatagramAgain, MessageAgain}
use Rattle.uadp_c.specs.History.{LentCall, held_in, Called, AllCalled, Ready, LentList, Unchanged}
use Rattle.acceptance.specs.Refusals.{Refusal, call_refusals}
use Rattle.acceptance.specs.Calls.{bytes_read}

pub record Demand3 : Type 0 where
  -- ---- ONE CLAIM. Take any list of calls on one sound, just emptied partial: every answer in it is the plain machine's, the partial
  -- afterwards is equal to what the machine keeps and stays sound, a byte is covered exactly if an accepted call since the last emptying
  -- brought it, and if all that brought bytes are of one payload, handing out hands out that payload.
  pub any_list : (ks : List Call) (s : Partial) → Good s → s.rec.started ≡ false → AnyList ks s
  -- ---- Complete is said, and the payload's first total bytes are handed out, exactly if the partial is started and covered at every
  -- byte below total.
  pub complete_exactly : (s : Partial) → Good s → (answers Ask s ≡ said true) ↔ Complete s
  pub handed_out_exactly : (s : Partial) → Good s
      → (answers HandOut s ≡ handed (take s.rec.message.total s.payload)) ↔ Complete s
  -- ---- THE NUMBER OF COVERED BYTES (document 02, Req 07). "If the number was right before a call (one not started always counts as
  -- right) it is right after it": every call, any source, of any partial.
  pub number_stays_right : (k : Call) (s : Partial) → Right s → Right (leaves k s)
  -- "Complete" is said from it, exactly when a started one's number is its total: of any sound partial, whether the number is right or not.
  pub complete_by_number : (s : Partial) → sound s ≡ true
      → (answers Ask s ≡ said true) ↔ ((s.rec.started ≡ true) × (s.rec.covered ≡ s.rec.message.total))
  -- A refused call adds nothing: `refused-leaves` below.
  -- ---- Sound partials of equal room, whose numbers are right, combine by these laws.
  -- Either order gives equal results, or the same refusal.
  pub either_order : (a b : Partial) → Good a → Good b → EqualRoom a b → EitherOrder a b
  -- Combining with an equal one changes nothing, nor does one not started: it is accepted, and record and areas are as they were.
  pub equal_changes_nothing : (a b : Partial) → Good a → Good b → Equal a b → combine a b ≡ record { verdict = Done; after = a }
  pub not_started_changes_nothing : (a b : Partial) → Good a → Good b → b.rec.started ≡ false
      → combine a b ≡ record { verdict = Done; after = a }
  -- Either grouping of three gives equal results, or both are refused, and that exactly if two of the three disagree.
  pub either_grouping : (a b c : Partial) → Good a → Good b → Good c → EqualRoom a b → EqualRoom b c → EitherGrouping a b c
  -- ---- "Started partials are equal if records, covered places and the bytes there agree; all not started are equal."
  pub equal_exactly : (a b : Partial) → Equal a b ↔ EqualInWords a b
  -- ---- Taking in a chunk that has no fault of its own and whose total is not above the area equals combining with that chunk alone.
  -- Here the datagram d reads as the chunk of message m with its data at an offset. There is such a partial, sound, in any room that is
  -- not below the total.
  pub chunk_alone_lem : (sizes d : List ℕ) (m : Message) (at : ℕ) (data_of : List ℕ) → reading_at sizes d ≡ chunk m at data_of
      → (L : Layout) (n : ℕ) → m.total ≤ n → IsAlone (reading_at sizes d) n (chunk_alone L n m at data_of)
  -- With it all is the same: the answer, the record, and every byte of both areas.
  pub take_in_is_combine : (sizes d : List ℕ) (m : Message) (at : ℕ) (data_of : List ℕ) → reading_at sizes d ≡ chunk m at data_of
      → (s : Partial) → Good s → m.total ≤ room_of s
      → take_in s (reading_at sizes d) ≡ combine s (chunk_alone s.layout (room_of s) m at data_of)
  -- With any other partial that is the chunk alone, the answer and the bytes of both areas are the same, and the results are equal.
  pub take_in_as_combine : (sizes d : List ℕ) (m : Message) (at : ℕ) (data_of : List ℕ) → reading_at sizes d ≡ chunk m at data_of
      → (s f : Partial) → Good s → Good f → state_of f ≡ alone (reading_at sizes d)
      → AsPartial (take_in s (reading_at sizes d)) (combine s f)
  -- ---- All chunks of a payload p, taken in in any order and some more than once, are accepted, complete it, and hand p out: datagrams
  -- that read as its chunks, and datagrams of one publisher and writer whose payloads are what cutting wrote.
  pub chunks_restore : (id : Identity) (p : List ℕ) (size : ℕ) (l : List Arrival) → AllArrive id p size (IsChunk id p size) l
      → (s : Partial) → Good s → s.rec.started ≡ false → length p ≤ room_of s → Restored p l s
  pub cut_and_restored : (id : Identity) (p : List ℕ) (size : ℕ) (l : List Arrival) → AllArrive id p size (IsCut id p size) l
      → (s : Partial) → Good s → s.rec.started ≡ false → length p ≤ room_of s → Restored p l s
  -- ---- "Every refusal leaves all lent bytes and records unchanged", for sound and unsound partials, and hands nothing out.
  pub refused_leaves : (k : Call) (s : Partial) (n place : ℕ) → answers k s ≡ refused n place → leaves k s ≡ s
  pub refused_hands_nothing : (s : Partial) (n place : ℕ) → answers HandOut s ≡ refused n place → hand_out s ≡ []
  -- It "returns the number and a place": each call its own numbers; the place is 0 for 8 and 10 to 15, and else within the datagram.
  pub refused_by : (k : Call) (s : Partial) (n place : ℕ) → answers k s ≡ refused n place → MayRefuse k n place
  pub refused_place : (k : Call) (s : Partial) (n place : ℕ) → answers k s ≡ refused n place → Refusal call_refusals n place (bytes_read k)
  -- ---- THE SAME THROUGH C. From a record of full length that is zeroed or was just emptied, any list of `uadp_` calls answers as the
  -- machine, and the one claim holds of what the lent bytes stand for.
  pub any_lent_list : (ks : List LentCall) (b : Lent) (ys : List Lent) → Ready b → AllCalled ks b ys → LentList ks b ys
  -- The number stays right through C too, from any record of full length.
  pub lent_number_stays_right : (k : LentCall) (b a : Lent) → PARTIAL_SIZE ≤ length b.rec → Called k b a
      → Right (held_in b) → Right (held_in a)
  -- A refusal, whose number is the result's low byte, leaves every lent byte as it was.
  pub lent_refused : (k : LentCall) (b a : Lent) → Called k b a → (a.result % 256 ≡ 0 → ⊥) → Unchanged b a
  -- What is stored in a record is read back: the premise is the contract of `partial_record::put_partial`.
  pub record_read_back : (k : PartialRecord) (entry exit : List ℕ) → (exit ≡ laid entry 0 (partial_bytes k)) × FitsRecord k
      → PARTIAL_SIZE ≤ length entry → partial_in exit ≡ k
  -- And what uadp_config stores for a configuration text is what the library reads in the record.
  pub config_read_back : (text r : List ℕ) → config_number (config_of text) ≡ 0 → CONFIG_SIZE ≤ length r
      → ConfigBack (filled_in (config_filling (config_of text)) r) (config_in (config_of text))
  -- Walking by calls is document 01's walk: from the record that uadp_read filled uadp_next_message tells the messages one after the other,
  -- from that of uadp_read_message uadp_next_field the fields, each found where lookup finds it; the call after the last answers 10.
  pub messages_by_calls : (d config : List ℕ) (m : NetworkMessage) (n : ℕ) (entry : List ℕ) (result : ℕ) (envelope : List ℕ)
      → network_message_at (sizes_in config) d ≡ got m n → ENVELOPE_SIZE ≤ length entry → EnvelopeRead d config entry result envelope
      → MessagesByCalls d config m envelope
  pub fields_by_calls : (s config : List ℕ) (writer : ℕ) (m : DataSetMessage) (n : ℕ) (entry : List ℕ) (result : ℕ) (head : List ℕ)
      → message_at (types_for config writer) s ≡ got (valid m) n → HEAD_SIZE ≤ length entry
      → HeadRead s config writer entry result head → FieldsByCalls s config writer m head
  -- So it is where the message was only opened, each field read by the step that meets it: of an accepted message the same calls tell the
  -- same; and of any message a step, and uadp_end_message after the last field, answer as reading it whole does, its fault too.
  pub opened_fields_by_calls : (s config : List ℕ) (writer : ℕ) (m : DataSetMessage) (n : ℕ) (entry : List ℕ) (result : ℕ) (head : List ℕ)
      → message_at (types_for config writer) s ≡ got (valid m) n → HEAD_SIZE ≤ length entry
      → HeadOpened s config writer entry result head → FieldsByCalls s config writer m head
  pub opened_by_calls : (s config : List ℕ) (writer : ℕ) (m : DataSetMessage) (n : ℕ) (entry : List ℕ) (result : ℕ) (head : List ℕ)
      → front_at (types_for config writer) s ≡ got (valid m) n → HEAD_SIZE ≤ length entry
      → HeadOpened s config writer entry result head → OpenedByCalls s config writer head
  -- Read, then write the record, gives the bytes, also after some steps of its cursor: of a datagram, but for the two exceptions, and of a
  -- message, but for the second.
  pub datagram_again_by_calls : (d config : List ℕ) (m : NetworkMessage) (n : ℕ) (entry : List ℕ) (result : ℕ) (envelope : List ℕ)
      → network_message_at (sizes_in config) d ≡ got m n → ENVELOPE_SIZE ≤ length entry
      → EnvelopeRead d config entry result envelope → (ps : List (List ℕ)) (ys : List MessageCall) → AllLong PLACE_SIZE ps
      → length ps ≤ m.payload.count → MessageCalls d config ps envelope ys → DatagramAgain d config m (last_envelope envelope ys)
  pub message_again_by_calls : (s config : List ℕ) (writer : ℕ) (m : DataSetMessage) (n : ℕ) (entry : List ℕ) (result : ℕ) (head : List ℕ)
      → message_at (types_for config writer) s ≡ got (valid m) n → HEAD_SIZE ≤ length entry
      → HeadRead s config writer entry result head → (fs : List (List ℕ)) (ys : List FieldCall) → AllLong FIELD_SIZE fs
      → length fs ≤ m.cursor.count → FieldCalls s config writer fs head ys → MessageAgain s config writer m (last_head head ys)
  -- ---- HOWEVER MARKS ARE HELD (document 02, Req 11). Both forms are what a form of marks has to be. From emptying, calls that are the
  -- same but for the form of marks give the same answers, and leave the same record, payload area and covered bytes; and every sound
  -- partial has its like in either form.
  pub laws_of_layouts : (L : Layout) → LayoutLaws L
  pub same_in_layouts : (ks ls : List Call) (s t : Partial) → SameCalls ks ls → Good s → Good t → s.rec ≡ t.rec → s.payload ≡ t.payload
      → s.rec.started ≡ false → SameHistory ks ls s t
  pub like_in_layout : (L : Layout) (s : Partial) → Good s → SameButMarks s (in_layout L s)
