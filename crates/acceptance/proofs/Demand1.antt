-- Demand 1 holds: each field by the theorem that proves it. Assumes nothing.
use Rattle.wire.specs.declared.refusal.Reason.{Reason}
use Rattle.std.specs.Prelude.{Option, Result, Ok, Err}
use Prim.Native.Nat.{ℕ, zero, suc, ◌+◌, ◌*◌, ◌%◌, ◌≤◌, ◌<◌}
use mathlib.Core.Path.{◌≡◌, refl, sym, subst, ap}
use mathlib.Core.Bool.{Bool, true, false, false≢true}
use mathlib.Core.List.{List, [], ◌∷◌}
use mathlib.Core.Logic.{◌⊎◌, inl, inr}
use native.Mathlib.Nat.{zero-add}
use native.Mathlib.Omega.{arith}
use borrow.Author.Tests.{leb-false, ltb-false}
use lib.Dec.{eqb, leb, ltb}
use lib.ListN.{length}
use Rattle.wire.specs.Answer.{Answer, got, refused, and_then}
use Rattle.wire.proofs.Cases.{by_bool}
use Rattle.wire_writer.specs.Writing.{Output, writing, refusing, Writes, room_refusal, written_of, buffer_after, answer_written}
use Rattle.wire_writer.proofs.Answering.{unchanged}
use Rattle.config.specs.declared.Config.{Config}
use Rattle.config_text.specs.Config.{TextLine, config_of, read_lines, line_says, may_follow, with, lines_of, config_number, place_in}
use Rattle.network_message.specs.Envelope.{NetworkMessage, network_message_at, message_place_at, message_bytes}
use Rattle.network_message.specs.Payload.{PlaceStepped, place_of_message, pass_at, nth_place_at, place_step_at, size_of_message}
use Rattle.network_message.specs.declared.payload.Payload.{Payload}
use Rattle.network_message.specs.declared.payload.MessageCursor.{MessageCursor}
use Rattle.dataset_header.specs.Flags.{Valid, not_valid, valid}
use Rattle.dataset_fields.specs.Fields.{field_at, next_field_at, FieldStepped}
use Rattle.dataset_fields.specs.declared.fields.Field.{Field}
use Rattle.dataset_fields.specs.declared.fields.Cursor.{Cursor}
use Rattle.dataset_message.specs.Message.{Message, message_at, of_message, nth_at, field_place_at}
use Rattle.dataset_message.proofs.Agreement.{message_agrees}
use Rattle.chunk.specs.Cutting.{cut_rule, cut_data, cut_fault, chunk_bytes, cut_answer, cut_buffer}
use Rattle.walk.specs.Lines.{Writers}
use Rattle.walk_records.specs.Walk.{walk_of, walk_records, records_of, records_put}
use Rattle.wire.proofs.Reading.{not_got}
use Rattle.wire.specs.Refusal.{reason_number}
use Rattle.acceptance.proofs.Reasons.{refused_number, is_refused}
use Rattle.listing.specs.Text.{text_written, text_after}
use Rattle.records.specs.Result.{Filling, result_of, result_in, filled_in}
use Rattle.records.specs.Sizes.{ENVELOPE_SIZE, PLACE_SIZE, HEAD_SIZE, FIELD_SIZE, SEQUENCE_SIZE, PROBE_SIZE, ITEM_SIZE}
use Rattle.probe.specs.Items.{ItemStepped}
use Rattle.records.specs.LastNumber.{last_in}
use Rattle.sequence.specs.Newness.{newness_by}
use Rattle.reassembly_laws.specs.Refusing.{one_of}
use Rattle.reassembly_laws.proofs.Demand3 as laws
use Rattle.reassembly_laws.proofs.Refusing as Refusing
use Rattle.uadp_c.proofs.Demand3 as lent
use Rattle.uadp_c.specs.Cutting.{cut_result}
use Rattle.uadp_c.specs.Fields.{step_result, head_after, field_after}
use Rattle.uadp_c.specs.Messages.{message_result, envelope_after, place_after}
use Rattle.uadp_c.specs.Probes.{item_result, probe_after, item_after}
use Rattle.uadp_c.specs.Sequence.{newness_number, newness_result, newness_after}
use Rattle.uadp_c.specs.Walks.{walk_result}
use Rattle.uadp_c.specs.Writing.{writer_result, output_result}
use Rattle.acceptance.specs.Refusals.{Refusal, datagram_refusals, value_refusals, field_step_refusals, field_refusals, end_refusals, cut_refusals}
use Rattle.acceptance.specs.Demand1.{Demand1, IsRefused}
use Rattle.acceptance.proofs.Refusals.{Tells, told, wider, no_place, cond_tells, then_tells, run_lawful}
use Rattle.acceptance.proofs.Refusals.Tells.{gives, refuses}
use Rattle.acceptance.proofs.RefusedDatagrams.{datagram_others, datagram_tells, chunk_tells}
use Rattle.acceptance.proofs.RefusedProbes.{probe_told, probe_step_told}
use Rattle.acceptance.proofs.Tiling.{payload_first}
use Rattle.acceptance.proofs.RefusedCalls.{placed}
use Rattle.acceptance.proofs.RefusedWriters as refusals
use Rattle.acceptance.proofs.RefusedSteps.{ToldAt, value_told, raw_told, front_tells, ended_told, opening_told, step_shown_told}
use Rattle.acceptance.proofs.RefusedSalvage.{salvage_told}
use Rattle.acceptance.proofs.Salvage.{salvaging}
use Rattle.acceptance.proofs.RefusedMessages.{field_others, message_others, message_tells, field_lawful}

-- ---- the configuration
lines_told : (c : Config) (n : ℕ) (ls : List TextLine) → (config_number (read_lines c n ls) ≡ 0 → ⊥)
    → (config_number (read_lines c n ls) ≡ 16) × (n ≤ place_in (read_lines c n ls)) × (place_in (read_lines c n ls) < n + length ls)
lines_told c n [] h = absurd (h refl)
lines_told c n (l ∷ ls) h =
    by_bool _ (may_follow c (line_says l))
    (λ b. rw b (let r = lines_told (with c (line_says l)) (n + 1) ls (rw b at h) in (r.0, omega (arith, r.1), omega (arith, r.2))))
    (λ b. rw b (refl, omega arith, omega arith))

configuration_told : (text : List ℕ) → (config_number (config_of text) ≡ 0 → ⊥)
    → (config_number (config_of text) ≡ 16) × (1 ≤ place_in (config_of text)) × (place_in (config_of text) ≤ length (lines_of text))
unfolding config_of
configuration_told text h =
    let r = lines_told _ 1 (lines_of text) h in
    (r.0, r.1, omega (arith, r.2))

-- ---- messages
place_tells : (p : Payload) (sizes : List ℕ) (k : ℕ) (s : List ℕ) (at : ℕ) → at ≤ length s → Tells datagram_others (length s) (place_of_message p sizes k s at)
place_tells p sizes k s at h =
    cond_tells (leb p.count k) (refuses (no_place 10 refl))
    (then_tells ((run_lawful (size_of_message p.sizes sizes k s at)).tells s at h) (λ n next u. gives u))

pass_tells : (p : Payload) (sizes : List ℕ) (k : ℕ) (s : List ℕ) (at : ℕ) → at ≤ length s → Tells datagram_others (length s) (pass_at p sizes k s at)
unfolding pass_at
pass_tells p sizes zero s at h = gives h
pass_tells p sizes (suc k) s at h =
    then_tells (pass_tells p sizes k s at h) (λ x q u. then_tells (place_tells p sizes k s q u) (λ y next v. gives v))

lookup_tells : (sizes s : List ℕ) (k : ℕ) → Tells datagram_others (length s) (message_place_at sizes k s)
lookup_tells sizes s k = go (network_message_at sizes s) refl (datagram_tells sizes s)
  where
    go : (x : Answer NetworkMessage) → network_message_at sizes s ≡ x → Tells datagram_others (length s) x
        → Tells datagram_others (length s) (and_then x (λ m first. nth_place_at m.payload sizes k s m.payload.first))
    go (got m next) e (gives h) =
        let l : m.payload.first ≤ length s = omega (arith, payload_first sizes s m next e) in
        then_tells (pass_tells m.payload sizes k s m.payload.first l) (λ x at u. place_tells m.payload sizes k s at u)
    go (refused n place) e (refuses r) = refuses r

no_part : (sizes s : List ℕ) (k n place : ℕ) → message_place_at sizes k s ≡ refused n place → message_bytes (message_place_at sizes k s) s ≡ []
no_part sizes s k n place e = rw e

step_told : (p : Payload) (sizes : List ℕ) (c : MessageCursor) (s : List ℕ) → ToldAt (1 ∷ 10 ∷ []) (length s) c.at (place_step_at p sizes c s)
step_told p sizes c s =
    by_bool _ (leb p.count c.index) (λ b. rw b (inl (record { one = refl; nowhere = λ _. refl; inside = omega arith })))
    (λ b. by_bool _ (leb (c.at + size_of_message p.sizes sizes c.index s c.at) (length s)) (λ l. rw (b, l) tt) (λ l. rw (b, l) (inr (refl, refl))))

-- ---- fields
field_told : (c : Cursor) (types s : List ℕ) → ToldAt field_step_refusals (length s) c.at (next_field_at c types s)
field_told c types s = go (ltb (length s) c.at) refl
  where
    stepped : Field → ℕ → FieldStepped
    stepped f end =
        record { field = f; cursor = record { encoding = c.encoding; delta = c.delta; next = c.next + 1; count = c.count; at = end } }

    step : (x : Answer Field) → Tells field_others (length s) x → ToldAt field_step_refusals (length s) c.at (and_then x (λ f end. got (stepped f end) end))
    step (got f end) t = tt
    step (refused n place) (refuses r) = inl (wider refl r)

    go : (b : Bool) → ltb (length s) c.at ≡ b → ToldAt field_step_refusals (length s) c.at (next_field_at c types s)
    go true e = rw e (inr (refl, refl))
    go false e =
        by_bool _ (leb c.count c.next) (λ b. rw (e, b) (inl (record { one = refl; nowhere = λ _. refl; inside = omega arith })))
        (λ b. rw (e, b) (step (field_at c.delta c.encoding types c.next s c.at) ((field_lawful c.delta c.encoding types c.next).tells s c.at (ltb-false (length s) c.at e))))

field_lookup_told : (types s : List ℕ) (k n place : ℕ) → field_place_at types k s ≡ refused n place → Refusal field_refusals n place (length s)
field_lookup_told types s k n place e = go (message_at types s) refl (message_tells types s) e
  where
    past : Refusal field_refusals 10 0 (length s)
    past = record { one = refl; nowhere = λ _. refl; inside = omega arith }

    tells : Answer Field → Type 0
    tells (got f next) = Unit {0}
    tells (refused m p) = Refusal field_refusals m p (length s)

    found : (m : Message) (next : ℕ) → message_at types s ≡ got (valid m) next → tells (nth_at m.cursor types k s)
    found m next q =
        by_bool _ (leb m.cursor.count k) (λ b. rw b past)
        (λ b. let a = message_agrees types s m next q k (leb-false m.cursor.count k b) in subst tells (sym a.looked_up) tt)

    go : (x : Answer (Valid Message)) → message_at types s ≡ x → Tells message_others (length s) x → and_then x (λ m _. of_message m types k s) ≡ refused n place
        → Refusal field_refusals n place (length s)
    go (got not_valid next) q t f = subst tells f past
    go (got (valid m) next) q t f = subst tells f (found m next q)
    go (refused m p) q (refuses r) f = subst tells f (wider refl r)

-- ---- writers
place_told : {A : Type 0} {m n p q : ℕ} → ◌≡◌ {A = Answer A} (refused m p) (refused n q) → p ≡ q
place_told e = cc

writer_keeps : (output : Output) (entry exit : List ℕ) (reason : Reason) → Writes output entry exit (Err reason)
    → (exit ≡ entry) × (written_of (length entry) output ≡ refused (reason_number reason) 0)
writer_keeps output entry exit reason w = (unchanged output w, sym w.answer)

writer_told : (output : Output) (entry : List ℕ) (n place : ℕ) → written_of (length entry) output ≡ refused n place
    → (buffer_after entry output ≡ entry) × (place ≡ 0)
writer_told (refusing k) entry n place e = (refl, sym (place_told e))
writer_told (writing bytes) entry n place e =
    by_bool _ (eqb (room_refusal (length bytes) (length entry)) 0)
    (λ t. let d : got tt (length bytes) ≡ refused n place = rw t at e in absurd (not_got (sym d)))
    (λ t. (rw t, sym (place_told (rw t at e))))

-- the number of a refused cutting
cut_number : (p : List ℕ) (size k room : ℕ) → (cut_fault p size k room ≡ 0) ⊎ (one_of cut_refusals (cut_fault p size k room) ≡ true)
unfolding cut_fault cut_rule
cut_number p size k room =
    let total = length p in
    by_bool _ (eqb size 0) (λ a. rw a (inr refl))
    (λ a. by_bool _ (eqb total 0) (λ b. rw (a, b) (inr refl))
    (λ b. by_bool _ (ltb 16384 total) (λ d. rw (a, b, d) (inr refl))
    (λ d. by_bool _ (leb total (k * size)) (λ e. rw (a, b, d, e) (inr refl))
    (λ e. by_bool _ (ltb room (14 + length (cut_data p size k))) (λ f. rw (a, b, d, e, f) (inr refl)) (λ f. rw (a, b, d, e, f) (inl refl))))))

cut_told : (p : List ℕ) (number size k : ℕ) (out : List ℕ) (n place : ℕ) → cut_answer p number size k (length out) ≡ refused n place
    → (one_of cut_refusals n ≡ true) × (cut_buffer p number size k out ≡ out)
unfolding cut_answer cut_buffer
cut_told p number size k out n place e = go (eqb (cut_fault p size k (length out)) 0) refl (cut_number p size k (length out))
  where
    go : (b : Bool) → eqb (cut_fault p size k (length out)) 0 ≡ b → (cut_fault p size k (length out) ≡ 0) ⊎ (one_of cut_refusals (cut_fault p size k (length out)) ≡ true)
        → (one_of cut_refusals n ≡ true) × (cut_buffer p number size k out ≡ out)
    go true b c = absurd (not_got (sym (rw b at e)))
    go false b (inl c) = absurd (false≢true (sym (rw c at b)))
    go false b (inr c) = (subst (λ (m : ℕ). one_of cut_refusals m ≡ true) (refused_number (rw b at e)) c, rw b)

listing_told : (out text : List ℕ) (reason : Reason) → text_written out text ≡ Err reason → (reason_number reason ≡ 11) × (text_after out text ≡ out)
listing_told out text reason e =
    by_bool _ (ltb (length out) (length text)) (λ b. (ap number (sym (rw b at e)), rw b)) (λ b. absurd (false≢true (ap is_refused (rw b at e))))
  where
    number : Result ℕ Reason → ℕ
    number (Ok n) = 0
    number (Err reason) = reason_number reason

-- ---- a walk
abbrev ToldBy : ℕ → Answer ℕ → Type 0
ToldBy bytes (got k next) = Unit {0}
ToldBy bytes (refused n place) = Refusal datagram_refusals n place bytes

walk_told : (w : Writers) (d out : List ℕ) (n place : ℕ) → walk_of w d ≡ refused n place
    → Refusal datagram_refusals n place (length d) × (records_put 0 (walk_records w d) out ≡ out)
walk_told w d out n place e = go (network_message_at w.sizes d) refl (datagram_tells w.sizes d)
  where
    go : (x : Answer NetworkMessage) → network_message_at w.sizes d ≡ x → Tells datagram_others (length d) x
        → Refusal datagram_refusals n place (length d) × (records_put 0 (walk_records w d) out ≡ out)
    go (got m next) q t = absurd (not_got (sym (rw q at e)))
    go (refused m p) q (refuses r) =
        let z : ◌≡◌ {A = Answer ℕ} (refused m p) (refused n place) = rw q at e in
        (subst (ToldBy (length d)) z r, rw q)

-- ---- through C

done_number : (v : ℕ) → result_of 0 v % 256 ≡ 0
done_number v = omega arith

filling : (read : Answer Filling) (out : List ℕ) → IsRefused (result_in read out) → filled_in read out ≡ out
filling (got x next) out h =
    by_bool _ (leb (length x.bytes) (length out)) (λ b. absurd (h (rw b (done_number x.value))))
    (λ b. rw (zero-add (length x.bytes), b))
filling (refused n place) out h = refl

message_step_lem : (writer : ℕ → Option ℕ) (step : Answer PlaceStepped) (envelope place : List ℕ) → IsRefused (message_result step envelope place)
    → (envelope_after step envelope place ≡ envelope) × (place_after writer step envelope place ≡ place)
message_step_lem writer (got x next) envelope place h =
    by_bool _ (ltb (length envelope) ENVELOPE_SIZE) (λ a. rw a (refl, refl))
    (λ a. by_bool _ (ltb (length place) PLACE_SIZE) (λ b. rw (a, b) (refl, refl)) (λ b. absurd (h (rw (a, b) (done_number x.place.index)))))
message_step_lem writer (refused n p) envelope place h = (refl, refl)

field_step : (step : Answer FieldStepped) (head field : List ℕ) → IsRefused (step_result step head field)
    → (head_after step head field ≡ head) × (field_after step head field ≡ field)
field_step (got x next) head field h =
    by_bool _ (ltb (length head) HEAD_SIZE) (λ a. rw a (refl, refl))
    (λ a. by_bool _ (ltb (length field) FIELD_SIZE) (λ b. rw (a, b) (refl, refl)) (λ b. absurd (h (rw (a, b) (done_number x.field.offset)))))
field_step (refused n p) head field h = (refl, refl)

item_step_lem : (step : Answer ItemStepped) (probe item : List ℕ) → IsRefused (item_result step probe item) → (probe_after step probe item ≡ probe) × (item_after step probe item ≡ item)
item_step_lem (got x next) probe item h =
    by_bool _ (ltb (length probe) PROBE_SIZE) (λ a. rw a (refl, refl))
    (λ a. by_bool _ (ltb (length item) ITEM_SIZE) (λ b. rw (a, b) (refl, refl)) (λ b. absurd (h (rw (a, b) (done_number x.item.index)))))
item_step_lem (refused n p) probe item h = (refl, refl)

writing_out : (out : List ℕ) (output : Output) → IsRefused (output_result out output) → buffer_after out output ≡ out
writing_out out (Output.writing bytes) h =
    by_bool _ (eqb (room_refusal (length bytes) (length out)) 0) (λ b. absurd (h (rw b (done_number (length bytes))))) (λ b. rw b)
writing_out out (Output.refusing n) h = refl

cutting : (p : List ℕ) (number size k : ℕ) (out : List ℕ) → IsRefused (cut_result (cut_answer p number size k (length out))) → cut_buffer p number size k out ≡ out
unfolding cut_answer cut_buffer
cutting p number size k out h =
    by_bool _ (eqb (cut_fault p size k (length out)) 0) (λ b. absurd (h (rw b (done_number (length (chunk_bytes p number size k)))))) (λ b. rw b)

listing_out : (out text : List ℕ) → IsRefused (writer_result (answer_written (text_written out text))) → text_after out text ≡ out
listing_out out text h = by_bool _ (ltb (length out) (length text)) (λ b. rw b) (λ b. absurd (h (rw b (done_number (length text)))))

walking : (w : Writers) (d out : List ℕ) → IsRefused (walk_result (walk_of w d)) → records_put 0 (walk_records w d) out ≡ out
walking w d out h = go (network_message_at w.sizes d) refl
  where
    go : (x : Answer NetworkMessage) → network_message_at w.sizes d ≡ x → records_put 0 (walk_records w d) out ≡ out
    go (got m next) q = absurd (h (rw q (done_number (length (records_of w d (got m next))))))
    go (refused n place) q = rw q

newness : (s : List ℕ) (received : ℕ) → IsRefused (newness_result s received) → newness_after s received ≡ s
newness s received h =
    by_bool _ (ltb (length s) SEQUENCE_SIZE) (λ b. rw b) (λ b. absurd (h (rw b (done_number (newness_number (newness_by (last_in s) received))))))

pub demand_1 : Demand1
demand_1 = record {
  datagram = λ sizes s n place e. told (datagram_tells sizes s) e;
  message = λ types s n place e. told (message_tells types s) e;
  chunk = λ sizes s n place e. told (chunk_tells sizes s) e;
  probe = probe_told;
  variant = λ s at n place e. subst (ToldAt value_refusals (length s) at) e (value_told 24 s at);
  data_value_lem = λ s at n place e. subst (ToldAt value_refusals (length s) at) e (value_told 23 s at);
  raw = λ t s at n place e. subst (ToldAt value_refusals (length s) at) e (raw_told t s at);
  configuration = configuration_told;
  message_lookup = λ sizes s k n place e. (told (lookup_tells sizes s k) e, no_part sizes s k n place e);
  message_step_lem = λ p sizes c s n place e. subst (ToldAt (1 ∷ 10 ∷ []) (length s) c.at) e (step_told p sizes c s);
  field_lookup = λ types s k n place e. (field_lookup_told types s k n place e, rw e);
  field_step = λ c types s n place e. subst (ToldAt field_step_refusals (length s) c.at) e (field_told c types s);
  opened = λ types s n place e. told (front_tells (length s) types s) e;
  ended = λ c s n place e. subst (ToldAt end_refusals (length s) c.at) e (ended_told c s);
  probe_step = probe_step_told;
  writer = writer_keeps;
  datagram_writer = refusals.datagram_writer;
  message_writer = refusals.message_writer;
  probe_writer = refusals.probe_writer;
  value_writer = refusals.value_writer;
  name_writer = refusals.name_writer;
  matrix_writer = refusals.matrix_writer;
  datagram_again_lem = refusals.datagram_again_lem;
  message_again_lem = refusals.message_again_lem;
  cut = cut_told;
  listing = listing_told;
  writer_told = writer_told;
  datagram_writer_told = refusals.datagram_writer_told;
  message_writer_told = refusals.message_writer_told;
  probe_writer_told = refusals.probe_writer_told;
  value_writer_told = refusals.value_writer_told;
  name_writer_told = refusals.name_writer_told;
  matrix_writer_told = refusals.matrix_writer_told;
  datagram_again_told = refusals.datagram_again_told;
  message_again_told = refusals.message_again_told;
  walk = walk_told;
  call = λ k s n place e. (placed k n place (Refusing.may_refuse k s n place e), laws.refused_leaves k s n place e);
  salvage_opened_lem = opening_told;
  salvage_step = step_shown_told;
  salvage = salvage_told;
  lent_filling = filling;
  lent_message_step = message_step_lem;
  lent_field_step = field_step;
  lent_probe_step = item_step_lem;
  lent_writer = writing_out;
  lent_cut = cutting;
  lent_listing = listing_out;
  lent_walk = walking;
  lent_newness = newness;
  lent_call = lent.lent_refused;
  lent_salvage = salvaging.lent_refused;
}
