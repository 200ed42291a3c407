-- Walking over a datagram's messages by calls, from an envelope record that `uadp_read` filled: the calls tell the messages that lookup finds, one after the
-- other. The premises are the contracts.
-- Assumes nothing.
use Rattle.std.specs.Prelude.{Option}
use Prim.Native.Nat.{ℕ, zero, suc, ◌+◌, ◌*◌, ◌^◌, ◌≤◌, ◌<◌}
use mathlib.Core.Path.{◌≡◌, refl, ap, sym, subst, ◌∙◌}
use mathlib.Core.Bool.{Bool, true, false}
use mathlib.Core.List.{List, [], ◌∷◌}
use native.Mathlib.Numerals.{add-one}
use native.Mathlib.Nat.{add-zero}
use native.Mathlib.Omega.{arith}
use borrow.Author.Tests.{le-leb, le-ltb, ltb-false}
use lib.Dec.{ltb}
use lib.ListN.{length, get_or}
use Rattle.wire.specs.Number.{le_bytes}
use Rattle.wire.specs.Lists.{total}
use Rattle.wire.specs.Answer.{Answer, got, refused}
use Rattle.wire.proofs.Reading.{got_value, not_got, invert}
use Rattle.wire_writer.specs.Store.{laid}
use Rattle.probe.specs.Body.{probe_body_at}
use Rattle.network_header.specs.Flags.{flags_at}
use Rattle.network_header.specs.Numbers.{configured_sizes}
use Rattle.network_header.specs.declared.flags.Flags.{Flags}
use Rattle.network_header.specs.declared.header.PayloadHeader.{PayloadHeader}
use Rattle.network_message.specs.Envelope.{NetworkMessage, envelope_at, envelope_body_at, network_message_at}
use Rattle.network_message.specs.Payload.{PlaceStepped, messages_from, payload_at, place_step_at, OfMessages}
use Rattle.network_message.specs.WriterId.{writer_id_of}
use Rattle.network_message.specs.declared.payload.Payload.{Payload}
use Rattle.network_message.specs.declared.payload.Sizes.{Sizes}
use Rattle.network_message.specs.declared.payload.MessageCursor.{MessageCursor}
use Rattle.network_message.specs.declared.payload.MessagePlace.{MessagePlace}
use Rattle.network_message.proofs.Accepted.{payload_tiled}
use Rattle.network_message.proofs.Messages.{Tiles, before, tile, tiled}
use Rattle.records.specs.Numbers.{number_bytes}
use Rattle.records.specs.Sizes.{ENVELOPE_SIZE, PLACE_SIZE}
use Rattle.records.specs.Result.{result_of}
use Rattle.records.specs.Writers.{ids_in, sizes_in}
use Rattle.records.proofs.ReadBack.{laid_length}
use Rattle.envelope_record.specs.Envelope.{envelope_numbers, envelope_in, envelope_fits, count_fits, payload_in, messages_in, messages_laid, payload_header_in, payload_header_end, place_numbers, EnvelopeBack}
use Rattle.envelope_record.proofs.Back.{messages_moved, envelope_stays, payload_stays, header_stays, header_end_stays}
use Rattle.uadp_c.specs.Messages.{message_step, writer_at, message_result, envelope_after, place_after}
use Rattle.uadp_c.specs.ByCalls.{AllLong, EnvelopeRead, MessageCall, message_call, NextMessage, MessageCalls, last_envelope, MessageTold, MessagesTold, MessagesByCalls}

-- ---- what an accepted datagram's payload is: messages that tile it, or a chunk's or a probe, which have no messages of their own

no_chunk : (chunk : Bool) (header : PayloadHeader) → OfMessages header → (sizes s : List ℕ) (at : ℕ) (p : Payload) (n : ℕ) → payload_at chunk header sizes s at ≡ got p n
    → payload_at false header sizes s at ≡ got p n
no_chunk true PayloadHeader.Absent o sizes s at p n e = absurd (not_got e)
no_chunk false PayloadHeader.Absent o sizes s at p n e = e
no_chunk chunk (PayloadHeader.Ids c) o sizes s at p n e = e
no_chunk chunk (PayloadHeader.Chunk w) o sizes s at p n e = absurd o
no_chunk chunk PayloadHeader.Probe o sizes s at p n e = absurd o

-- the messages' lengths, or none
pub data Messages (p : Payload) (sizes s : List ℕ) : Type 0 where
  some : (zs : List ℕ) → Tiles p sizes s zs → Messages p sizes s
  none : p.count ≡ 0 → Messages p sizes s

payload_messages : (chunk : Bool) (header : PayloadHeader) (sizes s : List ℕ) (at : ℕ) (p : Payload) (n : ℕ) → payload_at chunk header sizes s at ≡ got p n → Messages p sizes s
payload_messages chunk PayloadHeader.Absent sizes s at p n e =
    let t = payload_tiled PayloadHeader.Absent tt sizes s at p n (no_chunk chunk PayloadHeader.Absent tt sizes s at p n e) in
    some t.0 t.1
payload_messages chunk (PayloadHeader.Ids c) sizes s at p n e =
    let t = payload_tiled (PayloadHeader.Ids c) tt sizes s at p n (no_chunk chunk (PayloadHeader.Ids c) tt sizes s at p n e) in
    some t.0 t.1
payload_messages chunk (PayloadHeader.Chunk w) sizes s at p n e = none (sym (ap (λ (x : Payload). x.count) (got_value e)))
payload_messages true PayloadHeader.Probe sizes s at p n e = absurd (not_got e)
payload_messages false PayloadHeader.Probe sizes s at p n e =
    let b = invert (probe_body_at s at) (λ q next. got (messages_from 0 Sizes.Rest at) at) e in
    none (sym (ap (λ (x : Payload). x.count) (got_value b.3)))

-- it has at most 65,535 bytes
pub record Accepted (sizes s : List ℕ) (m : NetworkMessage) : Type 0 where
  pub limit : length s ≤ 65535
  pub messages : Messages m.payload sizes s

pub accepted : (sizes s : List ℕ) (m : NetworkMessage) (n : ℕ) → network_message_at sizes s ≡ got m n → Accepted sizes s m
accepted sizes s m n e = go (ltb 65535 (length s)) refl
  where
    body : (f : Flags) (at : ℕ) → envelope_body_at f sizes s at ≡ got m n → Messages m.payload sizes s
    body f at q =
        let (h, z, a, b) = invert (envelope_at f (length (configured_sizes sizes)) s at) _ q in
        let (p, y, c, d) = invert (payload_at h.envelope.chunk h.envelope.payload_header sizes s z) _ b in
        let v : record { envelope = h.envelope; places = h.places; payload = p } ≡ m = got_value d in
        subst (λ (x : NetworkMessage). Messages x.payload sizes s) v (payload_messages h.envelope.chunk h.envelope.payload_header sizes s z p y c)

    go : (b : Bool) → ltb 65535 (length s) ≡ b → Accepted sizes s m
    go true t = absurd (not_got (rw t at e))
    go false t =
        let (f, at, a, q) = invert (flags_at s 0) _ (rw t at e) in
        record { limit = ltb-false 65535 (length s) t; messages = body f at q }

-- the first k of some lengths are no more than all of them
before_all : (zs : List ℕ) (k : ℕ) → before zs k ≤ total zs
before_all [] zero = omega arith
before_all [] (suc k) = omega arith
before_all (x ∷ zs) zero = omega arith
before_all (x ∷ zs) (suc k) = omega (arith, before_all zs k)

-- ---- a step that is made where there is room

message_made : (w : ℕ → Option ℕ) (x : PlaceStepped) (n : ℕ) (e p : List ℕ) → ENVELOPE_SIZE ≤ length e → PLACE_SIZE ≤ length p
    → (message_result (got x n) e p ≡ result_of 0 x.place.index) × (envelope_after (got x n) e p ≡ messages_laid x.cursor e)
    × (place_after w (got x n) e p ≡ laid p 0 (number_bytes (place_numbers x.place (w x.place.index))))
message_made w x n e p l k = rw (le-ltb (length e) ENVELOPE_SIZE l, le-ltb (length p) PLACE_SIZE k) (refl, refl, refl)

messages_length : (c : MessageCursor) (e : List ℕ) → length (messages_laid c e) ≡ length e
messages_length c e =
    let u = laid e (8 * 26) (le_bytes 8 c.index) in
    laid_length u (8 * 27) (le_bytes 8 c.at) ∙ laid_length e (8 * 26) (le_bytes 8 c.index)

abbrev cursor : ℕ → ℕ → MessageCursor
cursor k at = record { index = k; at = at }

module _ (d config : List ℕ) (m : NetworkMessage) (n : ℕ) (q : network_message_at (sizes_in config) d ≡ got m n) (counted : m.payload.count < 256 ^ 8) where
  abbrev sizes : List ℕ
  sizes = sizes_in config

  -- an envelope record of the datagram whose cursor is before message k, which starts at `at`
  record Stands (k at : ℕ) (e : List ℕ) : Type 0 where
    long : ENVELOPE_SIZE ≤ length e
    header : payload_header_in e ≡ m.envelope.payload_header
    header_end : payload_header_end e ≡ m.places.payload_header_end
    payload : payload_in e ≡ m.payload
    messages : messages_in e ≡ cursor k at
    envelope : envelope_in e ≡ m.envelope
    fitting : envelope_fits e ≡ count_fits m.envelope.payload_header

  -- the step that it tells of
  stepped : (k at : ℕ) (e : List ℕ) → Stands k at e → message_step config e d ≡ place_step_at m.payload sizes (cursor k at) d
  stepped k at e w =
      ap (λ (p : Payload). place_step_at p sizes (messages_in e) d) w.payload ∙ ap (λ (c : MessageCursor). place_step_at m.payload sizes c d) w.messages

  -- the DataSetWriterIds that it tells of
  writer_told : (k at j : ℕ) (e : List ℕ) → Stands k at e
      → writer_at config e d j ≡ writer_id_of m.envelope.payload_header m.places.payload_header_end (ids_in config) j d
  writer_told k at j e w =
      ap (λ (h : PayloadHeader). writer_id_of h (payload_header_end e) (ids_in config) j d) w.header
      ∙ ap (λ (z : ℕ). writer_id_of m.envelope.payload_header z (ids_in config) j d) w.header_end

  -- the call after the last
  after_last : (at : ℕ) (e p : List ℕ) (a : MessageCall) → Stands m.payload.count at e → NextMessage d config e p a → a ≡ message_call (result_of 10 0) e p
  after_last at e p a w t =
      let over : place_step_at m.payload sizes (cursor m.payload.count at) d ≡ refused 10 0 = rw (le-leb m.payload.count m.payload.count (omega arith)) in
      let step = stepped m.payload.count at e w ∙ over in
      let r = t.result ∙ ap (λ (y : Answer PlaceStepped). message_result y e p) step in
      let f = t.envelope ∙ ap (λ (y : Answer PlaceStepped). envelope_after y e p) step in
      let g = t.place ∙ ap (λ (y : Answer PlaceStepped). place_after (writer_at config e d) y e p) step in
      λ i. record { result = r i; envelope = f i; place = g i }

  module _ (zs : List ℕ) (t : Tiles m.payload sizes d zs) (limit : length d ≤ 65535) where
    abbrev start : ℕ → ℕ
    start k = m.payload.first + before zs k

    abbrev found : ℕ → MessagePlace
    found k = record { index = k; offset = start k; length = get_or zs k 0 }

    -- one call
    one : (k : ℕ) (e p : List ℕ) (a : MessageCall) → k < length zs → Stands k (start k) e → PLACE_SIZE ≤ length p → NextMessage d config e p a
        → MessageTold d config m k p a × Stands (k + 1) (start (k + 1)) a.envelope
    one k e p a l w lp y =
        let x : PlaceStepped = record { place = found k; cursor = cursor (k + 1) (start (suc k)) } in
        let step : message_step config e d ≡ got x (start (suc k)) = stepped k (start k) e w ∙ rw (tile t k l) refl in
        let made = message_made (writer_at config e d) x (start (suc k)) e p w.long lp in
        let after : a.envelope ≡ messages_laid x.cursor e = y.envelope ∙ ap (λ (z : Answer PlaceStepped). envelope_after z e p) step ∙ made.1 in
        let within = before_all zs (suc k) in
        let index-fits : k + 1 < 256 ^ 8 = omega (arith, t.many) in
        let at-fits : start (suc k) < 256 ^ 8 = omega (arith, t.whole) in
        let moved : messages_in a.envelope ≡ cursor (k + 1) (start (suc k)) = ap messages_in after ∙ messages_moved x.cursor e w.long index-fits at-fits in
        let told : MessageTold d config m k p a = record {
          place = found k;
          end = start (suc k);
          looked_up = rw (q, tiled t k (omega arith)) (tile t k l);
          result = y.result ∙ ap (λ (z : Answer PlaceStepped). message_result z e p) step ∙ made.0;
          filled =
              y.place ∙ ap (λ (z : Answer PlaceStepped). place_after (writer_at config e d) z e p) step ∙ made.2
              ∙ ap (λ (i : Option ℕ). laid p 0 (number_bytes (place_numbers (found k) i))) (writer_told k (start k) k e w);
          cursor = moved;
        } in
        let next : start (suc k) ≡ start (k + 1) = ap start (sym (add-one k)) in
        let stays = envelope_stays x.cursor e w.long in
        let stands : Stands (k + 1) (start (k + 1)) a.envelope = record {
          long = omega (arith, w.long, ap (λ (z : List ℕ). length z) after, messages_length x.cursor e);
          header = ap payload_header_in after ∙ header_stays x.cursor e w.long ∙ w.header;
          header_end = ap payload_header_end after ∙ header_end_stays x.cursor e w.long ∙ w.header_end;
          payload = ap payload_in after ∙ payload_stays x.cursor e w.long ∙ w.payload;
          messages = moved ∙ ap (cursor (k + 1)) next;
          envelope = ap envelope_in after ∙ stays.0 ∙ w.envelope;
          fitting = ap envelope_fits after ∙ stays.1 ∙ w.fitting;
        } in
        (told, stands)

    -- any calls, the first of them call k: what they tell, and where the last envelope record stands
    all : (ps : List (List ℕ)) (ys : List MessageCall) (k : ℕ) (e : List ℕ) → AllLong PLACE_SIZE ps → k + length ps ≤ length zs → Stands k (start k) e
        → MessageCalls d config ps e ys → MessagesTold d config m k ps ys × Stands (k + length ps) (start (k + length ps)) (last_envelope e ys)
    all [] [] k e long l w y = (tt, subst (λ (j : ℕ). Stands j (start j) e) (sym (add-zero k)) w)
    all [] (a ∷ ys) k e long l w y = absurd y
    all (p ∷ ps) [] k e long l w y = absurd y
    all (p ∷ ps) (a ∷ ys) k e long l w y =
        let o = one k e p a (omega arith) w long.0 y.0 in
        let r = all ps ys (k + 1) a.envelope long.1 (omega arith) o.1 y.1 in
        let j : k + 1 + length ps ≡ k + suc (length ps) = omega arith in
        ((o.0, r.0), subst (λ (i : ℕ). Stands i (start i) (last_envelope a.envelope ys)) j r.1)

  -- of messages that tile the payload, and of none
  by_calls : (e : List ℕ) → Stands 0 m.payload.first e → length d ≤ 65535 → Messages m.payload sizes d → MessagesByCalls d config m e
  by_calls e w limit (some zs t) =
      let begins : Stands 0 (start zs t limit 0) e = subst (λ (i : ℕ). Stands 0 i e) (sym (add-zero m.payload.first)) w in
      record {
        told = λ ps ys long k y. (all zs t limit ps ys 0 e long (omega (arith, t.many)) begins y).0;
        ended = λ ps ys long k y p a v.
            let r = (all zs t limit ps ys 0 e long (omega (arith, t.many)) begins y).1 in
            let j : 0 + length ps ≡ m.payload.count = omega arith in
            after_last (start zs t limit (0 + length ps)) (last_envelope e ys) p a (subst (λ (i : ℕ). Stands i (start zs t limit (0 + length ps)) (last_envelope e ys)) j r) v;
      }
  by_calls e w limit (none z) = record { told = none_told; ended = none_ended }
    where
      none_told : (ps : List (List ℕ)) (ys : List MessageCall) → AllLong PLACE_SIZE ps → length ps ≤ m.payload.count → MessageCalls d config ps e ys → MessagesTold d config m 0 ps ys
      none_told [] [] long k y = tt
      none_told [] (a ∷ ys) long k y = absurd y
      none_told (p ∷ ps) ys long k y = absurd (omega arith)

      none_ended : (ps : List (List ℕ)) (ys : List MessageCall) → AllLong PLACE_SIZE ps → length ps ≡ m.payload.count → MessageCalls d config ps e ys → (p : List ℕ) (a : MessageCall)
          → NextMessage d config (last_envelope e ys) p a → a ≡ message_call (result_of 10 0) (last_envelope e ys) p
      none_ended [] [] long k y p a v = after_last m.payload.first e p a (subst (λ (i : ℕ). Stands i m.payload.first e) (sym z) w) v
      none_ended [] (b ∷ ys) long k y p a v = absurd y
      none_ended (r ∷ ps) ys long k y p a v = absurd (omega arith)

  -- what is read in the record after any of the calls
  still : (e : List ℕ) → Stands 0 m.payload.first e → length d ≤ 65535 → Messages m.payload sizes d → (ps : List (List ℕ)) (ys : List MessageCall) → AllLong PLACE_SIZE ps
      → length ps ≤ m.payload.count → MessageCalls d config ps e ys
      → (envelope_in (last_envelope e ys) ≡ m.envelope) × (envelope_fits (last_envelope e ys) ≡ count_fits m.envelope.payload_header)
  still e w limit g [] [] long k y = (w.envelope, w.fitting)
  still e w limit g [] (a ∷ ys) long k y = absurd y
  still e w limit g (p ∷ ps) [] long k y = absurd y
  still e w limit (some zs t) (p ∷ ps) (a ∷ ys) long k y =
      let begins : Stands 0 (start zs t limit 0) e = subst (λ (i : ℕ). Stands 0 i e) (sym (add-zero m.payload.first)) w in
      let z = (all zs t limit (p ∷ ps) (a ∷ ys) 0 e long (omega (arith, t.many)) begins y).1 in
      (z.envelope, z.fitting)
  still e w limit (none z) (p ∷ ps) (a ∷ ys) long k y = absurd (omega arith)

-- the envelope record that reading filled
envelope_read_back : (d config : List ℕ) (m : NetworkMessage) (n : ℕ) (entry : List ℕ) (r : ℕ) (envelope : List ℕ) → network_message_at (sizes_in config) d ≡ got m n
    → ENVELOPE_SIZE ≤ length entry → EnvelopeRead d config entry r envelope → (ENVELOPE_SIZE ≤ length envelope) × EnvelopeBack envelope m
envelope_read_back d config m n entry r envelope q l w =
    let f : envelope ≡ laid entry 0 (number_bytes (envelope_numbers m)) = rw q at w.filled in
    let b : ENVELOPE_SIZE ≤ length entry → EnvelopeBack envelope m = rw q at w.reads in
    (omega (arith, ap (λ (y : List ℕ). length y) f, laid_length entry 0 (number_bytes (envelope_numbers m))), b l)

module _ (d config : List ℕ) (m : NetworkMessage) (n : ℕ) (entry : List ℕ) (r : ℕ) (envelope : List ℕ) (q : network_message_at (sizes_in config) d ≡ got m n)
    (l : ENVELOPE_SIZE ≤ length entry) (w : EnvelopeRead d config entry r envelope) where
  back : (ENVELOPE_SIZE ≤ length envelope) × EnvelopeBack envelope m
  back = envelope_read_back d config m n entry r envelope q l w

  begins : Stands d config m n q back.1.fits.count 0 m.payload.first envelope
  begins =
      let b = back.1 in
      record { long = back.0; header = b.header; header_end = b.header_end; payload = b.payload; messages = b.messages; envelope = b.envelope; fitting = b.fitting }

  -- THE MESSAGES OF A DATAGRAM, BY CALLS, from the envelope record that `uadp_read` filled
  pub messages_by_calls : MessagesByCalls d config m envelope
  messages_by_calls =
      let g = accepted (sizes_in config) d m n q in
      by_calls d config m n q back.1.fits.count envelope begins g.limit g.messages

  -- and the envelope that is read in it afterwards
  pub envelope_kept : (ps : List (List ℕ)) (ys : List MessageCall) → AllLong PLACE_SIZE ps → length ps ≤ m.payload.count → MessageCalls d config ps envelope ys
      → (envelope_in (last_envelope envelope ys) ≡ m.envelope) × (envelope_fits (last_envelope envelope ys) ≡ count_fits m.envelope.payload_header)
  envelope_kept ps ys long k y =
      let g = accepted (sizes_in config) d m n q in
      still d config m n q back.1.fits.count envelope begins g.limit g.messages ps ys long k y
