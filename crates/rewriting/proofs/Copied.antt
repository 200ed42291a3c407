-- What was read and is copied whole, with its picoseconds stored, is what the writers' own rewriting makes of it.
-- Assumes nothing.
use Rattle.wire.specs.declared.refusal.Reason.{Reason}
use Rattle.std.specs.Result.{MatchResult}
use Rattle.std.specs.Prelude.{Option, Some, None, is_some, Result, Ok, Err}
use mathlib.Core.Path.{◌≡◌, refl, ap, sym, subst, ◌∙◌}
use mathlib.Core.Bool.{Bool, true, false, cond}
use mathlib.Core.List.{List, [], ◌∷◌, ◌++◌}
use Prim.Native.Nat.{ℕ, suc, ◌+◌, ◌≤◌, ◌<◌}
use native.Mathlib.Omega.{arith}
use lib.Dec.{eqb}
use lib.ListN.{length, drop, set, length-set, length-append}
use lib.Seq.{sets, length-sets, set-append_left}
use Rattle.wire.specs.Answer.{Answer, got, refused}
use Rattle.wire_writer.specs.Fits.{Bytes}
use Rattle.wire.specs.Number.{le_bytes}
use Rattle.wire.proofs.Reading.{not_got}
use Rattle.wire_writer.specs.Writing.{room_refusal, Output, writing, after_reading, answer_written, Writes, Puts, optional16_bytes, picoseconds_held}
use Rattle.wire_writer.proofs.Answering.{reading_accepts}
use Rattle.wire_writer.proofs.Back.{two_bytes}
use Rattle.publisher_id.specs.Publisher.{publisher_on}
use Rattle.network_message.specs.Envelope.{NetworkMessage, network_message_at}
use Rattle.network_message.specs.Writer.{again_of, datagram_again}
use Rattle.network_header.specs.Envelope as envelope
use Rattle.round_trip.proofs.NetworkMessageShort.{accepted_short}
use Rattle.dataset_header.specs.Flags.{valid}
use Rattle.dataset_header.specs.Header.{message_picoseconds_place, message_held}
use Rattle.dataset_header.proofs.HeaderTrip.{header_back}
use Rattle.dataset_message.specs.Message.{Message, message_at}
use Rattle.dataset_message.proofs.Agreement.{header_of}
use Rattle.dataset_message.specs.Rewrite.{where_valid}
use Rattle.round_trip.specs.NetworkMessage.{rewritten}
use Rattle.rewriting.specs.Same.{message_same, datagram_same}
use Rattle.round_trip.proofs.NetworkMessageRewritten as datagram

-- bytes stored in the front of a buffer
sets_left : (b s r : List ℕ) (i : ℕ) → i + length b ≤ length s → sets (s ++ r) i b ≡ sets s i b ++ r
sets_left [] s r i h = refl
sets_left (a ∷ b) s r i h =
    let k : i < length s = omega arith in
    let l : suc i + length b ≤ length (set s i a) = rw length-set (omega arith) in
    rw (set-append_left s r i a k) (sets_left b (set s i a) r (suc i) l)

-- A slice that was copied, and then bytes put over it where it was: what is written is the slice with those bytes stored in it.
module _ (s b entry mid : List ℕ) (at : ℕ) (r : Result ℕ Reason) (w : Writes (writing s) entry mid r) where
  as_long : length (sets s at b) ≡ length s
  as_long = length-sets s at b

  writes : (exit : List ℕ) → exit ≡ cond (eqb (room_refusal (length s) (length entry)) 0) (sets s at b ++ drop (length s) entry) entry → Writes (writing (sets s at b)) entry exit r
  writes exit e =
      record {
        answer = w.answer
            ∙ ap (λ (n : ℕ). cond (eqb (room_refusal n (length entry)) 0) (got tt n) (refused (room_refusal n (length entry)) 0)) (sym as_long);
        buffer = e ∙ ap (λ (n : ℕ). cond (eqb (room_refusal n (length entry)) 0) (sets s at b ++ drop n entry) entry) (sym as_long);
      }

  pub copy_refused : (reason : Reason) → r ≡ Err reason → Writes (writing (sets s at b)) entry mid r
  copy_refused reason e = go (eqb (room_refusal (length s) (length entry)) 0) refl
    where
      go : (t : Bool) → eqb (room_refusal (length s) (length entry)) 0 ≡ t → Writes (writing (sets s at b)) entry mid r
      go true t =
          let a : answer_written r ≡ got tt (length s) = w.answer ∙ rw t in
          absurd (not_got (sym (ap answer_written e) ∙ a))
      go false t = writes mid (rw t (rw t at w.buffer))

  pub copied_over : (n next : ℕ) (exit : List ℕ) → r ≡ Ok n → at + length b ≤ length s → Puts b mid at exit next → Writes (writing (sets s at b)) entry exit r
  copied_over n next exit e inside q = go (eqb (room_refusal (length s) (length entry)) 0) refl
    where
      go : (t : Bool) → eqb (room_refusal (length s) (length entry)) 0 ≡ t → Writes (writing (sets s at b)) entry exit r
      go true t =
          let m : mid ≡ s ++ drop (length s) entry = rw t at w.buffer in
          let room : at + length b ≤ length mid = omega (arith, ap length m, length-append s (drop (length s) entry)) in
          writes exit (rw t (q.stored room ∙ ap (λ (y : List ℕ). sets y at b) m ∙ sets_left b s (drop (length s) entry) at inside))
      go false t =
          let a : answer_written r ≡ refused (room_refusal (length s) (length entry)) 0 = w.answer ∙ rw t in
          absurd (not_got (sym a ∙ ap answer_written e))

-- what `copy_with` promises
abbrev pub CopiedWith : List ℕ → ℕ → ℕ → List ℕ → List ℕ → Result ℕ Reason → Type 0
CopiedWith s at v entry exit r = at + 2 ≤ length s → Writes (writing (sets s at (le_bytes 2 v))) entry exit r

-- Bytes whose picoseconds are held by storing them: copied as they stand where there are none, and else copied with them.
held_copied : (x : Option ℕ) (place : ℕ) (s entry exit : List ℕ) (r : Result ℕ Reason) → x ≡ None → Writes (writing s) entry exit r → Writes (writing (picoseconds_held x place s)) entry exit r
held_copied x place s entry exit r e w = subst (λ (o : Option ℕ). Writes (writing (picoseconds_held o place s)) entry exit r) (sym e) w

held_with : (x : Option ℕ) (place at v : ℕ) (s entry exit : List ℕ) (r : Result ℕ Reason) → sets s place (optional16_bytes x) ≡ picoseconds_held x place s → (is_some x ≡ true → place + 2 ≤ length s)
    → x ≡ Some v → at ≡ place → CopiedWith s at v entry exit r → Writes (writing (picoseconds_held x place s)) entry exit r
held_with x place at v s entry exit r stored room e a w =
    let c : CopiedWith s place v entry exit r = subst (λ (k : ℕ). CopiedWith s k v entry exit r) a w in
    subst (λ (y : List ℕ). Writes (writing y) entry exit r) (ap (λ (o : Option ℕ). sets s place (optional16_bytes o)) (sym e) ∙ stored) (c (room (ap is_some e)))

-- an accepted message, copied, and copied with its picoseconds
module _ (types s entry exit : List ℕ) (r : Result ℕ Reason) (m : Message) (e : ℕ) (q : message_at types s ≡ got (valid m) e) where
  held : Writes (writing (message_held m.header s)) entry exit r → Writes (message_same types s) entry exit r
  held w = reading_accepts (where_valid (λ m. message_held m.header s)) q w

  pub message_copied : m.header.picoseconds ≡ None → Writes (writing s) entry exit r → Writes (message_same types s) entry exit r
  message_copied h w = held (held_copied m.header.picoseconds (message_picoseconds_place m.header) s entry exit r h w)

  pub message_with_lem : Bytes s → (at v : ℕ) → m.header.picoseconds ≡ Some v → at ≡ message_picoseconds_place m.header → CopiedWith s at v entry exit r
      → Writes (message_same types s) entry exit r
  message_with_lem b at v h a w =
      let p = header_of types s m e q in
      let k = header_back s m.header p.0 b p.1 in
      held (held_with m.header.picoseconds (message_picoseconds_place m.header) at v s entry exit r k.stored k.room h a w)

-- where the PicoSeconds of an accepted datagram stand
pub place_fits : (sizes s : List ℕ) (m : NetworkMessage) (next : ℕ) → Bytes s → network_message_at sizes s ≡ got m next → envelope.picoseconds_place m.envelope m.places ≤ 65535
place_fits sizes s m next b q = omega (arith, (datagram.picoseconds_stored sizes s m next b q).1, accepted_short sizes s m next q)

-- an accepted datagram with a PublisherId, copied, and copied with its PicoSeconds
module _ (sizes s entry exit : List ℕ) (r : Result ℕ Reason) (m : NetworkMessage) (next : ℕ) (b : Bytes s)
    (q : network_message_at sizes s ≡ got m next) (on : publisher_on m.envelope.publisher ≡ true) where
  datagram_held : Writes (writing (envelope.envelope_held m.envelope m.places s)) entry exit r → Writes (datagram_same sizes s) entry exit r
  datagram_held w =
      reading_accepts (λ m. writing (rewritten m s)) q (subst (λ (l : List ℕ). Writes (writing l) entry exit r) (sym (datagram.same_with_publisher sizes s m next b q on)) w)

  pub datagram_copied : m.envelope.picoseconds ≡ None → Writes (writing s) entry exit r → Writes (datagram_same sizes s) entry exit r
  datagram_copied h w = datagram_held (held_copied m.envelope.picoseconds (envelope.picoseconds_place m.envelope m.places) s entry exit r h w)

  pub datagram_with : (at v : ℕ) → m.envelope.picoseconds ≡ Some v → at ≡ envelope.picoseconds_place m.envelope m.places → CopiedWith s at v entry exit r
      → Writes (datagram_same sizes s) entry exit r
  datagram_with at v h a w =
      let x = m.envelope in
      let place = envelope.picoseconds_place x m.places in
      let p = datagram.picoseconds_stored sizes s m next b q in
      let room : is_some x.picoseconds ≡ true → place + 2 ≤ length s = λ e. omega (arith, p.1, two_bytes x.picoseconds e) in
      datagram_held (held_with x.picoseconds place at v s entry exit r p.0 room h a w)

-- a value that passed `map_err` was one
pub was_ok : {T E : Type 0} (r : Result T E) {y : T} → MatchResult r (λ x. ◌≡◌ {A = Result T Reason} (Ok y) (Ok x)) (λ e. ⊥) → r ≡ Ok y
was_ok (Ok x) e = ap Ok (sym (same e))
  where
    same : {T : Type 0} {y x : T} → ◌≡◌ {A = Result T Reason} (Ok y) (Ok x) → y ≡ x
    same e = cc
was_ok (Err e) m = absurd m

-- what the writer's own rewriting writes, in the bytes that were read
pub datagram_said : (sizes s entry exit : List ℕ) (r : Result ℕ Reason) → Bytes s → Writes (datagram_again sizes s) entry exit r → Writes (datagram_same sizes s) entry exit r
datagram_said sizes s entry exit r b w = subst (λ (o : Output). Writes o entry exit r) (go (network_message_at sizes s) refl) w
  where
    go : (a : Answer NetworkMessage) → network_message_at sizes s ≡ a
        → after_reading a (λ m. writing (again_of s m.envelope m.places)) ≡ after_reading a (λ m. writing (rewritten m s))
    go (got m next) q = ap writing (datagram.rewrite_read sizes s m next b q)
    go (refused n place) q = refl
