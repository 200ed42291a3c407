-- A whole listing in one pass: the fields of a message one after the other, its lines by what reading it answered, and the messages.
-- Assumes nothing.
use Rattle.std.specs.Prelude.{Option, Some, None, Result, Ok, Err}
use Prim.Native.Nat.{ℕ, zero, suc, ◌+◌, ◌*◌, ◌-◌, ◌/◌, ◌≤◌, ◌<◌}
use mathlib.Core.Path.{◌≡◌, refl, ap, sym, subst, ◌∙◌}
use mathlib.Core.Bool.{Bool, true, false, cond}
use mathlib.Core.List.{List, [], ◌∷◌, ◌++◌, append_assoc, append-nil}
use native.Mathlib.Omega.{arith}
use borrow.Author.Tests.{le-ltb, lt-leb, ltb-true}
use lib.Dec.{leb, ltb}
use lib.ListN.{length, take, drop, length-append, length-take, length-drop}
use lib.Seq.{sets, length-sets}
use Rattle.wire_writer.specs.Store.{Stored}
use Rattle.wire.specs.declared.refusal.Reason.{Reason}
use Rattle.wire_writer.proofs.Stores.{sets_append}
use Rattle.wire.specs.Answer.{Answer, got, refused, and_then}
use Rattle.wire.specs.Refusal.{answer_to, reason_number}
use Rattle.wire.specs.declared.refusal.Refusal.{Refusal}
use Rattle.wire.proofs.Reading.{got_value, not_got, invert}
use Rattle.config.specs.Writers.{types_by}
use Rattle.network_message.specs.Payload.{PlaceStepped, place_step_at, place_of_message}
use Rattle.network_message.specs.declared.payload.MessagePlace.{MessagePlace}
use Rattle.network_message.specs.declared.payload.MessageCursor.{MessageCursor}
use Rattle.network_message.proofs.Messages.{message_counted}
use Rattle.dataset_header.specs.Flags.{Valid, not_valid, valid}
use Rattle.dataset_header.specs.declared.header.Header.{Header}
use Rattle.dataset_fields.specs.Fields.{field_at, fields_at, padding_at, FieldStepped, next_field_at, cursor_before}
use Rattle.dataset_fields.specs.declared.fields.Field.{Field}
use Rattle.dataset_fields.specs.declared.fields.Cursor.{Cursor}
use Rattle.dataset_fields.proofs.Inside.{field_inside}
use Rattle.dataset_message.specs.Message.{Message, end_at, message_at, front_at}
use Rattle.dataset_message.proofs.Fronts.{front_decides}
use Rattle.walk.specs.Lines.{Writers, in_datagram, fields_left, messages_left, first_message, writer_at, types_at, bytes_at, place_at, net_line, field_lines, set_lines, message_lines, accepted_lines}
use Rattle.walk.specs.declared.entry.Line.{Line}
use Rattle.walk.specs.declared.entry.SetPlace.{SetPlace}
use Rattle.walk.specs.declared.lines.Listed.{Listed}
use Rattle.publisher_id.specs.declared.publisher.PublisherId.{PublisherId}
use Rattle.listing.specs.Columns.{tabbed, line_end, optional_text, Put}
use Rattle.listing.specs.Line.{id_too_long, place_text, head_text, net_text, field_text, line_text}
use Rattle.listing.specs.Text.{line_out, lines_text, text_written, text_after}
use Rattle.listing.specs.Quick.{set_place_of, text_from, fields_text, set_text, text_left, LinesPut, OnePut, message_verdict, answer_judged, rest_accepted, field_count, most_from, most_left, most_lines}
use Rattle.listing.proofs.Putting.{put_all, then, fewer}
use Rattle.listing.proofs.Texts.{first_part}

-- ---- the fields
module _ (types s : List ℕ) where
  abbrev field_of : Cursor → Answer Field
  field_of c = field_at c.delta c.encoding types c.next s c.at

  -- a step is the field's reading, where fields are left
  step_got : (c : Cursor) (f : Field) (e : ℕ) → c.next < c.count → field_of c ≡ got f e
      → next_field_at c types s ≡ got (record { field = f; cursor = cursor_before c (c.next + 1) e }) e
  step_got c f e h q =
      let i = field_inside c.delta c.encoding types c.next s c.at f e q in
      let l : c.at ≤ length s = i.starts in
      rw (le-ltb (length s) c.at l, lt-leb c.count c.next h, q)

  module _ (p : MessagePlace) where
    text_more : (c : Cursor) (f : Field) (e : ℕ) → c.next < c.count → field_of c ≡ got f e
        → fields_text types s p c ≡ field_text p.index (in_datagram p f) ++ fields_text types s p (cursor_before c (c.next + 1) e)
    unfolding text_from
    text_more c f e h q =
        let z : fields_left c ≡ suc (c.count - (c.next + 1)) = omega arith in
        rw (z, step_got c f e h q)

    text_none : (c : Cursor) (n place : ℕ) → field_of c ≡ refused n place → fields_text types s p c ≡ []
    unfolding text_from
    text_none c n place q = go (fields_left c) (ltb (length s) c.at) refl (leb c.count c.next) refl
      where
        go : (k : ℕ) (a : Bool) → ltb (length s) c.at ≡ a → (b : Bool) → leb c.count c.next ≡ b → text_from types s p k c ≡ []
        go zero a t b u = refl
        go (suc k) true t b u = rw t
        go (suc k) false t true u = rw (t, u)
        go (suc k) false t false u = rw (t, u, q)

    text_end : (c : Cursor) → c.count ≤ c.next → fields_text types s p c ≡ []
    unfolding text_from
    text_end c h = let z : fields_left c ≡ 0 = omega arith in rw z

  reads_more : (c : Cursor) (i at : ℕ) {f : Field} {e : ℕ} → i < c.count → field_at c.delta c.encoding types i s at ≡ got f e
      → fields_at c.delta c.encoding types (c.count - i) i s at ≡ fields_at c.delta c.encoding types (c.count - (i + 1)) (i + 1) s e
  unfolding fields_at
  reads_more c i at l g = let z : c.count - i ≡ suc (c.count - (i + 1)) = omega arith in rw (z, g)

  reads_none : (c : Cursor) (i at : ℕ) {n place : ℕ} → i < c.count → field_at c.delta c.encoding types i s at ≡ refused n place
      → fields_at c.delta c.encoding types (c.count - i) i s at ≡ refused n place
  unfolding fields_at
  reads_none c i at l g = let z : c.count - i ≡ suc (c.count - (i + 1)) = omega arith in rw (z, g)

  reads_end : (c : Cursor) → c.count ≤ c.next → fields_at c.delta c.encoding types (fields_left c) c.next s c.at ≡ got tt c.at
  unfolding fields_at
  reads_end c h = let z : fields_left c ≡ 0 = omega arith in rw z

-- ---- the loop over the fields from the cursor c on, before field i at a byte: the text so far, which ends at `end`, and what is left
pub record Telling (types s : List ℕ) (p : MessagePlace) (c : Cursor) (first : ℕ) (entry out : List ℕ) (at i end : ℕ) : Type 0 where
  pub text : List ℕ
  pub stored : out ≡ sets entry first text
  pub after : end ≡ first + length text
  pub within : end ≤ length entry
  pub whole : fields_text types s p c ≡ text ++ fields_text types s p (cursor_before c i at)
  pub reading : fields_at c.delta c.encoding types (fields_left c) c.next s c.at ≡ fields_at c.delta c.encoding types (c.count - i) i s at
  pub near : end + 256 * (c.count - i) ≤ first + 256 * fields_left c

module _ (types s : List ℕ) (p : MessagePlace) (c : Cursor) (first : ℕ) (entry : List ℕ) where
  pub told_none : first ≤ length entry → Telling types s p c first entry entry c.at c.next first
  told_none h =
      record { text = []; stored = refl; after = omega arith; within = h; whole = refl; reading = refl; near = omega arith }

  module _ (out : List ℕ) (at i end : ℕ) (g : Telling types s p c first entry out at i end) where
    pub same : length out ≡ length entry
    same = ap length g.stored ∙ length-sets entry first g.text

    -- no room for another line, or no field is left
    pub told_some : (length entry < end + 256) → LinesPut types s p c first (end, Ok (cursor_before c i at)) entry out
    told_some h =
        record {
          text = g.text;
          stored = g.stored;
          after = g.after;
          within = g.within;
          whole = g.whole;
          reading = g.reading;
          near = g.near;
          all = λ k. absurd (omega arith);
        }

    pub told_all : c.count ≤ i → LinesPut types s p c first (end, Ok (cursor_before c c.count at)) entry out
    told_all h =
        let none = text_end types s p (cursor_before c i at) h ∙ sym (text_end types s p (cursor_before c c.count at) (omega arith)) in
        record {
          text = g.text;
          stored = g.stored;
          after = g.after;
          within = g.within;
          whole = g.whole ∙ ap (λ (t : List ℕ). g.text ++ t) none;
          reading = g.reading ∙ reads_end types s (cursor_before c i at) h ∙ sym (reads_end types s (cursor_before c c.count at) (omega arith));
          near = omega (arith, g.near);
          all = λ k. text_end types s p (cursor_before c c.count at) (omega arith);
        }

    pub told_refused : (r : Refusal) → i < c.count → field_at c.delta c.encoding types i s at ≡ refused (reason_number r.reason) r.place
        → LinesPut types s p c first (end, Err r) entry out
    told_refused r l q =
        record {
          text = g.text;
          stored = g.stored;
          after = g.after;
          within = g.within;
          whole = g.whole ∙ ap (λ (t : List ℕ). g.text ++ t) (text_none types s p (cursor_before c i at) (reason_number r.reason) r.place q);
          reading = g.reading ∙ reads_none types s c i at l q;
          near = omega (arith, g.near);
          all = λ k. refl;
        }

    module _ {f : Field} {e : ℕ} (l : i < c.count) (q : field_at c.delta c.encoding types i s at ≡ got f e) where
      pub told_more : (exit : List ℕ) (next : ℕ) → end + 256 ≤ length out → Put 256 (field_text p.index (in_datagram p f)) out end exit next
          → Telling types s p c first entry exit e (i + 1) next
      told_more exit next room u =
          let line = field_text p.index (in_datagram p f) in
          let rest = fields_text types s p (cursor_before c (i + 1) e) in
          record {
            text = g.text ++ line;
            stored =
                u.stored ∙ ap (λ (x : List ℕ). sets x end line) g.stored ∙ ap (λ (k : ℕ). sets (sets entry first g.text) k line) g.after
                ∙ sets_append g.text line entry first;
            after = omega (arith, u.after, g.after, length-append g.text line);
            within = omega (arith, u.near, same);
            whole =
                g.whole ∙ ap (λ (t : List ℕ). g.text ++ t) (text_more types s p (cursor_before c i at) f e l q)
                ∙ sym (append_assoc g.text line rest);
            reading = g.reading ∙ reads_more types s c i at l q;
            near = omega (arith, g.near, u.near);
          }

      -- the field's offset in the datagram is a number of 8 bytes
      pub offset_fits : p.offset + length s ≤ 18446744073709551615 → p.offset + f.offset ≤ 18446744073709551615
      offset_fits b =
          let j = field_inside c.delta c.encoding types i s at f e q in
          omega (arith, j.ends, j.value)

-- what is ensured of an answer, at the constructor that it turned out to be
pub lines_told : {types s : List ℕ} {p : MessagePlace} {c : Cursor} {first : ℕ} {entry exit : List ℕ} {x y : ℕ × Result Cursor Refusal}
    → LinesPut types s p c first x entry exit → x ≡ y → LinesPut types s p c first y entry exit
lines_told {types} {s} {p} {c} {first} {entry} {exit} f q = subst (λ (r : ℕ × Result Cursor Refusal). LinesPut types s p c first r entry exit) q f

-- where there is room for each line, all are put
nothing_left : (types s : List ℕ) (p : MessagePlace) (c : Cursor) (first : ℕ) (entry exit : List ℕ) (end : ℕ) (r : Result Cursor Refusal)
    → LinesPut types s p c first (end, r) entry exit → first + 256 * fields_left c ≤ length entry → text_left types s p r ≡ []
nothing_left types s p c first entry exit end (Err r) f h = refl
nothing_left types s p c first entry exit end (Ok a) f h = go (fields_left a) refl
  where
    go : (k : ℕ) → fields_left a ≡ k → fields_text types s p a ≡ []
    go zero e = text_end types s p a (omega arith)
    go (suc k) e = f.all (omega (arith, f.near))

all_lines : (types s : List ℕ) (p : MessagePlace) (c : Cursor) (first : ℕ) (entry exit : List ℕ) (r : ℕ × Result Cursor Refusal)
    → LinesPut types s p c first r entry exit → first + 256 * fields_left c ≤ length entry
    → Put (256 * fields_left c) (fields_text types s p c) entry first exit r.0
all_lines types s p c first entry exit r f h =
    let z : fields_text types s p c ≡ f.text =
    f.whole ∙ ap (λ (t : List ℕ). f.text ++ t) (nothing_left types s p c first entry exit r.0 r.1 f h) ∙ append-nil f.text in
    rw z (record { stored = f.stored; after = f.after; near = omega (arith, f.near) })

-- ---- an accepted message's own line, the lines that were told, and those of the fields that are left
module _ (told l : List ℕ) {m n head : List ℕ} {at first next : ℕ} where
  told_put : (k : ℕ) → at + 256 + length told + 256 * k ≤ length l → Put 256 head l at m first → Stored told m first n next
      → (Put (length told) told m first n next) × (length n ≡ length l)
  told_put k h a b =
      let s : length m ≡ length l = ap length a.stored ∙ length-sets l at head in
      let p : Put (length told) told m first n next = put_all (length told) told m n first next (omega arith) (omega (arith, a.near, s)) b in
      (p, ap length p.stored ∙ length-sets m first told ∙ s)

  pub set_room : (k : ℕ) → at + 256 + length told + 256 * k ≤ length l → Put 256 head l at m first → Stored told m first n next → next ≤ length n
  set_room k h a b = let q = told_put k h a b in omega (arith, a.near, q.0.near, q.1)

pub set_then : (types s : List ℕ) (p : MessagePlace) (c : Cursor) (told l : List ℕ) {m n e head : List ℕ} {at first next : ℕ} (r : ℕ × Result Cursor Refusal)
    → at + 256 + length told + 256 * fields_left c ≤ length l → Put 256 head l at m first → Stored told m first n next → LinesPut types s p c next r n e
    → Put (256 + length told + 256 * fields_left c) (head ++ (told ++ fields_text types s p c)) l at e r.0
set_then types s p c told l {m} {n} {e} {head} {at} {first} {next} r h a b f =
    let q = told_put told l (fields_left c) h a b in
    fewer (omega arith) (then a (then q.0 (all_lines types s p c next n e r f (omega (arith, a.near, q.0.near, q.1)))))

-- no field is left
pub set_only : (types s : List ℕ) (p : MessagePlace) (c : Cursor) (told l : List ℕ) {m n head : List ℕ} {at first next : ℕ} → c.count ≤ c.next
    → at + 256 + length told + 256 * fields_left c ≤ length l → Put 256 head l at m first → Stored told m first n next
    → Put (256 + length told + 256 * fields_left c) (head ++ (told ++ fields_text types s p c)) l at n next
set_only types s p c told l k h a b =
    let q = told_put told l (fields_left c) h a b in
    let t : told ++ fields_text types s p c ≡ told = ap (λ (x : List ℕ). told ++ x) (text_end types s p c k) ∙ append-nil told in
    rw t (fewer (omega arith) (then a q.0))

-- ---- whether a message is accepted
-- no field is left: its padding decides
pub judged_end : (types s : List ℕ) (c : Cursor) (r : Result ℕ Refusal) (j : Result (Unit {0}) Refusal) (x : Answer (Unit {0})) → c.count ≤ c.next
    → answer_to (tt {0}) r ≡ padding_at s c.at → x ≡ rest_accepted types s c → answer_judged j ≡ message_verdict (answer_to (tt {0}) r) → answer_judged j ≡ x
judged_end types s c r j x h q e k =
    k ∙ ap message_verdict q ∙ sym (e ∙ ap (λ (a : Answer (Unit {0})). and_then a (λ _ end. message_verdict (padding_at s end))) (reads_end types s c h))

module _ (types s : List ℕ) (h : Header) (c : Cursor) (start : c.next ≡ 0) where
  from_start : fields_at c.delta c.encoding types (fields_left c) c.next s c.at ≡ fields_at c.delta c.encoding types c.count 0 s c.at
  from_start = let z : fields_left c ≡ c.count = omega arith in rw (z, start)

  ends_accepted : message_verdict (end_at h c types s) ≡ rest_accepted types s c
  ends_accepted = go (fields_at c.delta c.encoding types c.count 0 s c.at) ∙ sym (ap (λ (a : Answer (Unit {0})). and_then a (λ _ end. message_verdict (padding_at s end))) from_start)
    where
      padded : (end : ℕ) (b : Answer (Unit {0})) → message_verdict {A = Valid Message} (and_then b (λ _ z. got (valid (record { header = h; cursor = c; end = end })) end)) ≡ message_verdict b
      padded end (got u z) = refl
      padded end (refused n place) = refl

      go : (a : Answer (Unit {0}))
          → message_verdict {A = Valid Message} (and_then a (λ _ end. and_then (padding_at s end) (λ _ z. got (valid (record { header = h; cursor = c; end = end })) end)))
          ≡ and_then a (λ _ end. message_verdict (padding_at s end))
      go (got u end) = padded end (padding_at s end)
      go (refused n place) = refl

  module _ (m : message_at types s ≡ end_at h c types s) (p : MessagePlace) (first : ℕ) (entry exit : List ℕ) where
    -- some of its lines were put: what is left decides
    pub rest_decides : (end : ℕ) (a : Cursor) → LinesPut types s p c first (end, Ok a) entry exit
        → message_verdict (message_at types s) ≡ rest_accepted types s a
    rest_decides end a f =
        ap message_verdict m ∙ ends_accepted ∙ ap (λ (x : Answer (Unit {0})). and_then x (λ _ z. message_verdict (padding_at s z))) f.reading

    -- a field was refused
    pub field_decides : (end : ℕ) (r : Refusal) → LinesPut types s p c first (end, Err r) entry exit → message_at types s ≡ refused (reason_number r.reason) r.place
    field_decides end r f =
        m ∙ ap (λ (x : Answer (Unit {0})). and_then x (λ _ z. and_then (padding_at s z) (λ _ y. got (valid (record { header = h; cursor = c; end = z })) z)))
        (sym from_start ∙ f.reading)

  -- the lines of an accepted message
  text_accepted : (p : MessagePlace) (q : SetPlace) → message_at types s ≡ end_at h c types s → got tt 0 ≡ message_verdict (message_at types s)
      → set_text types s p q (message_at types s)
      ≡ (place_text q ++ (head_text h.kind h.encoding ++ (tabbed (optional_text h.sequence) ++ line_end))) ++ fields_text types s p c
  text_accepted p q m e = ap (set_text types s p q) m ∙ go (fields_at c.delta c.encoding types c.count 0 s c.at) (e ∙ ap message_verdict m)
    where
      all : List ℕ
      all = (place_text q ++ (head_text h.kind h.encoding ++ (tabbed (optional_text h.sequence) ++ line_end))) ++ fields_text types s p c

      padded : (end : ℕ) (b : Answer (Unit {0})) → got tt 0 ≡ message_verdict {A = Valid Message} (and_then b (λ _ z. got (valid (record { header = h; cursor = c; end = end })) end))
          → set_text types s p q (and_then b (λ _ z. got (valid (record { header = h; cursor = c; end = end })) end)) ≡ all
      padded end (got u z) k = refl
      padded end (refused n place) k = absurd (not_got (sym k))

      go : (a : Answer (Unit {0}))
          → got tt 0 ≡ message_verdict {A = Valid Message} (and_then a (λ _ end. and_then (padding_at s end) (λ _ z. got (valid (record { header = h; cursor = c; end = end })) end)))
          → set_text types s p q (and_then a (λ _ end. and_then (padding_at s end) (λ _ z. got (valid (record { header = h; cursor = c; end = end })) end))) ≡ all
      go (got u end) k = padded end (padding_at s end) k
      go (refused n place) k = absurd (not_got (sym k))

pub judged_refused : {n place : ℕ} (x : Answer (Valid Message)) → refused n place ≡ message_verdict x → x ≡ refused n place
judged_refused (got v z) q = absurd (not_got q)
judged_refused {n} {place} (refused k l) q = let a : n ≡ k = cc in let b : place ≡ l = cc in rw (a, b)

-- ---- a message's lines put
pub bad_put : {k most at r fault : ℕ} {l e : List ℕ} (types s : List ℕ) (p : MessagePlace) (q : SetPlace) (x : Answer (Valid Message)) → x ≡ refused k fault → 256 ≤ most
    → Put 256 (set_text types s p q (refused k fault)) l at e r → Put most (set_text types s p q x) l at e r
bad_put types s p q x z h u = rw z (fewer h u)

-- of a message whose first lines were put into a buffer of its own
module _ (types s : List ℕ) (p : MessagePlace) (c : Cursor) (start : c.next ≡ 0) (entry exit told : List ℕ) (end : ℕ) (a : Cursor)
    (f : LinesPut types s p c 0 (end, Ok a) entry exit) (k : told ≡ take end (drop 0 exit)) where
  told_is : told ≡ f.text
  told_is =
      let n : end ≡ length f.text = omega (arith, f.after) in
      k ∙ ap (take end) f.stored ∙ ap (λ (j : ℕ). take j (sets entry 0 f.text)) n ∙ first_part f.text entry (omega (arith, f.within))

  pub told_room : 256 + length told + 256 * fields_left a ≤ 256 * (1 + c.count)
  told_room =
      let n = ap length told_is in
      omega (arith, f.after, f.near, n)

  pub accepted_put : {most i r : ℕ} {l e : List ℕ} (h : Header) (q : SetPlace) → message_at types s ≡ end_at h c types s → got tt 0 ≡ message_verdict (message_at types s) → 256 * (1 + c.count) ≤ most
      → Put (256 + length told + 256 * fields_left a)
      ((place_text q ++ (head_text h.kind h.encoding ++ (tabbed (optional_text h.sequence) ++ line_end))) ++ (told ++ fields_text types s p a)) l i e r
      → Put most (set_text types s p q (message_at types s)) l i e r
  accepted_put h q m z w u =
      let t : fields_text types s p c ≡ told ++ fields_text types s p a =
      f.whole ∙ ap (λ (x : List ℕ). x ++ fields_text types s p a) (sym told_is) in
      rw (text_accepted types s h c start p q m z, t) (fewer (omega (arith, told_room)) u)

-- ---- a listing with one message
pub not_put : (t l : List ℕ) → OnePut t None l l
not_put t l = record { stored = refl; after = refl; within = omega arith }

pub both_put : {j k at r : ℕ} {t u m e : List ℕ} (l : List ℕ) → j + k ≤ length l → Put j t l 0 m at → Put k u m at e r → OnePut (t ++ u) (Some r) l e
both_put l h a b = let p = then a b in record { stored = p.stored; after = omega (arith, p.after); within = omega (arith, p.near) }

pub put_long : {k at next : ℕ} {t e : List ℕ} (l : List ℕ) → Put k t l at e next → length e ≡ length l
put_long {k} {at} {next} {t} l u = ap length u.stored ∙ length-sets l at t

pub one_told : {t l e : List ℕ} {x y : Option ℕ} → OnePut t x l e → x ≡ y → OnePut t y l e
one_told {t} {l} {e} f q = subst (λ (r : Option ℕ). OnePut t r l e) q f

pub one_same : {t u l e : List ℕ} {r : Option ℕ} → u ≡ t → OnePut t r l e → OnePut u r l e
one_same {t} {u} {l} {e} {r} q f = subst (λ (x : List ℕ). OnePut x r l e) (sym q) f

-- ---- one message, whose bytes are its own part of the datagram d
module _ (types d bytes : List ℕ) (p : MessagePlace) (w : Option ℕ) (b : bytes ≡ take p.length (drop p.offset d)) where
  abbrev Message-put : ℕ → ℕ → List ℕ → List ℕ → Type 0
  Message-put at r l e =
      Put (256 * (1 + field_count (front_at types (take p.length (drop p.offset d)))))
      (set_text types (take p.length (drop p.offset d)) p (set_place_of p w) (message_at types (take p.length (drop p.offset d)))) l at e r

  pub invalid_message : {at r : ℕ} {l e : List ℕ} → got not_valid 0 ≡ front_at types bytes → Put 256 (set_text types bytes p (set_place_of p w) (got not_valid 0)) l at e r → Message-put at r l e
  invalid_message a u = rw (sym b, front_decides types bytes (got not_valid 0) a, sym a) (fewer (omega arith) u)

  pub refused_message : {at r n place : ℕ} {l e : List ℕ} → refused n place ≡ front_at types bytes → Put 256 (set_text types bytes p (set_place_of p w) (refused n place)) l at e r
      → Message-put at r l e
  refused_message {at} {r} {n} {place} a u = rw (sym b, front_decides types bytes (refused n place) a, sym a) (fewer (omega arith) u)

  module _ (m : Message) (n : ℕ) (a : got (valid m) n ≡ front_at types bytes) where
    pub opened_message : {at r : ℕ} {l e : List ℕ} → Put (256 * (1 + m.cursor.count)) (set_text types bytes p (set_place_of p w) (message_at types bytes)) l at e r → Message-put at r l e
    opened_message u = rw (sym b, sym a) u

    pub opened_room : (at k : ℕ) → at + 256 * (1 + field_count (front_at types (take p.length (drop p.offset d)))) ≤ k → at + 256 * (1 + m.cursor.count) ≤ k
    opened_room at k h = rw (sym b, sym a) at h

    pub opened_both : {l e : List ℕ} {r : Option ℕ} (t : List ℕ) → OnePut (t ++ set_text types bytes p (set_place_of p w) (message_at types bytes)) r l e
        → OnePut (t ++ set_text types (take p.length (drop p.offset d)) p (set_place_of p w) (message_at types (take p.length (drop p.offset d)))) r l e
    opened_both t u = rw (sym b) u

    pub opened_ends : message_at types bytes ≡ end_at m.header m.cursor types bytes
    opened_ends = front_decides types bytes (got (valid m) n) a

  -- a number of 8 bytes
  pub part_fits : length d ≤ 18446744073709551615 → p.offset ≤ 18446744073709551615 → p.offset + length bytes ≤ 18446744073709551615
  part_fits h o = let z = simp (length-take, length-drop) at (ap length b) in omega arith

-- ---- the `net` line
module _ (d : List ℕ) (n : ℕ) (id : PublisherId) (end messages : ℕ) (l : List ℕ) where
  pub net_none : id_too_long id ≡ true → Put 256 (line_out d (Line.Net n id end messages)) l 0 l 0
  net_none h = rw h (record { stored = refl; after = refl; near = omega arith })

  pub net_put : (e : List ℕ) (r : ℕ) → id_too_long id ≡ false → Put 256 (net_text d n id end messages) l 0 e r → Put 256 (line_out d (Line.Net n id end messages)) l 0 e r
  unfolding line_text
  net_put e r h u = rw h u

pub no_fit : {A : Type 0} → ◌≡◌ {A = Bool} false true → A
no_fit e = let z : ◌≡◌ {A = ℕ} 0 1 = ap (λ (b : Bool). cond b 1 0) e in absurd (omega arith)

-- ---- the messages
lines_append : (d : List ℕ) (xs ys : List Line) → lines_text d (xs ++ ys) ≡ lines_text d xs ++ lines_text d ys
lines_append d [] ys = refl
lines_append d (x ∷ xs) ys = ap (λ (t : List ℕ). line_out d x ++ t) (lines_append d xs ys) ∙ sym (append_assoc (line_out d x) (lines_text d xs) (lines_text d ys))

module _ (w : Writers) (d : List ℕ) where
  -- the texts of the listing's lines
  fields_text_lem : (k : ℕ) (l : Listed) (p : MessagePlace) (c : Cursor) → lines_text d (field_lines w d k l p c) ≡ text_from (types_at w d l p) (bytes_at w d p) p k c
  unfolding field_lines text_from line_text
  fields_text_lem zero l p c = refl
  fields_text_lem (suc k) l p c = go (λ x. fields_text_lem k l p x) (next_field_at c (types_at w d l p) (bytes_at w d p)) refl
    where
      go : ((x : Cursor) → lines_text d (field_lines w d k l p x) ≡ text_from (types_at w d l p) (bytes_at w d p) p k x) → (a : Answer FieldStepped)
          → next_field_at c (types_at w d l p) (bytes_at w d p) ≡ a → lines_text d (field_lines w d (suc k) l p c) ≡ text_from (types_at w d l p) (bytes_at w d p) p (suc k) c
      go ih (got x n) e = rw e (ap (λ (t : List ℕ). field_text p.index (in_datagram p x.field) ++ t) (ih x.cursor))
      go ih (refused n place) e = rw e

  set_text_lem : (l : Listed) (p : MessagePlace) (a : Answer (Valid Message))
      → lines_text d (set_lines w d l p a) ≡ set_text (types_at w d l p) (bytes_at w d p) p (set_place_of p (writer_at w d l p)) a
  unfolding line_text
  set_text_lem l p (got not_valid n) = append-nil _
  set_text_lem l p (got (valid m) n) =
      ap (λ (t : List ℕ). (place_text (place_at w d l p) ++ (head_text m.header.kind m.header.encoding ++ (tabbed (optional_text m.header.sequence) ++ line_end))) ++ t)
      (fields_text_lem (fields_left m.cursor) l p m.cursor)
  set_text_lem l p (refused n place) = append-nil _

  abbrev message_of : Listed → MessageCursor → Answer PlaceStepped
  message_of l c = place_step_at l.payload w.sizes c d

  -- one message was left, and one fewer is left after it
  pub message_passed : (l : Listed) (c : MessageCursor) (x : PlaceStepped) (n : ℕ) → message_of l c ≡ got x n → messages_left l c ≡ suc (messages_left l x.cursor)
  message_passed l c x n e =
      let (m, q, r, z) = invert (place_of_message l.payload w.sizes c.index d c.at) _ e in
      let h = message_counted l.payload w.sizes c.index d c.at m q r in
      rw (sym (got_value z)) (omega arith)

  -- how many lines there are at most
  pub most_none : (l : Listed) (c : MessageCursor) (n place : ℕ) → message_of l c ≡ refused n place → most_left w d l c ≡ 0
  unfolding most_from
  most_none l c n place e = go (messages_left l c)
    where
      go : (k : ℕ) → most_from w d k l c ≡ 0
      go zero = refl
      go (suc k) = rw e

  most_next : (l : Listed) (c : MessageCursor) (x : PlaceStepped) (n : ℕ) → message_of l c ≡ got x n
      → most_left w d l c ≡ 1 + field_count (front_at (types_at w d l x.place) (bytes_at w d x.place)) + most_left w d l x.cursor
  unfolding most_from
  most_next l c x n e = rw (message_passed l c x n e, e)

  pub most_more : (l : Listed) (c : MessageCursor) (x : PlaceStepped) (n : ℕ) (v : Option ℕ) (types bytes : List ℕ) → message_of l c ≡ got x n
      → v ≡ writer_at w d l x.place → types ≡ types_by w v → bytes ≡ take x.place.length (drop x.place.offset d)
      → most_left w d l c ≡ 1 + field_count (front_at types bytes) + most_left w d l x.cursor
  most_more l c x n v types bytes e a b k = most_next l c x n e ∙ sym (rw (b, a, k))

  pub most_fits : (l : Listed) (room left : ℕ) (last : MessageCursor) → most_left w d l last + room / 256 ≡ most_left w d l (first_message l) + left → most_left w d l last ≡ 0
      → ltb 0 left ≡ true → 256 * most_lines w d l ≤ room
  most_fits l room left last e z h = let k : 0 < left = ltb-true 0 left h in omega arith

  -- their text
  lines_none : (l : Listed) (c : MessageCursor) (n place : ℕ) → message_of l c ≡ refused n place → message_lines w d (messages_left l c) l c ≡ []
  unfolding message_lines
  lines_none l c n place e = go (messages_left l c)
    where
      go : (k : ℕ) → message_lines w d k l c ≡ []
      go zero = refl
      go (suc k) = rw e

  lines_next : (l : Listed) (c : MessageCursor) (x : PlaceStepped) (n : ℕ) → message_of l c ≡ got x n
      → message_lines w d (messages_left l c) l c
      ≡ set_lines w d l x.place (message_at (types_at w d l x.place) (bytes_at w d x.place)) ++ message_lines w d (messages_left l x.cursor) l x.cursor
  unfolding message_lines
  lines_next l c x n e = rw (message_passed l c x n e, e)

  abbrev left_text : Listed → MessageCursor → List ℕ
  left_text l c = lines_text d (message_lines w d (messages_left l c) l c)

  text_next : (l : Listed) (c : MessageCursor) (x : PlaceStepped) (n : ℕ) (v : Option ℕ) (types : List ℕ) → message_of l c ≡ got x n
      → v ≡ writer_at w d l x.place → types ≡ types_by w v
      → left_text l c ≡ set_text types (bytes_at w d x.place) x.place (set_place_of x.place v) (message_at types (bytes_at w d x.place)) ++ left_text l x.cursor
  text_next l c x n v types e a b =
      let s : set_text (types_at w d l x.place) (bytes_at w d x.place) x.place (set_place_of x.place (writer_at w d l x.place)) (message_at (types_at w d l x.place) (bytes_at w d x.place))
      ≡ set_text types (bytes_at w d x.place) x.place (set_place_of x.place v) (message_at types (bytes_at w d x.place)) = rw (b, a) in
      ap (lines_text d) (lines_next l c x n e)
      ∙ lines_append d (set_lines w d l x.place (message_at (types_at w d l x.place) (bytes_at w d x.place))) (message_lines w d (messages_left l x.cursor) l x.cursor)
      ∙ ap (λ (t : List ℕ). t ++ left_text l x.cursor) (set_text_lem l x.place (message_at (types_at w d l x.place) (bytes_at w d x.place)) ∙ s)

  -- the text of a listing with one message
  pub one_text : (l : Listed) (p : MessagePlace) (next : MessageCursor) (n : ℕ) (v : Option ℕ) (types : List ℕ) → l.payload.count ≡ 1
      → got (record { place = p; cursor = next }) n ≡ message_of l (first_message l) → v ≡ writer_at w d l p → types ≡ types_by w v
      → lines_text d (accepted_lines w d l) ≡ line_out d (net_line w d l) ++ set_text types (bytes_at w d p) p (set_place_of p v) (message_at types (bytes_at w d p))
  unfolding message_lines
  one_text l p next n v types one e a b =
      let x : PlaceStepped = record { place = p; cursor = next } in
      let h : messages_left l (first_message l) ≡ suc (messages_left l next) = message_passed l (first_message l) x n (sym e) in
      let z : messages_left l next ≡ 0 = omega arith in
      let text = set_text types (bytes_at w d p) p (set_place_of p v) (message_at types (bytes_at w d p)) in
      let none : left_text l next ≡ [] = rw z in
      ap (λ (t : List ℕ). line_out d (net_line w d l) ++ t)
      (text_next l (first_message l) x n v types (sym e) a b ∙ ap (λ (t : List ℕ). text ++ t) none ∙ append-nil text)

  -- ---- the loop over the messages, which started with a buffer, a position and a cursor: what is left gives the same buffer and end, and each
  -- line has room
  pub record Listing (l : Listed) (start : List ℕ) (first : ℕ) (c₀ : MessageCursor) (out : List ℕ) (at : ℕ) (c : MessageCursor) : Type 0 where
    pub long : length out ≡ length start
    pub room : at + 256 * most_left w d l c ≤ length out
    pub stored : sets out at (left_text l c) ≡ sets start first (left_text l c₀)
    pub after : at + length (left_text l c) ≡ first + length (left_text l c₀)

  pub listing_start : (l : Listed) (entry out : List ℕ) (at : ℕ) → 256 * most_lines w d l ≤ length entry → Put 256 (line_out d (net_line w d l)) entry 0 out at
      → Listing l out at (first_message l) out at (first_message l)
  listing_start l entry out at h u =
      let e : length out ≡ length entry = ap length u.stored ∙ length-sets entry 0 (line_out d (net_line w d l)) in
      record { long = refl; room = omega (arith, u.near, e); stored = refl; after = refl }

  pub net_long : (l : Listed) (entry out : List ℕ) (at : ℕ) → Put 256 (line_out d (net_line w d l)) entry 0 out at → length out ≡ length entry
  net_long l entry out at u = ap length u.stored ∙ length-sets entry 0 (line_out d (net_line w d l))

  module _ (l : Listed) (start : List ℕ) (first : ℕ) (c₀ : MessageCursor) (out : List ℕ) (at : ℕ) (c : MessageCursor) (g : Listing l start first c₀ out at c) where
    pub listing_done : (entry : List ℕ) (n place : ℕ) → Put 256 (line_out d (net_line w d l)) entry 0 start first → c₀ ≡ first_message l → refused n place ≡ message_of l c
        → (at ≡ length (lines_text d (accepted_lines w d l))) × (out ≡ sets entry 0 (lines_text d (accepted_lines w d l))) × (at ≤ length entry)
    listing_done entry n place u b e =
        let line = line_out d (net_line w d l) in
        let rest = left_text l (first_message l) in
        let z : left_text l c ≡ [] = ap (lines_text d) (lines_none l c n place (sym e)) in
        let k : length (left_text l c) ≡ 0 = ap length z in
        let t : left_text l c₀ ≡ rest = ap (left_text l) b in
        let j : length (left_text l c₀) ≡ length rest = ap length t in (
          omega (arith, g.after, u.after, length-append line rest),
          sym (ap (sets out at) z) ∙ g.stored ∙ ap (sets start first) t ∙ ap (λ (x : List ℕ). sets x first rest) u.stored
              ∙ ap (λ (i : ℕ). sets (sets entry 0 line) i rest) u.after ∙ sets_append line rest entry 0,
          omega (arith, g.room, g.long, net_long l entry start first u),
        )

    module _ (p : MessagePlace) (next : MessageCursor) (n : ℕ) (v : Option ℕ) (types : List ℕ) (e : got (record { place = p; cursor = next }) n ≡ message_of l c)
        (a : v ≡ writer_at w d l p) (b : types ≡ types_by w v) where
      most_here : most_left w d l c ≡ 1 + field_count (front_at types (bytes_at w d p)) + most_left w d l next
      most_here = most_more l c (record { place = p; cursor = next }) n v types (bytes_at w d p) (sym e) a b refl

      pub listing_room : at + 256 * (1 + field_count (front_at types (bytes_at w d p))) ≤ length out
      listing_room = omega (arith, g.room, most_here)

      pub listing_more : (exit : List ℕ) (r : ℕ)
          → Put (256 * (1 + field_count (front_at types (bytes_at w d p)))) (set_text types (bytes_at w d p) p (set_place_of p v) (message_at types (bytes_at w d p))) out at exit r
          → Listing l start first c₀ exit r next
      listing_more exit r u =
          let text = set_text types (bytes_at w d p) p (set_place_of p v) (message_at types (bytes_at w d p)) in
          let rest = left_text l next in
          let t : left_text l c ≡ text ++ rest = text_next l c (record { place = p; cursor = next }) n v types (sym e) a b in
          let s : length exit ≡ length out = ap length u.stored ∙ length-sets out at text in
          record {
            long = s ∙ g.long;
            room = omega (arith, g.room, most_here, u.near, s);
            stored =
                ap (λ (x : List ℕ). sets x r rest) u.stored ∙ ap (λ (k : ℕ). sets (sets out at text) k rest) u.after ∙ sets_append text rest out at
                ∙ ap (sets out at) (sym t) ∙ g.stored;
            after = omega (arith, u.after, g.after, ap length t ∙ length-append text rest);
          }

-- the same text
pub same_listing : (out e t u : List ℕ) (r : Result ℕ Reason) → t ≡ u → (r ≡ text_written out t) × (e ≡ text_after out t) → (r ≡ text_written out u) × (e ≡ text_after out u)
same_listing out e t u r q a = (a.0 ∙ ap (text_written out) q, a.1 ∙ ap (text_after out) q)

-- a listing that fits is written
pub list_written : (out t e : List ℕ) (r : ℕ) → r ≡ length t → e ≡ sets out 0 t → r ≤ length out → (Ok r ≡ text_written out t) × (e ≡ text_after out t)
list_written out t e r a b c = let f = le-ltb (length out) (length t) (omega arith) in (rw f (ap (λ (k : ℕ). Ok k) a), rw f b)

pub one_written : (out t e : List ℕ) (n : ℕ) → OnePut t (Some n) out e → (Ok n ≡ text_written out t) × (e ≡ text_after out t)
one_written out t e n f = list_written out t e n f.after f.stored f.within

pub none_written : (out t mid e : List ℕ) (r : Result ℕ Reason) → OnePut t None out mid → (r ≡ text_written mid t) × (e ≡ text_after mid t) → (r ≡ text_written out t) × (e ≡ text_after out t)
none_written out t mid e r f a = (a.0 ∙ ap (λ (x : List ℕ). text_written x t) f.stored, a.1 ∙ ap (λ (x : List ℕ). text_after x t) f.stored)
