-- Walking by calls: from a head record that `uadp_read_message` filled, and from an envelope record that `uadp_read` filled, the calls tell what document
-- 01's walk finds; what was read, written again from its record, is the same bytes. The premises are the contracts.
-- Assumes nothing.
use Prim.Native.Nat.{ℕ, suc, ◌+◌, ◌*◌, ◌-◌, ◌^◌, ◌≤◌, ◌<◌}
use mathlib.Core.Path.{◌≡◌, refl, ap, sym, subst, ◌∙◌}
use mathlib.Core.Bool.{Bool, true, false}
use mathlib.Core.List.{List, [], ◌∷◌}
use native.Mathlib.Numerals.{add-one}
use native.Mathlib.Nat.{add-zero}
use native.Mathlib.Omega.{arith}
use borrow.Author.Tests.{le-ltb, lt-leb, leb-true, leb-false, ltb-true, ltb-false}
use lib.Dec.{leb, ltb, eqb}
use lib.ListN.{length}
use Rattle.wire.specs.Number.{le_bytes}
use Rattle.wire.specs.Answer.{Answer, got, refused, and_then}
use Rattle.wire.proofs.Cases.{by_bool}
use Rattle.wire.proofs.Reading.{got_value, got_next, not_got, invert}
use Rattle.wire_writer.specs.Fits.{Bytes}
use Rattle.wire_writer.specs.Store.{laid}
use Rattle.wire_writer.proofs.Back.{end_fits, item_back}
use Rattle.dataset_header.specs.Flags.{Valid, not_valid, valid, is_delta, is_raw}
use Rattle.dataset_header.specs.Header.{message_header_at}
use Rattle.dataset_header.specs.declared.flags.Kind.{Kind}
use Rattle.dataset_header.specs.declared.header.Header.{Header}
use Rattle.dataset_header.proofs.HeaderTrip.{header_back}
use Rattle.dataset_fields.specs.Fields.{FieldStepped, field_at, fields_at, padding_at, next_field_at, cursor_before}
use Rattle.dataset_fields.specs.declared.fields.Field.{Field}
use Rattle.dataset_fields.proofs.Inside.{field_inside}
use Rattle.dataset_fields.proofs.Walks.{fields_done, fields_step, fields_stop}
use Rattle.dataset_fields.specs.declared.fields.Cursor.{Cursor}
use Rattle.dataset_message.specs.Message.{Message, counted_at, count_at, opened_at, after_header_by, message_at, front_at, ended_at}
use Rattle.dataset_message.proofs.Fronts.{rest_at, front_then, front_first}
use Rattle.dataset_message.proofs.Agreement.{message_agrees, message_read, walk_ends}
use Rattle.records.specs.Numbers.{number_bytes}
use Rattle.records.specs.Sizes.{FIELD_SIZE, HEAD_SIZE}
use Rattle.records.specs.Result.{result_of}
use Rattle.records.specs.Writers.{types_for}
use Rattle.records.proofs.ReadBack.{laid_length}
use Rattle.message_record.specs.Message.{cursor_in, cursor_laid, header_in, head_fits, head_numbers, field_numbers, HeadBack}
use Rattle.message_record.proofs.Back.{cursor_moved, header_stays}
use Rattle.uadp_c.specs.Fields.{step_result, head_after, field_after, end_result}
use Rattle.uadp_c.specs.ByCalls.{AllLong, HeadRead, FieldCall, field_call, field_step, NextField, FieldCalls, last_head, FieldTold, FieldsTold, FieldsByCalls, HeadOpened, StepOf, field, fault, last, EndOf, left, ended, over, OpenedByCalls}

-- ---- the first field of an accepted message starts within its bytes

counted_inside : (raw : Bool) (types s : List ℕ) (at n first : ℕ) → Bytes s → at ≤ length s → counted_at raw types s at ≡ got n first → first ≤ length s
counted_inside true types s at n first b l e =
    by_bool _ (eqb (length types) 0) (λ t. absurd (not_got (rw t at e))) (λ t. omega (arith, got_next (rw t at e)))
counted_inside false types s at n first b l e = end_fits s at (le_bytes 2 n) first (item_back 2 s at n first b e).0

count_inside : (kind : Kind) (raw : Bool) (types s : List ℕ) (at n first : ℕ) → Bytes s → at ≤ length s → count_at kind raw types s at ≡ got n first → first ≤ length s
count_inside Kind.Key raw types s at n first b l e =
    by_bool _ (leb (length s) at) (λ t. omega (arith, got_next (rw t at e))) (λ t. counted_inside raw types s at n first b l (rw t at e))
count_inside Kind.Delta raw types s at n first b l e = counted_inside false types s at n first b l e
count_inside Kind.Event raw types s at n first b l e = counted_inside raw types s at n first b l e
count_inside Kind.KeepAlive raw types s at n first b l e = omega (arith, got_next e)

front_after : (v : Valid Header) (types s : List ℕ) (at : ℕ) (m : Message) (e : ℕ) → Bytes s → message_header_at s 0 ≡ got v at → after_header_by opened_at v types s at ≡ got (valid m) e
    → m.cursor.at ≤ length s
front_after not_valid types s at m e b p q =
    let v : ◌≡◌ {A = Valid Message} not_valid (valid m) = got_value q in
    let z : ◌≡◌ {A = ℕ} 0 1 = cc in
    absurd (omega arith)
front_after (valid h) types s at m e b p q =
    let l = (header_back s h at b p).fits in
    let c = invert (count_at h.kind (is_raw h.encoding) types s at) (λ n first. _) q in
    let o = count_inside h.kind (is_raw h.encoding) types s at c.0 c.1 b l c.2 in
    let k : Cursor = record { encoding = h.encoding; delta = is_delta h.kind; next = 0; count = c.0; at = c.1 } in
    let v : valid (record { header = h; cursor = k; end = c.1 }) ≡ valid m = got_value c.3 in
    let n : ◌≡◌ {A = Message} (record { header = h; cursor = k; end = c.1 }) m = cc in
    subst (λ (x : Message). x.cursor.at ≤ length s) n o

front_inside : (types s : List ℕ) (m : Message) (e : ℕ) → Bytes s → front_at types s ≡ got (valid m) e → m.cursor.at ≤ length s
front_inside types s m e b q =
    let a = invert (message_header_at s 0) (λ v at. after_header_by opened_at v types s at) q in
    front_after a.0 types s a.1 m e b a.2 a.3

-- the header and the cursor of a message are those of its front
front_of : (types s : List ℕ) (v : Valid Message) (m : Message) (e : ℕ) → rest_at v types s ≡ got (valid m) e
    → (o : Message) × (v ≡ valid o) × (o.header ≡ m.header) × (o.cursor ≡ m.cursor)
front_of types s not_valid m e p =
    let v : ◌≡◌ {A = Valid Message} not_valid (valid m) = got_value p in
    let z : ◌≡◌ {A = ℕ} 0 1 = cc in
    absurd (omega arith)
front_of types s (valid o) m e p =
    let c = o.cursor in
    let a = invert (fields_at c.delta c.encoding types c.count 0 s c.at) (λ _ k. _) p in
    let b = invert (padding_at s a.1) (λ _ y. _) a.3 in
    let v : valid (record { header = o.header; cursor = c; end = a.1 }) ≡ valid m = got_value b.3 in
    let x : ◌≡◌ {A = Message} (record { header = o.header; cursor = c; end = a.1 }) m = cc in
    (o, refl, ap (λ (y : Message). y.header) x, ap (λ (y : Message). y.cursor) x)

start_inside : (types s : List ℕ) (m : Message) (e : ℕ) → Bytes s → message_at types s ≡ got (valid m) e → m.cursor.at ≤ length s
start_inside types s m e b q =
    let a = invert (front_at types s) (λ v _. rest_at v types s) (sym (front_then types s) ∙ q) in
    let o = front_of types s a.0 m e a.3 in
    let front : front_at types s ≡ got (valid o.0) a.1 = a.2 ∙ ap (λ (v : Valid Message). got v a.1) o.1 in
    subst (λ (c : Cursor). c.at ≤ length s) o.3 (front_inside types s o.0 a.1 b front)

none_passed : (c : Cursor) (types s : List ℕ) → fields_at c.delta c.encoding types 0 0 s c.at ≡ got tt c.at
unfolding fields_at
none_passed c types s = refl

-- ---- a step that is made where there is room, and one that is refused

field_made : (x : FieldStepped) (n : ℕ) (h f : List ℕ) → HEAD_SIZE ≤ length h → FIELD_SIZE ≤ length f
    → (step_result (got x n) h f ≡ result_of 0 x.field.offset) × (head_after (got x n) h f ≡ cursor_laid x.cursor h)
    × (field_after (got x n) h f ≡ laid f 0 (number_bytes (field_numbers x.field)))
field_made x n h f l k = rw (le-ltb (length h) HEAD_SIZE l, le-ltb (length f) FIELD_SIZE k) (refl, refl, refl)

cursor_length : (c : Cursor) (h : List ℕ) → length (cursor_laid c h) ≡ length h
cursor_length c h =
    let u = laid h (8 * 12) (le_bytes 8 c.next) in
    laid_length u (8 * 14) (le_bytes 8 c.at) ∙ laid_length h (8 * 12) (le_bytes 8 c.next)

module _ (s config : List ℕ) (writer : ℕ) (m : Message) (e : ℕ) (q : message_at (types_for config writer) s ≡ got (valid m) e) (bytes : Bytes s) (small : length s < 256 ^ 8)
    (counted : m.cursor.count < 256 ^ 8) where
  abbrev types : List ℕ
  types = types_for config writer

  abbrev c : Cursor
  c = m.cursor

  abbrev passed : ℕ → ℕ → Type 0
  passed k p = fields_at c.delta c.encoding types k 0 s c.at ≡ got tt p

  -- a head record whose cursor is before field k, which starts at p
  record Stands (k p : ℕ) (h : List ℕ) : Type 0 where
    long : HEAD_SIZE ≤ length h
    cursor : cursor_in h ≡ cursor_before c k p
    passes : passed k p
    inside : p ≤ length s
    header : header_in h ≡ m.header
    fitting : head_fits h ≡ true

  -- one call
  one : (k p : ℕ) (h f : List ℕ) (a : FieldCall) → k < c.count → Stands k p h → FIELD_SIZE ≤ length f → NextField s config writer h f a
      → (t : FieldTold types s c k f a) × Stands (k + 1) t.end a.head
  one k p h f a l w lf n =
      let g = message_agrees types s m e q k l in
      let at : g.at ≡ p = got_next (sym g.passed ∙ w.passes) in
      let x : FieldStepped = record { field = g.place; cursor = cursor_before c (k + 1) g.end } in
      let before : cursor_in h ≡ cursor_before c k g.at = w.cursor ∙ ap (cursor_before c k) (sym at) in
      let step : field_step s config writer h ≡ got x g.end = ap (λ (y : Cursor). next_field_at y types s) before ∙ g.stepped in
      let made = field_made x g.end h f w.long lf in
      let head : a.head ≡ cursor_laid x.cursor h = n.head ∙ ap (λ (y : Answer FieldStepped). head_after y h f) step ∙ made.1 in
      let end-in : g.end ≤ length s = g.inside.ends in
      let next_fits : k + 1 < 256 ^ 8 = omega arith in
      let end_fits : g.end < 256 ^ 8 = omega arith in
      let after : cursor_in a.head ≡ cursor_before c (k + 1) g.end =
      ap cursor_in head
      ∙ cursor_moved x.cursor h w.long next_fits end_fits (sym (ap (λ (y : Cursor). y.encoding) before)) (sym (ap (λ (y : Cursor). y.delta) before))
      (sym (ap (λ (y : Cursor). y.count) before)) in
      let told : FieldTold types s c k f a = record {
        place = g.place;
        at = g.at;
        end = g.end;
        walked = g.walked;
        stepped = g.stepped;
        looked_up = rw q g.looked_up;
        result = n.result ∙ ap (λ (y : Answer FieldStepped). step_result y h f) step ∙ made.0;
        filled = n.field ∙ ap (λ (y : Answer FieldStepped). field_after y h f) step ∙ made.2;
        cursor = after;
      } in
      let stays = header_stays x.cursor h w.long in
      let stands : Stands (k + 1) g.end a.head = record {
        long = omega (arith, w.long, ap (λ (y : List ℕ). length y) head, cursor_length x.cursor h);
        cursor = after;
        passes = ap (λ (j : ℕ). fields_at c.delta c.encoding types j 0 s c.at) (add-one k) ∙ g.passed_too;
        inside = end-in;
        header = ap header_in head ∙ stays.0 ∙ w.header;
        fitting = ap head_fits head ∙ stays.1 ∙ w.fitting;
      } in
      (told, stands)

  -- any calls, the first of them call k: what they tell, and where the last head record stands
  all : (fs : List (List ℕ)) (ys : List FieldCall) (k p : ℕ) (h : List ℕ) → AllLong FIELD_SIZE fs → k + length fs ≤ c.count → Stands k p h
      → FieldCalls s config writer fs h ys → FieldsTold types s c k fs ys × ((z : ℕ) × Stands (k + length fs) z (last_head h ys))
  all [] [] k p h long l w y = (tt, (p, subst (λ (j : ℕ). Stands j p h) (sym (add-zero k)) w))
  all [] (a ∷ ys) k p h long l w y = absurd y
  all (f ∷ fs) [] k p h long l w y = absurd y
  all (f ∷ fs) (a ∷ ys) k p h long l w y =
      let o = one k p h f a (omega arith) w long.0 y.0 in
      let r = all fs ys (k + 1) o.0.end a.head long.1 (omega arith) o.1 y.1 in
      let n : k + 1 + length fs ≡ k + suc (length fs) = omega arith in
      ((o.0, r.0), (r.1.0, subst (λ (j : ℕ). Stands j r.1.0 (last_head a.head ys)) n r.1.1))

  -- the call after the last
  after_last : (p : ℕ) (h f : List ℕ) (a : FieldCall) → Stands c.count p h → NextField s config writer h f a → a ≡ field_call (result_of 10 0) h f
  after_last p h f a w n =
      let step : field_step s config writer h ≡ refused 10 0 = ap (λ (y : Cursor). next_field_at y types s) w.cursor ∙ walk_ends c types s p w.inside in
      let r = n.result ∙ ap (λ (y : Answer FieldStepped). step_result y h f) step in
      let d = n.head ∙ ap (λ (y : Answer FieldStepped). head_after y h f) step in
      let g = n.field ∙ ap (λ (y : Answer FieldStepped). field_after y h f) step in
      λ i. record { result = r i; head = d i; field = g i }

  starts : (h : List ℕ) → HEAD_SIZE ≤ length h → HeadBack h m → Stands 0 c.at h
  starts h l b =
      let first = (message_read types s m e q).first in
      record {
        long = l;
        cursor = b.cursor ∙ (λ i. record { encoding = c.encoding; delta = c.delta; next = first i; count = c.count; at = c.at });
        passes = none_passed c types s;
        inside = start_inside types s m e bytes q;
        header = b.header;
        fitting = b.fitting;
      }

  by_calls : (h : List ℕ) → Stands 0 c.at h → FieldsByCalls s config writer m h
  by_calls h start =
      record {
        told = λ fs ys long n y. (all fs ys 0 c.at h long (omega arith) start y).0;
        ended = λ fs ys long n y f a t.
            let r = (all fs ys 0 c.at h long (omega arith) start y).1 in
            let z : 0 + length fs ≡ c.count = omega arith in
            after_last r.0 (last_head h ys) f a (subst (λ (j : ℕ). Stands j r.0 (last_head h ys)) z r.1) t;
      }

-- the head record that reading filled
read_back : (s config : List ℕ) (writer : ℕ) (m : Message) (e : ℕ) (entry : List ℕ) (r : ℕ) (head : List ℕ) → message_at (types_for config writer) s ≡ got (valid m) e
    → HEAD_SIZE ≤ length entry → HeadRead s config writer entry r head → (HEAD_SIZE ≤ length head) × HeadBack head m
read_back s config writer m e entry r head q l w =
    let f : head ≡ laid entry 0 (number_bytes (head_numbers (valid m))) = rw q at w.filled in
    let b : HEAD_SIZE ≤ length entry → HeadBack head m = rw q at w.reads in
    (omega (arith, ap (λ (y : List ℕ). length y) f, laid_length entry 0 (number_bytes (head_numbers (valid m)))), b l)

module _ (s config : List ℕ) (writer : ℕ) (m : Message) (e : ℕ) (entry : List ℕ) (r : ℕ) (head : List ℕ) (q : message_at (types_for config writer) s ≡ got (valid m) e)
    (l : HEAD_SIZE ≤ length entry) (w : HeadRead s config writer entry r head) where
  back : (HEAD_SIZE ≤ length head) × HeadBack head m
  back = read_back s config writer m e entry r head q l w

  begins : Stands s config writer m e q w.bytes w.size back.1.fits.count 0 m.cursor.at head
  begins = starts s config writer m e q w.bytes w.size back.1.fits.count head back.0 back.1

  -- THE FIELDS OF A MESSAGE, BY CALLS, from the head record that `uadp_read_message` filled
  pub fields_by_calls : FieldsByCalls s config writer m head
  fields_by_calls = by_calls s config writer m e q w.bytes w.size back.1.fits.count head begins

  -- and the header that is read in it afterwards
  pub header_kept : (fs : List (List ℕ)) (ys : List FieldCall) → AllLong FIELD_SIZE fs → length fs ≤ m.cursor.count → FieldCalls s config writer fs head ys
      → (header_in (last_head head ys) ≡ m.header) × (head_fits (last_head head ys) ≡ true)
  header_kept fs ys long n y =
      let z = (all s config writer m e q w.bytes w.size back.1.fits.count fs ys 0 m.cursor.at head long (omega arith) begins y).1.1 in
      (z.header, z.fitting)

-- ---- a message that is opened: its front is read, and each field by the step that meets it

module _ (s config : List ℕ) (writer : ℕ) (m : Message) (n : ℕ) (q : front_at (types_for config writer) s ≡ got (valid m) n) (small : length s < 256 ^ 8)
    (counted : m.cursor.count < 256 ^ 8) where
  abbrev kinds : List ℕ
  kinds = types_for config writer

  abbrev d : Cursor
  d = m.cursor

  abbrev whole : Answer (Valid Message)
  whole = message_at kinds s

  abbrev left_from : ℕ → ℕ → Answer (Unit {0})
  left_from k p = fields_at d.delta d.encoding kinds (d.count - k) k s p

  -- what reading the message answers, by its fields and its padding
  abbrev after : Answer (Unit {0}) → Answer (Valid Message)
  after x = and_then x (λ _ end. and_then (padding_at s end) (λ _ z. got (valid (record { header = m.header; cursor = d; end = end })) end))

  whole_is : whole ≡ after (fields_at d.delta d.encoding kinds d.count 0 s d.at)
  whole_is = front_then kinds s ∙ ap (λ (y : Answer (Valid Message)). and_then y (λ v _. rest_at v kinds s)) q

  -- a head record whose cursor is before field k, at p: what is left of the fields from there on decides
  record Before (k p : ℕ) (h : List ℕ) : Type 0 where
    long : HEAD_SIZE ≤ length h
    cursor : cursor_in h ≡ cursor_before d k p
    decides : whole ≡ after (left_from k p)
    inside : p ≤ length s

  -- whether a field is left, by the record
  before_last : (k p : ℕ) (h : List ℕ) → Before k p h → k < d.count → (cursor_in h).next < (cursor_in h).count
  before_last k p h w l = subst (λ (z : Cursor). z.next < z.count) (sym w.cursor) l

  after_all : (k p : ℕ) (h : List ℕ) → Before k p h → d.count ≤ k → (cursor_in h).count ≤ (cursor_in h).next
  after_all k p h w l = subst (λ (z : Cursor). z.count ≤ z.next) (sym w.cursor) l

  -- what a call answers, and where the head record stands then
  abbrev Goes : List ℕ → FieldCall → Type 0
  Goes h a = StepOf whole h a.result × ((k : ℕ) × (p : ℕ) × Before k p a.head)

  module _ (k p : ℕ) (h f : List ℕ) (a : FieldCall) (w : Before k p h) (lf : FIELD_SIZE ≤ length f) (y : NextField s config writer h f a) where
    stays : (number place : ℕ) → next_field_at (cursor_before d k p) kinds s ≡ refused number place → (a.result ≡ result_of number place) × Before k p a.head
    stays number place t =
        let step : field_step s config writer h ≡ refused number place = ap (λ (z : Cursor). next_field_at z kinds s) w.cursor ∙ t in
        let same : a.head ≡ h = y.head ∙ ap (λ (z : Answer FieldStepped). head_after z h f) step in
        (y.result ∙ ap (λ (z : Answer FieldStepped). step_result z h f) step, subst (λ (z : List ℕ). Before k p z) (sym same) w)

    goes_on : (x : Answer Field) → k < d.count → field_at d.delta d.encoding kinds k s p ≡ x → Goes h a
    goes_on (got g e) l t =
        let i = field_inside d.delta d.encoding kinds k s p g e t in
        let x : FieldStepped = record { field = g; cursor = cursor_before d (k + 1) e } in
        let made-step : next_field_at (cursor_before d k p) kinds s ≡ got x e = rw (le-ltb (length s) p w.inside, lt-leb d.count k l, t) in
        let step : field_step s config writer h ≡ got x e = ap (λ (z : Cursor). next_field_at z kinds s) w.cursor ∙ made-step in
        let made = field_made x e h f w.long lf in
        let head : a.head ≡ cursor_laid x.cursor h = y.head ∙ ap (λ (z : Answer FieldStepped). head_after z h f) step ∙ made.1 in
        let next_fits : k + 1 < 256 ^ 8 = omega arith in
        let end-in : e ≤ length s = i.ends in
        let end-small : e < 256 ^ 8 = omega arith in
        let moved : cursor_in a.head ≡ cursor_before d (k + 1) e =
        ap cursor_in head
        ∙ cursor_moved x.cursor h w.long next_fits end-small (sym (ap (λ (z : Cursor). z.encoding) w.cursor)) (sym (ap (λ (z : Cursor). z.delta) w.cursor))
        (sym (ap (λ (z : Cursor). z.count) w.cursor)) in
        let less : d.count - k - 1 ≡ d.count - (k + 1) = omega arith in
        let some : 0 < d.count - k = omega arith in
        let onward : left_from k p ≡ left_from (k + 1) e =
        fields_step d.delta d.encoding kinds s (d.count - k) k p e g some t ∙ ap (λ (j : ℕ). fields_at d.delta d.encoding kinds j (k + 1) s e) less in (
          field g.offset (before_last k p h w l) (y.result ∙ ap (λ (z : Answer FieldStepped). step_result z h f) step ∙ made.0),
          (
            k + 1,
            e,
            record {
              long = omega (arith, w.long, ap (λ (z : List ℕ). length z) head, cursor_length x.cursor h);
              cursor = moved;
              decides = w.decides ∙ ap after onward;
              inside = end-in;
            },
          ),
        )
    goes_on (refused number place) l t =
        let some : 0 < d.count - k = omega arith in
        let stops : left_from k p ≡ refused number place = fields_stop d.delta d.encoding kinds s (d.count - k) k p number place some t in
        let r = stays number place (rw (le-ltb (length s) p w.inside, lt-leb d.count k l, t)) in
        (fault number place (before_last k p h w l) (w.decides ∙ ap after stops) r.0, (k, p, r.1))

    goes : Goes h a
    goes =
        by_bool _ (leb d.count k)
        (λ t. let r = stays 10 0 (rw (le-ltb (length s) p w.inside, t)) in (last (after_all k p h w (leb-true d.count k t)) r.0, (k, p, r.1)))
        (λ t. goes_on (field_at d.delta d.encoding kinds k s p) (leb-false d.count k t) refl)

  -- any calls
  many : (fs : List (List ℕ)) (ys : List FieldCall) (k p : ℕ) (h : List ℕ) → AllLong FIELD_SIZE fs → Before k p h → FieldCalls s config writer fs h ys
      → (j : ℕ) × (r : ℕ) × Before j r (last_head h ys)
  many [] [] k p h long w y = (k, p, w)
  many [] (a ∷ ys) k p h long w y = absurd y
  many (f ∷ fs) [] k p h long w y = absurd y
  many (f ∷ fs) (a ∷ ys) k p h long w y =
      let o = (goes k p h f a w long.0 y.0).1 in
      many fs ys o.0 o.1 a.head long.1 o.2 y.1

  -- the end, after the last field and before
  module _ (k p : ℕ) (h : List ℕ) (w : Before k p h) where
    at_cursor : ended_at (cursor_in h) s ≡ ended_at (cursor_before d k p) s
    at_cursor = ap (λ (z : Cursor). ended_at z s) w.cursor

    result_by : {x : Answer (Unit {0})} → ended_at (cursor_in h) s ≡ x → end_result (ended_at (cursor_in h) s) h ≡ end_result x h
    result_by e = ap (λ (z : Answer (Unit {0})). end_result z h) e

    ends_by : (x : Answer (Unit {0})) → d.count ≤ k → padding_at s p ≡ x → EndOf whole h (end_result (ended_at (cursor_in h) s) h)
    ends_by (got u z) l t =
        let none : left_from k p ≡ got tt p = fields_done d.delta d.encoding kinds s (d.count - k) k p (omega arith) in
        let is : ended_at (cursor_in h) s ≡ got tt p = at_cursor ∙ rw (le-ltb (length s) p w.inside, le-ltb k d.count l, t) in
        ended (record { header = m.header; cursor = d; end = p }) (after_all k p h w l) (w.decides ∙ ap after none ∙ rw t) (result_by is ∙ rw (le-ltb (length h) HEAD_SIZE w.long))
    ends_by (refused number place) l t =
        let none : left_from k p ≡ got tt p = fields_done d.delta d.encoding kinds s (d.count - k) k p (omega arith) in
        let is : ended_at (cursor_in h) s ≡ refused number place = at_cursor ∙ rw (le-ltb (length s) p w.inside, le-ltb k d.count l, t) in
        over number place (after_all k p h w l) (w.decides ∙ ap after none ∙ rw t) (result_by is)

    ends_so : EndOf whole h (end_result (ended_at (cursor_in h) s) h)
    ends_so =
        by_bool _ (ltb k d.count)
        (λ t. let is : ended_at (cursor_in h) s ≡ refused 6 p = at_cursor ∙ rw (le-ltb (length s) p w.inside, t) in
        left (before_last k p h w (ltb-true k d.count t)) (result_by is ∙ ap (λ (z : Cursor). result_of 6 z.at) (sym w.cursor)))
        (λ t. ends_by (padding_at s p) (ltb-false k d.count t) refl)

  opens : (h : List ℕ) → Bytes s → HEAD_SIZE ≤ length h → HeadBack h m → Before 0 d.at h
  opens h b l r =
      let first = front_first kinds s m n (sym q) in
      let all_left : d.count - 0 ≡ d.count = omega arith in
      record {
        long = l;
        cursor = r.cursor ∙ (λ i. record { encoding = d.encoding; delta = d.delta; next = first i; count = d.count; at = d.at });
        decides = whole_is ∙ ap (λ (j : ℕ). after (fields_at d.delta d.encoding kinds j 0 s d.at)) (sym all_left);
        inside = front_inside kinds s m n b q;
      }

-- THE FIELDS OF A MESSAGE THAT WAS OPENED, BY CALLS, from the head record that `uadp_open_message` filled
pub opened_by_calls : (s config : List ℕ) (writer : ℕ) (m : Message) (n : ℕ) (entry : List ℕ) (r : ℕ) (head : List ℕ)
    → front_at (types_for config writer) s ≡ got (valid m) n → HEAD_SIZE ≤ length entry → HeadOpened s config writer entry r head → OpenedByCalls s config writer head
opened_by_calls s config writer m n entry r head q l w =
    let f : head ≡ laid entry 0 (number_bytes (head_numbers (valid m))) = rw q at w.filled in
    let b : HeadBack head m = (rw q at w.reads) l in
    let long : HEAD_SIZE ≤ length head = omega (arith, ap (λ (y : List ℕ). length y) f, laid_length entry 0 (number_bytes (head_numbers (valid m)))) in
    let counted = b.fits.count in
    let start = opens s config writer m n q w.size counted head w.bytes long b in
    record {
      steps = λ fs ys longs y g a lg t.
          let o = many s config writer m n q w.size counted fs ys 0 m.cursor.at head longs start y in
          (goes s config writer m n q w.size counted o.0 o.1 (last_head head ys) g a o.2 lg t).0;
      ends = λ fs ys longs y result t.
          let o = many s config writer m n q w.size counted fs ys 0 m.cursor.at head longs start y in
          subst (λ (z : ℕ). EndOf (message_at (types_for config writer) s) (last_head head ys) z) (sym t) (ends_so s config writer m n q w.size counted o.0 o.1 (last_head head ys) o.2);
    }

-- of an accepted message the calls tell what they tell where it was read whole
pub opened_fields : (s config : List ℕ) (writer : ℕ) (m : Message) (e : ℕ) (entry : List ℕ) (r : ℕ) (head : List ℕ)
    → message_at (types_for config writer) s ≡ got (valid m) e → HEAD_SIZE ≤ length entry → HeadOpened s config writer entry r head → FieldsByCalls s config writer m head
opened_fields s config writer m e entry r head q l w =
    let types = types_for config writer in
    let a = invert (front_at types s) (λ v _. rest_at v types s) (sym (front_then types s) ∙ q) in
    let o = front_of types s a.0 m e a.3 in
    let front : front_at types s ≡ got (valid o.0) a.1 = a.2 ∙ ap (λ (v : Valid Message). got v a.1) o.1 in
    let f : head ≡ laid entry 0 (number_bytes (head_numbers (valid o.0))) = rw front at w.filled in
    let b : HeadBack head o.0 = (rw front at w.reads) l in
    let long : HEAD_SIZE ≤ length head = omega (arith, ap (λ (y : List ℕ). length y) f, laid_length entry 0 (number_bytes (head_numbers (valid o.0)))) in
    let counted : m.cursor.count < 256 ^ 8 = subst (λ (c : Cursor). c.count < 256 ^ 8) o.3 b.fits.count in
    let first = (message_read types s m e q).first in
    let c = m.cursor in
    by_calls s config writer m e q w.bytes w.size counted head
    (record {
      long = long;
      cursor = b.cursor ∙ o.3 ∙ (λ i. record { encoding = c.encoding; delta = c.delta; next = first i; count = c.count; at = c.at });
      passes = none_passed c types s;
      inside = start_inside types s m e w.bytes q;
      header = b.header ∙ o.2;
      fitting = b.fitting;
    })
