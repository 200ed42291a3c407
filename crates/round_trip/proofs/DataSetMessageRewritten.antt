-- Every accepted DataSetMessage is rewritten identically, but for picoseconds of 10,000 or more, which become 9,999.
-- Assumes nothing.
use Rattle.wire.specs.declared.refusal.Reason.{Reason}
use Rattle.std.specs.Prelude.{Result, Ok}
use mathlib.Core.Path.{◌≡◌, refl, ap, sym, ◌∙◌, subst}
use mathlib.Core.Bool.{Bool, true, false, cond, not, ◌||◌}
use mathlib.Core.List.{List, [], ◌++◌}
use Prim.Native.Nat.{ℕ, ◌+◌, ◌-◌, ◌≤◌, zero, suc, ◌<◌}
use native.Mathlib.Nat.{zero-add, add-zero}
use native.Mathlib.Omega.{arith}
use borrow.Author.Tests.{leb-true, eq-eqb, eqb-false, lt-ltb, le-leb, lt-leb}
use lib.Dec.{eqb, leb}
use lib.ListN.{length, drop, take, take-append-drop, get_or}
use lib.Seq.{drop-drop}
use Rattle.plain_value.proofs.Widths.{positive}
use Rattle.dataset_message.proofs.Agreement.{message_read}
use Rattle.dataset_fields.specs.declared.fields.Field.{Field}
use Rattle.dataset_header.specs.declared.flags.Encoding.{Encoding}
use Rattle.dataset_message.specs.Rewrite.{again, where_valid, message_again}
use Rattle.wire.specs.Answer.{got, Answer, and_then}
use Rattle.wire.proofs.Reading.{invert, got_value, got_next, not_got}
use Rattle.wire_writer.specs.Writing.{Writes, writing, unless, after_reading}
use Rattle.wire_writer.proofs.Answering.{fitting_written}
use Rattle.wire_writer.proofs.Back.{Back, empty, rest_is, end_fits, item_back, held_length}
use Rattle.dataset_header.specs.declared.flags.Kind.{Kind}
use Rattle.dataset_header.specs.declared.header.Header.{Header}
use Rattle.dataset_header.specs.Flags.{Valid, not_valid, valid, is_delta, is_raw}
use Rattle.dataset_header.specs.Header.{message_header_at, message_header_bytes, message_picoseconds_place, message_held}
use Rattle.dataset_fields.specs.Fields.{fields_at, padding_at, field_at, values_of, fields_bytes, zeros, values_joined, lengths_of, and_field, walked}
use Rattle.dataset_message.specs.Message.{Message, counted_at, count_at, end_at, body_at, after_header, message_at, field_place_at}
use Rattle.dataset_message.specs.Writer.{GivenMessage, has_fields, is_key, is_fielded, is_raw_data, given_fields, count_bytes, count_agrees, whole_given, counts_given, message_refusal, encode, message_output}
use Rattle.dataset_message.proofs.Whole.{acceptable}
use Rattle.round_trip.specs.DataSetMessage.{fields_read, taken_again, Rewritten}
use Rattle.dataset_header.proofs.HeaderTrip.{HeaderBack, header_back}
use Rattle.dataset_fields.proofs.FieldsTrip.{indices_for, FieldsTaken, fields_back, zeros_back}
use Rattle.round_trip.proofs.DataSetMessage.{no, reached_all, delta_plain}
use Rattle.wire_writer.specs.Fits.{Bytes}

-- FieldCount, or the configured number, as it was read

counted_back : (raw : Bool) (types s : List ℕ) (at n next : ℕ) → Bytes s → at ≤ length s → counted_at raw types s at ≡ got n next
    → Back s at (count_bytes true raw n) next × (count_agrees raw (length types) n ≡ true)
counted_back true types s at n next bytes l h = go (eqb (length types) 0) refl
  where
    go : (t : Bool) → eqb (length types) 0 ≡ t → Back s at [] next × (count_agrees true (length types) n ≡ true)
    go true t = absurd (not_got (rw t at h))
    go false t =
        let q : got (length types) at ≡ got n next = rw t at h in
        let v : length types ≡ n = got_value q in
        let z = eqb-false (length types) 0 t in
        let p : 0 < n = positive n (λ e. z (v ∙ e)) in
        (subst (λ (e : ℕ). Back s at [] e) (got_next q) (empty s at l), rw (lt-ltb 0 n p, eq-eqb n (length types) (sym v)))
counted_back false types s at n next bytes l h =
    let b = item_back 2 s at n next bytes h in
    let u : n ≤ 65535 = let w = b.1 in omega arith in
    (b.0, le-leb n 65535 u)

-- what reading the number of fields tells; nothing is left after the header of a heartbeat
pub record CountBack (kind : Kind) (raw : Bool) (types s : List ℕ) (at n next : ℕ) : Type 0 where
  pub stands : Back s at (count_bytes (has_fields kind (leb (length s) at)) raw n) next
  pub agrees : has_fields kind (leb (length s) at) ≡ true → count_agrees raw (length types) n ≡ true
  pub none : has_fields kind (leb (length s) at) ≡ false → n ≡ 0
  pub ends : has_fields kind (leb (length s) at) ≡ false → is_key kind ≡ true → length s ≤ at

with_fields : (kind : Kind) (raw : Bool) (types s : List ℕ) (at n next : ℕ) → has_fields kind (leb (length s) at) ≡ true
    → Back s at (count_bytes true raw n) next × (count_agrees raw (length types) n ≡ true) → CountBack kind raw types s at n next
with_fields kind raw types s at n next e b =
    record {
      stands = rw e b.0;
      agrees = λ f. b.1;
      none = λ f. no (sym f ∙ e);
      ends = λ f k. no (sym f ∙ e);
    }

without_fields : (kind : Kind) (raw : Bool) (types s : List ℕ) (at n next : ℕ) → at ≤ length s → has_fields kind (leb (length s) at) ≡ false → got 0 at ≡ got n next
    → (is_key kind ≡ true → length s ≤ at) → CountBack kind raw types s at n next
without_fields kind raw types s at n next l e q k =
    record {
      stands = rw e (subst (λ (z : ℕ). Back s at [] z) (got_next q) (empty s at l));
      agrees = λ f. no (sym e ∙ f);
      none = λ f. sym (got_value q);
      ends = λ f x. k x;
    }

count_back : (kind : Kind) (raw : Bool) (types s : List ℕ) (at n next : ℕ) → Bytes s → at ≤ length s → (is_delta kind ≡ true → raw ≡ false)
    → count_at kind raw types s at ≡ got n next → CountBack kind raw types s at n next
count_back Kind.Key raw types s at n next bytes l d h = go (leb (length s) at) refl
  where
    go : (t : Bool) → leb (length s) at ≡ t → CountBack Kind.Key raw types s at n next
    go true t = without_fields Kind.Key raw types s at n next l (rw t) (rw t at h) (λ k. leb-true (length s) at t)
    go false t = with_fields Kind.Key raw types s at n next (rw t) (counted_back raw types s at n next bytes l (rw t at h))
count_back Kind.Delta raw types s at n next bytes l d h =
    with_fields Kind.Delta raw types s at n next refl (counted_back raw types s at n next bytes l (ap (λ (r : Bool). counted_at r types s at) (d refl) ∙ h))
count_back Kind.Event raw types s at n next bytes l d h = with_fields Kind.Event raw types s at n next refl (counted_back raw types s at n next bytes l h)
count_back Kind.KeepAlive raw types s at n next bytes l d h = without_fields Kind.KeepAlive raw types s at n next l refl h (λ k. no k)

-- A message that was read, part by part, is accepted and its bytes are written again.

abbrev read : Header → ℕ → ℕ → ℕ → Message
read h n first end = record { header = h; cursor = record { encoding = h.encoding; delta = is_delta h.kind; next = 0; count = n; at = first }; end = end }

-- The parts of an accepted message, one after the other as `rewrite` writes them, are the message with its picoseconds held.

again_parts : (types s : List ℕ) (h : Header) (n first end : ℕ) → HeaderBack s h (length (message_header_bytes h))
    → CountBack h.kind (is_raw h.encoding) types s (length (message_header_bytes h)) n first → first ≤ end → drop end s ≡ zeros (length s - end)
    → again s (read h n first end) ≡ message_held h s
again_parts types s h n first end header count l rest =
    sym (sym header.again
    ∙ ap (λ (x : List ℕ). message_header_bytes h ++ x)
    (rest_is s (length (message_header_bytes h)) (count_bytes (has_fields h.kind (leb (length s) (length (message_header_bytes h)))) (is_raw h.encoding) n) first count.stands
    ∙ ap (λ (x : List ℕ). count_bytes (has_fields h.kind (leb (length s) (length (message_header_bytes h)))) (is_raw h.encoding) n ++ x)
    (sym (take-append-drop (end - first) (drop first s)) ∙ ap (λ (x : List ℕ). take (end - first) (drop first s) ++ x) (drop-drop (end - first) first s ∙ ap (λ (j : ℕ). drop j s) there ∙ rest))))
  where
    there : first + (end - first) ≡ end
    there = omega arith

module _ (types s : List ℕ) (h : Header) (n first end : ℕ) (header : HeaderBack s h (length (message_header_bytes h)))
    (count : CountBack h.kind (is_raw h.encoding) types s (length (message_header_bytes h)) n first)
    (fields : FieldsTaken (is_delta h.kind) h.encoding types n 0 s first (fields_read types s (read h n first end)) end)
    (rest : drop end s ≡ zeros (length s - end)) where
  abbrev g : GivenMessage
  g = taken_again types s (read h n first end)

  bytes_same : encode g ≡ message_held h s
  bytes_same =
      sym (sym header.again
      ∙ ap (λ (l : List ℕ). message_header_bytes h ++ l)
      (rest_is s (length (message_header_bytes h)) (count_bytes (is_fielded g) (is_raw_data g) (length g.lengths)) first counted
      ∙ ap (λ (l : List ℕ). count_bytes (is_fielded g) (is_raw_data g) (length g.lengths) ++ l)
      (rest_is s first (fields_bytes (is_delta h.kind) g.indices (given_fields g)) end fields.stands
      ∙ ap (λ (l : List ℕ). fields_bytes (is_delta h.kind) g.indices (given_fields g) ++ l) rest)))
    where
      counted : Back s (length (message_header_bytes h)) (count_bytes (is_fielded g) (is_raw_data g) (length g.lengths)) first
      counted = subst (λ (j : ℕ). Back s (length (message_header_bytes h)) (count_bytes (is_fielded g) (is_raw_data g) j) first) (sym fields.count) count.stands

  agree : is_fielded g ≡ true → count_agrees (is_raw_data g) (length types) (length g.lengths) ≡ true
  agree e = ap (count_agrees (is_raw_data g) (length types)) fields.count ∙ count.agrees e

  -- nothing follows a heartbeat
  unpadded : is_fielded g ≡ false → not (is_key h.kind) || eqb g.padding 0 ≡ true
  unpadded e = go (is_key h.kind) refl
    where
      go : (k : Bool) → is_key h.kind ≡ k → not k || eqb g.padding 0 ≡ true
      go true k =
          let l = count.ends e k in
          let a = count.stands.1 in
          let b = fields.stands.1 in
          let p : length s - end ≡ 0 = omega arith in
          eq-eqb g.padding 0 p
      go false k = refl

  whole : whole_given types g ≡ true
  whole = go (is_fielded g) refl
    where
      go : (f : Bool) → is_fielded g ≡ f → whole_given types g ≡ true
      go true e = rw (e, reached_all (is_raw_data g) types g.lengths g.values (agree e)) fields.whole
      go false e = rw e

  counts : counts_given types g ≡ true
  counts = go (is_fielded g) refl
    where
      go : (f : Bool) → is_fielded g ≡ f → counts_given types g ≡ true
      go true e = rw e (agree e)
      go false e = rw (e, eq-eqb (length g.lengths) 0 (fields.count ∙ count.none e), unpadded e)

  none_refused : message_refusal types g ≡ 0
  none_refused =
      acceptable types g
      (record {
        kind = header.kind;
        picoseconds = header.picoseconds;
        whole = whole;
        counts = counts;
        adds = fields.adds;
        indexed = fields.indexed ∙ ap (λ (j : ℕ). cond (is_delta h.kind) j 0) (sym fields.count);
      })

  parts_again : Rewritten types s (read h n first end)
  parts_again =
      record {
        accepted = none_refused;
        same = bytes_same;
        parts = again_parts types s h n first end header count (let e = fields.stands.1 in omega arith) rest;
      }

after_count : (types s : List ℕ) (h : Header) (n first : ℕ) (m : Message) (e : ℕ) → Bytes s → HeaderBack s h (length (message_header_bytes h))
    → CountBack h.kind (is_raw h.encoding) types s (length (message_header_bytes h)) n first
    → end_at h (record { encoding = h.encoding; delta = is_delta h.kind; next = 0; count = n; at = first }) types s ≡ got (valid m) e → Rewritten types s m
after_count types s h n first m e bytes header count q =
    let a = invert (fields_at (is_delta h.kind) h.encoding types n 0 s first) (λ u z. _) q in
    let b = invert (padding_at s a.1) (λ u z. _) a.3 in
    let l = end_fits s (length (message_header_bytes h)) (count_bytes (has_fields h.kind (leb (length s) (length (message_header_bytes h)))) (is_raw h.encoding) n) first count.stands in
    let f = fields_back (is_delta h.kind) h.encoding types s bytes n 0 first a.1 l a.2 in
    let k = end_fits s first (fields_bytes (is_delta h.kind) (indices_for (is_delta h.kind) (fields_read types s (read h n first a.1)))
    (values_of (lengths_of (fields_read types s (read h n first a.1))) (values_joined s (fields_read types s (read h n first a.1))))) a.1 f.stands in
    let o : a.1 + (length s - a.1) ≡ length s = omega arith in
    let r = zeros_back (length s - a.1) s a.1 b.1 o b.2 in
    let v : valid (read h n first a.1) ≡ valid m = got_value b.3 in
    let x : read h n first a.1 ≡ m = cc in
    subst (Rewritten types s) x (parts_again types s h n first a.1 header count f r)

after_header_lem : (v : Valid Header) (types s : List ℕ) (at : ℕ) (m : Message) (e : ℕ) → Bytes s → message_header_at s 0 ≡ got v at → after_header v types s at ≡ got (valid m) e → Rewritten types s m
after_header_lem not_valid types s at m e bytes p q =
    let v : ◌≡◌ {A = Valid Message} not_valid (valid m) = got_value q in
    let z : ◌≡◌ {A = ℕ} 0 1 = cc in
    absurd (omega arith)
after_header_lem (valid h) types s at m e bytes p q =
    let b = header_back s h at bytes p in
    let n : at ≡ length (message_header_bytes h) = b.sized in
    let x : body_at h types s (length (message_header_bytes h)) ≡ got (valid m) e = ap (body_at h types s) (sym n) ∙ q in
    let c = invert (count_at h.kind (is_raw h.encoding) types s (length (message_header_bytes h))) (λ j first. _) x in
    let t = subst (HeaderBack s h) n b in
    after_count types s h c.0 c.1 m e bytes t
    (count_back h.kind (is_raw h.encoding) types s (length (message_header_bytes h)) c.0 c.1 bytes t.fits (delta_plain h.kind h.encoding b.kind) c.2) c.3

-- Every accepted DataSetMessage, taken as it was read, is accepted by the writer and rewritten, padding included, with its picoseconds held.
pub rewrite_read : (types s : List ℕ) (m : Message) (e : ℕ) → Bytes s → message_at types s ≡ got (valid m) e → Rewritten types s m
rewrite_read types s m e bytes q =
    let a = invert (message_header_at s 0) (λ v at. after_header v types s at) q in
    after_header_lem a.0 types s a.1 m e bytes a.2 a.3

-- a message with its picoseconds held is as long as it was
as_long : (h : Header) (s entry exit : List ℕ) (r : Result ℕ Reason) → length s ≤ 65535 → length s ≤ length entry → Writes (writing (message_held h s)) entry exit r
    → (r ≡ Ok (length s)) × (exit ≡ message_held h s ++ drop (length s) entry)
as_long h s entry exit r l room w =
    let n = held_length h.picoseconds (message_picoseconds_place h) s in
    let x = fitting_written {bytes = message_held h s} (rw n l) (rw n room) w in
    (x.0 ∙ ap Ok n, x.1 ∙ ap (λ (k : ℕ). message_held h s ++ drop k entry) n)

-- The same of the writer itself, where the message is within the limit and the buffer has room: it reports the message's length, and
-- the buffer begins with the message, its picoseconds held, and goes on as it was.
pub rewrite_written : (types s : List ℕ) (m : Message) (e : ℕ) → Bytes s → message_at types s ≡ got (valid m) e → length s ≤ 65535
    → (entry exit : List ℕ) (r : Result ℕ Reason) → length s ≤ length entry → Writes (message_output types (taken_again types s m)) entry exit r
    → (r ≡ Ok (length s)) × (exit ≡ message_held m.header s ++ drop (length s) entry)
rewrite_written types s m e bytes q l entry exit r room w =
    let x = rewrite_read types s m e bytes q in
    let v = subst (λ (k : ℕ). Writes (unless k (encode (taken_again types s m))) entry exit r) x.accepted w in
    as_long m.header s entry exit r l room (subst (λ (b : List ℕ). Writes (writing b) entry exit r) x.same v)

-- and of `rewrite`
pub rewrite_same : (types s : List ℕ) (m : Message) (e : ℕ) → Bytes s → message_at types s ≡ got (valid m) e → length s ≤ 65535
    → (entry exit : List ℕ) (r : Result ℕ Reason) → length s ≤ length entry → Writes (message_again types s) entry exit r
    → (r ≡ Ok (length s)) × (exit ≡ message_held m.header s ++ drop (length s) entry)
rewrite_same types s m e bytes q l entry exit r room w =
    let x = rewrite_read types s m e bytes q in
    let v = subst (λ (a : Answer (Valid Message)). Writes (after_reading a (where_valid (again s))) entry exit r) q w in
    as_long m.header s entry exit r l room (subst (λ (b : List ℕ). Writes (writing b) entry exit r) x.parts v)

-- The fields that are written again are those that lookup gives.

walked_nth : (delta : Bool) (encoding : Encoding) (types s : List ℕ) (d : Field) (j n k at end : ℕ) → j < n → fields_at delta encoding types n k s at ≡ got tt end
    → (q : ℕ) × (e : ℕ) × (fields_at delta encoding types j k s at ≡ got tt q) × (field_at delta encoding types (k + j) s q ≡ got (get_or (walked delta encoding types n k s at) j d) e)
unfolding fields_at walked
walked_nth delta encoding types s d j zero k at end l h = absurd (omega arith)
walked_nth delta encoding types s d zero (suc n) k at end l h =
    let a = invert (field_at delta encoding types k s at) (λ f q. fields_at delta encoding types n (k + 1) s q) h in (
      at,
      a.1,
      refl,
      ap (λ (i : ℕ). field_at delta encoding types i s at) (add-zero k) ∙ a.2
          ∙ ap (λ (f : Field). got f a.1) (sym (first_is (field_at delta encoding types k s at) a.0 a.1 a.2)),
    )
  where
    first_is : (x : Answer Field) (f : Field) (q : ℕ) → x ≡ got f q → get_or (and_field x (λ f e. walked delta encoding types n (k + 1) s e)) zero d ≡ f
    first_is x f q e = ap (λ (y : Answer Field). get_or (and_field y (λ f e. walked delta encoding types n (k + 1) s e)) zero d) e
walked_nth delta encoding types s d (suc j) (suc n) k at end l h =
    let a = invert (field_at delta encoding types k s at) (λ f q. fields_at delta encoding types n (k + 1) s q) h in
    let r = walked_nth delta encoding types s d j n (k + 1) a.1 end (omega arith) a.3 in
    let e : k + suc j ≡ k + 1 + j = omega arith in
    let w : get_or (and_field (field_at delta encoding types k s at) (λ f z. walked delta encoding types n (k + 1) s z)) (suc j) d ≡ get_or (walked delta encoding types n (k + 1) s a.1) j d =
    ap (λ (y : Answer Field). get_or (and_field y (λ f z. walked delta encoding types n (k + 1) s z)) (suc j) d) a.2 in (
      r.0,
      r.1,
      ap (λ (y : Answer Field). and_then y (λ f q. fields_at delta encoding types j (k + 1) s q)) a.2 ∙ r.2,
      ap (λ (i : ℕ). field_at delta encoding types i s r.0) e ∙ r.3
          ∙ ap (λ (f : Field). got f r.1) (sym w),
    )

pub walked_is : (types s : List ℕ) (m : Message) (e : ℕ) → message_at types s ≡ got (valid m) e → (d : Field) (k : ℕ) → k < m.cursor.count
    → (end : ℕ) × (field_place_at types k s ≡ got (get_or (fields_read types s m) k d) end)
walked_is types s m e q d k l =
    let r = message_read types s m e q in
    let w = walked_nth m.cursor.delta m.cursor.encoding types s d k m.cursor.count 0 m.cursor.at m.end l r.passed in
    let f = ap (λ (i : ℕ). field_at m.cursor.delta m.cursor.encoding types i s w.0) (sym (zero-add k)) ∙ w.3 in
    (w.1, rw (q, lt-leb m.cursor.count k l, w.2, f))
