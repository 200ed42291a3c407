-- What the writer refuses by 6 for its fields, its number of fields or its padding would read back otherwise; and it accepts exactly what
-- reads back as given.
-- Assumes nothing.
use mathlib.Core.Path.{◌≡◌, refl, ap, sym, ◌∙◌, subst}
use mathlib.Core.Bool.{Bool, true, false, not, ◌&&◌, ◌||◌}
use mathlib.Core.List.{List, [], ◌∷◌, ◌++◌, append-nil}
use Prim.Native.Nat.{ℕ, suc, ◌+◌, ◌%◌, ◌≤◌, ◌<◌}
use native.Mathlib.Nat.{add-zero, zero-add}
use native.Mathlib.Omega.{arith}
use borrow.Author.Tests.{leb-true, eqb-true, eq-eqb, eqb-false, lt-ltb, le-leb, lt-leb}
use lib.Dec.{eqb, leb, ltb}
use lib.ListN.{length, get_or}
use Rattle.plain_value.proofs.Widths.{positive}
use Rattle.wire.specs.Number.{le_bytes}
use Rattle.wire.specs.Answer.{Answer, got, and_then}
use Rattle.wire.proofs.Facts.{and_left, and_right}
use Rattle.wire.proofs.Reading.{invert, got_value, not_got}
use Rattle.wire_writer.specs.Writing.{or_else, picoseconds_refusal}
use Rattle.wire_writer.proofs.Trip.{At, first, item_is}
use Rattle.wire_writer.proofs.Refusals.{both_zero}
use Rattle.dataset_header.specs.declared.flags.Encoding.{Encoding}
use Rattle.dataset_header.specs.declared.flags.Kind.{Kind}
use Rattle.dataset_header.specs.declared.header.Header.{Header}
use Rattle.dataset_fields.specs.declared.fields.Field.{Field}
use Rattle.dataset_header.specs.Flags.{Valid, not_valid, valid, is_delta, is_raw, kind_rule}
use Rattle.dataset_header.specs.Header.{FitsHeader}
use Rattle.dataset_fields.specs.Fields.{encoded_at, field_at, fields_at, padding_at, ends_at, fields_whole, zeros, field_bytes_of}
use Rattle.dataset_message.specs.Message.{Message, counted_at, count_at, body_at, field_bytes, nth_at}
use Rattle.dataset_message.specs.Writer.{GivenMessage, has_fields, is_key, is_fielded, is_raw_data, given_fields, count_bytes, count_agrees, whole_given, lists_given, counts_given, body_refusal, body_agrees, message_reading_refusal, message_refusal, encode}
use Rattle.dataset_fields.proofs.Judging.{length_values}
use Rattle.dataset_message.proofs.Whole.{accepted, acceptable, lists_agree_lem, lists_add, count_bytes_lem}
use Rattle.round_trip.specs.DataSetMessage.{first_of, end_of, message_written, MessageBack}
use Rattle.dataset_fields.proofs.FieldsTrip.{field_alone}
use Rattle.wire_writer.specs.Fits.{Numbers}
use Rattle.round_trip.proofs.DataSetMessage.{no, reached_all, delta_plain, read_written}
use Rattle.round_trip.proofs.DataSetMessageHeader.{kind_refused, picoseconds_kept}
use Rattle.round_trip.proofs.DataSetMessagePlaces.{fields_part, count_part, start, body_at_lem, sizes, header_read}

whole_at : (s : List ℕ) → At s 0 s
whole_at s = ([], [], sym (append-nil s), refl)

-- each field whole, all are
all_whole : (encoding : Encoding) (types : List ℕ) (vs : List (List ℕ)) (k : ℕ)
    → ((j : ℕ) → j < length vs → ends_at (length (get_or vs j [])) (encoded_at encoding types (k + j) (get_or vs j []) 0) ≡ true) → fields_whole encoding types k vs ≡ true
unfolding fields_whole
all_whole encoding types [] k h = refl
all_whole encoding types (v ∷ vs) k h =
    let a : ends_at (length v) (encoded_at encoding types k v 0) ≡ true = ap (λ (n : ℕ). ends_at (length v) (encoded_at encoding types n v 0)) (sym (add-zero k)) ∙ h 0 (omega arith) in
    let b = all_whole encoding types vs (k + 1)
    (λ j l. let e : k + 1 + j ≡ k + suc j = omega arith in ap (λ (n : ℕ). ends_at (length (get_or vs j [])) (encoded_at encoding types n (get_or vs j []) 0)) e ∙ h (suc j) (omega arith)) in
    rw (a, b)

-- the number of fields as it is read
counted_agrees : (raw : Bool) (types s : List ℕ) (at n next : ℕ) → At s at (count_bytes true raw n) → counted_at raw types s at ≡ got n next → count_agrees raw (length types) n ≡ true
counted_agrees true types s at n next a h = go (eqb (length types) 0) refl
  where
    go : (t : Bool) → eqb (length types) 0 ≡ t → ltb 0 n && eqb n (length types) ≡ true
    go true t = absurd (not_got (rw t at h))
    go false t =
        let q : length types ≡ n = got_value (rw t at h) in
        let z = eqb-false (length types) 0 t in
        let p : 0 < n = positive n (λ e. z (q ∙ e)) in
        rw (lt-ltb 0 n p, eq-eqb n (length types) (sym q))
counted_agrees false types s at n next a h =
    let l : n % 65536 < 65536 = omega arith in
    let b : At s at (le_bytes 2 (n % 65536)) = subst (At s at) (sym (count_bytes_lem n)) a in
    let e : n % 65536 ≡ n = got_value (sym (item_is 2 (n % 65536) at l s b) ∙ h) in
    let u : n ≤ 65535 = omega arith in
    le-leb n 65535 u

count_agrees_lem : (kind : Kind) (heartbeat raw : Bool) (types s : List ℕ) (at n next : ℕ) → (is_delta kind ≡ true → raw ≡ false) → has_fields kind heartbeat ≡ true
    → (is_key kind ≡ true → leb (length s) at ≡ heartbeat) → At s at (count_bytes true raw n) → count_at kind raw types s at ≡ got n next → count_agrees raw (length types) n ≡ true
count_agrees_lem Kind.Key true raw types s at n next d f b a h = no f
count_agrees_lem Kind.Key false raw types s at n next d f b a h = counted_agrees raw types s at n next a (rw (b refl) at h)
count_agrees_lem Kind.Delta heartbeat raw types s at n next d f b a h = counted_agrees raw types s at n next a (ap (λ (r : Bool). counted_at r types s at) (d refl) ∙ h)
count_agrees_lem Kind.Event heartbeat raw types s at n next d f b a h = counted_agrees raw types s at n next a h
count_agrees_lem Kind.KeepAlive heartbeat raw types s at n next d f b a h = no f

none_read : (kind : Kind) (heartbeat raw : Bool) (types s : List ℕ) (at n next : ℕ) → has_fields kind heartbeat ≡ false
    → (is_key kind ≡ true → leb (length s) at ≡ heartbeat) → count_at kind raw types s at ≡ got n next → (n ≡ 0) × (is_key kind ≡ true → length s ≤ at)
none_read Kind.Key true raw types s at n next f b h = (sym (got_value (rw (b refl) at h)), λ k. leb-true (length s) at (b refl))
none_read Kind.Key false raw types s at n next f b h = no (sym f)
none_read Kind.Delta heartbeat raw types s at n next f b h = no (sym f)
none_read Kind.Event heartbeat raw types s at n next f b h = no (sym f)
none_read Kind.KeepAlive heartbeat raw types s at n next f b h = (sym (got_value h), λ k. no k)

-- the number of fields that a message that was read has
count_of : (h : Header) (types s : List ℕ) (at : ℕ) (m : Message) (e : ℕ) → body_at h types s at ≡ got (valid m) e
    → count_at h.kind (is_raw h.encoding) types s at ≡ got m.cursor.count m.cursor.at
count_of h types s at m e q =
    let c = invert (count_at h.kind (is_raw h.encoding) types s at) (λ n first. _) q in
    let a = invert (fields_at (is_delta h.kind) h.encoding types c.0 0 s c.1) (λ u z. _) c.3 in
    let b = invert (padding_at s a.1) (λ u z. _) a.3 in
    let v = got_value b.3 in
    c.2 ∙ ap (λ (x : Valid Message). got (count_in x) (at_in x)) v
  where
    count_in : Valid Message → ℕ
    count_in (valid m) = m.cursor.count
    count_in not_valid = 0

    at_in : Valid Message → ℕ
    at_in (valid m) = m.cursor.at
    at_in not_valid = 0

module _ (types : List ℕ) (g : GivenMessage) (fits : FitsHeader g.header) (kind : kind_rule g.header.kind g.header.encoding ≡ 0)
    (pico : picoseconds_refusal g.header.picoseconds ≡ 0) (back : MessageBack types g (encode g)) where
  body_read : body_at g.header types (encode g) (start g) ≡ got (valid (message_written g)) (end_of g)
  body_read = rw (header_read g fits kind pico) at back.message

  count_read : count_at g.header.kind (is_raw_data g) types (encode g) (start g) ≡ got (length g.lengths) (first_of g)
  count_read = count_of g.header types (encode g) (start g) (message_written g) (end_of g) body_read

  count_stands : At (encode g) (start g) (count_part g)
  count_stands = first (encode g) (start g) (count_part g) ((fields_part g) ++ zeros g.padding) (body_at_lem g)

  field_whole : (k : ℕ) → k < length g.lengths → ends_at (length (get_or (given_fields g) k [])) (encoded_at g.header.encoding types (0 + k) (get_or (given_fields g) k []) 0) ≡ true
  field_whole k l =
      let f = back.field k l in
      let p : nth_at (message_written g).cursor types k (encode g) ≡ got f.place f.end = rw back.message at f.looked_up in
      let q : and_then (fields_at (is_delta g.header.kind) g.header.encoding types k 0 (encode g) (first_of g))
      (λ u at. field_at (is_delta g.header.kind) g.header.encoding types k (encode g) at) ≡ got f.place f.end =
      rw (lt-leb (length g.lengths) k l) at p in
      let a = invert (fields_at (is_delta g.header.kind) g.header.encoding types k 0 (encode g) (first_of g))
      (λ u at. field_at (is_delta g.header.kind) g.header.encoding types k (encode g) at) q in
      let y = field_alone (is_delta g.header.kind) g.header.encoding types k (encode g) a.1 f.place f.end a.3 in
      let b : field_bytes_of (encode g) f.place ≡ get_or (given_fields g) k [] = ap (λ (x : Answer Field). field_bytes x (encode g)) (sym f.looked_up) ∙ f.bytes in
      ap (λ (n : ℕ). ends_at (length (get_or (given_fields g) k [])) (encoded_at g.header.encoding types n (get_or (given_fields g) k []) 0)) (zero-add k)
      ∙ subst (λ (v : List ℕ). ends_at (length v) (encoded_at g.header.encoding types k v 0) ≡ true) b
      (rw y.1 (eq-eqb (length (field_bytes_of (encode g) f.place)) (length (field_bytes_of (encode g) f.place)) refl))

  fields_whole_lem : fields_whole g.header.encoding types 0 (given_fields g) ≡ true
  fields_whole_lem = all_whole g.header.encoding types (given_fields g) 0 (λ j l. field_whole j (subst (λ (n : ℕ). j < n) (length_values g.lengths g.values) l))

  body_agrees_lem : body_agrees types g ≡ true
  body_agrees_lem = go (is_fielded g) refl
    where
      unpadded : (k : Bool) → is_key g.header.kind ≡ k → (k ≡ true → length (encode g) ≤ (start g)) → not k || eqb g.padding 0 ≡ true
      unpadded true e l = let u = l refl in let p : g.padding ≡ 0 = omega (arith, (sizes g)) in eq-eqb g.padding 0 p
      unpadded false e l = refl

      go : (f : Bool) → is_fielded g ≡ f → body_agrees types g ≡ true
      go true e =
          let c = count_agrees_lem g.header.kind g.heartbeat (is_raw_data g) types (encode g) (start g) (length g.lengths) (first_of g)
          (delta_plain g.header.kind g.header.encoding kind) e back.heartbeat
          (subst (λ (f : Bool). At (encode g) (start g) (count_bytes f (is_raw_data g) (length g.lengths))) e count_stands) count_read in
          rw (e, reached_all (is_raw_data g) types g.lengths g.values c, fields_whole_lem, c)
      go false e =
          let n = none_read g.header.kind g.heartbeat (is_raw_data g) types (encode g) (start g) (length g.lengths) (first_of g) e back.heartbeat count_read in
          rw (e, eq-eqb (length g.lengths) 0 n.0, unpadded (is_key g.header.kind) refl n.1)

-- What reading accepts and reads back as it is given is not refused by 6, where the lists agree.
pub six_otherwise : (types : List ℕ) (g : GivenMessage) → FitsHeader g.header → message_reading_refusal types g ≡ 0 → MessageBack types g (encode g) → body_agrees types g ≡ true
six_otherwise types g fits r back =
    let a = both_zero (kind_rule g.header.kind g.header.encoding) (or_else (picoseconds_refusal g.header.picoseconds) (body_refusal types g)) r in
    let b = both_zero (picoseconds_refusal g.header.picoseconds) (body_refusal types g) a.1 in
    body_agrees_lem types g fits a.0 b.0 back

-- a number that cannot be other than 0
none_of : (n : ℕ) → (eqb n 0 ≡ false → ⊥) → n ≡ 0
none_of n h = go (eqb n 0) refl
  where
    go : (t : Bool) → eqb n 0 ≡ t → n ≡ 0
    go true e = eqb-true n 0 e
    go false e = absurd (h e)

-- The writer accepts exactly what reads back as it is given, where the lists agree.
pub accepts_exactly : (types : List ℕ) (g : GivenMessage) → FitsHeader g.header → Numbers g.indices
    → (message_refusal types g ≡ 0 → MessageBack types g (encode g) × (lists_given g ≡ true)) × (MessageBack types g (encode g) × (lists_given g ≡ true) → message_refusal types g ≡ 0)
accepts_exactly types g fits indices = (there, back)
  where
    there : message_refusal types g ≡ 0 → MessageBack types g (encode g) × (lists_given g ≡ true)
    there h =
        let a = accepted types g h in
        (read_written types g fits indices h, lists_agree_lem (is_delta g.header.kind) g.values g.lengths g.indices a.adds a.indexed)

    back : MessageBack types g (encode g) × (lists_given g ≡ true) → message_refusal types g ≡ 0
    back b =
        let k : kind_rule g.header.kind g.header.encoding ≡ 0 =
        none_of (kind_rule g.header.kind g.header.encoding) (λ z. not_got (sym (kind_refused types g z).1 ∙ b.0.message)) in
        let p : picoseconds_refusal g.header.picoseconds ≡ 0 = picoseconds_kept types (encode g) (message_written g) (end_of g) b.0.message in
        let a = body_agrees_lem types g fits k p b.0 in
        let l = lists_add (is_delta g.header.kind) g.values g.lengths g.indices b.1 in
        acceptable types g
        (record {
          kind = k;
          picoseconds = p;
          whole = and_left (whole_given types g) (counts_given types g) a;
          counts = and_right (whole_given types g) (counts_given types g) a;
          adds = l.0;
          indexed = l.1;
        })
