-- What the DataSetMessage writer accepts reads back as it was given.
-- Assumes nothing.
use Rattle.std.specs.Prelude.{Ok}
use mathlib.Core.Path.{◌≡◌, refl, ap, sym, ◌∙◌, subst}
use mathlib.Core.Bool.{Bool, true, false, cond, not, ◌&&◌, ◌||◌}
use mathlib.Core.List.{List, [], ◌∷◌, ◌++◌}
use Prim.Native.Nat.{ℕ, ◌+◌, ◌-◌, ◌≤◌, ◌<◌}
use native.Mathlib.Nat.{add-zero, zero-add}
use native.Mathlib.Omega.{arith}
use borrow.Author.Tests.{leb-true, ltb-true, eqb-true, eqb-false, ne_eqb, le-leb, lt-leb}
use lib.Dec.{leb, ltb, eqb}
use lib.ListN.{take, drop, length, get_or, length-append}
use lib.Seq.{take_all}
use Rattle.wire.specs.Answer.{got}
use Rattle.wire.proofs.Facts.{and_left, and_right}
use Rattle.value.specs.Value.{Measure}
use Rattle.wire_writer.specs.Writing.{Writes}
use Rattle.wire_writer.proofs.Trip.{At, first, second, item_is}
use Rattle.dataset_header.specs.declared.flags.Encoding.{Encoding}
use Rattle.dataset_header.specs.declared.flags.Kind.{Kind}
use Rattle.dataset_header.specs.Flags.{valid, is_delta, is_raw, kind_rule}
use Rattle.dataset_header.specs.Header.{FitsHeader}
use Rattle.dataset_fields.specs.Fields.{encoded_at, field_at, fields_at, padding_at, values_of, ends_at, fields_whole, reached, fields_bytes, zeros}
use Rattle.dataset_message.specs.Message.{counted_at, count_at, message_at, field_place_at}
use Rattle.dataset_fields.proofs.Inside.{field_inside}
use Rattle.dataset_message.specs.Writer.{GivenMessage, FitsGiven, message_output, has_fields, is_key, is_fielded, is_raw_data, given_fields, count_bytes, count_agrees, encode, message_refusal}
use Rattle.dataset_fields.proofs.Judging.{length_values}
use Rattle.dataset_message.proofs.Whole.{Accepted, accepted}
use Rattle.round_trip.specs.DataSetMessage.{first_of, end_of, message_written, FieldBack, MessageBack}
use Rattle.wire_writer.proofs.Answering.{reported}
use Rattle.dataset_fields.proofs.FieldsTrip.{whole_alone, fields_is, nth_is, zeros_is}
use Rattle.wire_writer.specs.Fits.{Numbers}
use Rattle.round_trip.proofs.DataSetMessagePlaces.{fields_part, count_part, start, body_at_lem, sizes, header_read}

pub no : {A : Type 0} → false ≡ true → A
no e = let z : ◌≡◌ {A = ℕ} 0 1 = cc in absurd (omega arith)

-- FieldCount, or the configured number

pub counted_is : (raw : Bool) (types s : List ℕ) (at n : ℕ) → (raw ≡ true → (eqb (length types) 0 ≡ false) × (n ≡ length types)) → (raw ≡ false → n ≤ 65535)
    → At s at (count_bytes true raw n) → counted_at raw types s at ≡ got n (at + length (count_bytes true raw n))
counted_is true types s at n h l a = rw (h refl).0 (ap (λ (m : ℕ). got m at) (sym (h refl).1) ∙ ap (got n) (sym (add-zero at)))
counted_is false types s at n h l a = let u = l refl in item_is 2 n at (omega arith) s a

-- of a message without fields: there are none, and nothing follows the header of a heartbeat
pub record Bare (kind : Kind) (s : List ℕ) (at n : ℕ) : Type 0 where
  pub none : n ≡ 0
  pub ends : is_key kind ≡ true → length s ≤ at

pub count_is : (kind : Kind) (heartbeat raw : Bool) (types s : List ℕ) (at n : ℕ) → (is_delta kind ≡ true → raw ≡ false)
    → (has_fields kind heartbeat ≡ true → (at < length s) × (counted_at raw types s at ≡ got n (at + length (count_bytes true raw n))))
    → (has_fields kind heartbeat ≡ false → Bare kind s at n)
    → count_at kind raw types s at ≡ got n (at + length (count_bytes (has_fields kind heartbeat) raw n))
count_is Kind.Key true raw types s at n d f b =
    let z = b refl in
    rw (le-leb (length s) at (z.ends refl)) (ap (λ (m : ℕ). got m at) (sym z.none) ∙ ap (got n) (sym (add-zero at)))
count_is Kind.Key false raw types s at n d f b = rw (lt-leb (length s) at (f refl).0) (f refl).1
count_is Kind.Delta heartbeat raw types s at n d f b = ap (λ (r : Bool). counted_at r types s at) (sym (d refl)) ∙ (f refl).1
count_is Kind.Event heartbeat raw types s at n d f b = (f refl).1
count_is Kind.KeepAlive heartbeat raw types s at n d f b = let z = b refl in ap (λ (m : ℕ). got m at) (sym z.none) ∙ ap (got n) (sym (add-zero at))

-- a field is never empty, so neither are some

pub some_of : (encoding : Encoding) (types : List ℕ) (k : ℕ) (v : List ℕ) (x : Measure) → encoded_at encoding types k v 0 ≡ got x (length v) → 0 < length v
some_of encoding types k v x q =
    let r : field_at false encoding types k v 0 ≡ got (record { index = k; kind = x.kind; shape = x.shape; offset = 0; length = length v - 0 }) (length v) = rw q in
    let i = field_inside false encoding types k v 0 (record { index = k; kind = x.kind; shape = x.shape; offset = 0; length = length v - 0 }) (length v) r in
    omega (arith, i.some)

value_some : (encoding : Encoding) (types : List ℕ) (k : ℕ) (v : List ℕ) → ends_at (length v) (encoded_at encoding types k v 0) ≡ true → 0 < length v
value_some encoding types k v w =
    let t = whole_alone (encoded_at encoding types k v 0) (length v) w in
    some_of encoding types k v t.0 t.1

fields_some : (delta : Bool) (encoding : Encoding) (types : List ℕ) (k : ℕ) (indices : List ℕ) (vs : List (List ℕ)) → fields_whole encoding types k vs ≡ true → 0 < length vs
    → 0 < length (fields_bytes delta indices vs)
unfolding fields_whole fields_bytes
fields_some delta encoding types k indices [] w l = absurd (omega arith)
fields_some delta encoding types k indices (v ∷ vs) w l =
    let x = value_some encoding types k v (and_left _ (fields_whole encoding types (k + 1) vs) w) in
    simp length-append (omega arith)

-- all fields are reached
pub reached_all : (raw : Bool) (types lengths values : List ℕ) → count_agrees raw (length types) (length lengths) ≡ true → reached raw types (values_of lengths values) ≡ values_of lengths values
reached_all true types lengths values e =
    let n : length lengths ≡ length types = eqb-true (length lengths) (length types) (and_right (ltb 0 (length lengths)) (eqb (length lengths) (length types)) e) in
    let m = length_values lengths values in
    take_all (length types) (values_of lengths values) (omega arith)
reached_all false types lengths values e = refl

-- What follows the header of an accepted message.
pub record Fielded (types : List ℕ) (g : GivenMessage) : Type 0 where
  pub whole : fields_whole g.header.encoding types 0 (given_fields g) ≡ true
  pub configured : is_fielded g ≡ true → is_raw_data g ≡ true → (eqb (length types) 0 ≡ false) × (length g.lengths ≡ length types)
  pub counted : is_fielded g ≡ true → is_raw_data g ≡ false → length g.lengths ≤ 65535
  pub none : is_fielded g ≡ false → length g.lengths ≡ 0
  pub unpadded : is_fielded g ≡ false → is_key g.header.kind ≡ true → g.padding ≡ 0

none_is : (encoding : Encoding) (types lengths values : List ℕ) → length lengths ≡ 0 → fields_whole encoding types 0 (values_of lengths values) ≡ true
unfolding values_of fields_whole
none_is encoding types [] values e = refl
none_is encoding types (n ∷ lengths) values e = absurd (omega arith)

unpadded_is : (key : Bool) (padding : ℕ) → not key || eqb padding 0 ≡ true → key ≡ true → padding ≡ 0
unpadded_is true padding h e = eqb-true padding 0 h
unpadded_is false padding h e = no e

raw_configured : (raw : Bool) (configured n : ℕ) → count_agrees raw configured n ≡ true → raw ≡ true → (eqb configured 0 ≡ false) × (n ≡ configured)
raw_configured true configured n c e =
    let q : n ≡ configured = eqb-true n configured (and_right (ltb 0 n) (eqb n configured) c) in
    let p : 0 < n = ltb-true 0 n (and_left (ltb 0 n) (eqb n configured) c) in
    (ne_eqb configured 0 (λ z. omega arith), q)
raw_configured false configured n c e = no e

plain_counted : (raw : Bool) (configured n : ℕ) → count_agrees raw configured n ≡ true → raw ≡ false → n ≤ 65535
plain_counted true configured n c e = no (sym e)
plain_counted false configured n c e = leb-true n 65535 c

pub fielded : (types : List ℕ) (g : GivenMessage) → Accepted types g → Fielded types g
fielded types g a = go (is_fielded g) refl
  where
    go : (f : Bool) → is_fielded g ≡ f → Fielded types g
    go true e =
        let w : fields_whole g.header.encoding types 0 (reached (is_raw_data g) types (given_fields g)) ≡ true = rw e at a.whole in
        let c : count_agrees (is_raw_data g) (length types) (length g.lengths) ≡ true = rw e at a.counts in
        record {
          whole = subst (λ (vs : List (List ℕ)). fields_whole g.header.encoding types 0 vs ≡ true) (reached_all (is_raw_data g) types g.lengths g.values c) w;
          configured = λ f r. raw_configured (is_raw_data g) (length types) (length g.lengths) c r;
          counted = λ f r. plain_counted (is_raw_data g) (length types) (length g.lengths) c r;
          none = λ f. no (sym f ∙ e);
          unpadded = λ f k. no (sym f ∙ e);
        }
    go false e =
        let bare = not (is_key g.header.kind) || eqb g.padding 0 in
        let w : eqb (length g.lengths) 0 && bare ≡ true = rw e at a.counts in
        let n : length g.lengths ≡ 0 = eqb-true (length g.lengths) 0 (and_left (eqb (length g.lengths) 0) bare w) in
        record {
          whole = none_is g.header.encoding types g.lengths g.values n;
          configured = λ f r. no (sym e ∙ f);
          counted = λ f r. no (sym e ∙ f);
          none = λ f. n;
          unpadded = λ f k. unpadded_is (is_key g.header.kind) g.padding (and_right (eqb (length g.lengths) 0) bare w) k;
        }

pub delta_plain : (kind : Kind) (encoding : Encoding) → kind_rule kind encoding ≡ 0 → is_delta kind ≡ true → is_raw encoding ≡ false
delta_plain Kind.Key encoding r e = no e
delta_plain Kind.Delta Encoding.Variant r e = refl
delta_plain Kind.Delta Encoding.RawData r e = absurd (omega arith)
delta_plain Kind.Delta Encoding.DataValue r e = refl
delta_plain Kind.Event encoding r e = no e
delta_plain Kind.KeepAlive encoding r e = no e

none_bytes : (delta : Bool) (indices lengths values : List ℕ) → length lengths ≡ 0 → length (fields_bytes delta indices (values_of lengths values)) ≡ 0
unfolding values_of fields_bytes
none_bytes delta indices [] values q = refl
none_bytes delta indices (x ∷ lengths) values q = absurd (omega arith)

-- fields follow the header of a key frame exactly if it is no heartbeat
key_fields : (kind : Kind) (heartbeat : Bool) → is_key kind ≡ true → has_fields kind heartbeat ≡ not heartbeat
key_fields Kind.Key heartbeat k = refl
key_fields Kind.Delta heartbeat k = no k
key_fields Kind.Event heartbeat k = no k
key_fields Kind.KeepAlive heartbeat k = no k

module _ (types : List ℕ) (g : GivenMessage) (fits : FitsHeader g.header) (indices : Numbers g.indices) (ok : Accepted types g) where
  body : Fielded types g
  body = fielded types g ok

  -- where the parts stand

  fields_at_lem : At (encode g) (first_of g) ((fields_part g) ++ zeros g.padding)
  fields_at_lem = second (encode g) (start g) (count_part g) ((fields_part g) ++ zeros g.padding) (body_at_lem g)

  zeros_at_lem : At (encode g) (end_of g) (zeros g.padding)
  zeros_at_lem = second (encode g) (first_of g) (fields_part g) (zeros g.padding) fields_at_lem

  -- the parts, read

  follows : is_fielded g ≡ true → (start g) < length (encode g)
  follows e = go (is_raw_data g) refl
    where
      go : (r : Bool) → is_raw_data g ≡ r → (start g) < length (encode g)
      go true q =
          let c = body.configured e q in
          let n : 0 < length (given_fields g) = let m = length_values g.lengths g.values in let z = eqb-false (length types) 0 c.0 in omega arith in
          let x = fields_some (is_delta g.header.kind) g.header.encoding types 0 g.indices (given_fields g) body.whole n in
          omega (arith, (sizes g))
      go false q = let c : length (count_part g) ≡ 2 = rw (e, q) in omega (arith, (sizes g))

  ends_there : is_fielded g ≡ false → is_key g.header.kind ≡ true → length (encode g) ≤ (start g)
  ends_there e k =
      let p = body.unpadded e k in
      let c : length (count_part g) ≡ 0 = rw e in
      let n : length (fields_part g) ≡ 0 = none_bytes (is_delta g.header.kind) g.indices g.lengths g.values (body.none e) in
      omega (arith, (sizes g))

  count_read : count_at g.header.kind (is_raw_data g) types (encode g) (start g) ≡ got (length g.lengths) (first_of g)
  count_read =
      count_is g.header.kind g.heartbeat (is_raw_data g) types (encode g) (start g) (length g.lengths) (delta_plain g.header.kind g.header.encoding ok.kind)
      (λ e. (
        follows e,
        counted_is (is_raw_data g) types (encode g) (start g) (length g.lengths) (body.configured e) (body.counted e)
            (subst (λ (f : Bool). At (encode g) (start g) (count_bytes f (is_raw_data g) (length g.lengths))) e
            (first (encode g) (start g) (count_part g) ((fields_part g) ++ zeros g.padding) (body_at_lem g))),
      ))
      (λ e. record { none = body.none e; ends = ends_there e })

  fields_read : fields_at (is_delta g.header.kind) g.header.encoding types (length g.lengths) 0 (encode g) (first_of g) ≡ got tt (end_of g)
  fields_read =
      ap (λ (n : ℕ). fields_at (is_delta g.header.kind) g.header.encoding types n 0 (encode g) (first_of g)) (sym (length_values g.lengths g.values))
      ∙ fields_is (is_delta g.header.kind) g.header.encoding types (given_fields g) 0 g.indices indices body.whole (encode g)
      (first_of g) (first (encode g) (first_of g) (fields_part g) (zeros g.padding) fields_at_lem)

  padding_is : length (encode g) - end_of g ≡ g.padding
  padding_is = omega (arith, (sizes g))

  padding_read : padding_at (encode g) (end_of g) ≡ got tt (end_of g + g.padding)
  padding_read = rw padding_is (zeros_is g.padding (encode g) (end_of g) zeros_at_lem)

  message_read : message_at types (encode g) ≡ got (valid (message_written g)) (end_of g)
  message_read = rw ((header_read g fits ok.kind ok.picoseconds), count_read, fields_read, padding_read)

  heartbeat_read : is_key g.header.kind ≡ true → leb (length (encode g)) (start g) ≡ g.heartbeat
  heartbeat_read k = go g.heartbeat (is_fielded g) refl (key_fields g.header.kind g.heartbeat k)
    where
      go : (b f : Bool) → is_fielded g ≡ f → f ≡ not b → leb (length (encode g)) (start g) ≡ b
      go true f e n = le-leb (length (encode g)) (start g) (ends_there (e ∙ n) k)
      go false f e n = lt-leb (length (encode g)) (start g) (follows (e ∙ n))

  field_read : (k : ℕ) → k < length g.lengths → FieldBack types g (encode g) k
  field_read k l =
      let n = nth_is (is_delta g.header.kind) g.header.encoding types k (given_fields g) 0 g.indices indices body.whole (rw (length_values g.lengths g.values) l)
      (encode g) (first_of g) (first (encode g) (first_of g) (fields_part g) (zeros g.padding) fields_at_lem) in
      let r : field_at (is_delta g.header.kind) g.header.encoding types k (encode g) n.at ≡ got n.place n.end =
      ap (λ (j : ℕ). field_at (is_delta g.header.kind) g.header.encoding types j (encode g) n.at) (sym (zero-add k)) ∙ n.reads in
      let p : field_place_at types k (encode g) ≡ got n.place n.end = rw (message_read, lt-leb (length g.lengths) k l, n.passed, r) in
      record {
        place = n.place;
        end = n.end;
        looked_up = p;
        index = n.index ∙ ap (cond (is_delta g.header.kind) (get_or g.indices k 0)) (zero-add k);
        bytes = rw p n.bytes;
      }

-- What the writer accepts reads back, under the same types, as what it was given: the header, the number of fields, each field's
-- index and bytes, and the length of the padding.
pub read_written : (types : List ℕ) (g : GivenMessage) → FitsHeader g.header → Numbers g.indices → message_refusal types g ≡ 0 → MessageBack types g (encode g)
read_written types g fits indices h =
    let ok = accepted types g h in
    record {
      message = message_read types g fits indices ok;
      heartbeat = heartbeat_read types g fits indices ok;
      field = field_read types g fits indices ok;
      padding = padding_is types g fits indices ok;
    }

-- The same of the buffer, by the writer's contract alone: where it reports n bytes, the first n read back, and the others are as they were.
pub written_reads : (types : List ℕ) (g : GivenMessage) (entry exit : List ℕ) (n : ℕ) → FitsGiven g × Writes (message_output types g) entry exit (Ok n)
    → MessageBack types g (take n exit) × (drop n exit ≡ drop n entry)
written_reads types g entry exit n c =
    let w = reported (message_refusal types g) (encode g) entry exit n c.1 in
    (subst (MessageBack types g) (sym w.front) (read_written types g c.0.header c.0.indices w.number), w.rest)
