-- Reading's number of what would be written, where the parts agree, is the writer's.
-- Assumes nothing.
use mathlib.Core.Path.{◌≡◌, refl, ap, sym, ◌∙◌, subst}
use mathlib.Core.Bool.{Bool, true, false, cond, ◌&&◌}
use mathlib.Core.List.{List, [], ◌∷◌, ◌++◌, append_assoc}
use Prim.Native.Nat.{ℕ, zero, suc, ◌+◌, ◌-◌, ◌≤◌, ◌<◌}
use native.Mathlib.Nat.{add-zero, le_refl}
use native.Mathlib.Omega.{arith}
use borrow.Author.Tests.{leb-true, leb-false, ltb-true, ltb-false, eqb-true, eqb-false, eq-eqb, ne_eqb, le-leb, lt-leb}
use lib.Dec.{leb, ltb, eqb}
use lib.ListN.{length, get_or, take, drop, length-append, length-drop, get_or-append, length-replicate}
use lib.Seq.{get_or-append-add, length-take-le, take_all}
use Rattle.wire.specs.Lists.{total}
use Rattle.wire.specs.Answer.{Answer, got, refused, and_then}
use Rattle.wire_writer.specs.Writing.{or_else, picoseconds_refusal}
use Rattle.wire_writer.specs.Fits.{Numbers}
use Rattle.wire_writer.proofs.Trip.{At}
use Rattle.plain_value.specs.Width.{width_of}
use Rattle.dataset_header.specs.declared.flags.Encoding.{Encoding}
use Rattle.dataset_header.specs.declared.flags.Kind.{Kind}
use Rattle.dataset_header.specs.declared.header.Header.{Header}
use Rattle.dataset_header.specs.Flags.{valid, is_delta, is_raw, kind_rule}
use Rattle.dataset_header.specs.Header.{message_header_bytes, FitsHeader}
use Rattle.dataset_fields.specs.Fields.{fields_at, zeros_at, padding_at, values_of, number_of, fields_whole, fields_bytes, zeros}
use Rattle.dataset_fields.proofs.Judging.{length_values}
use Rattle.dataset_fields.proofs.Laying.{values_whole}
use Rattle.dataset_fields.proofs.Walks.{fields_split, padding_step, padding_stop}
use Rattle.dataset_fields.proofs.FieldsTrip.{fields_is}
use Rattle.dataset_message.specs.Message.{Message, count_at, body_at, message_at}
use Rattle.dataset_message.specs.Writer.{GivenMessage, has_fields, is_key, is_fielded, is_raw_data, given_fields, encode, missing_refusal, left_refusal, raw_refusal, own_given, whole_given, lists_given, layout_given, counts_given, message_picoseconds_turn, message_reading_refusal, reads_back, message_refusal}
use Rattle.dataset_message.proofs.Whole.{Accepted, acceptable, lists_add, own_none, layout_none, missing_none, missing_short, missing_step, missing_done, none_left, few_fields, many_fields, total_split}
use Rattle.round_trip.specs.DataSetMessage.{PartsAgree, ReadingRefuses}
use Rattle.round_trip.proofs.DataSetMessage.{no, read_written}
use Rattle.round_trip.proofs.DataSetMessagePlaces.{fields_part, count_part, header_read}
use Rattle.round_trip.proofs.DataSetMessageHeader.{kind_refused}

-- bytes left over

zeros_number : (n : ℕ) (s : List ℕ) (q : ℕ) → ((j : ℕ) → q ≤ j → get_or s j 0 ≡ 0) → number_of (zeros_at n s q) ≡ 0
unfolding zeros_at
zeros_number zero s q z = refl
zeros_number (suc n) s q z = rw (eq-eqb (get_or s q 0) 0 (z q (le_refl q))) (zeros_number n s (q + 1) (λ j l. z j (omega arith)))

zeros_get : (n i : ℕ) → get_or (zeros n) i 0 ≡ 0
zeros_get zero i = refl
zeros_get (suc n) zero = refl
zeros_get (suc n) (suc i) = zeros_get n i

module _ (pre v : List ℕ) (p : ℕ) where
  abbrev all : List ℕ
  all = pre ++ (v ++ zeros p)

  -- nothing but zeros stands after the values
  zeros_after : (j : ℕ) → length pre + length v ≤ j → get_or all j 0 ≡ 0
  zeros_after j l =
      let i : ℕ = j - (length pre + length v) in
      let e : j ≡ length pre + (length v + i) = omega arith in
      ap (λ (n : ℕ). get_or all n 0) e ∙ get_or-append-add pre (v ++ zeros p) (length v + i) 0 ∙ get_or-append-add v (zeros p) i 0 ∙ zeros_get p i

  value_byte : (j : ℕ) → j < length v → get_or all (length pre + j) 0 ≡ get_or v j 0
  value_byte j l = get_or-append-add pre (v ++ zeros p) j 0 ∙ get_or-append v (zeros p) 0 j l

  value_within : (j : ℕ) → j < length v → length pre + j < length all
  value_within j l = omega (arith, length-append pre (v ++ zeros p), length-append v (zeros p))

  -- so what is left over of the message is what is left over of the values
  left_same : (n j : ℕ) → j + n ≡ length v → number_of (padding_at all (length pre + j)) ≡ left_refusal v j
  left_same zero j e =
      zeros_number (length all - (length pre + j)) all (length pre + j) (λ i l. zeros_after i (omega arith)) ∙ sym (none_left v j (omega arith))
  left_same (suc n) j e = go (eqb (get_or v j 0) 0) refl (left_same n (j + 1) (omega arith))
    where
      here : j < length v
      here = omega arith

      go : (t : Bool) → eqb (get_or v j 0) 0 ≡ t → number_of (padding_at all (length pre + (j + 1))) ≡ left_refusal v (j + 1) → number_of (padding_at all (length pre + j)) ≡ left_refusal v j
      go true t ih =
          let z : get_or v j 0 ≡ 0 = eqb-true (get_or v j 0) 0 t in
          let q : length pre + j + 1 ≡ length pre + (j + 1) = omega arith in
          ap number_of (padding_step all (length pre + j) (value_within j here) (value_byte j here ∙ z)) ∙ ap (λ (m : ℕ). number_of (padding_at all m)) q ∙ ih
          ∙ sym (ap number_of (padding_step v j here z))
      go false t ih =
          let z : get_or v j 0 ≡ 0 → ⊥ = eqb-false (get_or v j 0) 0 t in
          ap number_of (padding_stop all (length pre + j) (value_within j here) (λ q. z (sym (value_byte j here) ∙ q))) ∙ sym (ap number_of (padding_stop v j here z))

-- the configured fields

module _ (types s : List ℕ) where
  -- those from field k on, where only zeros follow
  rest_number : (c k q : ℕ) → k + c ≡ length types → q ≤ length s → ((j : ℕ) → q ≤ j → get_or s j 0 ≡ 0)
      → number_of (and_then (fields_at false Encoding.RawData types c k s q) (λ _ end. padding_at s end)) ≡ missing_refusal (drop k types) (length s - q)
  unfolding fields_at
  rest_number zero k q e l z = zeros_number (length s - q) s q z ∙ sym (missing_done types k (length s - q) (omega arith))
  rest_number (suc c) k q e l z = go (ltb 0 w) refl (leb (q + w) (length s)) refl (rest_number c (k + 1) (q + w) (omega arith))
    where
      w : ℕ
      w = width_of (get_or types k 0)

      here : k < length types
      here = omega arith

      go : (f : Bool) → ltb 0 w ≡ f → (b : Bool) → leb (q + w) (length s) ≡ b
          → (q + w ≤ length s → ((j : ℕ) → q + w ≤ j → get_or s j 0 ≡ 0)
          → number_of (and_then (fields_at false Encoding.RawData types c (k + 1) s (q + w)) (λ _ end. padding_at s end)) ≡ missing_refusal (drop (k + 1) types) (length s - (q + w)))
          → number_of (and_then (fields_at false Encoding.RawData types (suc c) k s q) (λ _ end. padding_at s end)) ≡ missing_refusal (drop k types) (length s - q)
      go true f true b ih =
          let m : q + w ≤ length s = leb-true (q + w) (length s) b in
          let y = ltb-true 0 w f in
          let i : length s - (q + w) ≡ length s - q - w = omega arith in
          rw (lt-leb (length types) k here, f, b) (ih m (λ j h. z j (omega arith)))
          ∙ ap (missing_refusal (drop (k + 1) types)) i ∙ sym (missing_step types k (length s - q) w here refl (λ n. omega arith) (omega arith))
      go true f false b ih =
          let m : length s < q + w = leb-false (q + w) (length s) b in
          let y = ltb-true 0 w f in
          rw (lt-leb (length types) k here, f, b) (missing_short types k (length s - q) w here refl (λ n. omega arith) (omega arith))
      go false f b t ih =
          let y = ltb-false 0 w f in
          rw (lt-leb (length types) k here, f) (missing_none types k (length s - q) w here refl (omega arith))

-- the first of the fields, and where they end

front_bytes : (c : ℕ) (vs : List (List ℕ)) (indices : List ℕ) → (rest : List ℕ) × (fields_bytes false indices vs ≡ fields_bytes false indices (take c vs) ++ rest)
unfolding fields_bytes
front_bytes zero vs indices = (fields_bytes false indices vs, refl)
front_bytes (suc c) [] indices = ([], refl)
front_bytes (suc c) (v ∷ vs) indices =
    let r = front_bytes c vs (drop 1 indices) in
    (r.0, ap (λ (l : List ℕ). v ++ l) r.1 ∙ sym (append_assoc v (fields_bytes false (drop 1 indices) (take c vs)) r.0))

front_length : (c : ℕ) (lengths values indices : List ℕ) → total lengths ≤ length values → length (fields_bytes false indices (take c (values_of lengths values))) ≡ total (take c lengths)
unfolding fields_bytes values_of
front_length zero lengths values indices h = refl
front_length (suc c) [] values indices h = refl
front_length (suc c) (n ∷ lengths) values indices h =
    let d = length-drop n values in
    let t : length (take n values) ≡ n = length-take-le n values (omega arith) in
    let ih = front_length c lengths (drop n values) (drop 1 indices) (omega arith) in
    omega (arith, length-append (take n values) (fields_bytes false (drop 1 indices) (take c (values_of lengths (drop n values)))))

-- what follows the header, by the number of its fields

then_number : {A B : Type 0} (x : Answer A) (f : A → ℕ → Answer B) → ((a : A) (n : ℕ) → number_of (f a n) ≡ 0) → number_of (and_then x f) ≡ number_of x
then_number (got a n) f h = h a n
then_number (refused k p) f h = refl

body_number : (h : Header) (types s : List ℕ) (at n : ℕ) → count_at h.kind (is_raw h.encoding) types s at ≡ got n at
    → number_of (body_at h types s at) ≡ number_of (and_then (fields_at (is_delta h.kind) h.encoding types n 0 s at) (λ _ end. padding_at s end))
body_number h types s at n c = rw c (go (fields_at (is_delta h.kind) h.encoding types n 0 s at))
  where
    read : ℕ → Message
    read end = record { header = h; cursor = record { encoding = h.encoding; delta = is_delta h.kind; next = 0; count = n; at = at }; end = end }

    go : (x : Answer (Unit {0})) → number_of (and_then x (λ _ end. and_then (padding_at s end) (λ _ z. got (valid (read end)) end)))
        ≡ number_of (and_then x (λ _ end. padding_at s end))
    go (got u end) = then_number (padding_at s end) _ (λ a z. refl)
    go (refused k p) = refl

-- a keep alive
alive_count : (kind : Kind) (heartbeat raw : Bool) (types s : List ℕ) (at : ℕ) → has_fields kind heartbeat ≡ false → is_key kind ≡ false
    → (count_at kind raw types s at ≡ got 0 at) × (is_delta kind ≡ false)
alive_count Kind.Key heartbeat raw types s at f k = no (sym k)
alive_count Kind.Delta heartbeat raw types s at f k = no (sym f)
alive_count Kind.Event heartbeat raw types s at f k = no (sym f)
alive_count Kind.KeepAlive heartbeat raw types s at f k = (refl, refl)

-- RawData with fields is a key frame
raw_count : (kind : Kind) (encoding : Encoding) (heartbeat : Bool) (types s : List ℕ) (at : ℕ) → kind_rule kind encoding ≡ 0 → has_fields kind heartbeat ≡ true → is_raw encoding ≡ true
    → (count_at kind (is_raw encoding) types s at ≡ cond (leb (length s) at) (got 0 at) (cond (eqb (length types) 0) (refused 8 0) (got (length types) at)))
    × (is_delta kind ≡ false) × (encoding ≡ Encoding.RawData)
raw_count kind Encoding.Variant heartbeat types s at k f r = no r
raw_count kind Encoding.DataValue heartbeat types s at k f r = no r
raw_count Kind.Key Encoding.RawData heartbeat types s at k f r = (refl, refl, refl)
raw_count Kind.Delta Encoding.RawData heartbeat types s at k f r = absurd (omega arith)
raw_count Kind.Event Encoding.RawData heartbeat types s at k f r = absurd (omega arith)
raw_count Kind.KeepAlive Encoding.RawData heartbeat types s at k f r = no f

module _ (types : List ℕ) (g : GivenMessage) (fits : FitsHeader g.header) (indices : Numbers g.indices) (agree : PartsAgree types g)
    (kind : kind_rule g.header.kind g.header.encoding ≡ 0) (pico : picoseconds_refusal g.header.picoseconds ≡ 0) where
  adds : total g.lengths ≡ length g.values
  adds = (lists_add (is_delta g.header.kind) g.values g.lengths g.indices agree.lists).0

  -- what counts as given is accepted
  counted_number : counts_given types g ≡ true → number_of (message_at types (encode g)) ≡ layout_given types g
  counted_number c =
      let a : Accepted types g = record {
        kind = kind;
        picoseconds = pico;
        whole = agree.whole;
        counts = c;
        adds = adds;
        indexed = (lists_add (is_delta g.header.kind) g.values g.lengths g.indices agree.lists).1;
      } in
      ap number_of (read_written types g fits indices (acceptable types g a)).message
      ∙ sym (layout_none (is_fielded g) (is_raw_data g) (is_key g.header.kind) types g.values g.lengths g.padding c adds)

  abbrev front : List ℕ
  front = message_header_bytes g.header

  -- the bytes of a message without FieldCount and indices
  bytes_are : is_delta g.header.kind ≡ false → count_part g ≡ [] → encode g ≡ front ++ (g.values ++ zeros g.padding)
  bytes_are d c =
      let f : fields_part g ≡ g.values = ap (λ (b : Bool). fields_bytes b g.indices (given_fields g)) d ∙ values_whole g.lengths g.values g.indices adds in
      ap (λ (b : List ℕ). front ++ (b ++ (fields_part g ++ zeros g.padding))) c ∙ ap (λ (b : List ℕ). front ++ (b ++ zeros g.padding)) f

  read_number : (s : List ℕ) → encode g ≡ s → number_of (message_at types (encode g)) ≡ number_of (body_at g.header types s (length front))
  read_number s e = rw (header_read g fits kind pico) (ap (λ (l : List ℕ). number_of (body_at g.header types l (length front))) e)

  alive_number : is_fielded g ≡ false → is_key g.header.kind ≡ false → number_of (message_at types (encode g)) ≡ left_refusal g.values 0
  unfolding fields_at
  alive_number f k =
      let s = front ++ (g.values ++ zeros g.padding) in
      let c = alive_count g.header.kind g.heartbeat (is_raw_data g) types s (length front) f k in
      read_number s (bytes_are c.1 (rw f)) ∙ body_number g.header types s (length front) 0 c.0
      ∙ ap (λ (n : ℕ). number_of (padding_at s n)) (sym (add-zero (length front))) ∙ left_same front g.values g.padding (length g.values) 0 (omega arith)

  module _ (f : is_fielded g ≡ true) (r : is_raw_data g ≡ true) where
    abbrev whole_bytes : List ℕ
    whole_bytes = front ++ (g.values ++ zeros g.padding)

    size : length whole_bytes ≡ length front + (length g.values + g.padding)
    size = simp (length-append, length-replicate)

    counted : (count_at g.header.kind (is_raw g.header.encoding) types whole_bytes (length front)
        ≡ cond (leb (length whole_bytes) (length front)) (got 0 (length front)) (cond (eqb (length types) 0) (refused 8 0) (got (length types) (length front))))
        × (is_delta g.header.kind ≡ false) × (g.header.encoding ≡ Encoding.RawData)
    counted = raw_count g.header.kind g.header.encoding g.heartbeat types whole_bytes (length front) kind f r

    as_body : number_of (message_at types (encode g)) ≡ number_of (body_at g.header types whole_bytes (length front))
    as_body = read_number whole_bytes (bytes_are counted.1 (rw (f, r)))

    -- nothing follows the header
    bare_number : length g.values ≡ 0 → g.padding ≡ 0 → number_of (message_at types (encode g)) ≡ 0
    unfolding fields_at
    bare_number v p =
        as_body ∙ body_number g.header types whole_bytes (length front) 0 (counted.0 ∙ rw (le-leb (length whole_bytes) (length front) (omega (arith, size))))
        ∙ none_left whole_bytes (length front) (omega (arith, size))

    module _ (some : length front < length whole_bytes) where
      none_configured : length types ≡ 0 → number_of (message_at types (encode g)) ≡ 8
      none_configured t = as_body ∙ rw (counted.0, lt-leb (length whole_bytes) (length front) some, eq-eqb (length types) 0 t)

      module _ (has : length types ≡ 0 → ⊥) where
        abbrev given : List (List ℕ)
        given = take (length types) (given_fields g)

        as_fields : number_of (message_at types (encode g))
            ≡ number_of (and_then (fields_at false Encoding.RawData types (length types) 0 whole_bytes (length front)) (λ _ end. padding_at whole_bytes end))
        as_fields =
            as_body ∙ body_number g.header types whole_bytes (length front) (length types)
            (counted.0 ∙ rw (lt-leb (length whole_bytes) (length front) some, ne_eqb (length types) 0 has))
            ∙ ap (λ (d : Bool). number_of (and_then (fields_at d g.header.encoding types (length types) 0 whole_bytes (length front)) (λ _ end. padding_at whole_bytes end))) counted.1
            ∙ ap (λ (e : Encoding). number_of (and_then (fields_at false e types (length types) 0 whole_bytes (length front)) (λ _ end. padding_at whole_bytes end))) counted.2

        whole : fields_whole Encoding.RawData types 0 given ≡ true
        whole =
            let w : fields_whole g.header.encoding types 0 given ≡ true = rw (f, r) at agree.whole in
            subst (λ (e : Encoding). fields_whole e types 0 given ≡ true) counted.2 w

        stands : At whole_bytes (length front) (fields_bytes false g.indices given)
        stands =
            let b = front_bytes (length types) (given_fields g) g.indices in
            let v : g.values ≡ fields_bytes false g.indices given ++ b.0 = sym (values_whole g.lengths g.values g.indices adds) ∙ b.1 in (
              front,
              b.0 ++ zeros g.padding,
              ap (λ (l : List ℕ). front ++ (l ++ zeros g.padding)) v ∙ ap (λ (l : List ℕ). front ++ l) (append_assoc (fields_bytes false g.indices given) b.0 (zeros g.padding)),
              refl,
            )

        given_read : fields_at false Encoding.RawData types (length given) 0 whole_bytes (length front) ≡ got tt (length front + total (take (length types) g.lengths))
        given_read =
            let l : total g.lengths ≤ length g.values = omega (arith, adds) in
            fields_is false Encoding.RawData types given 0 g.indices indices whole whole_bytes (length front) stands
            ∙ ap (λ (n : ℕ). got tt (length front + n)) (front_length (length types) g.lengths g.values g.indices l)

        -- fields are missing
        few_number : length g.lengths ≤ length types → number_of (message_at types (encode g)) ≡ missing_refusal (drop (length g.lengths) types) g.padding
        few_number l =
            let n = length_values g.lengths g.values in
            let t : given ≡ given_fields g = take_all (length types) (given_fields g) (omega arith) in
            let c : ℕ = length types - length g.lengths in
            let e : length types ≡ length given + c = omega (arith, ap length t) in
            let q : total (take (length types) g.lengths) ≡ length g.values = ap total (take_all (length types) g.lengths l) ∙ adds in
            let z : length whole_bytes - (length front + length g.values) ≡ g.padding = omega (arith, size) in
            let k : 0 + length given ≡ length g.lengths = omega (arith, ap length t) in
            as_fields
            ∙ ap (λ (m : ℕ). number_of (and_then (fields_at false Encoding.RawData types m 0 whole_bytes (length front)) (λ _ end. padding_at whole_bytes end))) e
            ∙ ap (λ (x : Answer (Unit {0})). number_of (and_then x (λ _ end. padding_at whole_bytes end)))
            (fields_split false Encoding.RawData types whole_bytes (length given) c 0 (length front)
            ∙ ap (λ (x : Answer (Unit {0})). and_then x (λ _ at. fields_at false Encoding.RawData types c (0 + length given) whole_bytes at)) (given_read ∙ ap (λ (m : ℕ). got tt (length front + m)) q)
            ∙ ap (λ (m : ℕ). fields_at false Encoding.RawData types c m whole_bytes (length front + length g.values)) k)
            ∙ rest_number types whole_bytes c (length g.lengths) (length front + length g.values) (omega arith) (omega (arith, size)) (zeros_after front g.values g.padding)
            ∙ ap (missing_refusal (drop (length g.lengths) types)) z

        -- or stand past the configured ones
        many_number : length types ≤ length g.lengths → number_of (message_at types (encode g)) ≡ left_refusal g.values (total (take (length types) g.lengths))
        many_number l =
            let n : length given ≡ length types = length-take-le (length types) (given_fields g) (omega (arith, length_values g.lengths g.values)) in
            let t = total_split (length types) g.lengths in
            let e : total (take (length types) g.lengths) + total (drop (length types) g.lengths) ≡ length g.values = t ∙ adds in
            as_fields
            ∙ ap (λ (x : Answer (Unit {0})). number_of (and_then x (λ _ end. padding_at whole_bytes end)))
            (ap (λ (m : ℕ). fields_at false Encoding.RawData types m 0 whole_bytes (length front)) (sym n) ∙ given_read)
            ∙ left_same front g.values g.padding (total (drop (length types) g.lengths)) (total (take (length types) g.lengths)) e

        fields_number_lem : number_of (message_at types (encode g))
            ≡ or_else (missing_refusal (drop (length g.lengths) types) g.padding) (left_refusal g.values (total (take (length types) g.lengths)))
        fields_number_lem = go (leb (length g.lengths) (length types)) refl
          where
            go : (t : Bool) → leb (length g.lengths) (length types) ≡ t → number_of (message_at types (encode g))
                ≡ or_else (missing_refusal (drop (length g.lengths) types) g.padding) (left_refusal g.values (total (take (length types) g.lengths)))
            go true t =
                let l = leb-true (length g.lengths) (length types) t in
                few_number l ∙ sym (few_fields types g.values g.lengths g.padding adds l)
            go false t =
                let m = leb-false (length g.lengths) (length types) t in
                let l : length types ≤ length g.lengths = omega arith in
                many_number l ∙ sym (many_fields types g.values g.lengths g.padding l)

    raw_number : number_of (message_at types (encode g)) ≡ raw_refusal types g.values g.lengths g.padding
    raw_number = go (eqb (length g.values) 0) refl (eqb g.padding 0) refl (eqb (length types) 0) refl
      where
        go : (a : Bool) → eqb (length g.values) 0 ≡ a → (b : Bool) → eqb g.padding 0 ≡ b → (t : Bool) → eqb (length types) 0 ≡ t
            → number_of (message_at types (encode g))
            ≡ cond (a && b) 0 (cond t 8 (or_else (missing_refusal (drop (length g.lengths) types) g.padding) (left_refusal g.values (total (take (length types) g.lengths)))))
        go true ea true eb t et = bare_number (eqb-true (length g.values) 0 ea) (eqb-true g.padding 0 eb)
        go true ea false eb true et = none_configured (let z = eqb-false g.padding 0 eb in omega (arith, size)) (eqb-true (length types) 0 et)
        go true ea false eb false et = fields_number_lem (let z = eqb-false g.padding 0 eb in omega (arith, size)) (eqb-false (length types) 0 et)
        go false ea b eb true et = none_configured (let z = eqb-false (length g.values) 0 ea in omega (arith, size)) (eqb-true (length types) 0 et)
        go false ea b eb false et = fields_number_lem (let z = eqb-false (length g.values) 0 ea in omega (arith, size)) (eqb-false (length types) 0 et)

  pub layout_number : number_of (message_at types (encode g)) ≡ layout_given types g
  layout_number = go (is_fielded g) refl (is_raw_data g) refl (is_key g.header.kind) refl
    where
      go : (f : Bool) → is_fielded g ≡ f → (r : Bool) → is_raw_data g ≡ r → (k : Bool) → is_key g.header.kind ≡ k → number_of (message_at types (encode g)) ≡ layout_given types g
      go true f true r k e = raw_number f r ∙ rw (f, r)
      go true f false r k e = counted_number (rw (f, r) (le-leb (length g.lengths) 65535 (agree.counted f r)))
      go false f r e true k =
          let h = agree.heartbeat f k in
          counted_number (rw (f, k, eq-eqb (length g.lengths) 0 h.0, eq-eqb g.padding 0 h.1))
      go false f r e false k = alive_number f k ∙ rw (f, k)

-- Where each field given is one whole value, counts and lists agree, and it is not the turn of picoseconds of 10,000 or more, the writer's
-- number in reading order is reading's number of what would be written.
pub number_alike : (types : List ℕ) (g : GivenMessage) → FitsHeader g.header → Numbers g.indices → PartsAgree types g → message_picoseconds_turn g ≡ false
    → number_of (message_at types (encode g)) ≡ message_reading_refusal types g
number_alike types g fits indices agree turn =
    go (eqb (kind_rule g.header.kind g.header.encoding) 0) refl (eqb (picoseconds_refusal g.header.picoseconds) 0) refl
    ∙ ap (λ (n : ℕ). or_else (kind_rule g.header.kind g.header.encoding) (or_else (picoseconds_refusal g.header.picoseconds) n)) (sym body)
  where
    body : or_else (own_given types g) (cond (whole_given types g && lists_given g) (layout_given types g) 0) ≡ layout_given types g
    body = only (own_given types g) (whole_given types g) (lists_given g) (own_none (is_fielded g) g.header.encoding types (given_fields g) agree.whole) agree.whole agree.lists
      where
        only : (o : ℕ) (w l : Bool) → o ≡ 0 → w ≡ true → l ≡ true → or_else o (cond (w && l) (layout_given types g) 0) ≡ layout_given types g
        only o w l eo ew el = rw (eo, ew, el)

    by : (n m : ℕ) → eqb n 0 ≡ false → ReadingRefuses types g n → number_of (message_at types (encode g)) ≡ or_else n m
    by n m z p = ap number_of p.1 ∙ sym (ap (λ (t : Bool). cond t m n) z)

    go : (a : Bool) → eqb (kind_rule g.header.kind g.header.encoding) 0 ≡ a → (b : Bool) → eqb (picoseconds_refusal g.header.picoseconds) 0 ≡ b
        → number_of (message_at types (encode g)) ≡ or_else (kind_rule g.header.kind g.header.encoding) (or_else (picoseconds_refusal g.header.picoseconds) (layout_given types g))
    go false ea b eb = by (kind_rule g.header.kind g.header.encoding) _ ea (kind_refused types g ea)
    go true ea false eb = no (sym (rw (ea, eb) at turn))
    go true ea true eb =
        let k = eqb-true (kind_rule g.header.kind g.header.encoding) 0 ea in
        let p = eqb-true (picoseconds_refusal g.header.picoseconds) 0 eb in
        layout_number types g fits indices agree k p
        ∙ sym (ap (λ (t : Bool). cond t (layout_given types g) (picoseconds_refusal g.header.picoseconds)) eb)
        ∙ sym (ap (λ (t : Bool). cond t (or_else (picoseconds_refusal g.header.picoseconds) (layout_given types g)) (kind_rule g.header.kind g.header.encoding)) ea)

reading_by_lem : (r : ℕ) (b : Bool) (n : ℕ) → (n ≡ 0 → ⊥) → (n ≡ 6 → ⊥) → or_else r (cond b 0 6) ≡ n → r ≡ n
reading_by_lem r b n z s h = go (eqb r 0) refl b h
  where
    go : (t : Bool) → eqb r 0 ≡ t → (b : Bool) → cond t (cond b 0 6) r ≡ n → r ≡ n
    go true e true h = absurd (z (sym h))
    go true e false h = absurd (s (sym h))
    go false e b h = h

pub refused_by : {A : Type 0} (x : Answer A) (n : ℕ) → (n ≡ 0 → ⊥) → number_of x ≡ n → (place : ℕ) × (x ≡ refused n place)
refused_by (got a e) n z h = absurd (z (sym h))
refused_by (refused m p) n z h = (p, ap (λ (k : ℕ). refused k p) h)

-- So reading refuses by n what would be written exactly if the writer's number is n, where that is not 6, "what would read back otherwise".
pub refused_alike : (types : List ℕ) (g : GivenMessage) → FitsHeader g.header → Numbers g.indices → PartsAgree types g → message_picoseconds_turn g ≡ false → (n : ℕ) → (n ≡ 0 → ⊥) → (n ≡ 6 → ⊥)
    → (message_refusal types g ≡ n → ReadingRefuses types g n) × (ReadingRefuses types g n → message_refusal types g ≡ n)
refused_alike types g fits indices agree turn n z s = (there, back)
  where
    six : ℕ
    six = cond (reads_back types g) 0 6

    same : number_of (message_at types (encode g)) ≡ message_reading_refusal types g
    same = number_alike types g fits indices agree turn

    there : message_refusal types g ≡ n → ReadingRefuses types g n
    there h = refused_by (message_at types (encode g)) n z (same ∙ reading_by_lem (message_reading_refusal types g) (reads_back types g) n z s h)

    back : ReadingRefuses types g n → message_refusal types g ≡ n
    back h =
        let m : message_reading_refusal types g ≡ n = sym same ∙ ap number_of h.1 in
        ap (λ (k : ℕ). or_else k six) m ∙ ap (λ (t : Bool). cond t six n) (ne_eqb n 0 z)
