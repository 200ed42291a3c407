-- The numbers by which the writer refuses what reading would refuse are reading's numbers of what would have been written.
-- Assumes nothing.
use mathlib.Core.Path.{◌≡◌, refl, ap, sym, ◌∙◌, subst}
use mathlib.Core.Bool.{Bool, true, false, cond, not, ◌&&◌, ◌||◌}
use mathlib.Core.List.{List, [], ◌∷◌, ◌++◌, append_assoc, append-nil}
use mathlib.Core.Logic.{◌⊎◌, inl, inr}
use Prim.Native.Nat.{ℕ, zero, suc, ◌+◌, ◌≤◌, ◌<◌}
use native.Mathlib.Nat.{add-zero, le_refl}
use native.Mathlib.Omega.{arith}
use borrow.Author.Tests.{eqb-true, eqb-false, ltb-true, ne_eqb}
use lib.Dec.{eqb, ltb}
use lib.ListN.{length, get_or, take, drop, length-append}
use lib.Seq.{get_or-drop, take_all, take-nil}
use Rattle.wire.specs.Answer.{Answer, got, refused}
use Rattle.wire.proofs.Facts.{and_left, and_right}
use Rattle.wire.proofs.Steady.{Steady}
use Rattle.wire.proofs.Places.{after, append_refused, moved_by}
use Rattle.value.specs.Value.{Measure}
use Rattle.wire_writer.specs.Writing.{or_else, refusing, picoseconds_refusal}
use Rattle.wire_writer.specs.Fits.{Numbers}
use Rattle.wire_writer.proofs.Trip.{At, first, second}
use Rattle.wire_writer.proofs.Refusals.{or_case}
use Rattle.dataset_header.specs.declared.flags.Encoding.{Encoding}
use Rattle.dataset_header.specs.Flags.{is_delta, kind_rule}
use Rattle.dataset_header.specs.Header.{FitsHeader}
use Rattle.dataset_fields.specs.Fields.{encoded_at, fields_at, fields_refusal, reached, index_bytes, fields_bytes, zeros}
use Rattle.dataset_message.specs.Message.{count_at, message_at}
use Rattle.dataset_message.specs.Writer.{GivenMessage, is_key, is_fielded, is_raw_data, given_fields, count_bytes, own_given, whole_given, lists_given, layout_given, body_refusal, message_picoseconds_turn, message_reading_refusal, reads_back, encode, message_output}
use Rattle.dataset_fields.proofs.Judging.{encoded_either, encoded_refused, length_values}
use Rattle.dataset_fields.proofs.FieldsTrip.{field_is, index_is}
use Rattle.round_trip.specs.DataSetMessage.{plainly, Tellable, PartsAgree, ReadingRefuses, fields_counted}
use Rattle.round_trip.proofs.DataSetMessage.{no, some_of, counted_is, count_is, delta_plain}
use Rattle.round_trip.proofs.DataSetMessagePlaces.{fields_part, count_part, start, body_at_lem, sizes, header_read}
use Rattle.round_trip.proofs.DataSetMessageHeader.{kind_refused}
use Rattle.round_trip.proofs.DataSetMessageNumber.{layout_number, refused_by}
use Rattle.round_trip.proofs.PicosecondsTurn.{three, their_refusal, behind_one}

-- a field that is refused alone, but not cut short, is refused where it stands
encoded_refuse : (encoding : Encoding) (types : List ℕ) (k : ℕ) (v : List ℕ) (n p : ℕ) → encoded_at encoding types k v 0 ≡ refused n p → (n ≡ 1 → ⊥)
    → (s : List ℕ) (m : ℕ) → At s m v → (place : ℕ) × (encoded_at encoding types k s m ≡ refused n place)
encoded_refuse encoding types k v n p q z s m a = go (encoded_either encoding types k)
  where
    go : Steady (encoded_at encoding types k) ⊎ ((s : List ℕ) (at : ℕ) → encoded_at encoding types k s at ≡ refused 8 0) → (place : ℕ) × (encoded_at encoding types k s m ≡ refused n place)
    go (inl f) =
        let x = append_refused f v a.1 0 q z in
        let y = after f a.0 (v ++ a.1) 0 in
        let l : length a.0 + 0 ≡ m = add-zero (length a.0) ∙ a.3 in
        (length a.0 + p, ap (λ (l : List ℕ). encoded_at encoding types k l m) a.2 ∙ ap (encoded_at encoding types k (a.0 ++ (v ++ a.1))) (sym l) ∙ y ∙ ap (moved_by (length a.0)) x)
    go (inr r) = (p, r s m ∙ sym (r v 0) ∙ q)

-- where nothing follows, so is one that is cut short
no_length : (l : List ℕ) → length l ≡ 0 → l ≡ []
no_length [] e = refl
no_length (x ∷ l) e = absurd (omega arith)

encoded_last : (encoding : Encoding) (types : List ℕ) (k : ℕ) (v : List ℕ) (n p : ℕ) → encoded_at encoding types k v 0 ≡ refused n p
    → (s : List ℕ) (m : ℕ) → At s m v → length s ≡ m + length v → (place : ℕ) × (encoded_at encoding types k s m ≡ refused n place)
encoded_last encoding types k v n p q s m a e = go (encoded_either encoding types k)
  where
    go : Steady (encoded_at encoding types k) ⊎ ((s : List ℕ) (at : ℕ) → encoded_at encoding types k s at ≡ refused 8 0) → (place : ℕ) × (encoded_at encoding types k s m ≡ refused n place)
    go (inl f) =
        let r : length a.1 ≡ 0 = omega (arith, ap length a.2, length-append a.0 (v ++ a.1), length-append v a.1, a.3) in
        let x : s ≡ a.0 ++ v = a.2 ∙ ap (λ (l : List ℕ). a.0 ++ (v ++ l)) (no_length a.1 r) ∙ ap (λ (l : List ℕ). a.0 ++ l) (append-nil v) in
        let y = after f a.0 v 0 in
        let l : length a.0 + 0 ≡ m = add-zero (length a.0) ∙ a.3 in
        (length a.0 + p, ap (λ (l : List ℕ). encoded_at encoding types k l m) x ∙ ap (encoded_at encoding types k (a.0 ++ v)) (sym l) ∙ y ∙ ap (moved_by (length a.0)) q)
    go (inr r) = (p, r s m ∙ sym (r v 0) ∙ q)

abbrev RefusedBy : Answer (Unit {0}) → ℕ → Type 0
RefusedBy x n = (place : ℕ) × (x ≡ refused n place)

module _ (delta : Bool) (encoding : Encoding) (types : List ℕ) (bare : Bool) where
  -- among the first t fields one is refused
  fields_refuse : (vs : List (List ℕ)) (t c k : ℕ) (indices : List ℕ) → t ≤ c → Numbers indices → plainly encoding types bare t k vs ≡ true
      → eqb (fields_refusal encoding types k (take t vs)) 0 ≡ false → (s : List ℕ) (m : ℕ) → At s m (fields_bytes delta indices vs)
      → (bare ≡ true → length s ≡ m + length (fields_bytes delta indices vs))
      → RefusedBy (fields_at delta encoding types c k s m) (fields_refusal encoding types k (take t vs))
  unfolding fields_refusal plainly fields_at fields_bytes
  fields_refuse [] t c k indices l f w r s m a z = no (sym (ap (λ (x : List (List ℕ)). eqb (fields_refusal encoding types k x) 0) (sym (take-nil t)) ∙ r))
  fields_refuse (v ∷ vs) zero c k indices l f w r s m a z = no (sym r)
  fields_refuse (v ∷ vs) (suc t) zero k indices l f w r s m a z = absurd (omega arith)
  fields_refuse (v ∷ vs) (suc t) (suc c) k indices l f w r s m a z =
      go (encoded_at encoding types k v 0) refl
      (λ w r. fields_refuse vs t c (k + 1) (drop 1 indices) (omega arith) (λ j. rw (get_or-drop 1 indices j 0) (f (1 + j))) w r s
      (m + length (here ++ v)) (second s m (here ++ v) (fields_bytes delta (drop 1 indices) vs) there) ends)
    where
      here : List ℕ
      here = index_bytes delta (get_or indices 0 0)

      there : At s m ((here ++ v) ++ fields_bytes delta (drop 1 indices) vs)
      there = subst (At s m) (sym (append_assoc here v (fields_bytes delta (drop 1 indices) vs))) a

      ends : bare ≡ true → length s ≡ m + length (here ++ v) + length (fields_bytes delta (drop 1 indices) vs)
      ends e = omega (arith, z e, length-append here (v ++ fields_bytes delta (drop 1 indices) vs), length-append v (fields_bytes delta (drop 1 indices) vs), length-append here v)

      none : (vs : List (List ℕ)) → length vs ≡ 0 → length (fields_bytes delta (drop 1 indices) vs) ≡ 0
      none [] e = refl
      none (x ∷ vs) e = absurd (omega arith)

      value : At s (m + length here) v
      value = second s m here v (first s m (here ++ v) (fields_bytes delta (drop 1 indices) vs) there)

      -- the refused field where it stands
      stands : (n p : ℕ) → encoded_at encoding types k v 0 ≡ refused n p → (t : Bool) → eqb n 1 ≡ t → not t || (bare && eqb (length vs) 0) ≡ true
          → (place : ℕ) × (encoded_at encoding types k s (m + length here) ≡ refused n place)
      stands n p q false e u = encoded_refuse encoding types k v n p q (eqb-false n 1 e) s (m + length here) value
      stands n p q true e u =
          let b = ends (and_left bare (eqb (length vs) 0) u) in
          let o = none vs (eqb-true (length vs) 0 (and_right bare (eqb (length vs) 0) u)) in
          let y : length s ≡ m + length here + length v = omega (arith, length-append here v) in
          encoded_last encoding types k v n p q s (m + length here) value y

      go : (x : Answer Measure) → encoded_at encoding types k v 0 ≡ x
          → (plainly encoding types bare t (k + 1) vs ≡ true → eqb (fields_refusal encoding types (k + 1) (take t vs)) 0 ≡ false
          → RefusedBy (fields_at delta encoding types c (k + 1) s (m + length (here ++ v))) (fields_refusal encoding types (k + 1) (take t vs)))
          → RefusedBy (fields_at delta encoding types (suc c) k s m) (fields_refusal encoding types k (take (suc t) (v ∷ vs)))
      go (got x e) q ih =
          let u : eqb e (length v) && plainly encoding types bare t (k + 1) vs ≡ true = rw q at w in
          let n : e ≡ length v = eqb-true e (length v) (and_left (eqb e (length v)) (plainly encoding types bare t (k + 1) vs) u) in
          let y = ih (and_right (eqb e (length v)) (plainly encoding types bare t (k + 1) vs) u) (rw q at r) in
          let h = field_is delta encoding types k (get_or indices 0 0) v x (λ d. f 0) (q ∙ ap (got x) n) s m (first s m (here ++ v) (fields_bytes delta (drop 1 indices) vs) there) in
          (y.0, rw (q, h.reads) y.1)
      go (refused n p) q ih =
          let w0 : ltb 0 (length v) && (not (eqb n 1) || (bare && eqb (length vs) 0)) ≡ true = rw q at w in
          let u = and_right (ltb 0 (length v)) (not (eqb n 1) || (bare && eqb (length vs) 0)) w0 in
          let i = index_is delta k (get_or indices 0 0) m (λ d. f 0) s (first s m here v (first s m (here ++ v) (fields_bytes delta (drop 1 indices) vs) there)) in
          let y = stands n p q (eqb n 1) refl u in
          let z0 : n ≡ 0 → ⊥ = encoded_refused encoding types k v q in
          (y.0, rw (q, ne_eqb n 0 z0, i, y.1))

  -- and has a byte, as has each field before it
  some_byte : (vs : List (List ℕ)) (t k : ℕ) (indices : List ℕ) → plainly encoding types bare t k vs ≡ true → eqb (fields_refusal encoding types k (take t vs)) 0 ≡ false
      → 0 < length (fields_bytes delta indices vs)
  unfolding fields_refusal plainly fields_bytes
  some_byte [] t k indices w r = no (sym (ap (λ (x : List (List ℕ)). eqb (fields_refusal encoding types k x) 0) (sym (take-nil t)) ∙ r))
  some_byte (v ∷ vs) zero k indices w r = no (sym r)
  some_byte (v ∷ vs) (suc t) k indices w r = go (encoded_at encoding types k v 0) refl
    where
      more : 0 < length v → 0 < length (index_bytes delta (get_or indices 0 0) ++ (v ++ fields_bytes delta (drop 1 indices) vs))
      more l = simp length-append (omega arith)

      go : (x : Answer Measure) → encoded_at encoding types k v 0 ≡ x → 0 < length (index_bytes delta (get_or indices 0 0) ++ (v ++ fields_bytes delta (drop 1 indices) vs))
      go (got x e) q =
          let u : eqb e (length v) && plainly encoding types bare t (k + 1) vs ≡ true = rw q at w in
          let n : e ≡ length v = eqb-true e (length v) (and_left (eqb e (length v)) (plainly encoding types bare t (k + 1) vs) u) in
          more (some_of encoding types k v x (q ∙ ap (got x) n))
      go (refused n p) q =
          let u : ltb 0 (length v) && (not (eqb n 1) || (bare && eqb (length vs) 0)) ≡ true = rw q at w in
          more (ltb-true 0 (length v) (and_left (ltb 0 (length v)) (not (eqb n 1) || (bare && eqb (length vs) 0)) u))

-- the whole message

-- where one of the configured fields is refused, some are configured
some_configured : (encoding : Encoding) (types : List ℕ) (vs : List (List ℕ)) → eqb (fields_refusal encoding types 0 (take (length types) vs)) 0 ≡ false → eqb (length types) 0 ≡ false
unfolding fields_refusal
some_configured encoding types vs r = go (eqb (length types) 0) refl
  where
    go : (t : Bool) → eqb (length types) 0 ≡ t → eqb (length types) 0 ≡ false
    go true t = let z : length types ≡ 0 = eqb-true (length types) 0 t in no (sym (rw z at r))
    go false t = t

module _ (types : List ℕ) (g : GivenMessage) (fits : FitsHeader g.header) (indices : Numbers g.indices) (tells : Tellable types g) where
  module _ (kind : kind_rule g.header.kind g.header.encoding ≡ 0) (pico : picoseconds_refusal g.header.picoseconds ≡ 0) (has : is_fielded g ≡ true)
      (r : eqb (fields_refusal g.header.encoding types 0 (reached (is_raw_data g) types (given_fields g))) 0 ≡ false) where
    abbrev number : ℕ
    number = fields_counted (is_raw_data g) (length types) (length g.lengths)

    all : (raw : Bool) → reached raw types (given_fields g) ≡ take (fields_counted raw (length types) (length g.lengths)) (given_fields g)
    all true = refl
    all false = sym (take_all (length g.lengths) (given_fields g) (let m = length_values g.lengths g.values in omega arith))

    refused_there : eqb (fields_refusal g.header.encoding types 0 (take number (given_fields g))) 0 ≡ false
    refused_there = subst (λ (vs : List (List ℕ)). eqb (fields_refusal g.header.encoding types 0 vs) 0 ≡ false) (all (is_raw_data g)) r

    follows : (start g) < length (encode g)
    follows =
        let b = some_byte (is_delta g.header.kind) g.header.encoding types (eqb g.padding 0) (given_fields g) number 0 g.indices tells.plain refused_there in
        omega (arith, (sizes g))

    configured : is_raw_data g ≡ true → eqb (length types) 0 ≡ false
    configured e = some_configured g.header.encoding types (given_fields g) (rw e at r)

    -- FieldCount is written for as many fields as are read, and RawData has none
    count_same : (raw : Bool) → count_bytes true raw (length g.lengths) ≡ count_bytes true raw (fields_counted raw (length types) (length g.lengths))
    count_same true = refl
    count_same false = refl

    part_same : (count_part g) ≡ count_bytes (is_fielded g) (is_raw_data g) number
    part_same = rw has (count_same (is_raw_data g))

    counted_read : count_at g.header.kind (is_raw_data g) types (encode g) (start g) ≡ got number ((start g) + length (count_part g))
    counted_read =
        count_is g.header.kind g.heartbeat (is_raw_data g) types (encode g) (start g) number (delta_plain g.header.kind g.header.encoding kind)
        (λ e. (
          follows,
          counted_is (is_raw_data g) types (encode g) (start g) number
              (λ r. (configured r, rw r)) (λ r. rw r (tells.counted r))
              (subst (At (encode g) (start g)) (part_same ∙ ap (λ (f : Bool). count_bytes f (is_raw_data g) number) has)
              (first (encode g) (start g) (count_part g) ((fields_part g) ++ zeros g.padding) (body_at_lem g))),
        ))
        (λ e. no (sym e ∙ has)) ∙ ap (λ (b : List ℕ). got number ((start g) + length b)) (sym part_same)

    there : At (encode g) ((start g) + length (count_part g)) (fields_part g)
    there = first (encode g) ((start g) + length (count_part g)) (fields_part g) (zeros g.padding) (second (encode g) (start g) (count_part g) ((fields_part g) ++ zeros g.padding) (body_at_lem g))

    ends : eqb g.padding 0 ≡ true → length (encode g) ≡ (start g) + length (count_part g) + length (fields_part g)
    ends e = let p = eqb-true g.padding 0 e in omega (arith, (sizes g))

    by : RefusedBy (fields_at (is_delta g.header.kind) g.header.encoding types number 0 (encode g) ((start g) + length (count_part g)))
        (fields_refusal g.header.encoding types 0 (reached (is_raw_data g) types (given_fields g)))
    by =
        let x = fields_refuse (is_delta g.header.kind) g.header.encoding types (eqb g.padding 0) (given_fields g) number number 0 g.indices (le_refl number) indices tells.plain
        refused_there (encode g) ((start g) + length (count_part g)) there ends in
        (x.0, x.1 ∙ ap (λ (vs : List (List ℕ)). refused (fields_refusal g.header.encoding types 0 vs) x.0) (sym (all (is_raw_data g))))

    fields_refused : ReadingRefuses types g (fields_refusal g.header.encoding types 0 (reached (is_raw_data g) types (given_fields g)))
    fields_refused = (by.0, rw ((header_read g fits kind pico), counted_read, by.1))

  module _ (kind : kind_rule g.header.kind g.header.encoding ≡ 0) (pico : picoseconds_refusal g.header.picoseconds ≡ 0) where
    own_refused : eqb (own_given types g) 0 ≡ false → ReadingRefuses types g (own_given types g)
    own_refused r = go (is_fielded g) refl
      where
        go : (f : Bool) → is_fielded g ≡ f → ReadingRefuses types g (own_given types g)
        go true e =
            let q : eqb (fields_refusal g.header.encoding types 0 (reached (is_raw_data g) types (given_fields g))) 0 ≡ false = rw e at r in
            let b : fields_refusal g.header.encoding types 0 (reached (is_raw_data g) types (given_fields g)) ≡ own_given types g = rw e in
            subst (ReadingRefuses types g) b (fields_refused kind pico e q)
        go false e = let q : eqb 0 0 ≡ false = rw e at r in no (sym q)

    -- where each is whole, by the layout
    layout_refused : own_given types g ≡ 0 → eqb (cond (whole_given types g && lists_given g) (layout_given types g) 0) 0 ≡ false
        → ReadingRefuses types g (cond (whole_given types g && lists_given g) (layout_given types g) 0)
    layout_refused o r = go (whole_given types g && lists_given g) refl r
      where
        bare : eqb (layout_given types g) 0 ≡ false → is_fielded g ≡ false → is_key g.header.kind ≡ true → (length g.lengths ≡ 0) × (g.padding ≡ 0)
        bare n f k = let q : eqb 0 0 ≡ false = rw (f, k) at n in no (sym q)

        go : (t : Bool) → whole_given types g && lists_given g ≡ t → eqb (cond t (layout_given types g) 0) 0 ≡ false → ReadingRefuses types g (cond t (layout_given types g) 0)
        go true t n =
            let a : PartsAgree types g = record {
              whole = and_left (whole_given types g) (lists_given g) t;
              lists = and_right (whole_given types g) (lists_given g) t;
              counted = λ f q. tells.counted q;
              heartbeat = bare n;
            } in
            refused_by (message_at types (encode g)) (layout_given types g) (eqb-false (layout_given types g) 0 n) (layout_number types g fits indices a kind pico)
        go false t n = no (sym n)

    body_refused : eqb (body_refusal types g) 0 ≡ false → ReadingRefuses types g (body_refusal types g)
    body_refused r = or_case (ReadingRefuses types g) (own_given types g) (cond (whole_given types g && lists_given g) (layout_given types g) 0) r own_refused layout_refused

-- The number by which the writer refuses in reading order, but not picoseconds at their turn, is reading's number of what would have been
-- written.
pub refuse_written : (types : List ℕ) (g : GivenMessage) → FitsHeader g.header → Numbers g.indices → Tellable types g → message_picoseconds_turn g ≡ false
    → eqb (message_reading_refusal types g) 0 ≡ false → (place : ℕ) × (message_at types (encode g) ≡ refused (message_reading_refusal types g) place)
refuse_written types g fits indices tells turn h =
    or_case (ReadingRefuses types g) (kind_rule g.header.kind g.header.encoding) (or_else (picoseconds_refusal g.header.picoseconds) (body_refusal types g)) h
    (kind_refused types g)
    (λ k r. or_case (ReadingRefuses types g) (picoseconds_refusal g.header.picoseconds) (body_refusal types g) r
    (λ e. no (sym (rw (k, e) at turn))) (body_refused types g fits indices tells k))

-- Picoseconds of 10,000 and up are refused by 3, at their turn.
pub picoseconds_refused : (types : List ℕ) (g : GivenMessage) → message_picoseconds_turn g ≡ true → message_output types g ≡ refusing 3
picoseconds_refused types g h =
    let k = kind_rule g.header.kind g.header.encoding in
    let p = picoseconds_refusal g.header.picoseconds in
    behind_one k p (body_refusal types g) (cond (reads_back types g) 0 6) (encode g) h ∙ ap refusing (three g.header.picoseconds (their_refusal k p h))
