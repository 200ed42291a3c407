-- The parts of a DataSetMessage, read back as they were written: header, fields and padding.
-- Assumes nothing.
use lib.Dec.{eqb}
use native.Mathlib.Numerals.{add-one}
use mathlib.Core.Path.{◌≡◌, refl, ap, sym, ◌∙◌, subst}
use mathlib.Core.Bool.{Bool, true, false, cond}
use mathlib.Core.List.{List, [], ◌∷◌, ◌++◌, append_assoc}
use Prim.Native.Nat.{ℕ, zero, suc, ◌+◌, ◌-◌, ◌<◌, ◌≤◌}
use native.Mathlib.Nat.{add-zero}
use native.Mathlib.Omega.{arith}
use borrow.Author.Tests.{eqb-true, eq-eqb}
use lib.ListN.{length, get_or, take, drop, length-append}
use lib.Seq.{get_or-append_seam, get_or-drop, take_at, drop_at, drop-cons, drop-length}
use Rattle.wire.specs.Lists.{total}
use Rattle.dataset_fields.specs.Fields.{walked, field_bytes_of, values_joined, lengths_of, indices_of, encoded_at, index_at, field_at, fields_at, zeros_at, ends_at, fields_whole, index_bytes, fields_bytes, zeros, values_of, number_of, fields_refusal}
use Rattle.dataset_fields.proofs.Inside.{field_inside}
use Rattle.wire_writer.proofs.Back.{Back, empty, join, end_fits, part_at, item_back}
use Rattle.wire.proofs.Reading.{invert, got_value, got_next, not_got}
use Rattle.wire.specs.Answer.{Answer, got, refused}
use Rattle.wire.proofs.Places.{placed, alone}
use Rattle.wire.proofs.Facts.{and_left, and_right}
use Rattle.value.specs.Value.{Measure}
use Rattle.wire_writer.proofs.Trip.{At, Reads, first, second, item_is}
use Rattle.dataset_header.specs.declared.flags.Encoding.{Encoding}
use Rattle.dataset_fields.specs.declared.fields.Field.{Field}
use Rattle.dataset_fields.proofs.Judging.{encoded_steady}
use Rattle.wire_writer.specs.Fits.{Bytes, Numbers}
use Rattle.dataset_header.proofs.HeaderTrip.{ends}

-- the header

-- each number of the header fits its type, as a value of the code does

-- a field

encoded_is : (encoding : Encoding) (types : List ℕ) (k : ℕ) (v : List ℕ) (m : Measure) (at : ℕ) → encoded_at encoding types k v 0 ≡ got m (length v)
    → Reads (encoded_at encoding types k) at v m
encoded_is encoding types k v m at q s a =
    ap (λ (l : List ℕ). encoded_at encoding types k l at) a.2 ∙ ap (λ (n : ℕ). encoded_at encoding types k (a.0 ++ (v ++ a.1)) n) (sym a.3)
    ∙ placed (encoded_steady encoding types k v 0 q) a.0 v a.1 q ∙ ap (λ (n : ℕ). got m (n + length v)) a.3

pub index_is : (delta : Bool) (k i m : ℕ) → (delta ≡ true → i < 65536) → Reads (index_at delta k) m (index_bytes delta i) (cond delta i k)
index_is true k i m l s a = item_is 2 i m (l refl) s a
index_is false k i m l s a = ap (got k) (sym (add-zero m))

-- the bytes that stand at a position are that part of the slice
part_is : (s : List ℕ) (m : ℕ) (v : List ℕ) → At s m v → take (length v) (drop m s) ≡ v
part_is s m v a = ap (λ (l : List ℕ). take (length v) (drop m l)) a.2 ∙ ap (take (length v)) (drop_at a.0 (v ++ a.1) m a.3) ∙ take_at v a.1 (length v) refl

-- what is read of a field that is written at m
pub record FieldIs (delta : Bool) (encoding : Encoding) (types : List ℕ) (k i : ℕ) (v s : List ℕ) (m : ℕ) : Type 0 where
  pub place : Field
  pub reads : field_at delta encoding types k s m ≡ got place (m + length (index_bytes delta i ++ v))
  pub index : place.index ≡ cond delta i k
  pub bytes : take place.length (drop place.offset s) ≡ v

pub field_is : (delta : Bool) (encoding : Encoding) (types : List ℕ) (k i : ℕ) (v : List ℕ) (x : Measure) → (delta ≡ true → i < 65536)
    → encoded_at encoding types k v 0 ≡ got x (length v) → (s : List ℕ) (m : ℕ) → At s m (index_bytes delta i ++ v) → FieldIs delta encoding types k i v s m
field_is delta encoding types k i v x l q s m a =
    let b = second s m (index_bytes delta i) v a in
    let p = index_is delta k i m l s (first s m (index_bytes delta i) v a) in
    let e = encoded_is encoding types k v x (m + length (index_bytes delta i)) q s b in
    let n : m + length (index_bytes delta i) + length v - (m + length (index_bytes delta i)) ≡ length v = omega arith in
    let z : m + length (index_bytes delta i) + length v ≡ m + length (index_bytes delta i ++ v) = omega (arith, length-append (index_bytes delta i) v) in
    record {
      place = record { index = cond delta i k; kind = x.kind; shape = x.shape; offset = m + length (index_bytes delta i); length = length v };
      reads = rw (p, e, n) (ends z);
      index = refl;
      bytes = part_is s (m + length (index_bytes delta i)) v b;
    }

-- an accepted field alone
pub whole_alone : (x : Answer Measure) (n : ℕ) → ends_at n x ≡ true → (m : Measure) × (x ≡ got m n)
whole_alone (got m next) n h = (m, ap (got m) (eqb-true next n h))
whole_alone (refused k place) n h = let z : ◌≡◌ {A = ℕ} 0 1 = cc in absurd (omega arith)

-- whole fields are not refused
pub whole_number : (encoding : Encoding) (types : List ℕ) (k : ℕ) (vs : List (List ℕ)) → fields_whole encoding types k vs ≡ true → fields_refusal encoding types k vs ≡ 0
unfolding fields_whole fields_refusal
whole_number encoding types k [] w = refl
whole_number encoding types k (v ∷ vs) w =
    let t = whole_alone (encoded_at encoding types k v 0) (length v) (and_left _ (fields_whole encoding types (k + 1) vs) w) in
    rw t.1 (whole_number encoding types (k + 1) vs (and_right (ends_at (length v) (encoded_at encoding types k v 0)) (fields_whole encoding types (k + 1) vs) w))

-- each of a delta's indices fits its type, as a value of the code does
-- the fields, from field k on

module _ (delta : Bool) (encoding : Encoding) (types : List ℕ) where
  -- the first of them
  head_is : (k : ℕ) (indices v : List ℕ) (vs : List (List ℕ)) → Numbers indices → fields_whole encoding types k (v ∷ vs) ≡ true
      → (s : List ℕ) (m : ℕ) → At s m (fields_bytes delta indices (v ∷ vs)) → FieldIs delta encoding types k (get_or indices 0 0) v s m
  unfolding fields_whole fields_bytes
  head_is k indices v vs f w s m a =
      let t = whole_alone (encoded_at encoding types k v 0) (length v) (and_left _ (fields_whole encoding types (k + 1) vs) w) in
      field_is delta encoding types k (get_or indices 0 0) v t.0 (λ e. f 0) t.1 s m
      (first s m (index_bytes delta (get_or indices 0 0) ++ v) (fields_bytes delta (drop 1 indices) vs)
      (subst (At s m) (sym (append_assoc (index_bytes delta (get_or indices 0 0)) v (fields_bytes delta (drop 1 indices) vs))) a))

  -- and those after it
  tail_at : (indices v : List ℕ) (vs : List (List ℕ)) (s : List ℕ) (m : ℕ) → At s m (fields_bytes delta indices (v ∷ vs))
      → At s (m + length (index_bytes delta (get_or indices 0 0) ++ v)) (fields_bytes delta (drop 1 indices) vs)
  unfolding fields_bytes
  tail_at indices v vs s m a =
      second s m (index_bytes delta (get_or indices 0 0) ++ v) (fields_bytes delta (drop 1 indices) vs)
      (subst (At s m) (sym (append_assoc (index_bytes delta (get_or indices 0 0)) v (fields_bytes delta (drop 1 indices) vs))) a)

  tail_whole : (k : ℕ) (v : List ℕ) (vs : List (List ℕ)) → fields_whole encoding types k (v ∷ vs) ≡ true → fields_whole encoding types (k + 1) vs ≡ true
  unfolding fields_whole
  tail_whole k v vs w = and_right (ends_at (length v) (encoded_at encoding types k v 0)) (fields_whole encoding types (k + 1) vs) w

  tail_fits : (indices : List ℕ) → Numbers indices → Numbers (drop 1 indices)
  tail_fits indices f k = rw (get_or-drop 1 indices k 0) (f (1 + k))

  bytes_length : (m : ℕ) (indices v : List ℕ) (vs : List (List ℕ))
      → m + length (index_bytes delta (get_or indices 0 0) ++ v) + length (fields_bytes delta (drop 1 indices) vs) ≡ m + length (fields_bytes delta indices (v ∷ vs))
  unfolding fields_bytes
  bytes_length m indices v vs = simp length-append (omega arith)

  pub fields_is : (vs : List (List ℕ)) (k : ℕ) (indices : List ℕ) → Numbers indices → fields_whole encoding types k vs ≡ true
      → (s : List ℕ) (m : ℕ) → At s m (fields_bytes delta indices vs) → fields_at delta encoding types (length vs) k s m ≡ got tt (m + length (fields_bytes delta indices vs))
  unfolding fields_at fields_bytes
  fields_is [] k indices f w s m a = ends (sym (add-zero m))
  fields_is (v ∷ vs) k indices f w s m a =
      let h = head_is k indices v vs f w s m a in
      rw h.reads
      (fields_is vs (k + 1) (drop 1 indices) (tail_fits indices f) (tail_whole k v vs w) s (m + length (index_bytes delta (get_or indices 0 0) ++ v)) (tail_at indices v vs s m a)
      ∙ ends (bytes_length m indices v vs))

  -- field k + j, by passing over the j fields before it
  pub record NthIs (s : List ℕ) (m k j i : ℕ) (v : List ℕ) : Type 0 where
    pub at : ℕ
    pub end : ℕ
    pub place : Field
    pub passed : fields_at delta encoding types j k s m ≡ got tt at
    pub reads : field_at delta encoding types (k + j) s at ≡ got place end
    pub index : place.index ≡ cond delta i (k + j)
    pub bytes : take place.length (drop place.offset s) ≡ v

  pub nth_is : (j : ℕ) (vs : List (List ℕ)) (k : ℕ) (indices : List ℕ) → Numbers indices → fields_whole encoding types k vs ≡ true → j < length vs
      → (s : List ℕ) (m : ℕ) → At s m (fields_bytes delta indices vs) → NthIs s m k j (get_or indices j 0) (get_or vs j [])
  unfolding fields_at
  nth_is j [] k indices f w l s m a = absurd (omega arith)
  nth_is zero (v ∷ vs) k indices f w l s m a =
      let h = head_is k indices v vs f w s m a in
      let e : k + zero ≡ k = add-zero k in
      record {
        at = m;
        end = m + length (index_bytes delta (get_or indices 0 0) ++ v);
        place = h.place;
        passed = refl;
        reads = ap (λ (n : ℕ). field_at delta encoding types n s m) e ∙ h.reads;
        index = h.index ∙ ap (cond delta (get_or indices 0 0)) (sym e);
        bytes = h.bytes;
      }
  nth_is (suc j) (v ∷ vs) k indices f w l s m a =
      let h = head_is k indices v vs f w s m a in
      let r = nth_is j vs (k + 1) (drop 1 indices) (tail_fits indices f) (tail_whole k v vs w) (omega arith) s
      (m + length (index_bytes delta (get_or indices 0 0) ++ v)) (tail_at indices v vs s m a) in
      let e : k + 1 + j ≡ k + suc j = omega arith in
      let d : get_or (drop 1 indices) j 0 ≡ get_or indices (suc j) 0 = get_or-drop 1 indices j 0 ∙ ap (λ (n : ℕ). get_or indices n 0) (omega arith) in
      record {
        at = r.at;
        end = r.end;
        place = r.place;
        passed = rw h.reads r.passed;
        reads = ap (λ (n : ℕ). field_at delta encoding types n s r.at) (sym e) ∙ r.reads;
        index = r.index ∙ ap (λ (n : ℕ). cond delta n (k + 1 + j)) d ∙ ap (cond delta (get_or indices (suc j) 0)) e;
        bytes = r.bytes;
      }

-- padding

pub zeros_is : (n : ℕ) (s : List ℕ) (m : ℕ) → At s m (zeros n) → zeros_at n s m ≡ got tt (m + n)
unfolding zeros_at
zeros_is zero s m a = ends (sym (add-zero m))
zeros_is (suc n) s m a =
    let z : get_or s m 0 ≡ 0 = ap (λ (l : List ℕ). get_or l m 0) a.2 ∙ ap (λ (i : ℕ). get_or (a.0 ++ (0 ∷ (zeros n ++ a.1))) i 0) (sym a.3) ∙ get_or-append_seam a.0 0 (zeros n ++ a.1) 0 in
    let e : m + 1 + n ≡ m + suc n = omega arith in
    rw (eq-eqb (get_or s m 0) 0 z) (zeros_is n s (m + 1) (second s m (0 ∷ []) (zeros n) a) ∙ ends e)

-- back: the header that was read is the bytes that stand there

-- a field that was read

pub record FieldTaken (delta : Bool) (encoding : Encoding) (types : List ℕ) (k : ℕ) (s : List ℕ) (at : ℕ) (f : Field) (end : ℕ) : Type 0 where
  pub stands : Back s at (index_bytes delta f.index ++ field_bytes_of s f) end
  pub fits : delta ≡ true → f.index < 65536
  pub size : length (field_bytes_of s f) ≡ f.length
  pub alone : ends_at (length (field_bytes_of s f)) (encoded_at encoding types k (field_bytes_of s f) 0) ≡ true
  pub number : number_of (encoded_at encoding types k (field_bytes_of s f) 0) ≡ 0

index_back : (delta : Bool) (k : ℕ) (s : List ℕ) (at i o : ℕ) → Bytes s → at ≤ length s → index_at delta k s at ≡ got i o → Back s at (index_bytes delta i) o × (delta ≡ true → i < 65536)
index_back true k s at i o bytes l h = let b = item_back 2 s at i o bytes h in (b.0, λ e. b.1)
index_back false k s at i o bytes l h = (subst (λ (n : ℕ). Back s at [] n) (got_next h) (empty s at l), λ e. let z : ◌≡◌ {A = ℕ} 0 1 = cc in absurd (omega arith))

-- its bytes alone are a whole value
pub field_alone : (delta : Bool) (encoding : Encoding) (types : List ℕ) (k : ℕ) (s : List ℕ) (at : ℕ) (f : Field) (end : ℕ)
    → field_at delta encoding types k s at ≡ got f end → (m : Measure) × (encoded_at encoding types k (field_bytes_of s f) 0 ≡ got m (length (field_bytes_of s f)))
    × (length (field_bytes_of s f) ≡ f.length)
field_alone delta encoding types k s at f end h =
    let w = field_inside delta encoding types k s at f end h in
    let a = invert (index_at delta k s at) (λ i o. _) h in
    let b = invert (encoded_at encoding types k s a.1) (λ m z. _) a.3 in
    let g = got_value b.3 in
    let o : a.1 ≡ f.offset = ap (λ (x : Field). x.offset) g in
    let n : b.1 - a.1 ≡ f.length = ap (λ (x : Field). x.length) g in
    let l : f.offset + f.length ≤ length s = omega (arith, w.value, w.ends) in
    let lo : a.1 ≤ length s = omega arith in
    let p = part_at s f.offset f.length l in
    let size : length (field_bytes_of s f) ≡ f.length = omega (arith, p.1) in (
      b.0,
      ap (λ (q : ℕ). encoded_at encoding types k (take q (drop f.offset s)) 0) (sym n)
          ∙ ap (λ (q : ℕ). encoded_at encoding types k (take (b.1 - a.1) (drop q s)) 0) (sym o)
          ∙ alone (encoded_steady encoding types k s a.1 b.2) s a.1 lo b.2 ∙ ap (got b.0) (n ∙ sym size),
      size,
    )

field_back : (delta : Bool) (encoding : Encoding) (types : List ℕ) (k : ℕ) (s : List ℕ) (at : ℕ) (f : Field) (end : ℕ) → Bytes s
    → field_at delta encoding types k s at ≡ got f end → FieldTaken delta encoding types k s at f end
field_back delta encoding types k s at f end bytes h =
    let w = field_inside delta encoding types k s at f end h in
    let a = invert (index_at delta k s at) (λ i o. _) h in
    let b = invert (encoded_at encoding types k s a.1) (λ m z. _) a.3 in
    let g = got_value b.3 in
    let z : b.1 ≡ end = got_next b.3 in
    let i : a.0 ≡ f.index = ap (λ (x : Field). x.index) g in
    let o : a.1 ≡ f.offset = ap (λ (x : Field). x.offset) g in
    let n : b.1 - a.1 ≡ f.length = ap (λ (x : Field). x.length) g in
    let l : f.offset + f.length ≤ length s = omega (arith, w.value, w.ends) in
    let p = part_at s f.offset f.length l in
    let x = index_back delta k s at a.0 a.1 bytes w.starts a.2 in
    let y = field_alone delta encoding types k s at f end h in
    record {
      stands =
          subst (λ (e : ℕ). Back s at (index_bytes delta f.index ++ field_bytes_of s f) e) w.value
          (join s at (index_bytes delta f.index) f.offset (field_bytes_of s f) (f.offset + f.length)
          (subst (λ (q : ℕ). Back s at (index_bytes delta f.index) q) o (subst (λ (q : ℕ). Back s at (index_bytes delta q) a.1) i x.0)) p);
      fits = λ e. subst (λ (q : ℕ). q < 65536) i (x.1 e);
      size = y.2;
      alone = rw (y.1, eq-eqb (length (field_bytes_of s f)) (length (field_bytes_of s f)) refl);
      number = rw y.1;
    }

-- the fields that were read, from field k on

abbrev pub indices_for : Bool → List Field → List ℕ
indices_for delta fs = cond delta (indices_of fs) []

pub record FieldsTaken (delta : Bool) (encoding : Encoding) (types : List ℕ) (n k : ℕ) (s : List ℕ) (at : ℕ) (fs : List Field) (end : ℕ) : Type 0 where
  pub stands : Back s at (fields_bytes delta (indices_for delta fs) (values_of (lengths_of fs) (values_joined s fs))) end
  pub count : length (lengths_of fs) ≡ n
  pub indexed : length (indices_for delta fs) ≡ cond delta n 0
  pub adds : total (lengths_of fs) ≡ length (values_joined s fs)
  pub whole : fields_whole encoding types k (values_of (lengths_of fs) (values_joined s fs)) ≡ true
  pub number : fields_refusal encoding types k (values_of (lengths_of fs) (values_joined s fs)) ≡ 0

indices_cons : (delta : Bool) (f : Field) (fs : List Field) (vs : List (List ℕ)) (v : List ℕ)
    → fields_bytes delta (indices_for delta (f ∷ fs)) (v ∷ vs) ≡ (index_bytes delta f.index ++ v) ++ fields_bytes delta (indices_for delta fs) vs
unfolding fields_bytes indices_of
indices_cons true f fs vs v = sym (append_assoc (index_bytes true f.index) v (fields_bytes true (indices_of fs) vs))
indices_cons false f fs vs v = refl

indices_length : (delta : Bool) (f : Field) (fs : List Field) (n : ℕ) → length (indices_for delta fs) ≡ cond delta n 0 → length (indices_for delta (f ∷ fs)) ≡ cond delta (suc n) 0
unfolding indices_of
indices_length true f fs n e = ap suc e
indices_length false f fs n e = refl

values_first : (n : ℕ) (lengths v rest : List ℕ) → length v ≡ n → values_of (n ∷ lengths) (v ++ rest) ≡ v ∷ values_of lengths rest
unfolding values_of
values_first n lengths v rest e = rw (take_at v rest n e, drop_at v rest n e)

one_more : (delta : Bool) (encoding : Encoding) (types : List ℕ) (n k : ℕ) (s : List ℕ) (at : ℕ) (f : Field) (q : ℕ) (fs : List Field) (end : ℕ)
    → FieldTaken delta encoding types k s at f q → FieldsTaken delta encoding types n (k + 1) s q fs end → FieldsTaken delta encoding types (suc n) k s at (f ∷ fs) end
unfolding values_joined lengths_of fields_whole fields_refusal
one_more delta encoding types n k s at f q fs end x r =
    let v : values_of (f.length ∷ lengths_of fs) (field_bytes_of s f ++ values_joined s fs) ≡ field_bytes_of s f ∷ values_of (lengths_of fs) (values_joined s fs) =
    values_first f.length (lengths_of fs) (field_bytes_of s f) (values_joined s fs) x.size in
    record {
      stands =
          rw (v, indices_cons delta f fs (values_of (lengths_of fs) (values_joined s fs)) (field_bytes_of s f))
          (join s at (index_bytes delta f.index ++ field_bytes_of s f) q (fields_bytes delta (indices_for delta fs) (values_of (lengths_of fs) (values_joined s fs))) end x.stands r.stands);
      count = ap suc r.count;
      indexed = indices_length delta f fs n r.indexed;
      adds = omega (arith, r.adds, x.size, length-append (field_bytes_of s f) (values_joined s fs));
      whole = rw (v, x.alone) r.whole;
      number = rw (v, x.number) r.number;
    }

module _ (delta : Bool) (encoding : Encoding) (types s : List ℕ) (bytes : Bytes s) where
  no_more : (k at end : ℕ) → at ≤ length s → at ≡ end → FieldsTaken delta encoding types zero k s at [] end
  unfolding values_joined lengths_of indices_of values_of fields_bytes fields_whole fields_refusal
  no_more k at end l h =
      record {
        stands = subst (λ (e : ℕ). Back s at [] e) h (empty s at l);
        count = refl;
        indexed = either delta;
        adds = refl;
        whole = refl;
        number = refl;
      }
    where
      either : (d : Bool) → length (cond {A = List ℕ} d [] []) ≡ cond d zero 0
      either true = refl
      either false = refl

  pub fields_back : (n k at end : ℕ) → at ≤ length s → fields_at delta encoding types n k s at ≡ got tt end
      → FieldsTaken delta encoding types n k s at (walked delta encoding types n k s at) end
  unfolding fields_at walked
  fields_back zero k at end l h = no_more k at end l (got_next h)
  fields_back (suc n) k at end l h =
      let a = invert (field_at delta encoding types k s at) (λ f q. fields_at delta encoding types n (k + 1) s q) h in
      let x = field_back delta encoding types k s at a.0 a.1 bytes a.2 in
      let m = end_fits s at (index_bytes delta a.0.index ++ field_bytes_of s a.0) a.1 x.stands in
      rw a.2 (one_more delta encoding types n k s at a.0 a.1 (walked delta encoding types n (k + 1) s a.1) end x (fields_back n (k + 1) a.1 end m a.3))

-- padding that was read

pub zeros_back : (n : ℕ) (s : List ℕ) (m z : ℕ) → m + n ≡ length s → zeros_at n s m ≡ got tt z → drop m s ≡ zeros n
unfolding zeros_at
zeros_back zero s m z e h = let q : m ≡ length s = omega arith in ap (λ (j : ℕ). drop j s) q ∙ drop-length s
zeros_back (suc n) s m z e h = go (eqb (get_or s m 0) 0) refl (zeros_back n s (m + 1) z (omega arith))
  where
    go : (t : Bool) → eqb (get_or s m 0) 0 ≡ t → (zeros_at n s (m + 1) ≡ got tt z → drop (m + 1) s ≡ zeros n) → drop m s ≡ 0 ∷ zeros n
    go true t ih =
        let g : get_or s m 0 ≡ 0 = eqb-true (get_or s m 0) 0 t in
        let l : m < length s = omega arith in
        let r : drop (suc m) s ≡ zeros n = ap (λ (j : ℕ). drop j s) (sym (add-one m)) ∙ ih (rw t at h) in
        drop-cons s m 0 l ∙ ap (λ (x : ℕ). x ∷ drop (suc m) s) g ∙ ap (λ (x : List ℕ). 0 ∷ x) r
    go false t ih = absurd (not_got (rw t at h))
