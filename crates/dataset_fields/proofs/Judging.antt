-- Laws of judging: lengths that add up, the fields one by one, and refusals in their order.
-- Assumes nothing.
use mathlib.Core.Path.{◌≡◌, refl, ap, sym, subst, ◌∙◌}
use mathlib.Core.Bool.{Bool, true, false, cond, ◌&&◌}
use mathlib.Core.List.{List, [], ◌∷◌}
use mathlib.Core.Logic.{◌⊎◌, inl, inr}
use Prim.Native.Nat.{ℕ, zero, suc, ◌+◌, ◌-◌, ◌≤◌, ◌<◌}
use native.Mathlib.Numerals.{add-one}
use native.Mathlib.Omega.{arith}
use borrow.Author.Tests.{leb-true, leb-false, le-leb, ne_eqb}
use lib.Dec.{leb, eqb}
use lib.ListN.{length, get_or, take, drop}
use lib.Seq.{drop-cons, drop-drop, drop-length, drop-nil, take_all}
use Rattle.wire.specs.Lists.{total}
use Rattle.wire.specs.Answer.{Answer, got, refused, and_then}
use Rattle.wire.proofs.Reading.{invert, got_next, not_got}
use Rattle.wire.proofs.Steady.{Steady}
use Rattle.wire.proofs.Places.{within_refused}
use Rattle.value.specs.Value.{Measure, raw_at}
use Rattle.value.proofs.Values.{value_steady, raw_steady}
use Rattle.wire_writer.specs.Writing.{or_else}
use Rattle.dataset_header.specs.declared.flags.Encoding.{Encoding}
use Rattle.dataset_fields.specs.declared.fields.Field.{Field}
use Rattle.dataset_fields.specs.Fields.{raw_field_at, encoded_at, field_at, values_of, number_of, fields_refusal, fields_whole, fields_number, reached}
use Rattle.wire.proofs.Facts.{eqb_same}

-- lengths that add up

pub total_cons : (lengths : List ℕ) (k : ℕ) → k < length lengths → total (drop k lengths) ≡ get_or lengths k 0 + total (drop (k + 1) lengths)
total_cons lengths k h = rw (drop-cons lengths k 0 h, add-one)

pub total_step : (lengths : List ℕ) (k left : ℕ) → k < length lengths → get_or lengths k 0 ≤ left
    → eqb (total (drop k lengths)) left ≡ eqb (total (drop (k + 1) lengths)) (left - get_or lengths k 0)
total_step lengths k left h l =
    let e = total_cons lengths k h in
    eqb_same (total (drop k lengths)) left (total (drop (k + 1) lengths)) (left - get_or lengths k 0) (λ q. omega arith) (λ q. omega arith)

pub total_stop : (lengths : List ℕ) (k left : ℕ) → k < length lengths → left < get_or lengths k 0 → eqb (total (drop k lengths)) left ≡ false
total_stop lengths k left h l = let e = total_cons lengths k h in ne_eqb (total (drop k lengths)) left (λ q. omega arith)

pub past_end : (l : List ℕ) (k : ℕ) → length l ≤ k → drop k l ≡ []
past_end [] k h = drop-nil k
past_end (x ∷ l) zero h = absurd (omega arith)
past_end (x ∷ l) (suc k) h = past_end l k (omega arith)

pub total_done : (lengths : List ℕ) (k left : ℕ) → length lengths ≤ k → eqb (total (drop k lengths)) left ≡ eqb left 0
total_done lengths k left h =
    ap (λ (l : List ℕ). eqb (total l) left) (past_end lengths k h) ∙ eqb_same 0 left left 0 (λ q. sym q) (λ q. sym q)

-- a field alone

-- a field's reader is steady, but past the configured fields of RawData, where it refuses everything by 8 at 0
pub encoded_either : (encoding : Encoding) (types : List ℕ) (k : ℕ)
    → Steady (encoded_at encoding types k) ⊎ ((s : List ℕ) (at : ℕ) → encoded_at encoding types k s at ≡ refused 8 0)
encoded_either Encoding.Variant types k = inl (value_steady 100 24)
encoded_either Encoding.RawData types k = go (leb (length types) k) refl
  where
    said : Bool → List ℕ → ℕ → Answer Measure
    said b s at = cond b (refused 8 0) (raw_at (get_or types k 0) s at)

    go : (b : Bool) → leb (length types) k ≡ b → Steady (raw_field_at types k) ⊎ ((s : List ℕ) (at : ℕ) → raw_field_at types k s at ≡ refused 8 0)
    go true e = inr (λ s at. rw e)
    go false e = inl (subst Steady (ap said (sym e)) (raw_steady (get_or types k 0)))
encoded_either Encoding.DataValue types k = inl (value_steady 100 23)

-- where it accepts something it is steady
pub encoded_steady : (encoding : Encoding) (types : List ℕ) (k : ℕ) (s : List ℕ) (at : ℕ) {m : Measure} {e : ℕ} → encoded_at encoding types k s at ≡ got m e → Steady (encoded_at encoding types k)
encoded_steady encoding types k s at {m} {e} q = go (encoded_either encoding types k)
  where
    go : Steady (encoded_at encoding types k) ⊎ ((s : List ℕ) (at : ℕ) → encoded_at encoding types k s at ≡ refused 8 0) → Steady (encoded_at encoding types k)
    go (inl f) = f
    go (inr n) = absurd (not_got (sym (n s at) ∙ q))

-- the number of a refusal is not 0
pub encoded_refused : (encoding : Encoding) (types : List ℕ) (k : ℕ) (v : List ℕ) {n p : ℕ} → encoded_at encoding types k v 0 ≡ refused n p → n ≡ 0 → ⊥
encoded_refused encoding types k v {n} {p} q z = go (encoded_either encoding types k)
  where
    go : Steady (encoded_at encoding types k) ⊎ ((s : List ℕ) (at : ℕ) → encoded_at encoding types k s at ≡ refused 8 0) → ⊥
    go (inl f) = let l : 0 ≤ length v = omega arith in let w = within_refused f v 0 l q in omega (arith, w.0)
    go (inr r) = let e : refused 8 0 ≡ refused n p = sym (r v 0) ∙ q in let m : 8 ≡ n = ap (number_of {A = Measure}) e in omega arith

-- the position n bytes on, at most the slice's end
abbrev pub forward_to : ℕ → ℕ → ℕ → ℕ
forward_to len at n = cond (leb (at + n) len) (at + n) len

forward_drop : (values : List ℕ) (at n : ℕ) → drop n (drop at values) ≡ drop (forward_to (length values) at n) values
forward_drop values at n = drop-drop n at values ∙ go (leb (at + n) (length values)) refl
  where
    go : (b : Bool) → leb (at + n) (length values) ≡ b → drop (at + n) values ≡ drop (forward_to (length values) at n) values
    go true e = rw e
    go false e =
        let l : length values < at + n = leb-false (at + n) (length values) e in
        rw e (past_end values (at + n) (omega arith) ∙ sym (drop-length values))

pub values_cons : (lengths values : List ℕ) (k at at' n : ℕ) (v : List ℕ) → k < length lengths → n ≡ get_or lengths k 0 → v ≡ take n (drop at values)
    → at' ≡ forward_to (length values) at n
    → values_of (drop k lengths) (drop at values) ≡ v ∷ values_of (drop (k + 1) lengths) (drop at' values)
unfolding values_of
values_cons lengths values k at at' n v h e q r =
    rw (drop-cons lengths k 0 h, add-one, ← e, q, forward_drop values at n, r)

-- what is left of the first count fields, before field k, whose value starts at `at`
abbrev pub rest : List ℕ → List ℕ → ℕ → ℕ → ℕ → List (List ℕ)
rest lengths values count k at = take (count - k) (values_of (drop k lengths) (drop at values))

module _ (encoding : Encoding) (types lengths values : List ℕ) (count : ℕ) where
  -- the number of what is left, where the fields so far were whole or not
  abbrev pub number_left : ℕ → ℕ → Bool → ℕ
  number_left k at whole =
      or_else (fields_refusal encoding types k (rest lengths values count k at)) (cond (whole && fields_whole encoding types k (rest lengths values count k at)) 0 6)

  pub judge_start : fields_number encoding types 0 (take count (values_of lengths values)) ≡ number_left 0 0 true
  judge_start = let e : count - 0 ≡ count = omega arith in rw e

  pub judge_done : (k at : ℕ) (whole : Bool) → count ≤ k → number_left k at whole ≡ cond whole 0 6
  unfolding fields_refusal fields_whole
  judge_done k at whole h = let e : count - k ≡ 0 = omega arith in rw e (go whole)
    where
      go : (w : Bool) → ◌≡◌ {A = ℕ} (cond (w && true) 0 6) (cond w 0 6)
      go true = refl
      go false = refl

  rest_cons : (k at at' n : ℕ) (v : List ℕ) → k < count → count ≤ length lengths → n ≡ get_or lengths k 0 → v ≡ take n (drop at values)
      → at' ≡ forward_to (length values) at n → rest lengths values count k at ≡ v ∷ rest lengths values count (k + 1) at'
  rest_cons k at at' n v h l e q r =
      let m : count - k ≡ suc (count - (k + 1)) = omega arith in
      rw (m, values_cons lengths values k at at' n v (omega arith) e q r)

  and_assoc : (a b c : Bool) → a && (b && c) ≡ (a && b) && c
  and_assoc true b c = refl
  and_assoc false b c = refl

  accepted : (k : ℕ) (v : List ℕ) (vs : List (List ℕ)) (whole : Bool) (f : Field) (e : ℕ) → field_at false encoding types k v 0 ≡ got f e
      → or_else (fields_refusal encoding types k (v ∷ vs)) (cond (whole && fields_whole encoding types k (v ∷ vs)) 0 6)
      ≡ or_else (fields_refusal encoding types (k + 1) vs) (cond ((whole && eqb e (length v)) && fields_whole encoding types (k + 1) vs) 0 6)
  unfolding fields_refusal fields_whole
  accepted k v vs whole f e h =
      let a = invert (encoded_at encoding types k v 0) (λ m z. _) h in
      let n : a.1 ≡ e = got_next a.3 in
      rw (a.2, n, and_assoc whole (eqb e (length v)) (fields_whole encoding types (k + 1) vs))

  pub judge_step : (k at at' n : ℕ) (v : List ℕ) (whole : Bool) (f : Field) (e : ℕ) → k < count → count ≤ length lengths → n ≡ get_or lengths k 0
      → v ≡ take n (drop at values) → at' ≡ forward_to (length values) at n → field_at false encoding types k v 0 ≡ got f e
      → number_left k at whole ≡ number_left (k + 1) at' (whole && eqb e (length v))
  judge_step k at at' n v whole f e h l i q r g =
      rw (rest_cons k at at' n v h l i q r) (accepted k v (rest lengths values count (k + 1) at') whole f e g)

  refused_alone : (a : Answer Measure) (g : Measure → ℕ → Field) (n p : ℕ) → and_then a (λ m z. got (g m z) z) ≡ refused n p → a ≡ refused n p
  refused_alone (got m z) g n p h = absurd (not_got (sym h))
  refused_alone (refused m z) g n p h = cc

  pub judge_stop : (k at n : ℕ) (v : List ℕ) (whole : Bool) (m p : ℕ) → k < count → count ≤ length lengths → n ≡ get_or lengths k 0
      → v ≡ take n (drop at values) → field_at false encoding types k v 0 ≡ refused m p → number_left k at whole ≡ m
  unfolding fields_refusal
  judge_stop k at n v whole m p h l i q g =
      let a : encoded_at encoding types k v 0 ≡ refused m p = refused_alone (encoded_at encoding types k v 0) _ m p g in
      let z : m ≡ 0 → ⊥ = encoded_refused encoding types k v a in
      rw (rest_cons k at (forward_to (length values) at n) n v h l i q refl, a, ne_eqb m 0 z, ne_eqb m 0 z)

-- the fields that are reached

pub length_values : (lengths values : List ℕ) → length (values_of lengths values) ≡ length lengths
unfolding values_of
length_values [] values = refl
length_values (n ∷ lengths) values = ap suc (length_values lengths (drop n values))

abbrev pub reached_count : Bool → ℕ → ℕ → ℕ
reached_count raw configured n = cond (raw && leb configured n) configured n

pub reached_within : (raw : Bool) (configured n : ℕ) → reached_count raw configured n ≤ n
reached_within raw configured n = go (raw && leb configured n) refl
  where
    right : (r : Bool) → r && leb configured n ≡ true → configured ≤ n
    right true e = leb-true configured n e
    right false e = let z : ◌≡◌ {A = ℕ} 0 1 = cc in absurd (omega arith)

    go : (b : Bool) → raw && leb configured n ≡ b → cond b configured n ≤ n
    go true e = right raw e
    go false e = omega arith

pub reached_is : (raw : Bool) (types lengths values : List ℕ)
    → take (reached_count raw (length types) (length lengths)) (values_of lengths values) ≡ reached raw types (values_of lengths values)
reached_is false types lengths values = take_all (length lengths) (values_of lengths values) (let e = length_values lengths values in omega arith)
reached_is true types lengths values = go (leb (length types) (length lengths)) refl
  where
    go : (b : Bool) → leb (length types) (length lengths) ≡ b
        → take (cond (leb (length types) (length lengths)) (length types) (length lengths)) (values_of lengths values) ≡ take (length types) (values_of lengths values)
    go true e = rw e
    go false e =
        let n = length_values lengths values in
        let l : length lengths < length types = leb-false (length types) (length lengths) e in
        rw e (take_all (length lengths) (values_of lengths values) (omega arith) ∙ sym (take_all (length types) (values_of lengths values) (omega arith)))

-- refusals in their order

pub or_assoc : (a b c : ℕ) → or_else (or_else a b) c ≡ or_else a (or_else b c)
or_assoc a b c = go (eqb a 0) refl
  where
    go : (x : Bool) → eqb a 0 ≡ x → or_else (or_else a b) c ≡ or_else a (or_else b c)
    go true e = rw e
    go false e = rw (e, e)

-- sizes

abbrev limited : ℕ → ℕ
limited n = cond (leb 65536 n) 65536 n

pub more : (a b x r : ℕ) → x ≡ limited b → r ≡ limited (a + x) → r ≡ limited (a + b)
more a b x r e q = q ∙ ap (λ (n : ℕ). limited (a + n)) e ∙ go (leb 65536 b) refl
  where
    above : (n : ℕ) → 65536 ≤ n → leb 65536 n ≡ true
    above n h = le-leb 65536 n h

    go : (t : Bool) → leb 65536 b ≡ t → limited (a + limited b) ≡ limited (a + b)
    go true t = let l : 65536 ≤ b = leb-true 65536 b t in rw (t, above (a + 65536) (omega arith), above (a + b) (omega arith))
    go false t = rw t
