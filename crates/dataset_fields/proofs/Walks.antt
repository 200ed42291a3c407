-- Walking over fields and over padding: the end, one turn, and a refusal.
-- Assumes nothing.
use Prim.Native.Nat.{ℕ, zero, suc, ◌+◌, ◌-◌, ◌≤◌, ◌<◌}
use mathlib.Core.Path.{◌≡◌, refl, sym, ap, ◌∙◌}
use mathlib.Core.Bool.{Bool}
use mathlib.Core.List.{List}
use native.Mathlib.Nat.{not-suc-le-zero, add-zero, zero-add}
use native.Mathlib.Numerals.{sub-one}
use native.Mathlib.Omega.{arith}
use lib.ListN.{length, get_or}
use borrow.Author.Tests.{eq-eqb, ne_eqb}
use Rattle.dataset_fields.specs.Fields.{encoded_at, index_at, field_at, fields_at, zeros_at, padding_at}
use Rattle.dataset_header.specs.declared.flags.Encoding.{Encoding}
use Rattle.dataset_fields.specs.declared.fields.Field.{Field}
use Rattle.wire.specs.Answer.{Answer, got, refused, and_then}
use Rattle.plain_value.specs.Plain.{passing}
use Rattle.value.specs.Value.{Measure}
use Rattle.plain_value.proofs.Passing.{passed, unpassed}

module _ (delta : Bool) (encoding : Encoding) (types s : List ℕ) where
  pub fields_done : (left k p : ℕ) → left ≤ 0 → fields_at delta encoding types left k s p ≡ got tt p
  unfolding fields_at
  fields_done zero k p h = refl
  fields_done (suc n) k p h = absurd (not-suc-le-zero h)

  pub fields_step : (left k p q : ℕ) (f : Field) → 0 < left → field_at delta encoding types k s p ≡ got f q
      → fields_at delta encoding types left k s p ≡ fields_at delta encoding types (left - 1) (k + 1) s q
  unfolding fields_at
  fields_step zero k p q f h e = absurd (not-suc-le-zero h)
  fields_step (suc n) k p q f h e = rw (sub-one, e)

  pub fields_stop : (left k p n place : ℕ) → 0 < left → field_at delta encoding types k s p ≡ refused n place
      → fields_at delta encoding types left k s p ≡ refused n place
  unfolding fields_at
  fields_stop zero k p n place h e = absurd (not-suc-le-zero h)
  fields_stop (suc m) k p n place h e = rw e

  -- n fields, and c more after them
  pub fields_split : (n c k p : ℕ) → fields_at delta encoding types (n + c) k s p ≡ and_then (fields_at delta encoding types n k s p) (λ _ q. fields_at delta encoding types c (k + n) s q)
  unfolding fields_at
  fields_split zero c k p = ap (λ (j : ℕ). fields_at delta encoding types j k s p) (zero-add c) ∙ ap (λ (j : ℕ). fields_at delta encoding types c j s p) (sym (add-zero k))
  fields_split (suc n) c k p =
      let e : suc n + c ≡ suc (n + c) = omega arith in
      ap (λ (j : ℕ). fields_at delta encoding types j k s p) e ∙ go (field_at delta encoding types k s p) (fields_split n c (k + 1))
    where
      go : (x : Answer Field)
          → ((r : ℕ) → fields_at delta encoding types (n + c) (k + 1) s r ≡ and_then (fields_at delta encoding types n (k + 1) s r) (λ _ q. fields_at delta encoding types c (k + 1 + n) s q))
          → and_then x (λ f r. fields_at delta encoding types (n + c) (k + 1) s r)
          ≡ and_then (and_then x (λ f r. fields_at delta encoding types n (k + 1) s r)) (λ _ q. fields_at delta encoding types c (k + suc n) s q)
      go (got f r) ih =
          let i : k + 1 + n ≡ k + suc n = omega arith in
          ih r ∙ ap (λ (j : ℕ). and_then (fields_at delta encoding types n (k + 1) s r) (λ _ q. fields_at delta encoding types c j s q)) i
      go (refused m z) ih = refl

-- a field passed over: its index, then its value
module _ (delta : Bool) (encoding : Encoding) (types s : List ℕ) where
  made : (y : Answer Measure) (f : Measure → ℕ → Field) → and_then (and_then y (λ m end. got (f m end) end)) (λ a end. got tt end) ≡ and_then y (λ m end. got (tt {0}) end)
  made (got m end) f = refl
  made (refused n place) f = refl

  indexed : (k : ℕ) (x : Answer ℕ)
      → and_then (and_then x (λ i o. and_then (encoded_at encoding types k s o)
      (λ m end. got (record { index = i; kind = m.kind; shape = m.shape; offset = o; length = end - o }) end))) (λ (f : Field) end. got tt end)
      ≡ and_then (and_then x (λ i o. got (tt {0}) o)) (λ a o. passing (encoded_at encoding types k) s o)
  indexed k (got i o) = made (encoded_at encoding types k s o) (λ m end. record { index = i; kind = m.kind; shape = m.shape; offset = o; length = end - o })
  indexed k (refused n place) = refl

  pub pass_index_stop : (k p : ℕ) {n place : ℕ} → passing (index_at delta k) s p ≡ refused n place → passing (field_at delta encoding types k) s p ≡ refused n place
  pass_index_stop k p q = indexed k (index_at delta k s p) ∙ rw q

  pub pass_index_then : (k p : ℕ) {o : ℕ} → passing (index_at delta k) s p ≡ got tt o → passing (field_at delta encoding types k) s p ≡ passing (encoded_at encoding types k) s o
  pass_index_then k p q = indexed k (index_at delta k s p) ∙ rw q

  pub pass_field_step : (left k p : ℕ) {e : ℕ} → 0 < left → passing (field_at delta encoding types k) s p ≡ got tt e
      → fields_at delta encoding types left k s p ≡ fields_at delta encoding types (left - 1) (k + 1) s e
  pass_field_step left k p {e} h q = let f = passed (field_at delta encoding types k s p) q in fields_step delta encoding types s left k p e f.0 h f.1

  pub pass_field_stop : (left k p : ℕ) {n place : ℕ} → 0 < left → passing (field_at delta encoding types k) s p ≡ refused n place
      → fields_at delta encoding types left k s p ≡ refused n place
  pass_field_stop left k p h q = fields_stop delta encoding types s left k p _ _ h (unpassed (field_at delta encoding types k s p) q)

-- a loop over n fields of which the first k are passed: one turn, a refusal, and its end
module _ (delta : Bool) (encoding : Encoding) (types s : List ℕ) (n k p : ℕ) where
  pub fields_turn : k < n → {e : ℕ} → passing (field_at delta encoding types k) s p ≡ got tt e
      → fields_at delta encoding types (n - k) k s p ≡ fields_at delta encoding types (n - (k + 1)) (k + 1) s e
  fields_turn h q =
      let one : n - (k + 1) ≡ n - k - 1 = omega arith in
      rw one (pass_field_step delta encoding types s (n - k) k p (omega arith) q)

  pub fields_halt : k < n → {m place : ℕ} → passing (field_at delta encoding types k) s p ≡ refused m place → fields_at delta encoding types (n - k) k s p ≡ refused m place
  fields_halt h q = pass_field_stop delta encoding types s (n - k) k p (omega arith) q

  -- a field that was read is passed
  pub read_passes : {x : Field} {e : ℕ} → field_at delta encoding types k s p ≡ got x e → passing (field_at delta encoding types k) s p ≡ got tt e
  read_passes q = rw q

  pub read_stops : {m place : ℕ} → field_at delta encoding types k s p ≡ refused m place → passing (field_at delta encoding types k) s p ≡ refused m place
  read_stops q = rw q

  pub fields_end : n ≤ k → fields_at delta encoding types (n - k) k s p ≡ got tt p
  fields_end h = fields_done delta encoding types s (n - k) k p (omega arith)

module _ (s : List ℕ) (p : ℕ) where
  pub padding_done : length s ≤ p → padding_at s p ≡ got tt p
  unfolding zeros_at
  padding_done h = let e : length s - p ≡ 0 = omega arith in rw e

  pub padding_step : p < length s → get_or s p 0 ≡ 0 → padding_at s p ≡ padding_at s (p + 1)
  unfolding zeros_at
  padding_step h z = let e : length s - p ≡ suc (length s - (p + 1)) = omega arith in rw (e, eq-eqb (get_or s p 0) 0 z)

  pub padding_stop : p < length s → (get_or s p 0 ≡ 0 → ⊥) → padding_at s p ≡ refused 7 p
  unfolding zeros_at
  padding_stop h z = let e : length s - p ≡ suc (length s - (p + 1)) = omega arith in rw (e, ne_eqb (get_or s p 0) 0 z)
