-- A plain value that the quick step does not tell is refused.
-- Assumes nothing.
use Prim.Native.Nat.{ℕ, suc, ◌+◌, ◌*◌, ◌/◌, ◌%◌, ◌<◌, ◌≤◌}
use mathlib.Core.Path.{◌≡◌, refl, ◌∙◌}
use mathlib.Core.Bool.{Bool, true, false, cond, not, ◌||◌}
use mathlib.Core.List.{List}
use native.Mathlib.Omega.{arith}
use borrow.Author.Tests.{lt-ltb, le-ltb, lt-leb, le-leb, leb-true, leb-false, eqb-true, eqb-false, ltb-true, ne_eqb}
use lib.Dec.{T, eqb, leb, ltb}
use lib.ListN.{length, get_or}
use Rattle.std.specs.Prelude.{Option, Some, None}
use Rattle.wire.specs.Answer.{Answer, got, refused, and_then, when_on, bit}
use Rattle.wire.proofs.Table.{below}
use Rattle.wire.proofs.Reading.{got_next}
use Rattle.wire.proofs.Places.{within}
use Rattle.plain_value.specs.Width.{width_of, fixed}
use Rattle.plain_value.specs.Plain.{bytes, passing, plain_value}
use Rattle.plain_value.specs.Parts.{parts, parts_width}
use Rattle.plain_value.proofs.Widths.{positive}
use Rattle.plain_value.proofs.Passing.{passed}
use Rattle.value.specs.Value.{Measure, measure, scalar, value_at, mask_rule, variant_at, data_value_at}
use Rattle.value.specs.Quick.{scalar_size, fixed_end}
use Rattle.value.specs.declared.Shape.{Shape}
use Rattle.value.proofs.FirstItems.{FixedFirst, fixed_first, yes, no}
use Rattle.value.proofs.Looks.{bit_on}
use Rattle.value.proofs.Values.{value_steady}
use Rattle.dataset_fields.specs.Fields.{encoded_at}
use Rattle.dataset_fields.specs.declared.fields.Cursor.{Cursor}
use Rattle.message_record.specs.Message.{encoding_in}
use Rattle.message_record.specs.Quick.{Refused, Looks, other_first, plain_first, plain_held, plain_at, plain_step}

-- what a look says of more values it says of fewer
pub narrowed : (x y : Bool) (p : Option (Measure × ℕ)) (a : Answer Measure) → (y ≡ true → x ≡ true) → Looks x p a → Looks y p a
narrowed x y (Some (m, next)) a h g = g
narrowed x y None a h g = λ z. g (h z)

then_refused : {A B : Type 0} (x : Answer A) (k : A → ℕ → Answer B) → Refused x → Refused (and_then x k)
then_refused (got a next) k h = absurd h
then_refused (refused n place) k h = tt

module _ (s : List ℕ) where
  -- a value that starts past the end
  past_variant : (l at : ℕ) → length s ≤ at → Refused (value_at (suc l) 24 s at)
  unfolding value_at
  past_variant l at h = rw (lt-leb (at + 1) (length s) (omega arith)) tt

  past_data_value : (at : ℕ) → length s ≤ at → Refused (data_value_at s at)
  unfolding value_at
  past_data_value at h = rw (lt-leb (at + 1) (length s) (omega arith)) tt

  -- a scalar of a fixed type that does not fit
  cut_fixed : (l at : ℕ) → at < length s → 0 < width_of (get_or s at 0) → length s < at + (width_of (get_or s at 0) + 1) → Refused (value_at (suc l) 24 s at)
  unfolding value_at scalar plain_value
  cut_fixed l at h some over =
      let b : ℕ = get_or s at 0 in
      let w : ℕ = width_of b in
      let fx : fixed b ≡ true = lt-ltb 0 w some in
      let first : FixedFirst b = fixed_first b fx in
      let here : leb (at + 1) (length s) ≡ true = le-leb (at + 1) (length s) (omega arith) in
      let cut : leb (at + 1 + w) (length s) ≡ false = lt-leb (at + 1 + w) (length s) (omega arith) in
      let byte : b + 256 * 0 ≡ b = omega arith in
      rw (here, byte, first.0, first.1, first.3, first.2, first.4, fx, cut) tt

  -- a null or such a scalar of which no end is told
  cut_scalar : (l at : ℕ) {e : ℕ} → e ≡ fixed_end s at → e ≤ at → ltb 0 (scalar_size (get_or s at 0)) ≡ true → Refused (value_at (suc l) 24 s at)
  cut_scalar l at {e} q none some = go (leb (length s) at) refl (leb (at + scalar_size (get_or s at 0)) (length s)) refl
    where
      b : ℕ
      b = get_or s at 0

      sized : at < length s → length s < at + scalar_size b → (x : Bool) → eqb b 0 ≡ x → (y : Bool) → eqb (width_of b) 0 ≡ y → Refused (value_at (suc l) 24 s at)
      sized h over true ex y ey = absurd (let one : scalar_size b ≡ 1 = rw ex in omega arith)
      sized h over false ex true ey = absurd (let zero : scalar_size b ≡ 0 = rw (ex, ey) in omega arith)
      sized h over false ex false ey =
          let wide : scalar_size b ≡ width_of b + 1 = rw (ex, ey) in
          cut_fixed l at h (positive (width_of b) (eqb-false (width_of b) 0 ey)) (omega arith)

      go : (x : Bool) → leb (length s) at ≡ x → (y : Bool) → leb (at + scalar_size b) (length s) ≡ y → Refused (value_at (suc l) 24 s at)
      go true ex y ey = past_variant l at (leb-true (length s) at ex)
      go false ex true ey = absurd (let end : e ≡ at + scalar_size b = q ∙ rw (ex, ey) in omega (arith, ltb-true 0 (scalar_size b) some))
      go false ex false ey = sized (leb-false (length s) at ex) (leb-false (at + scalar_size b) (length s) ey) (eqb b 0) refl (eqb (width_of b) 0) refl

  -- any plain Variant, from what is told of the others
  pub variant_left : (at : ℕ) {e : ℕ} (p : Option (Measure × ℕ)) → e ≡ fixed_end s at → e ≤ at → Looks (other_first (get_or s at 0)) p (variant_at s at)
      → Looks (plain_first (get_or s at 0)) p (variant_at s at)
  variant_left at (Some (m, next)) q none g = g
  variant_left at None q none g = λ z. go (ltb 0 (scalar_size (get_or s at 0))) refl z
    where
      go : (x : Bool) → ltb 0 (scalar_size (get_or s at 0)) ≡ x → (x || other_first (get_or s at 0)) ≡ true → Refused (variant_at s at)
      go true ex z = cut_scalar 99 at q none ex
      go false ex z = g z

  -- parts that do not fit, one by one
  cut_part : {B : Type 0} (on : Bool) (w p rest : ℕ) (k : Unit {0} → ℕ → Answer B) → p ≤ length s → length s < p + (cond on w 0 + rest)
      → ((q : ℕ) → q ≤ length s → length s < q + rest → Refused (k tt q)) → Refused (and_then (when_on on tt (bytes w) s p) k)
  cut_part true w p rest k l h g = go (leb (p + w) (length s)) refl
    where
      go : (x : Bool) → leb (p + w) (length s) ≡ x → Refused (and_then (bytes w s p) k)
      go true e = rw e (g (p + w) (leb-true (p + w) (length s) e) (omega arith))
      go false e = rw e tt
  cut_part false w p rest k l h g = g p l (omega arith)

  last_part : (on : Bool) (w p : ℕ) → p ≤ length s → length s < p + cond on w 0 → Refused (when_on on tt (bytes w) s p)
  last_part true w p l h = rw (lt-leb (p + w) (length s) h) tt
  last_part false w p l h = absurd (omega arith)

  cut_parts : (m at : ℕ) → at ≤ length s → length s < at + parts_width m → Refused (parts m s at)
  unfolding parts
  cut_parts m at l h =
      cut_part (bit 1 m) 4 at _ _ l h (λ p l1 h1. cut_part (bit 2 m) 8 p _ _ l1 h1 (λ q l2 h2. cut_part (bit 4 m) 2 q _ _ l2 h2
      (λ r l3 h3. cut_part (bit 3 m) 8 r _ _ l3 h3 (λ t l4 h4. last_part (bit 5 m) 2 t l4 h4))))

  -- a DataValue, by its mask
  same : (x y : Bool) → T (cond x y (not y)) → y ≡ x
  same true y t = yes y t
  same false y t = no y t

  mask_rule_lem : (m : ℕ) → m < 256 → eqb (mask_rule m) 0 ≡ ltb m 64
  mask_rule_lem m h = same (ltb m 64) (eqb (mask_rule m) 0) (below (λ n. cond (ltb n 64) (eqb (mask_rule n) 0) (not (eqb (mask_rule n) 0))) 256 tt m h)

  pub high_mask : (at : ℕ) → at < length s → get_or s at 0 < 256 → 64 ≤ get_or s at 0 → Refused (data_value_at s at)
  unfolding value_at
  high_mask at h small l =
      let b : ℕ = get_or s at 0 in
      let here : leb (at + 1) (length s) ≡ true = le-leb (at + 1) (length s) (omega arith) in
      let byte : b + 256 * 0 ≡ b = omega arith in
      rw (here, byte, mask_rule_lem b small ∙ le-ltb b 64 l) tt

  module _ (at : ℕ) (h : at < length s) (low : get_or s at 0 < 64) where
    abbrev m : ℕ
    m = get_or s at 0

    abbrev Held : Answer (Unit {0})
    Held = when_on (bit 0 m) tt (passing (value_at 99 24)) s (at + 1)

    opened : data_value_at s at ≡ and_then Held (λ a next. and_then (parts m s next) (λ z last. got (measure 23 Shape.Scalar) last))
    unfolding value_at
    opened =
        let here : leb (at + 1) (length s) ≡ true = le-leb (at + 1) (length s) (omega arith) in
        let byte : m + 256 * 0 ≡ m = omega arith in
        let small : m < 256 = omega arith in
        rw (here, byte, mask_rule_lem m small ∙ lt-ltb m 64 low)

    -- that holds something that is not told
    pub held_left : Refused Held → Refused (data_value_at s at)
    held_left r = rw opened (then_refused Held _ r)

    ends_inside : (on : Bool) {next : ℕ} → when_on on tt (passing (value_at 99 24)) s (at + 1) ≡ got tt next → next ≤ length s
    ends_inside true q =
        let x = passed (value_at 99 24 s (at + 1)) q in
        (within (value_steady 99 24) s (at + 1) (omega arith) x.1).1
    ends_inside false q = let e = got_next q in omega (arith, e)

    -- whose parts do not fit
    pub parts_left : {next : ℕ} → Held ≡ got tt next → length s < next + parts_width m → Refused (data_value_at s at)
    parts_left {next} q over = rw (opened, q) (then_refused (parts m s next) _ (cut_parts m next (ends_inside (bit 0 m) q) over))

pub never : false ≡ true → ⊥
never e = let n : ◌≡◌ {A = ℕ} 0 1 = cc in omega arith

-- by the tests of a first byte
pub scalar_first : (b t : ℕ) → b < 64 → t ≡ b % 64 → other_first b ≡ true → (eqb t 12 || eqb t 15) ≡ true
scalar_first b t h e q = let same : t ≡ b = omega arith in rw same (rw (lt-ltb b 64 h) at q)

pub no_array : (b : ℕ) → 64 ≤ b → (b / 64 ≡ 2 → ⊥) → other_first b ≡ true → ⊥
no_array b h n q = never (rw (le-ltb b 64 h, ne_eqb (b / 64) 2 n) at q)

-- what a DataValue holds: by fixed_end
pub held_cut : (s : List ℕ) (at m : ℕ) {e : ℕ} → (m % 2 ≡ 0 → ⊥) → e ≡ fixed_end s at → e ≤ at → plain_held m s at ≡ true
    → Refused (when_on (bit 0 m) tt (passing (value_at 99 24)) s at)
held_cut s at m odd q none z = rw (bit_on m odd) (then_refused (value_at 99 24 s at) _ (cut_scalar s 98 at q none (rw (bit_on m odd) at z)))

-- a field's value
pub past_look : (s types : List ℕ) (n k at : ℕ) → length s ≤ at → plain_at n s at ≡ true → Refused (encoded_at (encoding_in n) types k s at)
past_look s types n k at h z = go (eqb n 0) refl (eqb n 2) refl z
  where
    go : (x : Bool) → eqb n 0 ≡ x → (y : Bool) → eqb n 2 ≡ y → cond x (plain_first (get_or s at 0)) (cond y (plain_held (get_or s at 0) s (at + 1)) false) ≡ true
        → Refused (encoded_at (encoding_in n) types k s at)
    go true ex y ey p = rw (eqb-true n 0 ex) (past_variant s 99 at h)
    go false ex true ey p = rw (eqb-true n 2 ey) (past_data_value s at h)
    go false ex false ey p = absurd (never p)

pub delta_step : (s : List ℕ) (n : ℕ) (c : Cursor) → c.delta ≡ true → plain_step n c s ≡ true → ⊥
delta_step s n c d z = never (rw d at z)
