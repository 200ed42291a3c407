-- Small laws for the heads of values.
-- Assumes nothing.
use mathlib.Core.Path.{◌≡◌, refl, sym, ap, ◌∙◌}
use mathlib.Core.Bool.{Bool, true, false, ◌||◌}
use mathlib.Core.List.{List}
use Prim.Native.Nat.{ℕ, zero, suc, ◌+◌, ◌<◌, ◌≤◌, ◌-◌, ◌%◌}
use native.Mathlib.Numerals.{sub-one}
use native.Mathlib.Omega.{arith}
use lib.Dec.{eqb}
use Rattle.wire.specs.Answer.{Answer, got, refused, Reader, and_then, item, when_on, each, bit}
use Rattle.std.specs.Prelude.{Result, Ok}
use Rattle.wire.specs.declared.refusal.Refusal.{Refusal}
use borrow.Author.Tests.{eqb-true, le-leb, lt-ltb}
use lib.ListN.{length}
use Rattle.plain_value.specs.Width.{width_of, fixed}
use Rattle.plain_value.specs.Plain.{passing, string, text, plain, plain_value, plain_values}
use Rattle.plain_value.specs.Dimensions.{dimensions}
use Rattle.value.specs.Value.{Measure, measure, variant_rule, scalar, elements, array_of, dimensioned, matrix_of, variant_of, value_of, too_deep, value_at}
use Rattle.plain_value.specs.Parts.{parts}
use Rattle.value.specs.Head.{inside_of, rest, finish, judged}
use Rattle.value.specs.declared.Shape.{Shape}
use Rattle.value.specs.declared.head.After.{After}
use Rattle.value.specs.declared.head.Head.{Head}
use Rattle.plain_value.proofs.PartLaws.{then_none}
use Rattle.value.proofs.FirstItems.{fixed_first}

-- one value where the lowest bit is set, else none
bit_each : {A : Type 0} (r : Reader A) (k : ℕ) → k < 2 → (s : List ℕ) (at : ℕ) → each r k s at ≡ when_on (eqb k 1) tt (passing r) s at
unfolding each
bit_each r zero h s at = refl
bit_each r (suc zero) h s at = refl
bit_each r (suc (suc k)) h s at = absurd (omega arith)

pub lowest_each : {A : Type 0} (r : Reader A) (m : ℕ) (s : List ℕ) (at : ℕ) → each r (m % 2) s at ≡ when_on (bit 0 m) tt (passing r) s at
lowest_each r m s at = bit_each r (m % 2) (omega arith) s at

-- what was found is passed over
pub pass_found : {A : Type 0} (x : Answer (Unit {0})) (m : A) → x ≡ and_then (and_then x (λ a next. got m next)) (λ a next. got tt next)
pass_found (got tt next) m = refl
pass_found (refused n place) m = refl

pass_made : {A B : Type 0} (x : Answer A) (f : A → B) → and_then x (λ a next. got tt next) ≡ and_then (and_then x (λ a next. got (f a) next)) (λ a next. got (tt {0}) next)
pass_made (got a next) f = refl
pass_made (refused n place) f = refl

pub pass_after : {A : Type 0} (x : Answer (Unit {0})) (k : ℕ → Answer (Unit {0})) (m : A)
    → and_then x (λ a next. k next) ≡ and_then (and_then x (λ a next. and_then (k next) (λ b after. got m after))) (λ a next. got tt next)
pass_after (got tt next) k m = pass_found (k next) m
pass_after (refused n place) k m = refl

module _ (nested : ℕ → Reader Measure) (s : List ℕ) where
  -- a scalar that holds one value, an array that holds n
  pub holds_scalar : (t at : ℕ) → plain t ≡ false → finish nested s (Ok (Head.Holds at 1 t (After.Parts 0))) ≡ passing (scalar nested t) s at
  unfolding scalar each parts
  holds_scalar t at e = rw e (sym (then_none (passing (nested t) s at)) ∙ pass_found (passing (nested t) s at) (measure t Shape.Scalar))

  -- a scalar of a fixed type, and a String or ByteString
  pub fixed_scalar_lem : (t at w : ℕ) → w ≡ width_of t → 0 < w → at + w ≤ length s → passing (scalar nested t) s at ≡ got tt (at + w)
  unfolding scalar plain_value
  fixed_scalar_lem t at w same some fits =
      let f : fixed t ≡ true = lt-ltb 0 (width_of t) (rw same at some) in
      rw ((fixed_first t f).4, f, sym same, le-leb (at + w) (length s) fits)

  pub text_scalar : (t at : ℕ) → (eqb t 12 || eqb t 15) ≡ true → passing (scalar nested t) s at ≡ string s at
  unfolding scalar plain width_of plain_value text
  text_scalar t at q = go (eqb t 12) refl (eqb t 15) refl q
    where
      go : (x : Bool) → eqb t 12 ≡ x → (y : Bool) → eqb t 15 ≡ y → (x || y) ≡ true → passing (scalar nested t) s at ≡ string s at
      go true ex y ey z = rw (eqb-true t 12 ex) (sym (pass_found (string s at) (measure 12 Shape.Scalar)))
      go false ex true ey z = rw (eqb-true t 15 ey) (sym (pass_found (string s at) (measure 15 Shape.Scalar)))
      go false ex false ey z = absurd (let n : ◌≡◌ {A = ℕ} 0 1 = cc in omega arith)

  -- an array's elements and its dimensions list
  listed : (t n : ℕ) (x : Answer (Unit {0}))
      → and_then x (λ a p. passing (dimensions n) s p) ≡ and_then (and_then x (λ a p. dimensioned t n s p)) (λ a q. got tt q)
  listed t n (got a p) = pass_made (dimensions n s p) (λ d. measure t (Shape.Matrix n d))
  listed t n (refused k place) = refl

  pub plain_listed : (t n at inner : ℕ) {end : ℕ} → plain t ≡ true → plain_values t n s at ≡ got tt end
      → finish nested s (Ok (Head.Holds end n inner After.ListAlone)) ≡ passing (matrix_of nested t n) s at
  unfolding elements each
  plain_listed t n at inner {end} e f = rw (e, f) (pass_made (dimensions n s end) (λ d. measure t (Shape.Matrix n d)))

  pub plain_refused : (t n at : ℕ) {k place : ℕ} → plain t ≡ true → plain_values t n s at ≡ refused k place → refused k place ≡ passing (matrix_of nested t n) s at
  unfolding elements
  plain_refused t n at e f = rw (e, f)

  pub null_listed : (t at inner : ℕ) → finish nested s (Ok (Head.Holds at 0 inner After.ListAlone)) ≡ passing (dimensioned t 0) s at
  unfolding each
  null_listed t at inner = pass_made (dimensions 0 s at) (λ d. measure t (Shape.Matrix 0 d))

  pub holds_listed : (t n at : ℕ) → plain t ≡ false → finish nested s (Ok (Head.Holds at n t After.List)) ≡ passing (matrix_of nested t n) s at
  unfolding elements
  holds_listed t n at e = rw e (listed t n (each (nested t) n s at))

  pub holds_elements : (t n at : ℕ) → plain t ≡ false → finish nested s (Ok (Head.Holds at n t (After.Parts 0))) ≡ passing (array_of nested t n) s at
  unfolding elements parts
  holds_elements t n at e = rw e (sym (then_none (each (nested t) n s at)) ∙ pass_found (each (nested t) n s at) (measure t (Shape.Array n)))

-- a Variant by its first byte
pub value_short : (s : List ℕ) (at : ℕ) {n place : ℕ} → item 1 s at ≡ refused n place → value_at 100 24 s at ≡ refused n place
unfolding value_at
value_short s at e = rw e

pub variant_judged : (s : List ℕ) (at : ℕ) {b next : ℕ} → item 1 s at ≡ got b next → value_at 100 24 s at ≡ judged variant_rule b at (variant_of (value_at 99)) s next
unfolding value_at
variant_judged s at e = rw e

-- a value by the levels left

pub no_level : (levels t : ℕ) (s : List ℕ) (at : ℕ) → levels ≡ 0 → passing too_deep s at ≡ passing (value_at levels t) s at
unfolding value_at
no_level zero t s at e = refl
no_level (suc levels) t s at e = absurd (omega arith)

pub by_head : (levels t : ℕ) (s : List ℕ) (at : ℕ) → (levels ≡ 0 → ⊥) → {h g : Result Head Refusal}
    → finish (value_at (levels - 1)) s h ≡ passing (value_of (value_at (levels - 1)) t) s at → h ≡ g → finish (value_at (levels - 1)) s g ≡ passing (value_at levels t) s at
unfolding value_at
by_head zero t s at n e q = absurd (n refl)
by_head (suc levels) t s at n e q = ap (finish (value_at (suc levels - 1)) s) (sym q) ∙ e ∙ ap (λ (l : ℕ). passing (value_of (value_at l) t) s at) (sub-one (suc levels))

-- the values inside are refused, or end at p

module _ (nested : ℕ → Reader Measure) (s : List ℕ) (from count inner : ℕ) (after : After) where
  pub inside_refused : {n place : ℕ} (k : ℕ) → k ≡ inside_of after count → each (nested inner) k s from ≡ refused n place → refused n place ≡ finish nested s (Ok (Head.Holds from count inner after))
  inside_refused k same e = rw (sym same, e)

  pub inside_ends : {p : ℕ} (k : ℕ) → k ≡ inside_of after count → each (nested inner) k s from ≡ got tt p → {r : Answer (Unit {0})} → r ≡ rest count after s p
      → r ≡ finish nested s (Ok (Head.Holds from count inner after))
  inside_ends k same e q = rw (sym same, e, q)
