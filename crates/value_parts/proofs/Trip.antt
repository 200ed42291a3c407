-- What was put is told as what was given: the same type, shape, count and null, and the very bytes.
-- Assumes nothing.
use mathlib.Core.Path.{◌≡◌, refl, sym, ap, subst, ◌∙◌}
use mathlib.Core.Bool.{Bool, true, false, cond, ◌||◌}
use mathlib.Core.List.{List, [], ◌++◌, append_assoc}
use mathlib.Core.Logic.{◌⊎◌, inl, inr}
use Prim.Native.Nat.{ℕ, suc, ◌+◌, ◌*◌, ◌/◌, ◌%◌, ◌≤◌, ◌<◌}
use native.Mathlib.Nat.{div-le_self, div-add-mod', add-zero}
use native.Mathlib.Omega.{arith}
use borrow.Author.Tests.{le-leb, lt-ltb, ltb-true, eqb-true, ne_eqb}
use lib.Dec.{eqb}
use lib.ListN.{length, get_or, take, drop, length-append, take-append-drop}
use lib.Seq.{take_at, drop_at}
use Rattle.wire.specs.Number.{le_bytes, signed}
use Rattle.wire.specs.Answer.{Answer, got, refused, and_then, item}
use Rattle.wire.specs.Items.{length_of, length_item}
use Rattle.wire.specs.declared.Length.{Length}
use Rattle.wire.proofs.Numbers.{length_le_bytes}
use Rattle.wire_writer.specs.Writing.{Writes}
use Rattle.std.specs.Prelude.{Ok}
use Rattle.wire_writer.proofs.Answering.{reported}
use Rattle.wire_writer.proofs.Trip.{At, first, second, fits_at, le_at}
use Rattle.wire_writer.proofs.Refusals.{held, both_zero}
use Rattle.plain_value.specs.Width.{width_of, fixed}
use Rattle.plain_value.specs.Plain.{bytes, string, length_first, after_length}
use Rattle.value.specs.Value.{measure, variant_at}
use Rattle.value.specs.Quick.{scalar_size, units, array_at}
use Rattle.value.specs.declared.Shape.{Shape}
use Rattle.value.proofs.FirstByte.{scalar_first, array_first}
use Rattle.value.proofs.FirstItems.{fixed_first, scalar_measured, described_is}
use Rattle.value.proofs.Runs.{text_variant, array_variant}
use Rattle.value_parts.specs.declared.put.Form.{Form}
use Rattle.value_parts.specs.Told.{is_counted, is_null, told_variant_at}
use Rattle.value_parts.specs.Put.{first_byte, has_count, count_given, head_bytes, variant_bytes, type_rule, form_rule, put_rule, shape_of, null_of, given_parts, variant_output}
use Rattle.value_parts.proofs.Structure.{text_is}
use Rattle.value_parts.proofs.Storing.{put_small}
use Rattle.value_parts.proofs.Telling.{fixed_plainly}

-- the very bytes that stand somewhere
pub there_is : (s : List ℕ) (m : ℕ) (b : List ℕ) → At s m b → take (length b) (drop m s) ≡ b
there_is s m b a =
    ap (λ (l : List ℕ). take (length b) (drop m l)) a.2 ∙ ap (take (length b)) (drop_at a.0 (b ++ a.1) m a.3) ∙ take_at b a.1 (length b) refl

-- a length
module _ (s : List ℕ) (m : ℕ) where
  length_there : (k : ℕ) → k < 4294967296 → At s m (le_bytes 4 k) → length_item s m ≡ got (length_of (signed 4 k)) (m + 4)
  length_there k h a =
      let fits : m + 4 ≤ length s = omega (arith, fits_at s m (le_bytes 4 k) a, length_le_bytes 4 k) in
      rw (le-leb (m + 4) (length s) fits, le_at 4 k m h s a)

  pub count_there : (k : ℕ) → k < 2147483648 → At s m (le_bytes 4 k) → length_item s m ≡ got (Length.Of k) (m + 4)
  count_there k h a = length_there k (omega arith) a ∙ rw (lt-ltb k 2147483648 h)

  null_there : At s m (le_bytes 4 4294967295) → length_item s m ≡ got Length.Null (m + 4)
  null_there a = length_there 4294967295 (omega arith) a

  -- a first byte
  byte_there : (b : ℕ) → b < 256 → At s m (le_bytes 1 b) → (m < length s) × (b ≡ get_or s m 0)
  byte_there b h a =
      let fits : m + 1 ≤ length s = omega (arith, fits_at s m (le_bytes 1 b) a, length_le_bytes 1 b) in
      let e : get_or s m 0 + 256 * 0 ≡ b = le_at 1 b m h s a in
      (omega arith, omega arith)

-- the two kinds of runs after a count
module _ (s : List ℕ) (m w : ℕ) where
  units_null : At s m (le_bytes 4 4294967295) → units w s m ≡ got tt (m + 4)
  units_null a = rw (null_there s m a)

  units_some : (k : ℕ) (b : List ℕ) → k < 2147483648 → length b ≡ k * w → At s m (le_bytes 4 k ++ b) → units w s m ≡ got tt (m + 4 + k * w)
  units_some k b h e a =
      let l : m + 4 + k * w ≤ length s = omega (arith, fits_at s m (le_bytes 4 k ++ b) a, length-append (le_bytes 4 k) b, length_le_bytes 4 k) in
      rw (count_there s m k h (first s m (le_bytes 4 k) b a), le-leb (m + 4 + k * w) (length s) l)

-- ---- what measuring says of a first byte and a run

module _ (s : List ℕ) (m b : ℕ) (h : b < 256) (a : At s m (le_bytes 1 b)) where
  item_there : item 1 s m ≡ got b (m + 1)
  item_there =
      let x = byte_there s m b h a in
      let fits : m + 1 ≤ length s = omega (arith, x.0) in
      rw (le-leb (m + 1) (length s) fits, le_at 1 b m h s a)

-- a String's bytes are units of 1
same_units : (x : Answer Length) (s : List ℕ) (at : ℕ)
    → and_then x (λ l next. after_length (λ z p. got tt p) bytes at l s next) ≡ and_then x (λ l next. after_length (λ z p. got tt p) (λ n. bytes (n * 1)) at l s next)
same_units (got Length.Null next) s at = refl
same_units (got (Length.Of n) next) s at = let e : n ≡ n * 1 = omega arith in ap (λ (k : ℕ). bytes k s next) e
same_units (got Length.Negative next) s at = refl
same_units (refused n place) s at = refl

string_units : (s : List ℕ) (at : ℕ) → string s at ≡ units 1 s at
unfolding string
string_units s at = same_units (length_item s at) s at

text_tested : (t : ℕ) → length_first t ≡ true → (eqb t 12 || eqb t 15) ≡ true
text_tested t l = go (text_is t l)
  where
    go : (t ≡ 12) ⊎ (t ≡ 15) → (eqb t 12 || eqb t 15) ≡ true
    go (inl z) = ap (λ (n : ℕ). eqb n 12 || eqb n 15) z
    go (inr z) = ap (λ (n : ℕ). eqb n 12 || eqb n 15) z

text_small : (t : ℕ) → length_first t ≡ true → t < 64
text_small t l = go (text_is t l)
  where
    go : (t ≡ 12) ⊎ (t ≡ 15) → t < 64
    go (inl z) = omega (arith, z)
    go (inr z) = omega (arith, z)

module _ (s : List ℕ) (m t : ℕ) (small : t < 64) where
  -- arrays
  module _ (f : fixed t ≡ true) (a : At s m (le_bytes 1 (t + 128))) where
    array_is : {e : ℕ} → units (width_of t) s (m + 1) ≡ got tt e → variant_at s m ≡ array_at e t s (m + 1)
    array_is {e} q =
        let x = array_first t small in
        let big : t + 128 < 256 = omega arith in
        let y = byte_there s m (t + 128) big a in
        described_is s m (item_there s m (t + 128) big a) (omega arith) (array_variant s m t (width_of t) y.0 (sym y.1) small (ltb-true 0 (width_of t) f) refl ∙ q)
        ∙ rw (item_there s m (t + 128) big a, x.array, x.type)

  -- Strings
  module _ (l : length_first t ≡ true) (a : At s m (le_bytes 1 t)) where
    string_is : {e : ℕ} → units 1 s (m + 1) ≡ got tt e → variant_at s m ≡ got (measure t Shape.Scalar) e
    string_is {e} q =
        let x = scalar_first t small in
        let big : t < 256 = omega arith in
        let y = byte_there s m t big a in
        described_is s m (item_there s m t big a) (omega arith) (text_variant s m y.0 t (sym y.1) (text_tested t l) ∙ string_units s (m + 1) ∙ q)
        ∙ rw (item_there s m t big a, x.no_array, x.type)

  -- scalars of a fixed type
  scalar_is : fixed t ≡ true → (b : List ℕ) → length b ≡ width_of t → At s m (le_bytes 1 t ++ b) → variant_at s m ≡ got (measure t Shape.Scalar) (m + width_of t + 1)
  scalar_is f b e a =
      let big : t < 256 = omega arith in
      let x = byte_there s m t big (first s m (le_bytes 1 t) b a) in
      let w : 0 < width_of t = ltb-true 0 (width_of t) f in
      let fits : m + 1 + width_of t ≤ length s = omega (arith, fits_at s m (le_bytes 1 t ++ b) a, length-append (le_bytes 1 t) b, length_le_bytes 1 t, e) in
      let size : width_of t + 1 ≡ scalar_size (get_or s m 0) = rw (sym x.1, (fixed_first t f).3, ne_eqb (width_of t) 0 (λ z. omega arith)) in
      let end : m + (width_of t + 1) ≡ m + width_of t + 1 = omega arith in
      scalar_measured 99 s m (width_of t + 1) x.0 size (omega arith) (omega arith)
      ∙ ap (λ (n : ℕ). got (measure n Shape.Scalar) (m + (width_of t + 1))) (sym x.1) ∙ ap (got (measure t Shape.Scalar)) end

-- ---- the whole

pub first_true : (b : Bool) (x k : ℕ) → cond b x (suc k) ≡ 0 → (b ≡ true) × (x ≡ 0)
first_true true x k h = (refl, h)
first_true false x k h = absurd (omega arith)

-- what stands at m is told as what was given
abbrev Told : List ℕ → ℕ → ℕ → Form → List ℕ → Type 0
Told s m t f b = told_variant_at s m ≡ got (given_parts m t f b) (m + length (variant_bytes t f b))

module _ (s : List ℕ) (m t : ℕ) (f : Form) (b : List ℕ) where
  told_from : {e : ℕ} → variant_at s m ≡ got (measure t (shape_of t f (length b))) e → is_null s (m + 1) t (shape_of t f (length b)) ≡ null_of f
      → cond (is_counted t (shape_of t f (length b))) (m + 1 + 4) (m + 1) ≡ m + length (head_bytes t f (length b)) → e ≡ m + length (variant_bytes t f b) → Told s m t f b
  told_from q n i e = rw (q, n, i, e)

  counted_at_lem : has_count t f ≡ true → At s m (variant_bytes t f b) → At s m (le_bytes 1 (first_byte t f) ++ (le_bytes 4 (count_given t f (length b)) ++ b))
  counted_at_lem h a =
      let e : variant_bytes t f b ≡ le_bytes 1 (first_byte t f) ++ (le_bytes 4 (count_given t f (length b)) ++ b) =
      rw h (append_assoc (le_bytes 1 (first_byte t f)) (le_bytes 4 (count_given t f (length b))) b) in
      subst (At s m) e a

  counted_length : has_count t f ≡ true → (length (head_bytes t f (length b)) ≡ 5) × (length (variant_bytes t f b) ≡ 5 + length b)
  counted_length h = let e : length (head_bytes t f (length b)) ≡ 5 = rw h in (e, length-append (head_bytes t f (length b)) b ∙ ap (λ (k : ℕ). k + length b) e)

  plain_length : has_count t f ≡ false → (length (head_bytes t f (length b)) ≡ 1) × (length (variant_bytes t f b) ≡ 1 + length b)
  plain_length h = let e : length (head_bytes t f (length b)) ≡ 1 = rw h in (e, length-append (head_bytes t f (length b)) b ∙ ap (λ (k : ℕ). k + length b) e)

  plain_at : has_count t f ≡ false → At s m (variant_bytes t f b) → At s m (le_bytes 1 (first_byte t f) ++ b)
  plain_at h a = let e : variant_bytes t f b ≡ le_bytes 1 (first_byte t f) ++ b = rw h in subst (At s m) e a

module _ (s : List ℕ) (m t : ℕ) (b : List ℕ) (small : t < 64) (short : length b ≤ 65535) where
  here : {x : Bool} → length_first t ≡ x → cond (length_first t) (m + 1 + 4) (m + 1) ≡ cond x (m + 1 + 4) (m + 1)
  here e = ap (λ (x : Bool). cond x (m + 1 + 4) (m + 1)) e

  array_trip : form_rule t Form.Array (length b) ≡ 0 → At s m (variant_bytes t Form.Array b) → Told s m t Form.Array b
  array_trip rule a =
      let n : ℕ = length b in
      let w : ℕ = width_of t in
      let c : ℕ = count_given t Form.Array n in
      let r = first_true (fixed t) _ 3 rule in
      let z : n % w ≡ 0 = eqb-true (n % w) 0 (held (eqb (n % w) 0) 5 r.1) in
      let ck : c ≡ n / w = rw r.0 in
      let some : c < 2147483648 = omega (arith, ck, div-le_self n w, short) in
      let all : c * w ≡ n = ap (λ (x : ℕ). x * w) ck ∙ sym (add-zero (n / w * w)) ∙ ap (λ (x : ℕ). n / w * w + x) (sym z) ∙ div-add-mod' n w in
      let p = counted_at_lem s m t Form.Array b refl a in
      let run = second s m (le_bytes 1 (t + 128)) (le_bytes 4 c ++ b) p in
      let l = counted_length s m t Form.Array b refl in
      let e5 : m + 1 + 4 ≡ m + length (head_bytes t Form.Array n) = omega (arith, l.0) in
      let e : m + 1 + 4 + c * w ≡ m + length (variant_bytes t Form.Array b) = omega (arith, l.1, all) in
      told_from s m t Form.Array b
      (array_is s m t small r.0 (first s m (le_bytes 1 (t + 128)) (le_bytes 4 c ++ b) p) (units_some s (m + 1) w c b some (sym all) run)
      ∙ rw (count_there s (m + 1) c some (first s (m + 1) (le_bytes 4 c) b run))) refl e5 e

  null_array_trip : form_rule t Form.NullArray (length b) ≡ 0 → At s m (variant_bytes t Form.NullArray b) → Told s m t Form.NullArray b
  null_array_trip rule a =
      let r = first_true (fixed t) _ 3 rule in
      let z : length b ≡ 0 = eqb-true (length b) 0 (held (eqb (length b) 0) 5 r.1) in
      let p = counted_at_lem s m t Form.NullArray b refl a in
      let run = second s m (le_bytes 1 (t + 128)) (le_bytes 4 4294967295 ++ b) p in
      let count = first s (m + 1) (le_bytes 4 4294967295) b run in
      let l = counted_length s m t Form.NullArray b refl in
      let e5 : m + 1 + 4 ≡ m + length (head_bytes t Form.NullArray (length b)) = omega (arith, l.0) in
      let e : m + 1 + 4 ≡ m + length (variant_bytes t Form.NullArray b) = omega (arith, l.1, z) in
      told_from s m t Form.NullArray b
      (array_is s m t small r.0 (first s m (le_bytes 1 (t + 128)) (le_bytes 4 4294967295 ++ b) p) (units_null s (m + 1) (width_of t) count) ∙ rw (null_there s (m + 1) count)) refl e5 e

  scalar_trip : form_rule t Form.Scalar (length b) ≡ 0 → At s m (variant_bytes t Form.Scalar b) → Told s m t Form.Scalar b
  scalar_trip rule a = go (fixed t) refl (length_first t) refl rule
    where
      go : (x : Bool) → fixed t ≡ x → (y : Bool) → length_first t ≡ y
          → ◌≡◌ {A = ℕ} (cond x (cond (eqb (length b) (width_of t)) 0 6) (cond y 0 (cond (eqb t 0) 6 4))) 0 → Told s m t Form.Scalar b
      go true ex y ey q =
          let z : length b ≡ width_of t = eqb-true (length b) (width_of t) (held (eqb (length b) (width_of t)) 5 q) in
          let no = fixed_plainly t ex in
          let l = plain_length s m t Form.Scalar b no in
          let e1 : m + 1 ≡ m + length (head_bytes t Form.Scalar (length b)) = omega (arith, l.0) in
          let e : m + width_of t + 1 ≡ m + length (variant_bytes t Form.Scalar b) = omega (arith, l.1, z) in
          told_from s m t Form.Scalar b (scalar_is s m t small ex b z (plain_at s m t Form.Scalar b no a)) (rw (no, (fixed_first t ex).3)) (here no ∙ e1) e
      go false ex true ey q =
          let p = counted_at_lem s m t Form.Scalar b ey a in
          let run = second s m (le_bytes 1 t) (le_bytes 4 (length b) ++ b) p in
          let some : length b < 2147483648 = omega arith in
          let one : length b ≡ length b * 1 = omega arith in
          let l = counted_length s m t Form.Scalar b ey in
          let e5 : m + 1 + 4 ≡ m + length (head_bytes t Form.Scalar (length b)) = omega (arith, l.0) in
          let e : m + 1 + 4 + length b * 1 ≡ m + length (variant_bytes t Form.Scalar b) = omega (arith, l.1) in
          told_from s m t Form.Scalar b (string_is s m t small ey (first s m (le_bytes 1 t) (le_bytes 4 (length b) ++ b) p) (units_some s (m + 1) 1 (length b) b some one run))
          (rw (ey, count_there s (m + 1) (length b) some (first s (m + 1) (le_bytes 4 (length b)) b run))) (here ey ∙ e5) e
      go false ex false ey q = absurd (no_zero (eqb t 0) q)
        where
          no_zero : (k : Bool) → ◌≡◌ {A = ℕ} (cond k 6 4) 0 → ⊥
          no_zero true h = omega (arith, h)
          no_zero false h = omega (arith, h)

  null_trip : form_rule t Form.Null (length b) ≡ 0 → At s m (variant_bytes t Form.Null b) → Told s m t Form.Null b
  null_trip rule a = go (fixed t) (length_first t) refl (eqb t 0) refl rule
    where
      go : (x y : Bool) → length_first t ≡ y → (k : Bool) → eqb t 0 ≡ k
          → ◌≡◌ {A = ℕ} (cond x 6 (cond y (cond (eqb (length b) 0) 0 6) (cond k (cond (eqb (length b) 0) 0 6) 4))) 0 → Told s m t Form.Null b
      go true y ey k ek q = absurd (omega (arith, q))
      go false true ey k ek q =
          let z : length b ≡ 0 = eqb-true (length b) 0 (held (eqb (length b) 0) 5 q) in
          let p = counted_at_lem s m t Form.Null b ey a in
          let run = second s m (le_bytes 1 t) (le_bytes 4 4294967295 ++ b) p in
          let count = first s (m + 1) (le_bytes 4 4294967295) b run in
          let l = counted_length s m t Form.Null b ey in
          let e5 : m + 1 + 4 ≡ m + length (head_bytes t Form.Null (length b)) = omega (arith, l.0) in
          let e : m + 1 + 4 ≡ m + length (variant_bytes t Form.Null b) = omega (arith, l.1, z) in
          told_from s m t Form.Null b (string_is s m t small ey (first s m (le_bytes 1 t) (le_bytes 4 4294967295 ++ b) p) (units_null s (m + 1) 1 count))
          (rw (ey, null_there s (m + 1) count)) (here ey ∙ e5) e
      go false false ey true ek q =
          let z : length b ≡ 0 = eqb-true (length b) 0 (held (eqb (length b) 0) 5 q) in
          let big : t < 256 = omega arith in
          let p = first s m (le_bytes 1 t) b (plain_at s m t Form.Null b ey a) in
          let x = byte_there s m t big p in
          let l = plain_length s m t Form.Null b ey in
          let e1 : m + 1 ≡ m + length (head_bytes t Form.Null (length b)) = omega (arith, l.0) in
          let e : m + 1 ≡ m + length (variant_bytes t Form.Null b) = omega (arith, l.1, z) in
          told_from s m t Form.Null b
          (scalar_measured 99 s m 1 x.0 (rw (sym x.1, ek)) (omega arith) (omega (arith, x.0)) ∙ ap (λ (n : ℕ). got (measure n Shape.Scalar) (m + 1)) (sym x.1))
          (rw (ey, ek)) (here ey ∙ e1) e
      go false false ey false ek q = absurd (omega (arith, q))

  any_trip : (f : Form) → form_rule t f (length b) ≡ 0 → At s m (variant_bytes t f b) → Told s m t f b
  any_trip Form.Scalar = scalar_trip
  any_trip Form.Null = null_trip
  any_trip Form.Array = array_trip
  any_trip Form.NullArray = null_array_trip

-- wherever the bytes of an accepted value stand
put_told : (s : List ℕ) (m t : ℕ) (f : Form) (b : List ℕ) → put_rule t f (length b) ≡ 0 → length (variant_bytes t f b) ≤ 65535 → At s m (variant_bytes t f b)
    → Told s m t f b × (take (length b) (drop (m + length (head_bytes t f (length b))) s) ≡ b)
put_told s m t f b rule h a =
    let short : length b ≤ 65535 = omega (arith, length-append (head_bytes t f (length b)) b) in (
      any_trip s m t b (put_small t f (length b) rule) short f (both_zero (type_rule t f) (form_rule t f (length b)) rule).1 a,
      there_is s (m + length (head_bytes t f (length b))) b (second s m (head_bytes t f (length b)) b a),
    )

-- and in the buffer that `put_variant` left
pub written_told : (t : ℕ) (f : Form) (b entry exit : List ℕ) (n : ℕ) → Writes (variant_output t f b) entry exit (Ok n)
    → (told_variant_at exit 0 ≡ got (given_parts 0 t f b) (0 + length (variant_bytes t f b))) × (take (length b) (drop (0 + length (head_bytes t f (length b))) exit) ≡ b)
written_told t f b entry exit n w =
    let r = reported (put_rule t f (length b)) (variant_bytes t f b) entry exit n w in
    put_told exit 0 t f b r.number r.limit ([], drop n exit, sym (take-append-drop n exit) ∙ ap (λ (l : List ℕ). l ++ drop n exit) r.front, refl)
