-- Each part between the flags and the payload: what was read is what stands there.
-- Assumes nothing.
use mathlib.Core.Path.{◌≡◌, refl, sym, subst, ◌∙◌, ap}
use mathlib.Core.List.{List, ◌++◌}
use mathlib.Core.Bool.{Bool, true, false, cond}
use Prim.Native.Nat.{ℕ, zero, suc, ◌+◌, ◌-◌, ◌^◌, ◌*◌, ◌≤◌, ◌<◌}
use native.Mathlib.Omega.{arith}
use lib.ListN.{length, drop, length-drop, length-append}
use lib.Seq.{length-take-le}
use lib.Dec.{eqb, leb, ltb}
use borrow.Author.Tests.{eqb-true, lt-leb, lt-ltb, le-leb, leb-false}
use Rattle.wire.specs.Number.{le, le_bytes, signed}
use Rattle.wire.specs.Answer.{got, refused, and_then, item, run, refuse, pure, ◌>>=◌}
use Rattle.wire.specs.Items.{length_of}
use lib.IntN.{pos, negsuc}
use Rattle.wire.proofs.Reading.{got_value, got_next, not_got}
use Rattle.publisher_id.specs.declared.publisher.PublisherId.{PublisherId}
use Rattle.publisher_id.specs.Publisher.{string_of, string_then, string_at, publisher_of, publisher_at, publisher_on, id_type_of, publisher_bytes, bytes_before, text_of, publisher_refusal, publisher_shape, FitsPublisher}
use Rattle.wire_writer.proofs.Back.{Back, empty, join, run_part, item_back, run_back, map_back}
use Rattle.wire_writer.specs.Fits.{Bytes}
use Rattle.wire_writer.proofs.Trip.{Reads, first, second, fits_at, run_is, le_at, last, nothing, item_is}
use Rattle.wire_writer.proofs.Refusals.{passed, held}

-- the n bytes before the end of a run are n
pub before_length : (s : List ℕ) (at n next : ℕ) → next ≡ at + n → at + n ≤ length s → length (bytes_before s next n) ≡ n
before_length s at n next e h =
    let k : n ≤ length (drop (next - n) s) = omega (arith, length-drop (next - n) s) in
    length-take-le n (drop (next - n) s) k

-- a string: its length and its bytes
module _ (s : List ℕ) (at : ℕ) (p : PublisherId) (next : ℕ) (b : Bytes s) where
  abbrev StringBack : Type 0
  StringBack = ((publisher_on p ≡ true) × (id_type_of p ≡ 4)) × Back s at (publisher_bytes (text_of s p next) p) next

  located : (v start : ℕ) → item 4 s at ≡ got v start → (run v >>= λ len. pure (PublisherId.Text len)) s start ≡ got p next → StringBack
  located v start i q =
      let y = map_back (run v) PublisherId.Text s start p next q in
      let r = run_back v s start y.0 next y.1 in
      let e : length (bytes_before s next v) ≡ v = before_length s start v next r.1 r.2 in
      rw (sym y.2, r.0) (
        (refl, refl),
        subst (λ (k : ℕ). Back s at (le_bytes 4 k ++ bytes_before s next v) next) (sym e)
            (join s at (le_bytes 4 v) start (bytes_before s next v) next (item_back 4 s at v start b i).0 (run_part s start v next r.1 r.2)),
      )

  of_length : (v start : ℕ) → item 4 s at ≡ got v start → string_of v s start ≡ got p next → StringBack
  of_length v start i q = go (leb 65 v) q
    where
      go : (t : Bool) → cond t (refused 10 0) ((run v >>= λ len. pure (PublisherId.Text len)) s start) ≡ got p next → StringBack
      go true k = absurd (not_got k)
      go false k = located v start i k

  no_length : (k start : ℕ) → string_then at (length_of (negsuc k)) s start ≡ got p next → ⊥
  no_length zero start q = not_got q
  no_length (suc k) start q = not_got q

  signed_length : (v start n : ℕ) (t : Bool) → item 4 s at ≡ got v start → string_then at (length_of (cond t (pos v) (negsuc n))) s start ≡ got p next → StringBack
  signed_length v start n true i q = of_length v start i q
  signed_length v start n false i q = absurd (no_length n start q)

  string_back : string_at s at ≡ got p next → StringBack
  string_back h = go (leb (at + 4) (length s)) refl h
    where
      go : (t : Bool) → leb (at + 4) (length s) ≡ t → and_then (cond t (got (length_of (signed 4 (le 4 s at))) (at + 4)) (refused 1 at)) (λ length start. string_then at length s start) ≡ got p next
          → StringBack
      go true e q =
          signed_length (le 4 s at) (at + 4) (2 ^ (8 * 4) - 1 - le 4 s at) (ltb (le 4 s at) (2 ^ (8 * 4 - 1))) (rw e) q
      go false e q = absurd (not_got q)

publisher_kind : (kind : ℕ) (s : List ℕ) (at : ℕ) (p : PublisherId) (next : ℕ) → Bytes s → publisher_of kind s at ≡ got p next
    → Back s at (publisher_bytes (text_of s p next) p) next × (publisher_on p ≡ true) × (id_type_of p ≡ kind)
publisher_kind kind s at p next b h = go (eqb kind 0) (eqb kind 1) (eqb kind 2) (eqb kind 3) (eqb kind 4) refl refl refl refl refl h
  where
    go : (t0 t1 t2 t3 t4 : Bool) → eqb kind 0 ≡ t0 → eqb kind 1 ≡ t1 → eqb kind 2 ≡ t2 → eqb kind 3 ≡ t3 → eqb kind 4 ≡ t4
        → cond t0 (item 1 >>= λ v. pure (PublisherId.Byte v))
        (cond t1 (item 2 >>= λ v. pure (PublisherId.UInt16 v))
        (cond t2 (item 4 >>= λ v. pure (PublisherId.UInt32 v)) (cond t3 (item 8 >>= λ v. pure (PublisherId.UInt64 v)) (cond t4 string_at (refuse 3))))) s at ≡ got p next
        → Back s at (publisher_bytes (text_of s p next) p) next × (publisher_on p ≡ true) × (id_type_of p ≡ kind)
    go true t1 t2 t3 t4 e0 e1 e2 e3 e4 q =
        let x = map_back (item 1) PublisherId.Byte s at p next q in
        rw (sym x.2) ((item_back 1 s at x.0 next b x.1).0, refl, sym (eqb-true kind 0 e0))
    go false true t2 t3 t4 e0 e1 e2 e3 e4 q =
        let x = map_back (item 2) PublisherId.UInt16 s at p next q in
        rw (sym x.2) ((item_back 2 s at x.0 next b x.1).0, refl, sym (eqb-true kind 1 e1))
    go false false true t3 t4 e0 e1 e2 e3 e4 q =
        let x = map_back (item 4) PublisherId.UInt32 s at p next q in
        rw (sym x.2) ((item_back 4 s at x.0 next b x.1).0, refl, sym (eqb-true kind 2 e2))
    go false false false true t4 e0 e1 e2 e3 e4 q =
        let x = map_back (item 8) PublisherId.UInt64 s at p next q in
        rw (sym x.2) ((item_back 8 s at x.0 next b x.1).0, refl, sym (eqb-true kind 3 e3))
    go false false false false true e0 e1 e2 e3 e4 q =
        let x = string_back s at p next b q in
        (x.1, x.0.0, x.0.1 ∙ sym (eqb-true kind 4 e4))
    go false false false false false e0 e1 e2 e3 e4 q = absurd (not_got q)

pub publisher_back : (on : Bool) (kind : ℕ) (s : List ℕ) (at : ℕ) (p : PublisherId) (next : ℕ) → Bytes s → at ≤ length s → publisher_at on kind s at ≡ got p next
    → Back s at (publisher_bytes (text_of s p next) p) next × (publisher_on p ≡ on) × (id_type_of p ≡ cond on kind 0)
publisher_back true kind s at p next b l h = publisher_kind kind s at p next b h
publisher_back false kind s at p next b l h = rw (sym (got_value h), sym (got_next h)) (empty s at l, refl, refl)

text_is : (text : List ℕ) (m : ℕ) → length text < 65 → Reads (publisher_at true 4) m (le_bytes 4 (length text) ++ text) (PublisherId.Text (length text))
text_is text m k s at =
    let c = le_bytes 4 (length text) in
    let h : length text < 256 ^ 4 = omega arith in
    let l : m + 4 ≤ length s = omega (arith, fits_at s m (c ++ text) at, length-append c text) in
    let p : le 4 s m ≡ length text = le_at 4 (length text) m h s (first s m c text at) in
    let u : length text < 2147483648 = omega arith in
    let q = run_is (length text) (m + 4) text refl s (second s m c text at) in
    let z : m + 4 + length text ≡ m + length (c ++ text) = omega (arith, length-append c text) in
    rw (le-leb (m + 4) (length s) l, p, lt-ltb (length text) 2147483648 u, lt-leb 65 (length text) k, q)
    (ap (λ (n : ℕ). got (PublisherId.Text (length text)) n) z)

-- the id that is written: a string has as many bytes as are given
abbrev pub written : List ℕ → PublisherId → PublisherId
written text PublisherId.Absent = PublisherId.Absent
written text (PublisherId.Byte v) = PublisherId.Byte v
written text (PublisherId.UInt16 v) = PublisherId.UInt16 v
written text (PublisherId.UInt32 v) = PublisherId.UInt32 v
written text (PublisherId.UInt64 v) = PublisherId.UInt64 v
written text (PublisherId.Text n) = PublisherId.Text (length text)

pub publisher_written : (p : PublisherId) (text : List ℕ) (m : ℕ) → FitsPublisher p → publisher_refusal p (length text) ≡ 0
    → Reads (publisher_at (publisher_on p) (id_type_of p)) m (publisher_bytes text p) (written text p)
publisher_written PublisherId.Absent text m f a = nothing PublisherId.Absent m
publisher_written (PublisherId.Byte v) text m f a = last (item 1) PublisherId.Byte m (le_bytes 1 v) v (item_is 1 v m f)
publisher_written (PublisherId.UInt16 v) text m f a = last (item 2) PublisherId.UInt16 m (le_bytes 2 v) v (item_is 2 v m f)
publisher_written (PublisherId.UInt32 v) text m f a = last (item 4) PublisherId.UInt32 m (le_bytes 4 v) v (item_is 4 v m f)
publisher_written (PublisherId.UInt64 v) text m f a = last (item 8) PublisherId.UInt64 m (le_bytes 8 v) v (item_is 8 v m f)
publisher_written (PublisherId.Text n) text m f a = text_is text m (leb-false 65 (length text) (passed (leb 65 (length text)) 9 0 a).0)

-- and it is the id given where its text has the said length
as_said : (p : PublisherId) (text : List ℕ) → publisher_shape p (length text) ≡ 0 → written text p ≡ p
as_said PublisherId.Absent text b = refl
as_said (PublisherId.Byte v) text b = refl
as_said (PublisherId.UInt16 v) text b = refl
as_said (PublisherId.UInt32 v) text b = refl
as_said (PublisherId.UInt64 v) text b = refl
as_said (PublisherId.Text n) text b = ap PublisherId.Text (sym (eqb-true n (length text) (held (eqb n (length text)) 5 b)))

pub publisher_is : (p : PublisherId) (text : List ℕ) (m : ℕ) → FitsPublisher p → publisher_refusal p (length text) ≡ 0 → publisher_shape p (length text) ≡ 0
    → Reads (publisher_at (publisher_on p) (id_type_of p)) m (publisher_bytes text p) p
publisher_is p text m f a b =
    subst (λ (x : PublisherId). Reads (publisher_at (publisher_on p) (id_type_of p)) m (publisher_bytes text p) x) (as_said p text b) (publisher_written p text m f a)
