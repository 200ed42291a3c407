-- The flag bytes of a DataSetMessage: what is written reads back, and what was read is written again.
-- Assumes nothing.
use Rattle.std.specs.Prelude.{is_some}
use mathlib.Core.Path.{◌≡◌, refl, ap, sym, ◌∙◌, subst}
use mathlib.Core.List.{List}
use mathlib.Core.Bool.{Bool, true, false, cond, not, ◌&&◌}
use Prim.Native.Nat.{ℕ, zero, suc, ◌+◌, ◌*◌, ◌/◌, ◌%◌, ◌^◌, ◌≤◌, ◌<◌}
use native.Mathlib.Omega.{arith}
use borrow.Author.Tests.{ltb-true, ltb-false, leb-false, ne_eqb, lt-ltb, le-ltb, lt-leb, eqb-true, eqb-false}
use lib.Dec.{eqb→eq, eqb, leb, ltb}
use lib.ListN.{length}
use Rattle.wire.specs.Number.{le_bytes}
use Rattle.wire.proofs.Table.{below}
use Rattle.wire.proofs.Reading.{invert, got_value, got_next, not_got}
use Rattle.wire.specs.Answer.{and_then, item, ruled, got, refused}
use Rattle.wire_writer.specs.Writing.{num, needed, byte_bytes}
use Rattle.wire_writer.proofs.Bits.{num_bit, num_bound, needed_bound, flag_is}
use Rattle.wire_writer.proofs.Back.{Back, empty, join, end_fits, item_back, ruled_back}
use Rattle.wire_writer.proofs.Refusals.{passed}
use Rattle.wire_writer.proofs.Trip.{At, Reads, first, second, item_is, ruled_is}
use Rattle.dataset_header.specs.declared.flags.Encoding.{Encoding}
use Rattle.dataset_header.specs.declared.flags.Kind.{Kind}
use Rattle.dataset_header.specs.declared.flags.Flags.{Flags}
use Rattle.dataset_header.specs.declared.header.Header.{Header}
use Rattle.dataset_header.specs.Flags.{Valid, not_valid, valid, encoding_of, kind_of, flags1_rule, flags2_rule, flags2_at, message_flags_of, message_flags_at, encoding_number, kind_number, flags1_of, flags2_of, message_flag_bytes, kind_rule}
use Rattle.wire_writer.specs.Fits.{Bytes}

-- the bytes as sums of their bits

pub record Bits1 (b e a u j i d : ℕ) : Type 0 where
  pub odd : b % 2 ≡ 1
  pub encoding : b / 2 % 4 ≡ e
  pub sequence : b / 8 % 2 ≡ a
  pub status : b / 16 % 2 ≡ u
  pub major : b / 32 % 2 ≡ j
  pub minor : b / 64 % 2 ≡ i
  pub small : b < 256
  pub low : d ≡ 0 → b < 128
  pub high : d ≡ 1 → 128 ≤ b

bits1 : (e a u j i d : ℕ) → e ≤ 2 → a ≤ 1 → u ≤ 1 → j ≤ 1 → i ≤ 1 → d ≤ 1
    → Bits1 (1 + (2 * e + (8 * a + (16 * u + (32 * j + (64 * i + 128 * d)))))) e a u j i d
bits1 e a u j i d he ha hu hj hi hd =
    record {
      odd = omega arith;
      encoding = omega arith;
      sequence = omega arith;
      status = omega arith;
      major = omega arith;
      minor = omega arith;
      small = omega arith;
      low = λ z. omega arith;
      high = λ z. omega arith;
    }

pub record Bits2 (f k t p : ℕ) : Type 0 where
  pub kind : f % 16 ≡ k
  pub timestamp : f / 16 % 2 ≡ t
  pub picoseconds : f / 32 % 2 ≡ p
  pub small : f < 64

bits2 : (k t p : ℕ) → k ≤ 3 → t ≤ 1 → p ≤ 1 → Bits2 (k + (16 * t + 32 * p)) k t p
bits2 k t p hk ht hp = record { kind = omega arith; timestamp = omega arith; picoseconds = omega arith; small = omega arith }

encoding_bound : (e : Encoding) → encoding_number e ≤ 2
encoding_bound Encoding.Variant = omega arith
encoding_bound Encoding.RawData = omega arith
encoding_bound Encoding.DataValue = omega arith

kind_bound : (k : Kind) → kind_number k ≤ 3
kind_bound Kind.Key = omega arith
kind_bound Kind.Delta = omega arith
kind_bound Kind.Event = omega arith
kind_bound Kind.KeepAlive = omega arith

pub flags1_bits : (h : Header)
    → Bits1 (flags1_of h) (encoding_number h.encoding) (num (is_some h.sequence)) (num (is_some h.status)) (num (is_some h.major)) (num (is_some h.minor)) (needed (flags2_of h))
flags1_bits h =
    bits1 (encoding_number h.encoding) (num (is_some h.sequence)) (num (is_some h.status)) (num (is_some h.major)) (num (is_some h.minor)) (needed (flags2_of h))
    (encoding_bound h.encoding) (num_bound (is_some h.sequence)) (num_bound (is_some h.status)) (num_bound (is_some h.major)) (num_bound (is_some h.minor)) (needed_bound (flags2_of h))

pub flags2_bits : (h : Header) → Bits2 (flags2_of h) (kind_number h.kind) (num (is_some h.timestamp)) (num (is_some h.picoseconds))
flags2_bits h =
    bits2 (kind_number h.kind) (num (is_some h.timestamp)) (num (is_some h.picoseconds))
    (kind_bound h.kind) (num_bound (is_some h.timestamp)) (num_bound (is_some h.picoseconds))

-- encodings and kinds by their numbers

encoding_is : (e : Encoding) (n : ℕ) → n ≡ encoding_number e → cond (eqb n 0) Encoding.Variant (cond (eqb n 1) Encoding.RawData Encoding.DataValue) ≡ e
encoding_is Encoding.Variant n q = rw q
encoding_is Encoding.RawData n q = rw q
encoding_is Encoding.DataValue n q = rw q

kind_is : (k : Kind) (n : ℕ) → n ≡ kind_number k → cond (eqb n 0) Kind.Key (cond (eqb n 1) Kind.Delta (cond (eqb n 2) Kind.Event Kind.KeepAlive)) ≡ k
kind_is Kind.Key n q = rw q
kind_is Kind.Delta n q = rw q
kind_is Kind.Event n q = rw q
kind_is Kind.KeepAlive n q = rw q

pub encoding_rule : (e : Encoding) (n : ℕ) → n ≡ encoding_number e → ◌≡◌ {A = ℕ} (cond (eqb n 3) 3 0) 0
encoding_rule Encoding.Variant n q = rw q
encoding_rule Encoding.RawData n q = rw q
encoding_rule Encoding.DataValue n q = rw q

-- the rule of Flags2 is the rule of its kind in its encoding
pub kind_rule_is : (k : Kind) (e : Encoding) (f q n : ℕ) → (f ≡ 0 → ⊥) → f < 64 → q ≡ kind_number k → n ≡ encoding_number e
    → cond (eqb f 0) 3 (cond (leb 4 q) 3 (cond (leb 64 f) 3 (cond (eqb q 2 && not (eqb n 0)) 3 (cond (eqb q 1 && eqb n 1) 4 0)))) ≡ kind_rule k e
kind_rule_is k e f q n z l x y = rw (ne_eqb f 0 z, lt-leb 64 f l, x, y) (go k e)
  where
    go : (k : Kind) (e : Encoding)
        → cond (leb 4 (kind_number k)) 3 (cond (eqb (kind_number k) 2 && not (eqb (encoding_number e) 0)) 3 (cond (eqb (kind_number k) 1 && eqb (encoding_number e) 1) 4 0)) ≡ kind_rule k e
    go Kind.Key e = refl
    go Kind.Delta Encoding.Variant = refl
    go Kind.Delta Encoding.RawData = refl
    go Kind.Delta Encoding.DataValue = refl
    go Kind.Event Encoding.Variant = refl
    go Kind.Event Encoding.RawData = refl
    go Kind.Event Encoding.DataValue = refl
    go Kind.KeepAlive e = refl

-- what the flags of a header say
abbrev pub flags_for : Header → Flags
flags_for h =
    record {
      encoding = h.encoding;
      kind = h.kind;
      sequence = is_some h.sequence;
      status = is_some h.status;
      major = is_some h.major;
      minor = is_some h.minor;
      timestamp = is_some h.timestamp;
      picoseconds = is_some h.picoseconds;
    }

flags_of_is : (h : Header) → message_flags_of (flags1_of h) (flags2_of h) ≡ flags_for h
flags_of_is h =
    let x = flags1_bits h in
    let y = flags2_bits h in
    let e0 = encoding_is h.encoding (flags1_of h / 2 % 4) x.encoding in
    let e1 = kind_is h.kind (flags2_of h % 16) y.kind in
    let e2 = flag_is (is_some h.sequence) (flags1_of h / 8 % 2) x.sequence in
    let e3 = flag_is (is_some h.status) (flags1_of h / 16 % 2) x.status in
    let e4 = flag_is (is_some h.major) (flags1_of h / 32 % 2) x.major in
    let e5 = flag_is (is_some h.minor) (flags1_of h / 64 % 2) x.minor in
    let e6 = flag_is (is_some h.timestamp) (flags2_of h / 16 % 2) y.timestamp in
    let e7 = flag_is (is_some h.picoseconds) (flags2_of h / 32 % 2) y.picoseconds in
    λ i. record { encoding = e0 i; kind = e1 i; sequence = e2 i; status = e3 i; major = e4 i; minor = e5 i; timestamp = e6 i; picoseconds = e7 i }

-- Flags2, read after Flags1
flags2_is : (b f n : ℕ) → f < 64 → (needed f ≡ 0 → b < 128) → (needed f ≡ 1 → 128 ≤ b) → (eqb f 0 ≡ false → flags2_rule b f ≡ 0) → Reads (flags2_at b) n (byte_bytes f) f
flags2_is b f n l low high rule s a = go (eqb f 0) refl
  where
    go : (t : Bool) → eqb f 0 ≡ t → flags2_at b s n ≡ got f (n + length (byte_bytes f))
    go true e =
        let z : f ≡ 0 = eqb-true f 0 e in
        let d : b < 128 = low (rw e) in
        let m : n ≡ n + 0 = omega arith in
        rw (lt-ltb b 128 d, e) (ap (λ (v : ℕ). got v n) (sym z) ∙ ap (got f) m)
    go false e =
        let d : 128 ≤ b = high (rw e) in
        let at : At s n (le_bytes 1 f) = rw e at a in
        rw (le-ltb b 128 d, ruled_is 1 (flags2_rule b) f n (omega arith) (rule e) s at, e)

pub flags_is : (h : Header) → kind_rule h.kind h.encoding ≡ 0 → Reads message_flags_at 0 (message_flag_bytes h) (valid (flags_for h))
flags_is h r s a =
    let x = flags1_bits h in
    let y = flags2_bits h in
    let p = item_is 1 (flags1_of h) 0 x.small s (first s 0 (le_bytes 1 (flags1_of h)) (byte_bytes (flags2_of h)) a) in
    let even : eqb (flags1_of h % 2) 0 ≡ false = ap (λ (n : ℕ). eqb n 0) x.odd in
    let one : flags1_rule (flags1_of h) ≡ 0 = encoding_rule h.encoding (flags1_of h / 2 % 4) x.encoding in
    let two = flags2_is (flags1_of h) (flags2_of h) 1 y.small x.low x.high
    (λ e. kind_rule_is h.kind h.encoding (flags2_of h) (flags2_of h % 16) (flags1_of h / 2 % 4) (eqb-false (flags2_of h) 0 e) y.small y.kind x.encoding ∙ r)
    s (second s 0 (le_bytes 1 (flags1_of h)) (byte_bytes (flags2_of h)) a) in
    let e : 1 + length (byte_bytes (flags2_of h)) ≡ 0 + length (message_flag_bytes h) = omega arith in
    rw (p, even, one, two, flags_of_is h) (ap (got (valid (flags_for h))) e)

-- back: the flags that were read are the bytes that stand there

kind_number_lem : (n : ℕ) → n < 4 → kind_number (cond (eqb n 0) Kind.Key (cond (eqb n 1) Kind.Delta (cond (eqb n 2) Kind.Event Kind.KeepAlive))) ≡ n
kind_number_lem zero h = refl
kind_number_lem (suc zero) h = refl
kind_number_lem (suc (suc zero)) h = refl
kind_number_lem (suc (suc (suc zero))) h = refl
kind_number_lem (suc (suc (suc (suc n)))) h = absurd (omega arith)

encoding_number_lem : (n : ℕ) → n < 3 → encoding_number (cond (eqb n 0) Encoding.Variant (cond (eqb n 1) Encoding.RawData Encoding.DataValue)) ≡ n
encoding_number_lem zero h = refl
encoding_number_lem (suc zero) h = refl
encoding_number_lem (suc (suc zero)) h = refl
encoding_number_lem (suc (suc (suc n))) h = absurd (omega arith)

-- each byte is the sum of its bits, by one computed test
sum1 : (b : ℕ) → b < 256 → b % 2 + (2 * (b / 2 % 4) + (8 * (b / 8 % 2) + (16 * (b / 16 % 2) + (32 * (b / 32 % 2) + (64 * (b / 64 % 2) + 128 * (b / 128)))))) ≡ b
sum1 b h =
    eqb→eq _ _ (below (λ b. eqb (b % 2 + (2 * (b / 2 % 4) + (8 * (b / 8 % 2) + (16 * (b / 16 % 2) + (32 * (b / 32 % 2) + (64 * (b / 64 % 2) + 128 * (b / 128))))))) b) 256 tt b h)

sum2 : (f : ℕ) → f < 64 → f % 16 + (16 * (f / 16 % 2) + 32 * (f / 32 % 2)) ≡ f
sum2 f h = eqb→eq _ _ (below (λ f. eqb (f % 16 + (16 * (f / 16 % 2) + 32 * (f / 32 % 2))) f) 64 tt f h)

-- what reading Flags2 after Flags1 b tells
pub record Flags2Back (b : ℕ) (s : List ℕ) (at f next : ℕ) : Type 0 where
  pub stands : Back s at (byte_bytes f) next
  pub small : f < 64
  pub kind : f % 16 < 4
  pub there : needed f ≡ b / 128
  pub rule : kind_rule (kind_of f) (encoding_of b) ≡ 0

flags2_back : (b : ℕ) (s : List ℕ) (at f next : ℕ) → Bytes s → at ≤ length s → b < 256 → b / 2 % 4 < 3 → flags2_at b s at ≡ got f next → Flags2Back b s at f next
flags2_back b s at f next bytes l small e h = go (ltb b 128) refl
  where
    go : (t : Bool) → ltb b 128 ≡ t → Flags2Back b s at f next
    go true t =
        let u : b < 128 = ltb-true b 128 t in
        let q : got 0 at ≡ got f next = rw t at h in
        let z : 0 ≡ f = got_value q in
        let n : at ≡ next = got_next q in
        subst (λ (x : ℕ). Flags2Back b s at x next) z
        (subst (λ (x : ℕ). Flags2Back b s at 0 x) n
        (record { stands = empty s at l; small = omega arith; kind = omega arith; there = omega arith; rule = refl }))
    go false t =
        let u : 128 ≤ b = ltb-false b 128 t in
        let q : ruled 1 (flags2_rule b) s at ≡ got f next = rw t at h in
        let r = ruled_back 1 (flags2_rule b) s at f next q in
        let i = item_back 1 s at f next bytes r.0 in
        let p1 = passed (eqb f 0) 2 _ r.1 in
        let p2 = passed (leb 4 (f % 16)) 2 _ p1.1 in
        let p3 = passed (leb 64 f) 2 _ p2.1 in
        let k : f % 16 < 4 = leb-false 4 (f % 16) p2.0 in
        let m : f < 64 = leb-false 64 f p3.0 in
        let d : ◌≡◌ {A = ℕ} 1 (b / 128) = omega arith in
        record {
          stands = rw p1.0 i.0;
          small = m;
          kind = k;
          there = rw p1.0 d;
          rule =
              sym (kind_rule_is (kind_of f) (encoding_of b) f (f % 16) (b / 2 % 4) (eqb-false f 0 p1.0) m (sym (kind_number_lem (f % 16) k)) (sym (encoding_number_lem (b / 2 % 4) e))) ∙ r.1;
        }

-- what reading the flags tells: Flags1 and Flags2
pub record FlagsBack (s : List ℕ) (f : Flags) (next : ℕ) : Type 0 where
  pub flags1 : ℕ
  pub flags2 : ℕ
  pub at : ℕ
  pub first : Back s 0 (le_bytes 1 flags1) at
  pub small : flags1 < 256
  pub odd : flags1 % 2 ≡ 1
  pub encoding : flags1 / 2 % 4 < 3
  pub second : Flags2Back flags1 s at flags2 next
  pub says : message_flags_of flags1 flags2 ≡ f

pub flags_back : (s : List ℕ) (f : Flags) (next : ℕ) → Bytes s → message_flags_at s 0 ≡ got (valid f) next → FlagsBack s f next
flags_back s f next bytes h =
    let a = invert (item 1 s 0) (λ b n. _) h in
    let i = item_back 1 s 0 a.0 a.1 bytes a.2 in
    go a.0 a.1 i.0 i.1 a.3 (eqb (a.0 % 2) 0) refl (eqb (flags1_rule a.0) 0) refl
  where
    go : (b z : ℕ) → Back s 0 (le_bytes 1 b) z → b < 256 ^ 1
        → cond (eqb (b % 2) 0) (got not_valid z)
        (cond (eqb (flags1_rule b) 0) (and_then (flags2_at b s z) (λ f z. got (valid (message_flags_of b f)) z)) (refused (flags1_rule b) 0)) ≡ got (valid f) next
        → (t : Bool) → eqb (b % 2) 0 ≡ t → (r : Bool) → eqb (flags1_rule b) 0 ≡ r → FlagsBack s f next
    go b z i l q true t r e =
        let v : ◌≡◌ {A = Valid Flags} not_valid (valid f) = got_value (rw t at q) in
        let w : ◌≡◌ {A = ℕ} 0 1 = cc in
        absurd (omega arith)
    go b z i l q false t false e = absurd (not_got (rw (t, e) at q))
    go b z i l q false t true e =
        let w : and_then (flags2_at b s z) (λ f z. got (valid (message_flags_of b f)) z) ≡ got (valid f) next = rw (t, e) at q in
        let c = invert (flags2_at b s z) (λ f z. got (valid (message_flags_of b f)) z) w in
        let y : valid (message_flags_of b c.0) ≡ valid f = got_value c.3 in
        let x : message_flags_of b c.0 ≡ f = cc in
        let n : c.1 ≡ next = got_next c.3 in
        let o = eqb-false (b % 2) 0 t in
        let p = passed (eqb (b / 2 % 4) 3) 2 0 (eqb-true (flags1_rule b) 0 e) in
        let k = eqb-false (b / 2 % 4) 3 p.0 in
        let m : b / 2 % 4 < 3 = omega arith in
        let u : b < 256 = omega arith in
        record {
          flags1 = b;
          flags2 = c.0;
          at = z;
          first = i;
          small = u;
          odd = omega arith;
          encoding = m;
          second = flags2_back b s z c.0 next bytes (end_fits s 0 (le_bytes 1 b) z i) u m (c.2 ∙ ap (λ (j : ℕ). got c.0 j) n);
          says = x;
        }

-- a header with these flags has these bytes
module _ (s : List ℕ) (f : Flags) (next : ℕ) (r : FlagsBack s f next) (h : Header) (says : flags_for h ≡ f) where
  same : flags_for h ≡ message_flags_of r.flags1 r.flags2
  same = says ∙ sym r.says

  bit_number : (p : Bool) (n : ℕ) → n < 2 → p ≡ eqb n 1 → num p ≡ n
  bit_number p n l e = ap num e ∙ num_bit n l

  flags2_same : flags2_of h ≡ r.flags2
  flags2_same =
      let k : kind_number h.kind ≡ r.flags2 % 16 = ap (λ (x : Flags). kind_number x.kind) same ∙ kind_number_lem (r.flags2 % 16) r.second.kind in
      let t = bit_number (is_some h.timestamp) (r.flags2 / 16 % 2) (omega arith) (ap (λ (x : Flags). x.timestamp) same) in
      let p = bit_number (is_some h.picoseconds) (r.flags2 / 32 % 2) (omega arith) (ap (λ (x : Flags). x.picoseconds) same) in
      rw (k, t, p) (sum2 r.flags2 r.second.small)

  flags1_same : flags1_of h ≡ r.flags1
  flags1_same =
      let e : encoding_number h.encoding ≡ r.flags1 / 2 % 4 = ap (λ (x : Flags). encoding_number x.encoding) same ∙ encoding_number_lem (r.flags1 / 2 % 4) r.encoding in
      let a = bit_number (is_some h.sequence) (r.flags1 / 8 % 2) (omega arith) (ap (λ (x : Flags). x.sequence) same) in
      let u = bit_number (is_some h.status) (r.flags1 / 16 % 2) (omega arith) (ap (λ (x : Flags). x.status) same) in
      let j = bit_number (is_some h.major) (r.flags1 / 32 % 2) (omega arith) (ap (λ (x : Flags). x.major) same) in
      let i = bit_number (is_some h.minor) (r.flags1 / 64 % 2) (omega arith) (ap (λ (x : Flags). x.minor) same) in
      let d : needed (flags2_of h) ≡ r.flags1 / 128 = ap needed flags2_same ∙ r.second.there in
      rw (e, a, u, j, i, d) (rw r.odd at (sum1 r.flags1 r.small))

  pub flags_stand : Back s 0 (message_flag_bytes h) next
  flags_stand =
      rw (flags1_same, flags2_same) (join s 0 (le_bytes 1 r.flags1) r.at (byte_bytes r.flags2) next r.first r.second.stands)

  pub kind_kept : kind_rule h.kind h.encoding ≡ 0
  kind_kept = ap (λ (x : Flags). kind_rule x.kind x.encoding) same ∙ r.second.rule
