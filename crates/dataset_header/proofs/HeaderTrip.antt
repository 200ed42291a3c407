-- A DataSetMessage header's round trip: read as it was written, and what was read is what stands there.
use Rattle.std.specs.Prelude.{Option, Some, None, is_some}
use mathlib.Core.Path.{◌≡◌, refl, ap, sym, subst, ◌∙◌}
use mathlib.Core.Bool.{true}
use Prim.Native.Nat.{ℕ, ◌+◌, ◌≤◌}
use Rattle.wire.specs.Answer.{got}
use mathlib.Core.List.{List, ◌++◌, append_assoc}
use native.Mathlib.Omega.{arith}
use lib.ListN.{length, drop, length-append}
use lib.Seq.{sets}
use borrow.Author.Tests.{ne_eqb}
use Rattle.dataset_header.specs.Header.{FitsHeader, times_bytes, message_times_at, versions_bytes, versions_at, message_header_bytes, message_header_at, header_of, message_items_at, after_flags, message_picoseconds_place, message_held}
use Rattle.wire_writer.specs.Writing.{optional16_bytes, optional_i64_bytes, picoseconds_refusal, picoseconds_held, optional32_bytes, byte_bytes}
use Rattle.wire_writer.proofs.Trip.{Reads, first, second, optional16_is, optional_i64_is, picoseconds_is, optional32_is}
use Rattle.dataset_header.specs.declared.header.Header.{Header}
use Rattle.dataset_header.proofs.FlagsTrip.{flags_for, flags_is, FlagsBack, flags_stand, kind_kept, flags_back}
use Rattle.dataset_header.specs.Flags.{valid, message_flag_bytes, flags2_of, kind_rule, Valid, not_valid, message_flags_at}
use Rattle.dataset_header.specs.declared.header.Times.{Times}
use Rattle.dataset_header.specs.declared.flags.Flags.{Flags}
use Rattle.wire_writer.proofs.Back.{Back, PicosecondsBack, join, end_fits, optional16_back, optional_i64_back, picoseconds_back, picoseconds_kept, optional32_back, held_between, held_stored, two_bytes}
use Rattle.wire.proofs.Reading.{invert, got_value, got_next}
use Rattle.wire.specs.Optional.{optional16, optional_i64, picoseconds_at, optional32}
use Rattle.wire_writer.specs.Fits.{Bytes}
use Rattle.dataset_header.specs.declared.header.Versions.{Versions}

pub ends : {A : Type 0} {x : A} {m n : ℕ} → m ≡ n → got x m ≡ got x n
ends {x = x} e = ap (got x) e

-- where three parts end
three : (m : ℕ) (a b c : List ℕ) → m + length a + length b + length c ≡ m + length (a ++ (b ++ c))
three m a b c = simp length-append (omega arith)

times_is : (h : Header) (m : ℕ) → FitsHeader h → picoseconds_refusal h.picoseconds ≡ 0
    → Reads (message_times_at (flags_for h)) m (times_bytes h) (record { sequence = h.sequence; timestamp = h.timestamp; picoseconds = h.picoseconds })
times_is h m f r s a =
    let x = optional16_bytes h.sequence in
    let y = optional_i64_bytes h.timestamp in
    let z = optional16_bytes h.picoseconds in
    let b = second s m x (y ++ z) a in
    let p = optional16_is h.sequence m f.sequence s (first s m x (y ++ z) a) in
    let q = optional_i64_is h.timestamp (m + length x) f.timestamp s (first s (m + length x) y z b) in
    let o = picoseconds_is h.picoseconds (m + length x + length y) f.picoseconds r s (second s (m + length x) y z b) in
    rw (p, q, o) (ends (three m x y z))

versions_is : (h : Header) (m : ℕ) → FitsHeader h
    → Reads (versions_at (flags_for h)) m (versions_bytes h) (record { status = h.status; major = h.major; minor = h.minor })
versions_is h m f s a =
    let x = optional16_bytes h.status in
    let y = optional32_bytes h.major in
    let z = optional32_bytes h.minor in
    let b = second s m x (y ++ z) a in
    let p = optional16_is h.status m f.status s (first s m x (y ++ z) a) in
    let q = optional32_is h.major (m + length x) f.major s (first s (m + length x) y z b) in
    let o = optional32_is h.minor (m + length x + length y) f.minor s (second s (m + length x) y z b) in
    rw (p, q, o) (ends (three m x y z))

pub header_is : (h : Header) → FitsHeader h → kind_rule h.kind h.encoding ≡ 0 → picoseconds_refusal h.picoseconds ≡ 0 → Reads message_header_at 0 (message_header_bytes h) (valid h)
header_is h f k r s a =
    let x = message_flag_bytes h in
    let y = times_bytes h in
    let z = versions_bytes h in
    let b = second s 0 x (y ++ z) a in
    let p = flags_is h k s (first s 0 x (y ++ z) a) in
    let q = times_is h (0 + length x) f r s (first s (0 + length x) y z b) in
    let o = versions_is h (0 + length x + length y) f s (second s (0 + length x) y z b) in
    rw (p, q, o) (ends (three 0 x y z))

-- what the times that were read tell: those before the picoseconds stand where they were read, and the picoseconds behind them
record TimesBack (f : Flags) (s : List ℕ) (at : ℕ) (t : Times) (next : ℕ) : Type 0 where
  place : ℕ
  stands : Back s at (optional16_bytes t.sequence ++ optional_i64_bytes t.timestamp) place
  behind : PicosecondsBack f.picoseconds s place t.picoseconds next
  sequence : is_some t.sequence ≡ f.sequence
  timestamp : is_some t.timestamp ≡ f.timestamp
  kept : picoseconds_refusal t.picoseconds ≡ 0

times_back : (f : Flags) (s : List ℕ) (at : ℕ) (t : Times) (next : ℕ) → Bytes s → at ≤ length s → message_times_at f s at ≡ got t next → TimesBack f s at t next
times_back f s at t next bytes l h =
    let a = invert (optional16 f.sequence s at) (λ q n. _) h in
    let x = optional16_back f.sequence s at a.0 a.1 bytes l a.2 in
    let lx = end_fits s at (optional16_bytes a.0) a.1 x.0 in
    let b = invert (optional_i64 f.timestamp s a.1) (λ q n. _) a.3 in
    let y = optional_i64_back f.timestamp s a.1 b.0 b.1 bytes lx b.2 in
    let ly = end_fits s a.1 (optional_i64_bytes b.0) b.1 y.0 in
    let c = invert (picoseconds_at f.picoseconds s b.1) (λ q n. _) b.3 in
    let z = picoseconds_back f.picoseconds s b.1 c.0 c.1 bytes ly c.2 in
    let k = picoseconds_kept f.picoseconds s b.1 c.0 c.1 c.2 in
    let all = join s at (optional16_bytes a.0) a.1 (optional_i64_bytes b.0) b.1 x.0 y.0 in
    let o : TimesBack f s at (record { sequence = a.0; timestamp = b.0; picoseconds = c.0 }) c.1 =
    record { place = b.1; stands = all; behind = z; sequence = x.1; timestamp = y.1; kept = k } in
    subst (λ (v : Times). TimesBack f s at v next) (got_value c.3)
    (subst (λ (n : ℕ). TimesBack f s at (record { sequence = a.0; timestamp = b.0; picoseconds = c.0 }) n) (got_next c.3) o)

record VersionsBack (f : Flags) (s : List ℕ) (at : ℕ) (v : Versions) (next : ℕ) : Type 0 where
  stands : Back s at (optional16_bytes v.status ++ (optional32_bytes v.major ++ optional32_bytes v.minor)) next
  status : is_some v.status ≡ f.status
  major : is_some v.major ≡ f.major
  minor : is_some v.minor ≡ f.minor

versions_back : (f : Flags) (s : List ℕ) (at : ℕ) (v : Versions) (next : ℕ) → Bytes s → at ≤ length s → versions_at f s at ≡ got v next → VersionsBack f s at v next
versions_back f s at v next bytes l h =
    let a = invert (optional16 f.status s at) (λ q n. _) h in
    let x = optional16_back f.status s at a.0 a.1 bytes l a.2 in
    let lx = end_fits s at (optional16_bytes a.0) a.1 x.0 in
    let b = invert (optional32 f.major s a.1) (λ q n. _) a.3 in
    let y = optional32_back f.major s a.1 b.0 b.1 bytes lx b.2 in
    let ly = end_fits s a.1 (optional32_bytes b.0) b.1 y.0 in
    let c = invert (optional32 f.minor s b.1) (λ q n. _) b.3 in
    let z = optional32_back f.minor s b.1 c.0 c.1 bytes ly c.2 in
    let all = join s at (optional16_bytes a.0) a.1 (optional32_bytes b.0 ++ optional32_bytes c.0) c.1 x.0
    (join s a.1 (optional32_bytes b.0) b.1 (optional32_bytes c.0) c.1 y.0 z.0) in
    let o : VersionsBack f s at (record { status = a.0; major = b.0; minor = c.0 }) c.1 = record { stands = all; status = x.1; major = y.1; minor = z.1 } in
    subst (λ (u : Versions). VersionsBack f s at u next) (got_value c.3)
    (subst (λ (n : ℕ). VersionsBack f s at (record { status = a.0; major = b.0; minor = c.0 }) n) (got_next c.3) o)

-- What a header that was read tells: how long it is, that it and all that follows it are the message with its picoseconds held, and that
-- these are held by storing them where they stand.
pub record HeaderBack (s : List ℕ) (h : Header) (next : ℕ) : Type 0 where
  pub sized : next ≡ length (message_header_bytes h)
  pub fits : next ≤ length s
  pub again : message_header_bytes h ++ drop next s ≡ message_held h s
  pub stored : sets s (message_picoseconds_place h) (optional16_bytes h.picoseconds) ≡ message_held h s
  pub room : is_some h.picoseconds ≡ true → message_picoseconds_place h + 2 ≤ length s
  pub kind : kind_rule h.kind h.encoding ≡ 0
  pub picoseconds : picoseconds_refusal h.picoseconds ≡ 0

-- Flags2 announces picoseconds
two_flags : (h : Header) → is_some h.picoseconds ≡ true → length (message_flag_bytes h) ≡ 2
two_flags h e =
    let n : flags2_of h ≡ 0 → ⊥ = rw e (λ z. omega arith) in
    rw (ne_eqb (flags2_of h) 0 n)

-- only where picoseconds are there does it matter where they stand
stored_there : (x : Option ℕ) (a b : ℕ) (s : List ℕ) → (is_some x ≡ true → a ≡ b) → sets s a (optional16_bytes x) ≡ sets s b (optional16_bytes x)
stored_there None a b s e = refl
stored_there (Some v) a b s e = ap (λ (k : ℕ). sets s k (optional16_bytes (Some v))) (e refl)

held_there : (x : Option ℕ) (a b : ℕ) (s : List ℕ) → (is_some x ≡ true → a ≡ b) → picoseconds_held x a s ≡ picoseconds_held x b s
held_there None a b s e = refl
held_there (Some v) a b s e = ap (λ (k : ℕ). picoseconds_held (Some v) k s) (e refl)

-- a header's parts one after the other, with all that follows
in_a_row : (f q t p v r : List ℕ) → (f ++ ((q ++ (t ++ p)) ++ v)) ++ r ≡ (f ++ (q ++ t)) ++ (p ++ (v ++ r))
in_a_row f q t p v r = simp append_assoc

body_back : (s : List ℕ) (f : Flags) (n : ℕ) (h : Header) (next : ℕ) → Bytes s → FlagsBack s f n → message_items_at f s n ≡ got (valid h) next → HeaderBack s h next
body_back s f n h next bytes r q =
    let l = end_fits s r.at (byte_bytes r.flags2) n r.second.stands in
    let a = invert (message_times_at f s n) (λ t z. _) q in
    let t = times_back f s n a.0 a.1 bytes l a.2 in
    let b = invert (versions_at f s a.1) (λ v z. _) a.3 in
    let v = versions_back f s a.1 b.0 b.1 bytes t.behind.fits b.2 in
    let e : valid (header_of f a.0 b.0) ≡ valid h = got_value b.3 in
    let x : header_of f a.0 b.0 ≡ h = cc in
    let z : b.1 ≡ next = got_next b.3 in
    let says : flags_for (header_of f a.0 b.0) ≡ f =
    λ i. record {
      encoding = f.encoding;
      kind = f.kind;
      sequence = t.sequence i;
      status = v.status i;
      major = v.major i;
      minor = v.minor i;
      timestamp = t.timestamp i;
      picoseconds =
          t.behind.there i;
    } in
    subst (λ (y : Header). HeaderBack s y next) x
    (subst (λ (y : ℕ). HeaderBack s (header_of f a.0 b.0) y) z
    (assemble s f n (header_of f a.0 b.0) a.1 b.1 t.place (flags_stand s f n r (header_of f a.0 b.0) says) t.stands t.behind v.stands
    (kind_kept s f n r (header_of f a.0 b.0) says) t.kept))
  where
    assemble : (s : List ℕ) (f : Flags) (n : ℕ) (h : Header) (k next place : ℕ) → Back s 0 (message_flag_bytes h) n
        → Back s n (optional16_bytes h.sequence ++ optional_i64_bytes h.timestamp) place → PicosecondsBack f.picoseconds s place h.picoseconds k
        → Back s k (versions_bytes h) next → kind_rule h.kind h.encoding ≡ 0 → picoseconds_refusal h.picoseconds ≡ 0 → HeaderBack s h next
    assemble s f n h k next place flags times pico versions kind kept =
        let fb = message_flag_bytes h in
        let qb = optional16_bytes h.sequence in
        let tb = optional_i64_bytes h.timestamp in
        let pb = optional16_bytes h.picoseconds in
        let vb = versions_bytes h in
        let all = join s 0 fb n (qb ++ tb) place flags times in
        let there : is_some h.picoseconds ≡ true → place ≡ message_picoseconds_place h = λ e. omega (arith, all.1, length-append fb (qb ++ tb), length-append qb tb, two_flags h e) in
        record {
          sized =
              omega (
                arith,
                all.1,
                pico.ends,
                versions.1,
                length-append fb ((qb ++ (tb ++ pb)) ++ vb),
                length-append (qb ++ (tb ++ pb)) vb,
                length-append qb (tb ++ pb),
                length-append tb pb,
                length-append fb (qb ++ tb),
                length-append qb tb,
              );
          fits = end_fits s k vb next versions;
          again =
              in_a_row fb qb tb pb vb (drop next s) ∙ held_between s (fb ++ (qb ++ tb)) place h.picoseconds k vb next all pico versions
              ∙ held_there h.picoseconds place (message_picoseconds_place h) s there;
          stored =
              sym (stored_there h.picoseconds place (message_picoseconds_place h) s there) ∙ held_stored s place h.picoseconds k pico
              ∙ held_there h.picoseconds place (message_picoseconds_place h) s there;
          room = λ e. omega (arith, there e, two_bytes h.picoseconds e, pico.ends, pico.fits);
          kind = kind;
          picoseconds = kept;
        }

flagged_back : (v : Valid Flags) (s : List ℕ) (n : ℕ) (h : Header) (next : ℕ) → Bytes s → message_flags_at s 0 ≡ got v n → after_flags v s n ≡ got (valid h) next → HeaderBack s h next
flagged_back not_valid s n h next bytes p q =
    let e : ◌≡◌ {A = Valid Header} not_valid (valid h) = got_value q in
    let z : ◌≡◌ {A = ℕ} 0 1 = cc in
    absurd (omega arith)
flagged_back (valid f) s n h next bytes p q = body_back s f n h next bytes (flags_back s f n bytes p) q

pub header_back : (s : List ℕ) (h : Header) (next : ℕ) → Bytes s → message_header_at s 0 ≡ got (valid h) next → HeaderBack s h next
header_back s h next bytes q =
    let a = invert (message_flags_at s 0) (λ f n. after_flags f s n) q in
    flagged_back a.0 s a.1 h next bytes a.2 a.3

-- Of any bytes, picoseconds that were read are below 10,000.
times_kept : (f : Flags) (s : List ℕ) (at : ℕ) (t : Times) (next : ℕ) → message_times_at f s at ≡ got t next → picoseconds_refusal t.picoseconds ≡ 0
times_kept f s at t next h =
    let a = invert (optional16 f.sequence s at) (λ q n. _) h in
    let b = invert (optional_i64 f.timestamp s a.1) (λ q n. _) a.3 in
    let c = invert (picoseconds_at f.picoseconds s b.1) (λ q n. _) b.3 in
    subst (λ (v : Times). picoseconds_refusal v.picoseconds ≡ 0) (got_value c.3) (picoseconds_kept f.picoseconds s b.1 c.0 c.1 c.2)

flagged_kept : (v : Valid Flags) (s : List ℕ) (n : ℕ) (h : Header) (next : ℕ) → after_flags v s n ≡ got (valid h) next → picoseconds_refusal h.picoseconds ≡ 0
flagged_kept not_valid s n h next q =
    let e : ◌≡◌ {A = Valid Header} not_valid (valid h) = got_value q in
    let z : ◌≡◌ {A = ℕ} 0 1 = cc in
    absurd (omega arith)
flagged_kept (valid f) s n h next q =
    let a = invert (message_times_at f s n) (λ t z. _) q in
    let b = invert (versions_at f s a.1) (λ v z. _) a.3 in
    let e : valid (header_of f a.0 b.0) ≡ valid h = got_value b.3 in
    let x : header_of f a.0 b.0 ≡ h = cc in
    subst (λ (y : Header). picoseconds_refusal y.picoseconds ≡ 0) x (times_kept f s n a.0 a.1 a.2)

pub header_kept : (s : List ℕ) (h : Header) (next : ℕ) → message_header_at s 0 ≡ got (valid h) next → picoseconds_refusal h.picoseconds ≡ 0
header_kept s h next q =
    let a = invert (message_flags_at s 0) (λ f n. after_flags f s n) q in
    flagged_kept a.0 s a.1 h next a.3
