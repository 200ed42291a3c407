-- What was read breaks no rule of writing: each part of an accepted datagram, with its bytes as read, is not refused.
-- Assumes nothing.
use Rattle.network_header.specs.declared.group.GroupFields.{GroupFields}
use Rattle.std.specs.Prelude.{Option, Some}
use mathlib.Core.Path.{◌≡◌, refl, sym, subst}
use mathlib.Core.List.{List}
use mathlib.Core.Bool.{Bool, true, false, cond, ◌&&◌}
use Prim.Native.Nat.{ℕ, zero, suc, ◌+◌, ◌-◌, ◌*◌, ◌/◌, ◌%◌, ◌^◌, ◌<◌}
use native.Mathlib.Omega.{arith}
use lib.ListN.{length}
use lib.IntN.{pos, negsuc}
use lib.Dec.{eqb, leb, ltb}
use borrow.Author.Tests.{eq-eqb, lt-leb}
use Rattle.wire.specs.Number.{le, signed}
use Rattle.wire.specs.Answer.{got, refused, and_then, item, ruled, run, refuse, pure, when_on, ◌>>=◌, bit}
use Rattle.wire.specs.Items.{length_of}
use Rattle.wire.specs.Optional.{optional16, optional32}
use Rattle.wire.proofs.Reading.{got_value, not_got, invert}
use Rattle.network_header.specs.declared.flags.Flags.{Flags}
use Rattle.publisher_id.specs.declared.publisher.PublisherId.{PublisherId}
use Rattle.network_header.specs.declared.header.PayloadHeader.{PayloadHeader}
use Rattle.network_header.specs.Flags.{byte0_rule, extended1_rule, extended2_rule, flags_of, flags_at, times_refusal}
use Rattle.publisher_id.specs.Publisher.{string_of, string_then, string_at, publisher_at, publisher_refusal, publisher_shape, bytes_before, text_of}
use Rattle.network_header.specs.Group.{number_rule, message_number_at, group_flags_rule, group_fields_at, group_at, number_refusal, group_refusal}
use Rattle.network_header.specs.Header.{count_rule, payload_header_at, size_rule, promoted_at, promoted_refusal, promoted_shape, promoted_of}
use Rattle.wire_writer.proofs.Refusals.{passed, no}
use Rattle.wire_writer.proofs.Back.{item_back, run_back, ruled_back, map_back}
use Rattle.publisher_id.proofs.PublisherTrip.{before_length}
use Rattle.wire_writer.specs.Fits.{Bytes}

-- the flags: PicoSeconds only with Timestamp

times_of_bits : (p t : Bool) (n : ℕ) → n < 2 → t ≡ eqb n 1 → (p && eqb n 0) ≡ false → times_refusal p t ≡ 0
times_of_bits false t n l e h = refl
times_of_bits true t zero l e h = absurd (no h)
times_of_bits true t (suc zero) l e h = rw e
times_of_bits true t (suc (suc n)) l e h = absurd (omega arith)

times_kept : (publisher : Bool) (e : ℕ) → extended1_rule publisher e ≡ 0 → times_refusal (bit 6 e) (bit 5 e) ≡ 0
times_kept publisher e h =
    let a = passed (eqb e 0) 2 (cond (publisher && leb 5 (e % 8)) 3 (cond (bit 4 e) 4 (cond (bit 6 e && eqb (e / 32 % 2) 0) 3 0))) h in
    let b = passed (publisher && leb 5 (e % 8)) 2 (cond (bit 4 e) 4 (cond (bit 6 e && eqb (e / 32 % 2) 0) 3 0)) a.1 in
    let c = passed (bit 4 e) 3 (cond (bit 6 e && eqb (e / 32 % 2) 0) 3 0) b.1 in
    let d = passed (bit 6 e && eqb (e / 32 % 2) 0) 2 0 c.1 in
    times_of_bits (bit 6 e) (bit 5 e) (e / 32 % 2) (omega arith) refl d.0

extended_kept : (on publisher : Bool) (s : List ℕ) (at e next : ℕ) → when_on on 0 (ruled 1 (extended1_rule publisher)) s at ≡ got e next → times_refusal (bit 6 e) (bit 5 e) ≡ 0
extended_kept true publisher s at e next h = times_kept publisher e (ruled_back 1 (extended1_rule publisher) s at e next h).1
extended_kept false publisher s at e next h = subst (λ (v : ℕ). times_refusal (bit 6 v) (bit 5 v) ≡ 0) (got_value h) refl

pub flags_kept : (s : List ℕ) (at : ℕ) (f : Flags) (next : ℕ) → flags_at s at ≡ got f next → times_refusal f.picoseconds f.timestamp ≡ 0
flags_kept s at f next h =
    let B = invert (ruled 1 byte0_rule s at) (λ b n. _) h in
    let E = invert (when_on (eqb (B.0 / 128) 1) 0 (ruled 1 (extended1_rule (bit 4 B.0))) s B.1) (λ e n. _) B.3 in
    let G = map_back (when_on (eqb (E.0 / 128) 1) 0 (ruled 1 (extended2_rule (bit 6 B.0)))) (λ g. flags_of B.0 E.0 g) s E.1 f next E.3 in
    subst (λ (x : Flags). times_refusal x.picoseconds x.timestamp ≡ 0) G.2 (extended_kept (eqb (B.0 / 128) 1) (bit 4 B.0) s B.1 E.0 E.1 E.2)

-- the PublisherId: a string of at most 64 bytes, and as many bytes as it says

abbrev PublisherKept : List ℕ → PublisherId → ℕ → Type 0
PublisherKept s p next = (publisher_refusal p (length (text_of s p next)) ≡ 0) × (publisher_shape p (length (text_of s p next)) ≡ 0)

module _ (s : List ℕ) (p : PublisherId) (next : ℕ) where
  string_kept : (v start : ℕ) → string_of v s start ≡ got p next → PublisherKept s p next
  string_kept v start q = go (leb 65 v) refl q
    where
      go : (t : Bool) → leb 65 v ≡ t → cond t (refused 10 0) ((run v >>= λ len. pure (PublisherId.Text len)) s start) ≡ got p next → PublisherKept s p next
      go true e k = absurd (not_got k)
      go false e k =
          let y = map_back (run v) PublisherId.Text s start p next k in
          let r = run_back v s start y.0 next y.1 in
          let l : length (bytes_before s next v) ≡ v = before_length s start v next r.1 r.2 in
          rw (sym y.2, r.0, l, e, eq-eqb v v refl) (refl, refl)

  no_length : (at k start : ℕ) → string_then at (length_of (negsuc k)) s start ≡ got p next → ⊥
  no_length at zero start q = not_got q
  no_length at (suc k) start q = not_got q

  signed_kept : (at v start n : ℕ) (t : Bool) → string_then at (length_of (cond t (pos v) (negsuc n))) s start ≡ got p next → PublisherKept s p next
  signed_kept at v start n true q = string_kept v start q
  signed_kept at v start n false q = absurd (no_length at n start q)

  text_kept : (at : ℕ) → string_at s at ≡ got p next → PublisherKept s p next
  text_kept at h = go (leb (at + 4) (length s)) h
    where
      go : (t : Bool) → and_then (cond t (got (length_of (signed 4 (le 4 s at))) (at + 4)) (refused 1 at)) (λ length start. string_then at length s start) ≡ got p next → PublisherKept s p next
      go true q = signed_kept at (le 4 s at) (at + 4) (2 ^ (8 * 4) - 1 - le 4 s at) (ltb (le 4 s at) (2 ^ (8 * 4 - 1))) q
      go false q = absurd (not_got q)

  kind_kept : (at : ℕ) (a b c d e : Bool)
      → cond a (item 1 >>= λ v. pure (PublisherId.Byte v))
      (cond b (item 2 >>= λ v. pure (PublisherId.UInt16 v))
      (cond c (item 4 >>= λ v. pure (PublisherId.UInt32 v)) (cond d (item 8 >>= λ v. pure (PublisherId.UInt64 v)) (cond e string_at (refuse 3))))) s at ≡ got p next
      → PublisherKept s p next
  kind_kept at true b c d e q = rw (sym (map_back (item 1) PublisherId.Byte s at p next q).2) (refl, refl)
  kind_kept at false true c d e q = rw (sym (map_back (item 2) PublisherId.UInt16 s at p next q).2) (refl, refl)
  kind_kept at false false true d e q = rw (sym (map_back (item 4) PublisherId.UInt32 s at p next q).2) (refl, refl)
  kind_kept at false false false true e q = rw (sym (map_back (item 8) PublisherId.UInt64 s at p next q).2) (refl, refl)
  kind_kept at false false false false true q = text_kept at q
  kind_kept at false false false false false q = absurd (not_got q)

  pub publisher_kept : (on : Bool) (kind at : ℕ) → publisher_at on kind s at ≡ got p next → PublisherKept s p next
  publisher_kept true kind at h = kind_kept at (eqb kind 0) (eqb kind 1) (eqb kind 2) (eqb kind 3) (eqb kind 4) h
  publisher_kept false kind at h = rw (sym (got_value h)) (refl, refl)

-- the group header

number_kept : (on : Bool) (s : List ℕ) (at : ℕ) (x : Option ℕ) (next : ℕ) → message_number_at on s at ≡ got x next → number_refusal x ≡ 0
number_kept true s at x next h =
    let y = map_back (ruled 2 number_rule) Some s at x next h in
    subst (λ (x : Option ℕ). number_refusal x ≡ 0) y.2 (ruled_back 2 number_rule s at y.0 next y.1).1
number_kept false s at x next h = subst (λ (x : Option ℕ). number_refusal x ≡ 0) (got_value h) refl

pub group_kept : (on : Bool) (s : List ℕ) (at : ℕ) (x : Option GroupFields) (next : ℕ) → group_at on s at ≡ got x next → group_refusal x ≡ 0
group_kept true s at x next h =
    let f = invert (ruled 1 group_flags_rule s at) (λ F n. group_fields_at F s n) h in
    let w = invert (optional16 (eqb (f.0 % 2) 1) s f.1) (λ w n. _) f.3 in
    let v = invert (optional32 (bit 1 f.0) s w.1) (λ v n. _) w.3 in
    let n = invert (message_number_at (bit 2 f.0) s v.1) (λ m n. _) v.3 in
    let q = map_back (optional16 (bit 3 f.0)) (λ q. Some (record { writer_group = w.0; version = v.0; number = n.0; sequence = q })) s n.1 x next n.3 in
    subst (λ (x : Option GroupFields). group_refusal x ≡ 0) q.2 (number_kept (bit 2 f.0) s v.1 n.0 n.1 n.2)
group_kept false s at x next h = subst (λ (x : Option GroupFields). group_refusal x ≡ 0) (got_value h) refl

-- PicoSeconds and promoted fields

pub promoted_kept : (on : Bool) (messages : ℕ) (s : List ℕ) (at : ℕ) (x : Option ℕ) (next : ℕ) → Bytes s → promoted_at on messages s at ≡ got x next
    → (promoted_refusal x messages ≡ 0) × (promoted_shape x (length (promoted_of s x next)) ≡ 0)
promoted_kept true messages s at x next b h =
    let f = invert (ruled 2 (size_rule messages) s at) (λ n i. (run n >>= λ k. pure (Some n)) s i) h in
    let r = ruled_back 2 (size_rule messages) s at f.0 f.1 f.2 in
    let i = item_back 2 s at f.0 f.1 b r.0 in
    let k : f.0 < 65536 = i.1 in
    let y = map_back (run f.0) (λ k. Some f.0) s f.1 x next f.3 in
    let q = run_back f.0 s f.1 y.0 next y.1 in
    let l : length (bytes_before s next f.0) ≡ f.0 = before_length s f.1 f.0 next q.1 q.2 in
    subst (λ (x : Option ℕ). (promoted_refusal x messages ≡ 0) × (promoted_shape x (length (promoted_of s x next)) ≡ 0)) y.2
    (r.1, rw (lt-leb 65536 f.0 k, eq-eqb f.0 (length (bytes_before s next f.0)) (sym l)))
promoted_kept false messages s at x next b h =
    subst (λ (x : Option ℕ). (promoted_refusal x messages ≡ 0) × (promoted_shape x (length (promoted_of s x next)) ≡ 0)) (got_value h) (refl, refl)

-- the PayloadHeader: a chunk's id for a chunk, else a Count and as many ids; none of a probe
pub data HeaderKept (chunk : Bool) (s : List ℕ) (next : ℕ) : PayloadHeader → Type 0 where
  absent : HeaderKept chunk s next PayloadHeader.Absent
  ids : (n : ℕ) → chunk ≡ false → count_rule n ≡ 0 → n < 256 → length (bytes_before s next (2 * n)) ≡ 2 * n → HeaderKept chunk s next (PayloadHeader.Ids n)
  of_chunk : (w : ℕ) → chunk ≡ true → HeaderKept chunk s next (PayloadHeader.Chunk w)
  of_probe : HeaderKept chunk s next PayloadHeader.Probe

pub payload_header_kept : (on chunk probe : Bool) (s : List ℕ) (at : ℕ) (x : PayloadHeader) (next : ℕ) → Bytes s → payload_header_at on chunk probe s at ≡ got x next
    → HeaderKept chunk s next x
payload_header_kept on chunk true s at x next b h = subst (HeaderKept chunk s next) (got_value h) HeaderKept.of_probe
payload_header_kept true true false s at x next b h =
    let y = map_back (item 2) PayloadHeader.Chunk s at x next h in
    subst (HeaderKept true s next) y.2 (HeaderKept.of_chunk y.0 refl)
payload_header_kept true false false s at x next b h =
    let f = invert (ruled 1 count_rule s at) (λ n i. (run (2 * n) >>= λ k. pure (PayloadHeader.Ids n)) s i) h in
    let r = ruled_back 1 count_rule s at f.0 f.1 f.2 in
    let i = item_back 1 s at f.0 f.1 b r.0 in
    let y = map_back (run (2 * f.0)) (λ k. PayloadHeader.Ids f.0) s f.1 x next f.3 in
    let q = run_back (2 * f.0) s f.1 y.0 next y.1 in
    subst (HeaderKept false s next) y.2 (HeaderKept.ids f.0 refl r.1 i.1 (before_length s f.1 (2 * f.0) next q.1 q.2))
payload_header_kept false chunk false s at x next b h = subst (HeaderKept chunk s next) (got_value h) HeaderKept.absent
