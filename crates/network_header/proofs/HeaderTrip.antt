-- The round trips of DataSetClassId, PayloadHeader and promoted fields: read as they were written, and what was read is what stands there.
use Rattle.wire.specs.declared.Guid.{Guid}
use Rattle.std.specs.Prelude.{Option, Some, None, is_some}
use Prim.Native.Nat.{ℕ, ◌+◌, ◌*◌, ◌^◌, ◌<◌, ◌≤◌}
use Rattle.wire.specs.Items.{guid, guid_bytes}
use Rattle.network_header.specs.Header.{class_at, class_bytes, FitsClass, ids_shape, count_rule, payload_header_at, payload_header_on, probe_on, payload_header_bytes, count_refusal, FitsPayloadHeader, size_rule, promoted_at, promoted_bytes, promoted_refusal, promoted_shape, ids_of, promoted_of}
use Rattle.wire_writer.proofs.Trip.{Reads, last, nothing, guid_is, first, second, run_is, item_is, ruled_is}
use mathlib.Core.Path.{◌≡◌, refl, ap, sym, subst}
use mathlib.Core.List.{List, ◌++◌}
use mathlib.Core.Bool.{Bool, true, false, cond}
use native.Mathlib.Omega.{arith}
use Rattle.network_header.specs.declared.header.PayloadHeader.{PayloadHeader}
use lib.ListN.{length, length-append}
use Rattle.wire.specs.Number.{le_bytes}
use Rattle.wire.specs.Answer.{item, got, ruled, run, pure, ◌>>=◌}
use Rattle.network_header.proofs.Sizes.{ids_counted}
use lib.Dec.{eqb, leb}
use borrow.Author.Tests.{leb-false, eqb-true}
use Rattle.wire_writer.proofs.Refusals.{passed, held}
use Rattle.wire.proofs.Reading.{got_value, got_next, invert}
use Rattle.wire_writer.proofs.Back.{Back, empty, map_back, guid_back, join, run_part, item_back, run_back, ruled_back}
use Rattle.wire_writer.specs.Fits.{Bytes}
use Rattle.publisher_id.specs.Publisher.{bytes_before}
use Rattle.publisher_id.proofs.PublisherTrip.{before_length}

pub class_is : (x : Option Guid) (m : ℕ) → FitsClass x → Reads (class_at (is_some x)) m (class_bytes x) x
class_is None m f = nothing None m
class_is (Some g) m f = last guid Some m (guid_bytes g) g (guid_is g m f)

chunk_on : (chunk : Bool) (w : ℕ) (ids configured : List ℕ) → ids_shape chunk (PayloadHeader.Chunk w) ids configured ≡ 0 → chunk ≡ true
chunk_on true w ids configured h = refl
chunk_on false w ids configured h = absurd (omega arith)

pub payload_header_is : (x : PayloadHeader) (chunk : Bool) (ids configured : List ℕ) (m : ℕ) → FitsPayloadHeader x → count_refusal x ≡ 0 → ids_shape chunk x ids configured ≡ 0
    → Reads (payload_header_at (payload_header_on x) chunk (probe_on x)) m (payload_header_bytes ids x) x
payload_header_is PayloadHeader.Absent chunk ids configured m f a b = nothing PayloadHeader.Absent m
payload_header_is (PayloadHeader.Ids n) chunk ids configured m f a b =
    let q1 = ids_counted chunk n ids configured b in
    λ s at. let c = le_bytes 1 n in
    let p = ruled_is 1 count_rule n m q1.1 a s (first s m c ids at) in
    let q = run_is (2 * n) (m + length c) ids q1.2 s (second s m c ids at) in
    let z : m + length c + length ids ≡ m + length (c ++ ids) = omega (arith, length-append c ids) in
    rw (q1.0, p, q) (ap (λ (j : ℕ). got (PayloadHeader.Ids n) j) z)
payload_header_is (PayloadHeader.Chunk w) chunk ids configured m f a b =
    rw (chunk_on chunk w ids configured b) (last (item 2) PayloadHeader.Chunk m (le_bytes 2 w) w (item_is 2 w m f))
payload_header_is PayloadHeader.Probe chunk ids configured m f a b = nothing PayloadHeader.Probe m

-- the promoted fields that are written: of the size of the bytes given
abbrev pub written : List ℕ → Option ℕ → Option ℕ
written bytes None = None
written bytes (Some n) = Some (length bytes)

pub promoted_written : (x : Option ℕ) (messages : ℕ) (bytes : List ℕ) (m : ℕ) → promoted_refusal x messages ≡ 0 → length (promoted_bytes bytes x) ≤ 65537
    → Reads (promoted_at (is_some x) messages) m (promoted_bytes bytes x) (written bytes x)
promoted_written None messages bytes m a l = nothing None m
promoted_written (Some n) messages bytes m a l =
    let c = le_bytes 2 (length bytes) in
    let h : length bytes < 256 ^ 2 = omega (arith, length-append c bytes) in
    λ s at. let p = ruled_is 2 (size_rule messages) (length bytes) m h a s (first s m c bytes at) in
    let q = run_is (length bytes) (m + length c) bytes refl s (second s m c bytes at) in
    let z : m + length c + length bytes ≡ m + length (c ++ bytes) = omega (arith, length-append c bytes) in
    rw (p, q) (ap (λ (j : ℕ). got (Some (length bytes)) j) z)

-- and these are the ones given where the size is the said one
pub promoted_is : (x : Option ℕ) (messages : ℕ) (bytes : List ℕ) (m : ℕ) → promoted_refusal x messages ≡ 0 → promoted_shape x (length bytes) ≡ 0
    → Reads (promoted_at (is_some x) messages) m (promoted_bytes bytes x) x
promoted_is None messages bytes m a b = nothing None m
promoted_is (Some n) messages bytes m a b =
    let w = passed (leb 65536 n) 5 (cond (eqb n (length bytes)) 0 6) b in
    let e : n ≡ length bytes = eqb-true n (length bytes) (held (eqb n (length bytes)) 5 w.1) in
    let k : n < 65536 = leb-false 65536 n w.0 in
    let l : length (promoted_bytes bytes (Some n)) ≤ 65537 = omega (arith, length-append (le_bytes 2 (length bytes)) bytes) in
    rw e (promoted_written (Some (length bytes)) messages bytes m a l)

pub class_back : (on : Bool) (s : List ℕ) (at : ℕ) (x : Option Guid) (next : ℕ) → Bytes s → at ≤ length s → class_at on s at ≡ got x next → Back s at (class_bytes x) next × (is_some x ≡ on)
class_back true s at x next b l h =
    let y = map_back guid Some s at x next h in
    let g = guid_back s at y.0 next b y.1 in
    rw (sym y.2) (g.0, refl)
class_back false s at x next b l h = rw (sym (got_value h), sym (got_next h)) (empty s at l, refl)

pub payload_header_back : (on chunk probe : Bool) (s : List ℕ) (at : ℕ) (x : PayloadHeader) (next : ℕ) → Bytes s → at ≤ length s → (probe ≡ true → on ≡ false)
    → payload_header_at on chunk probe s at ≡ got x next → Back s at (payload_header_bytes (ids_of s x next) x) next × (payload_header_on x ≡ on) × (probe_on x ≡ probe)
payload_header_back on chunk true s at x next b l p h = rw (sym (got_value h), sym (got_next h)) (empty s at l, sym (p refl), refl)
payload_header_back true true false s at x next b l p h =
    let y = map_back (item 2) PayloadHeader.Chunk s at x next h in
    rw (sym y.2) ((item_back 2 s at y.0 next b y.1).0, refl, refl)
payload_header_back true false false s at x next b l p h =
    let f = invert (ruled 1 count_rule s at) (λ n i. (run (2 * n) >>= λ k. pure (PayloadHeader.Ids n)) s i) h in
    let i = item_back 1 s at f.0 f.1 b (ruled_back 1 count_rule s at f.0 f.1 f.2).0 in
    let y = map_back (run (2 * f.0)) (λ k. PayloadHeader.Ids f.0) s f.1 x next f.3 in
    let r = run_back (2 * f.0) s f.1 y.0 next y.1 in
    rw (sym y.2) (join s at (le_bytes 1 f.0) f.1 (bytes_before s next (2 * f.0)) next i.0 (run_part s f.1 (2 * f.0) next r.1 r.2), refl, refl)
payload_header_back false chunk false s at x next b l p h = rw (sym (got_value h), sym (got_next h)) (empty s at l, refl, refl)

pub promoted_back : (on : Bool) (messages : ℕ) (s : List ℕ) (at : ℕ) (x : Option ℕ) (next : ℕ) → Bytes s → at ≤ length s → promoted_at on messages s at ≡ got x next
    → Back s at (promoted_bytes (promoted_of s x next) x) next × (is_some x ≡ on)
promoted_back true messages s at x next b l h =
    let f = invert (ruled 2 (size_rule messages) s at) (λ n i. (run n >>= λ k. pure (Some n)) s i) h in
    let i = item_back 2 s at f.0 f.1 b (ruled_back 2 (size_rule messages) s at f.0 f.1 f.2).0 in
    let y = map_back (run f.0) (λ k. Some f.0) s f.1 x next f.3 in
    let r = run_back f.0 s f.1 y.0 next y.1 in
    rw (sym y.2) (
      subst (λ (k : ℕ). Back s at (le_bytes 2 k ++ bytes_before s next f.0) next) (sym (before_length s f.1 f.0 next r.1 r.2))
          (join s at (le_bytes 2 f.0) f.1 (bytes_before s next f.0) next i.0 (run_part s f.1 f.0 next r.1 r.2)),
      refl,
    )
promoted_back false messages s at x next b l h = rw (sym (got_value h), sym (got_next h)) (empty s at l, refl)
