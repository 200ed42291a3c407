-- The group header's round trip: read as it was written, and what was read is what stands there.
use Rattle.std.specs.Prelude.{Option, Some, None, is_some}
use mathlib.Core.Path.{◌≡◌, ap, sym, refl}
use Prim.Native.Nat.{ℕ, ◌+◌, ◌*◌, ◌/◌, ◌%◌, ◌≤◌, ◌<◌, ◌^◌}
use Rattle.wire.specs.Number.{le_bytes}
use Rattle.wire.specs.Answer.{ruled, got, bit}
use Rattle.network_header.specs.Group.{number_rule, message_number_at, number_refusal, group_flags_of, group_fields_at, group_fields_bytes, FitsFields, group_flags_rule, group_at, group_bytes, group_refusal, FitsGroup}
use Rattle.wire_writer.specs.Writing.{optional16_bytes, num, optional32_bytes}
use Rattle.wire_writer.proofs.Trip.{Reads, last, nothing, ruled_is, first, second, optional16_is, optional32_is, rule_kept, item_is}
use Rattle.wire_writer.specs.Fits.{Fits16, Bytes}
use native.Mathlib.Omega.{arith}
use Rattle.network_header.specs.declared.group.GroupFields.{GroupFields}
use Rattle.wire_writer.proofs.Bits.{num_bound, flag_is, num_bit}
use mathlib.Core.List.{◌++◌, List}
use lib.ListN.{length, length-append}
use borrow.Author.Tests.{lt-leb, leb-false}
use lib.Dec.{eqb, leb, eqb→eq}
use Rattle.wire.proofs.Table.{below}
use Rattle.wire.specs.Optional.{optional16, optional32}
use Rattle.wire.proofs.Reading.{invert, got_value, got_next}
use Rattle.wire_writer.proofs.Back.{Back, join, end_fits, map_back, optional16_back, optional32_back, ruled16_back, empty, item_back, ruled_back}
use mathlib.Core.Bool.{Bool, true, false}
use Rattle.wire_writer.proofs.Refusals.{passed}

number_is : (x : Option ℕ) (m : ℕ) → Fits16 x → number_refusal x ≡ 0 → Reads (message_number_at (is_some x)) m (optional16_bytes x) x
number_is None m f h = nothing None m
number_is (Some v) m f h = last (ruled 2 number_rule) Some m (le_bytes 2 v) v (ruled_is 2 number_rule v m f h)

group_bits : (a b c d : ℕ) → a ≤ 1 → b ≤ 1 → c ≤ 1 → d ≤ 1
    → ((a + (2 * b + (4 * c + 8 * d))) % 2 ≡ a) × ((a + (2 * b + (4 * c + 8 * d))) / 2 % 2 ≡ b) × ((a + (2 * b + (4 * c + 8 * d))) / 4 % 2 ≡ c)
    × ((a + (2 * b + (4 * c + 8 * d))) / 8 % 2 ≡ d) × (a + (2 * b + (4 * c + 8 * d)) < 16)
group_bits a b c d ha hb hc hd = omega arith

-- by the flags' own bits
pub bits : (g : GroupFields)
    → ((group_flags_of g % 2 ≡ num (is_some g.writer_group)) × (group_flags_of g / 2 % 2 ≡ num (is_some g.version)) × (group_flags_of g / 4 % 2 ≡ num (is_some g.number))
    × (group_flags_of g / 8 % 2 ≡ num (is_some g.sequence)) × (group_flags_of g < 16))
bits g = group_bits _ _ _ _ (num_bound (is_some g.writer_group)) (num_bound (is_some g.version)) (num_bound (is_some g.number)) (num_bound (is_some g.sequence))

fields_are : (g : GroupFields) → FitsFields g → number_refusal g.number ≡ 0 → (m : ℕ) → Reads (group_fields_at (group_flags_of g)) m (group_fields_bytes g) (Some g)
fields_are g f h m =
    rw (
      flag_is (is_some g.writer_group) (group_flags_of g % 2) (bits g).0,
      flag_is (is_some g.version) (group_flags_of g / 2 % 2) (bits g).1,
      flag_is (is_some g.number) (group_flags_of g / 4 % 2) (bits g).2,
      flag_is (is_some g.sequence) (group_flags_of g / 8 % 2) (bits g).3,
    )
    (λ s at.
    let b1 = optional16_bytes g.writer_group in
    let b2 = optional32_bytes g.version in
    let b3 = optional16_bytes g.number in
    let b4 = optional16_bytes g.sequence in
    let at2 = second s m b1 (b2 ++ (b3 ++ b4)) at in
    let at3 = second s (m + length b1) b2 (b3 ++ b4) at2 in
    let at4 = second s (m + length b1 + length b2) b3 b4 at3 in
    let p1 = optional16_is g.writer_group m f.0 s (first s m b1 (b2 ++ (b3 ++ b4)) at) in
    let p2 = optional32_is g.version (m + length b1) f.1 s (first s (m + length b1) b2 (b3 ++ b4) at2) in
    let p3 = number_is g.number (m + length b1 + length b2) f.2 h s (first s (m + length b1 + length b2) b3 b4 at3) in
    let p4 = optional16_is g.sequence (m + length b1 + length b2 + length b3) f.3 s at4 in
    let z : m + length b1 + length b2 + length b3 + length b4 ≡ m + length (group_fields_bytes g) =
    omega (arith, length-append b1 (b2 ++ (b3 ++ b4)), length-append b2 (b3 ++ b4), length-append b3 b4) in
    rw (p1, p2, p3, p4) (ap (λ (j : ℕ). got (Some g) j) z))

pub group_is : (x : Option GroupFields) (m : ℕ) → FitsGroup x → group_refusal x ≡ 0 → Reads (group_at (is_some x)) m (group_bytes x) x
group_is None m f h = nothing None m
group_is (Some g) m f h =
    let b = bits g in
    let k : group_flags_of g < 256 ^ 1 = omega (arith, b.4) in
    let r : group_flags_rule (group_flags_of g) ≡ 0 = rw (lt-leb 16 (group_flags_of g) b.4) in
    λ s at. let c = le_bytes 1 (group_flags_of g) in
    let p = rule_kept 1 group_flags_rule m c (group_flags_of g) r (item_is 1 (group_flags_of g) m k) s (first s m c (group_fields_bytes g) at) in
    let q = fields_are g f h (m + length c) s (second s m c (group_fields_bytes g) at) in
    let z : m + length c + length (group_fields_bytes g) ≡ m + length (c ++ group_fields_bytes g) = omega (arith, length-append c (group_fields_bytes g)) in
    rw (p, q) (ap (λ (j : ℕ). got (Some g) j) z)

group_flags : (F : ℕ) → F < 16 → F % 2 + (2 * (F / 2 % 2) + (4 * (F / 4 % 2) + 8 * (F / 8 % 2))) ≡ F
group_flags F h = eqb→eq _ _ (below (λ F. eqb (F % 2 + (2 * (F / 2 % 2) + (4 * (F / 4 % 2) + 8 * (F / 8 % 2)))) F) 16 tt F h)

group_fields_back : (F : ℕ) (s : List ℕ) (at : ℕ) (x : Option GroupFields) (next : ℕ) → Bytes s → at ≤ length s → F < 16 → group_fields_at F s at ≡ got x next
    → (g : GroupFields) × (x ≡ Some g) × Back s at (group_fields_bytes g) next × (group_flags_of g ≡ F)
group_fields_back F s at x next b l hF h =
    let w = invert (optional16 (eqb (F % 2) 1) s at) (λ w n. _) h in
    let v = invert (optional32 (bit 1 F) s w.1) (λ v n. _) w.3 in
    let n = invert (message_number_at (bit 2 F) s v.1) (λ m n. _) v.3 in
    let q = map_back (optional16 (bit 3 F)) (λ q. Some (record { writer_group = w.0; version = v.0; number = n.0; sequence = q })) s n.1 x next n.3 in
    let bw = optional16_back (eqb (F % 2) 1) s at w.0 w.1 b l w.2 in
    let bv = optional32_back (bit 1 F) s w.1 v.0 v.1 b (end_fits s at (optional16_bytes w.0) w.1 bw.0) v.2 in
    let bn = ruled16_back number_rule (bit 2 F) s v.1 n.0 n.1 b (end_fits s w.1 (optional32_bytes v.0) v.1 bv.0) n.2 in
    let bq = optional16_back (bit 3 F) s n.1 q.0 next b (end_fits s v.1 (optional16_bytes n.0) n.1 bn.0) q.1 in (
      record { writer_group = w.0; version = v.0; number = n.0; sequence = q.0 },
      sym q.2,
      join s at (optional16_bytes w.0) w.1 (optional32_bytes v.0 ++ (optional16_bytes n.0 ++ optional16_bytes q.0)) next bw.0
          (join s w.1 (optional32_bytes v.0) v.1 (optional16_bytes n.0 ++ optional16_bytes q.0) next bv.0
          (join s v.1 (optional16_bytes n.0) n.1 (optional16_bytes q.0) next bn.0 bq.0)),
      rw (bw.1, bv.1, bn.1, bq.1, num_bit (F % 2) (omega arith), num_bit (F / 2 % 2) (omega arith), num_bit (F / 4 % 2) (omega arith), num_bit (F / 8 % 2) (omega arith)) (group_flags F hF),
    )

pub group_back : (on : Bool) (s : List ℕ) (at : ℕ) (x : Option GroupFields) (next : ℕ) → Bytes s → at ≤ length s → group_at on s at ≡ got x next → Back s at (group_bytes x) next × (is_some x ≡ on)
group_back true s at x next b l h =
    let f = invert (ruled 1 group_flags_rule s at) (λ F n. group_fields_at F s n) h in
    let r = ruled_back 1 group_flags_rule s at f.0 f.1 f.2 in
    let i = item_back 1 s at f.0 f.1 b r.0 in
    let k : f.0 < 16 = leb-false 16 f.0 (passed (leb 16 f.0) 2 0 r.1).0 in
    let g = group_fields_back f.0 s f.1 x next b (end_fits s at (le_bytes 1 f.0) f.1 i.0) k f.3 in
    rw (g.1, g.3) (join s at (le_bytes 1 f.0) f.1 (group_fields_bytes g.0) next i.0 g.2, refl)
group_back false s at x next b l h = rw (sym (got_value h), sym (got_next h)) (empty s at l, refl)
