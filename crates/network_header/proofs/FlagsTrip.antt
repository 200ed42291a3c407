-- The flag bytes, read as they were written.
-- Assumes nothing.
use mathlib.Core.Path.{◌≡◌, refl, ap, sym, subst, ◌∙◌}
use mathlib.Core.List.{[], ◌++◌}
use mathlib.Core.Bool.{Bool, true, false, ◌&&◌}
use Prim.Native.Nat.{ℕ, ◌+◌, ◌*◌, ◌/◌, ◌%◌, ◌^◌, ◌≤◌, ◌<◌}
use native.Mathlib.Omega.{arith}
use lib.ListN.{length, length-append}
use lib.Dec.{eqb}
use borrow.Author.Tests.{lt-leb, eqb-true}
use Rattle.wire.specs.Number.{le_bytes}
use Rattle.wire.specs.Answer.{ruled, pure, when_on, got, bit}
use Rattle.network_header.specs.declared.flags.Flags.{Flags}
use Rattle.network_header.specs.Flags.{byte0_rule, extended1_rule, extended2_rule, flags_of, flags_at, extended2_of, extended1_of, byte0_of, flag_bytes, times_refusal, probe_refusal}
use Rattle.wire_writer.specs.Writing.{num, needed, byte_bytes}
use Rattle.wire_writer.proofs.Trip.{Reads, first, second, nothing, rule_kept, item_is}
use Rattle.wire_writer.proofs.Bits.{num_bound, needed_bound, flag_is}

-- the bits of the three bytes
pub byte_bits : (a b c d : ℕ) → a ≤ 1 → b ≤ 1 → c ≤ 1 → d ≤ 1
    → ((1 + (16 * a + (32 * b + (64 * c + 128 * d)))) % 16 ≡ 1) × ((1 + (16 * a + (32 * b + (64 * c + 128 * d)))) / 16 % 2 ≡ a)
    × ((1 + (16 * a + (32 * b + (64 * c + 128 * d)))) / 32 % 2 ≡ b) × ((1 + (16 * a + (32 * b + (64 * c + 128 * d)))) / 64 % 2 ≡ c)
    × ((1 + (16 * a + (32 * b + (64 * c + 128 * d)))) / 128 ≡ d) × (1 + (16 * a + (32 * b + (64 * c + 128 * d))) < 256)
byte_bits a b c d ha hb hc hd = omega arith

pub extended_bits : (k a b c d : ℕ) → k < 8 → a ≤ 1 → b ≤ 1 → c ≤ 1 → d ≤ 1
    → ((k + (8 * a + (32 * b + (64 * c + 128 * d)))) % 8 ≡ k) × ((k + (8 * a + (32 * b + (64 * c + 128 * d)))) / 8 % 2 ≡ a)
    × ((k + (8 * a + (32 * b + (64 * c + 128 * d)))) / 16 % 2 ≡ 0) × ((k + (8 * a + (32 * b + (64 * c + 128 * d)))) / 32 % 2 ≡ b)
    × ((k + (8 * a + (32 * b + (64 * c + 128 * d)))) / 64 % 2 ≡ c) × ((k + (8 * a + (32 * b + (64 * c + 128 * d)))) / 128 ≡ d)
    × (k + (8 * a + (32 * b + (64 * c + 128 * d))) < 256)
extended_bits k a b c d hk ha hb hc hd = omega arith

second_bits : (a b c : ℕ) → a ≤ 1 → b ≤ 1 → c ≤ 1
    → ((a + (2 * b + 4 * c)) % 2 ≡ a) × ((a + (2 * b + 4 * c)) / 2 % 2 ≡ b) × ((a + (2 * b + 4 * c)) / 4 % 8 ≡ c) × (a + (2 * b + 4 * c) < 8)
second_bits a b c ha hb hc = omega arith

-- an extended byte: there exactly if it is not 0
byte_is : (rule : ℕ → ℕ) (d e m : ℕ) → d ≡ needed e → e < 256 → (eqb e 0 ≡ false → rule e ≡ 0) → Reads (when_on (eqb d 1) 0 (ruled 1 rule)) m (byte_bytes e) e
byte_is rule d e m hd he hr = go (eqb e 0) refl
  where
    go : (t : Bool) → eqb e 0 ≡ t → Reads (when_on (eqb d 1) 0 (ruled 1 rule)) m (byte_bytes e) e
    go true q = rw (hd, q) (subst (λ (z : ℕ). Reads (pure 0) m [] z) (sym (eqb-true e 0 q)) (nothing 0 m))
    go false q = rw (hd, q) (rule_kept 1 rule m (le_bytes 1 e) e (hr q) (item_is 1 e m he))

both_false : (p : Bool) → (p && false) ≡ false
both_false true = refl
both_false false = refl

pico_time : (p t : Bool) → times_refusal p t ≡ 0 → (eqb (num p) 1 && eqb (num t) 0) ≡ false
pico_time true true h = refl
pico_time true false h = absurd (omega arith)
pico_time false true h = refl
pico_time false false h = refl

-- ExtendedFlags2 passes, of a probe too that is no chunk, has no promoted fields, and no PayloadHeader
second_rule : (e : ℕ) (p c m h : Bool) → eqb e 0 ≡ false → e < 32 → e / 4 % 8 ≡ num p → eqb (e % 2) 1 ≡ c → eqb (e / 2 % 2) 1 ≡ m → probe_refusal p c m ≡ 0
    → (p ≡ true → h ≡ false) → extended2_rule h e ≡ 0
second_rule e false c m h q k t x y r g = rw (q, lt-leb 32 e k, t)
second_rule e true c m h q k t x y r g = rw (q, lt-leb 32 e k, t, x, y, g refl) r

module _ (f : Flags) (hk : f.kind < 5) (ht : times_refusal f.picoseconds f.timestamp ≡ 0) (hp : probe_refusal f.probe f.chunk f.promoted ≡ 0)
    (hh : f.probe ≡ true → f.payload_header ≡ false) where
  bits2 : ((extended2_of f % 2 ≡ num f.chunk) × (extended2_of f / 2 % 2 ≡ num f.promoted) × (extended2_of f / 4 % 8 ≡ num f.probe) × (extended2_of f < 8))
  bits2 = second_bits _ _ _ (num_bound f.chunk) (num_bound f.promoted) (num_bound f.probe)

  bits1 : ((extended1_of f % 8 ≡ f.kind) × (extended1_of f / 8 % 2 ≡ num f.class_id) × (extended1_of f / 16 % 2 ≡ 0) × (extended1_of f / 32 % 2 ≡ num f.timestamp)
      × (extended1_of f / 64 % 2 ≡ num f.picoseconds) × (extended1_of f / 128 ≡ needed (extended2_of f)) × (extended1_of f < 256))
  bits1 = extended_bits _ _ _ _ _ (omega arith) (num_bound f.class_id) (num_bound f.timestamp) (num_bound f.picoseconds) (needed_bound (extended2_of f))

  bits0 : ((byte0_of f % 16 ≡ 1) × (byte0_of f / 16 % 2 ≡ num f.publisher) × (byte0_of f / 32 % 2 ≡ num f.group) × (byte0_of f / 64 % 2 ≡ num f.payload_header)
      × (byte0_of f / 128 ≡ needed (extended1_of f)) × (byte0_of f < 256))
  bits0 = byte_bits _ _ _ _ (num_bound f.publisher) (num_bound f.group) (num_bound f.payload_header) (needed_bound (extended1_of f))

  rule0 : byte0_rule (byte0_of f) ≡ 0
  rule0 = rw bits0.0

  rule1 : (p : Bool) → eqb (extended1_of f) 0 ≡ false → extended1_rule p (extended1_of f) ≡ 0
  rule1 p q = rw (q, bits1.0, lt-leb 5 f.kind hk, both_false p, bits1.2, bits1.4, bits1.3, pico_time f.picoseconds f.timestamp ht)

  rule2 : eqb (extended2_of f) 0 ≡ false → extended2_rule (bit 6 (byte0_of f)) (extended2_of f) ≡ 0
  rule2 q =
      let k : extended2_of f < 32 = omega (arith, bits2.3) in
      second_rule (extended2_of f) f.probe f.chunk f.promoted (bit 6 (byte0_of f)) q k bits2.2 (flag_is f.chunk _ bits2.0) (flag_is f.promoted _ bits2.1) hp
      (λ e. flag_is f.payload_header _ bits0.3 ∙ hh e)

  same : flags_of (byte0_of f) (extended1_of f) (extended2_of f) ≡ f
  same =
      rw (
        flag_is f.publisher _ bits0.1,
        flag_is f.group _ bits0.2,
        flag_is f.payload_header _ bits0.3,
        bits1.0,
        flag_is f.class_id _ bits1.1,
        flag_is f.timestamp _ bits1.3,
        flag_is f.picoseconds _ bits1.4,
        flag_is f.chunk _ bits2.0,
        flag_is f.promoted _ bits2.1,
        flag_is f.probe _ bits2.2,
      )

  pub flags_are : (m : ℕ) → Reads flags_at m (flag_bytes f) f
  flags_are m s at =
      let b = le_bytes 1 (byte0_of f) in
      let e = byte_bytes (extended1_of f) in
      let g = byte_bytes (extended2_of f) in
      let at2 = second s m b (e ++ g) at in
      let k : byte0_of f < 256 ^ 1 = bits0.5 in
      let p1 = rule_kept 1 byte0_rule m b (byte0_of f) rule0 (item_is 1 (byte0_of f) m k) s (first s m b (e ++ g) at) in
      let p2 = byte_is (extended1_rule (bit 4 (byte0_of f))) (byte0_of f / 128) (extended1_of f) (m + length b) bits0.4 bits1.6 (rule1 (bit 4 (byte0_of f))) s (first s (m + length b) e g at2) in
      let p3 = byte_is (extended2_rule (bit 6 (byte0_of f))) (extended1_of f / 128) (extended2_of f) (m + length b + length e) bits1.5 (omega (arith, bits2.3)) rule2 s
      (second s (m + length b) e g at2) in
      let z : m + length b + length e + length g ≡ m + length (flag_bytes f) = omega (arith, length-append b (e ++ g), length-append e g) in
      rw (p1, p2, p3, same) (ap (λ (j : ℕ). got f j) z)
