-- The flag bytes: what was read is what stands there.
-- Assumes nothing.
use mathlib.Core.Path.{◌≡◌, refl, sym, subst}
use mathlib.Core.List.{List, ◌++◌}
use mathlib.Core.Bool.{Bool, true, false, ◌&&◌}
use Prim.Native.Nat.{ℕ, ◌+◌, ◌*◌, ◌/◌, ◌%◌, ◌≤◌, ◌<◌}
use native.Mathlib.Omega.{arith}
use lib.ListN.{length}
use lib.Dec.{eqb, leb, ltb, eqb→eq, ltb→lt}
use borrow.Author.Tests.{eqb-true, eqb-false, leb-false, ne_eqb}
use Rattle.wire.specs.Number.{le_bytes}
use Rattle.wire.specs.Answer.{got, ruled, when_on, bit}
use Rattle.wire.proofs.Table.{below}
use Rattle.wire.proofs.Reading.{got_value, got_next, invert}
use Rattle.network_header.specs.declared.flags.Flags.{Flags}
use Rattle.network_header.specs.Flags.{byte0_rule, extended1_rule, extended2_rule, flags_of, flags_at, extended2_of, extended1_of, byte0_of, flag_bytes, probe_rule, probe_refusal}
use Rattle.wire_writer.specs.Writing.{needed, byte_bytes}
use Rattle.wire_writer.proofs.Refusals.{passed, held}
use Rattle.wire_writer.proofs.Bits.{num_bit}
use Rattle.wire_writer.proofs.Back.{Back, empty, join, end_fits, item_back, ruled_back, map_back}
use Rattle.wire_writer.specs.Fits.{Bytes}

-- a byte is the sum of its bits
byte_sum : (b : ℕ) → b < 256 → b % 16 + (16 * (b / 16 % 2) + (32 * (b / 32 % 2) + (64 * (b / 64 % 2) + 128 * (b / 128)))) ≡ b
byte_sum b h = eqb→eq _ _ (below (λ b. eqb (b % 16 + (16 * (b / 16 % 2) + (32 * (b / 32 % 2) + (64 * (b / 64 % 2) + 128 * (b / 128))))) b) 256 tt b h)

extended_sum : (e : ℕ) → e < 256 → e / 16 % 2 ≡ 0 → e % 8 + (8 * (e / 8 % 2) + (32 * (e / 32 % 2) + (64 * (e / 64 % 2) + 128 * (e / 128)))) ≡ e
extended_sum e h z =
    let q : e % 8 + (8 * (e / 8 % 2) + (16 * (e / 16 % 2) + (32 * (e / 32 % 2) + (64 * (e / 64 % 2) + 128 * (e / 128))))) ≡ e =
    eqb→eq _ _ (below (λ e. eqb (e % 8 + (8 * (e / 8 % 2) + (16 * (e / 16 % 2) + (32 * (e / 32 % 2) + (64 * (e / 64 % 2) + 128 * (e / 128)))))) e) 256 tt e h) in
    omega arith

-- an extended byte: read where its flag is on, and then not 0
byte_back : (rule : ℕ → ℕ) (d : ℕ) (s : List ℕ) (at e next : ℕ) → Bytes s → at ≤ length s → d < 2 → ((v : ℕ) → rule v ≡ 0 → eqb v 0 ≡ false)
    → when_on (eqb d 1) 0 (ruled 1 rule) s at ≡ got e next → Back s at (byte_bytes e) next × (needed e ≡ d) × (e < 256) × (eqb e 0 ≡ false → rule e ≡ 0)
byte_back rule d s at e next b l hd hr h = go (eqb d 1) refl h
  where
    go : (t : Bool) → eqb d 1 ≡ t → when_on t 0 (ruled 1 rule) s at ≡ got e next → Back s at (byte_bytes e) next × (needed e ≡ d) × (e < 256) × (eqb e 0 ≡ false → rule e ≡ 0)
    go true q k =
        let r = ruled_back 1 rule s at e next k in
        let i = item_back 1 s at e next b r.0 in
        rw (hr e r.1) (i.0, sym (eqb-true d 1 q), i.1, λ _. r.1)
    go false q k =
        let z : d ≡ 1 → ⊥ = eqb-false d 1 q in
        let n : d ≡ 0 = omega arith in
        rw (sym (got_value k), sym (got_next k), n) (empty s at l, refl, omega arith, λ c. absurd (no c))
      where
        no : true ≡ false → ⊥
        no c = let y : ◌≡◌ {A = ℕ} 0 1 = cc in omega arith

both_false : (a b : Bool) → (a && b) ≡ false → a ≡ true → b ≡ false
both_false true b e h = e
both_false false b e h = absurd (no h)
  where
    no : false ≡ true → ⊥
    no c = let y : ◌≡◌ {A = ℕ} 0 1 = cc in omega arith

not_zero1 : (p : Bool) (v : ℕ) → extended1_rule p v ≡ 0 → eqb v 0 ≡ false
not_zero1 p v h = (passed (eqb v 0) 2 _ h).0

not_zero2 : (p : Bool) (v : ℕ) → extended2_rule p v ≡ 0 → eqb v 0 ≡ false
not_zero2 p v h = (passed (eqb v 0) 2 _ h).0

facts1 : (p : Bool) (e : ℕ) → (eqb e 0 ≡ false → extended1_rule p e ≡ 0) → (e / 16 % 2 ≡ 0) × (p ≡ true → e % 8 < 5)
facts1 p e r = go (eqb e 0) refl
  where
    go : (t : Bool) → eqb e 0 ≡ t → (e / 16 % 2 ≡ 0) × (p ≡ true → e % 8 < 5)
    go true q =
        let z : e ≡ 0 = eqb-true e 0 q in
        (omega arith, λ _. omega arith)
    go false q =
        let a = passed (eqb e 0) 2 _ (r q) in
        let b = passed (p && leb 5 (e % 8)) 2 _ a.1 in
        let c = passed (bit 4 e) 3 _ b.1 in
        let n : e / 16 % 2 ≡ 1 → ⊥ = eqb-false (e / 16 % 2) 1 c.0 in
        (omega arith, λ h. leb-false 5 (e % 8) (both_false p (leb 5 (e % 8)) b.0 h))

facts2 : (p : Bool) (g : ℕ) → (eqb g 0 ≡ false → extended2_rule p g ≡ 0) → g < 8
facts2 p g r = go (eqb g 0) refl
  where
    go : (t : Bool) → eqb g 0 ≡ t → g < 8
    go true q =
        let z : g ≡ 0 = eqb-true g 0 q in
        omega arith
    go false q =
        let a = passed (eqb g 0) 2 _ (r q) in
        let b = passed (leb 32 g) 2 _ a.1 in
        let c = passed (leb 3 (g / 4 % 8)) 2 _ b.1 in
        let d = passed (eqb (g / 4 % 8) 2) 3 _ c.1 in
        let x : g < 32 = leb-false 32 g b.0 in
        let y : g / 4 % 8 < 3 = leb-false 3 (g / 4 % 8) c.0 in
        let z : g / 4 % 8 ≡ 2 → ⊥ = eqb-false (g / 4 % 8) 2 d.0 in
        omega arith

-- a probe is no chunk, has no promoted fields, and no PayloadHeader
facts3 : (p : Bool) (g : ℕ) → (eqb g 0 ≡ false → extended2_rule p g ≡ 0)
    → (probe_refusal (eqb (g / 4 % 8) 1) (eqb (g % 2) 1) (eqb (g / 2 % 2) 1) ≡ 0) × (eqb (g / 4 % 8) 1 ≡ true → p ≡ false)
facts3 p g r = go (eqb (g / 4 % 8) 1) refl
  where
    go : (t : Bool) → eqb (g / 4 % 8) 1 ≡ t → (probe_refusal t (eqb (g % 2) 1) (eqb (g / 2 % 2) 1) ≡ 0) × (t ≡ true → p ≡ false)
    go true e =
        let k : g / 4 % 8 ≡ 1 = eqb-true (g / 4 % 8) 1 e in
        let n : g ≡ 0 → ⊥ = λ z. omega arith in
        let a = passed (eqb g 0) 2 _ (r (ne_eqb g 0 n)) in
        let b = passed (leb 32 g) 2 _ a.1 in
        let c = passed (leb 3 (g / 4 % 8)) 2 _ b.1 in
        let d = passed (eqb (g / 4 % 8) 2) 3 _ c.1 in
        let q : probe_rule p g ≡ 0 = rw e at d.1 in
        let x = passed (eqb (g % 2) 1) 3 _ q in
        let y = passed p 2 _ x.1 in
        let z = passed (eqb (g / 2 % 2) 1) 2 _ y.1 in
        (rw (x.0, z.0), λ _. y.0)
    go false e = (refl, λ c. absurd (no c))
      where
        no : false ≡ true → ⊥
        no c = let y : ◌≡◌ {A = ℕ} 0 1 = cc in omega arith

-- of ExtendedFlags2 below 8
second_sum : (g : ℕ) → g < 8 → g % 2 + (2 * (g / 2 % 2) + 4 * (g / 4 % 8)) ≡ g
second_sum g h = eqb→eq _ _ (below (λ g. eqb (g % 2 + (2 * (g / 2 % 2) + 4 * (g / 4 % 8))) g) 8 tt g h)

second_type : (g : ℕ) → g < 8 → g / 4 % 8 < 2
second_type g h = ltb→lt (g / 4 % 8) 2 (below (λ g. ltb (g / 4 % 8) 2) 8 tt g h)

module _ (b e g : ℕ) (hb : b < 256) (he : e < 256) (hg : g < 8) (vb : b % 16 ≡ 1) (ve : e / 16 % 2 ≡ 0) (nb : needed e ≡ b / 128) (ne : needed g ≡ e / 128) where
  second_is : extended2_of (flags_of b e g) ≡ g
  second_is = rw (num_bit (g % 2) (omega arith), num_bit (g / 2 % 2) (omega arith), num_bit (g / 4 % 8) (second_type g hg)) (second_sum g hg)

  first_is : extended1_of (flags_of b e g) ≡ e
  first_is = rw (second_is, ne, num_bit (e / 8 % 2) (omega arith), num_bit (e / 32 % 2) (omega arith), num_bit (e / 64 % 2) (omega arith)) (extended_sum e he ve)

  byte_is : byte0_of (flags_of b e g) ≡ b
  byte_is =
      let q = byte_sum b hb in
      rw (first_is, nb, num_bit (b / 16 % 2) (omega arith), num_bit (b / 32 % 2) (omega arith), num_bit (b / 64 % 2) (omega arith)) (omega arith)

  bytes_are : flag_bytes (flags_of b e g) ≡ le_bytes 1 b ++ (byte_bytes e ++ byte_bytes g)
  bytes_are = rw (byte_is, first_is, second_is)

-- what the flags that were read say
pub record FlagsKept (f : Flags) : Type 0 where
  pub kind : f.publisher ≡ true → f.kind < 5
  pub probe : probe_refusal f.probe f.chunk f.promoted ≡ 0
  pub header : f.probe ≡ true → f.payload_header ≡ false

pub flags_back : (s : List ℕ) (at : ℕ) (f : Flags) (next : ℕ) → Bytes s → flags_at s at ≡ got f next → Back s at (flag_bytes f) next × FlagsKept f
flags_back s at f next y h =
    let B = invert (ruled 1 byte0_rule s at) (λ b n. _) h in
    let E = invert (when_on (eqb (B.0 / 128) 1) 0 (ruled 1 (extended1_rule (bit 4 B.0))) s B.1) (λ e n. _) B.3 in
    let G = map_back (when_on (eqb (E.0 / 128) 1) 0 (ruled 1 (extended2_rule (bit 6 B.0)))) (λ g. flags_of B.0 E.0 g) s E.1 f next E.3 in
    let rb = ruled_back 1 byte0_rule s at B.0 B.1 B.2 in
    let ib = item_back 1 s at B.0 B.1 y rb.0 in
    let vb : B.0 % 16 ≡ 1 = eqb-true (B.0 % 16) 1 (held (eqb (B.0 % 16) 1) 1 rb.1) in
    let hb : B.0 < 256 = ib.1 in
    let db : B.0 / 128 < 2 = omega arith in
    let be = byte_back (extended1_rule (bit 4 B.0)) (B.0 / 128) s B.1 E.0 E.1 y (end_fits s at (le_bytes 1 B.0) B.1 ib.0) db (not_zero1 (bit 4 B.0)) E.2 in
    let he : E.0 < 256 = be.2 in
    let de : E.0 / 128 < 2 = omega arith in
    let bg = byte_back (extended2_rule (bit 6 B.0)) (E.0 / 128) s E.1 G.0 next y (end_fits s B.1 (byte_bytes E.0) E.1 be.0) de (not_zero2 (bit 6 B.0)) G.1 in
    let f1 = facts1 (bit 4 B.0) E.0 be.3 in
    let hg = facts2 (bit 6 B.0) G.0 bg.3 in
    let f3 = facts3 (bit 6 B.0) G.0 bg.3 in
    let j = join s at (le_bytes 1 B.0) B.1 (byte_bytes E.0 ++ byte_bytes G.0) next ib.0 (join s B.1 (byte_bytes E.0) E.1 (byte_bytes G.0) next be.0 bg.0) in
    let z = bytes_are B.0 E.0 G.0 hb he hg vb f1.0 be.1 bg.1 in
    subst (λ (x : Flags). Back s at (flag_bytes x) next × FlagsKept x) G.2
    (subst (λ (l : List ℕ). Back s at l next) (sym z) j, record { kind = f1.1; probe = f3.0; header = f3.1 })
