-- The first exception, said of the flags that were read, is what it is said of the bytes.
-- Assumes nothing.
use Prim.Native.Nat.{ℕ, ◌+◌, ◌*◌, ◌-◌, ◌/◌, ◌%◌, ◌<◌, ◌≤◌}
use mathlib.Core.Path.{◌≡◌, refl, ap, sym, subst, ◌∙◌}
use mathlib.Core.Bool.{Bool, true, false, cond, not, ◌&&◌}
use mathlib.Core.List.{List, [], ◌∷◌, ◌++◌}
use mathlib.Core.Logic.{◌⊎◌, inl, inr}
use native.Mathlib.Nat.{zero-add}
use native.Mathlib.Omega.{arith}
use borrow.Author.Tests.{eqb-true, eqb-false, ne_eqb, eq-eqb}
use lib.Dec.{eqb}
use lib.ListN.{length}
use Rattle.wire.specs.Number.{le_bytes}
use Rattle.wire.specs.Answer.{got, ruled, when_on, bit}
use Rattle.wire.proofs.Reading.{invert}
use Rattle.wire.proofs.Cases.{by_bool}
use Rattle.network_header.specs.declared.flags.Flags.{Flags}
use Rattle.network_header.specs.Flags.{flags_at, flags_of, byte0_rule, extended1_rule, extended2_rule, extended1_of, extended2_of, byte0_of, flag_bytes}
use Rattle.wire_writer.specs.Writing.{num, needed, byte_bytes}
use Rattle.wire_writer.proofs.Back.{map_back}
use Rattle.wire_writer.proofs.Bits.{num_bound, needed_bound}
use Rattle.round_trip.specs.NetworkMessage.{type_cleared}

-- the flags as they are written again
abbrev pub rewritten_flags : Flags → Flags
rewritten_flags f =
    record {
      publisher = f.publisher;
      group = f.group;
      payload_header = f.payload_header;
      kind = cond f.publisher f.kind 0;
      class_id = f.class_id;
      timestamp = f.timestamp;
      picoseconds = f.picoseconds;
      chunk = f.chunk;
      promoted = f.promoted;
      probe = f.probe;
    }

-- where ExtendedFlags1 is absent, or PublisherId on, nothing changes
pub keeps : (b : ℕ) (t : List ℕ) → (bit 7 b ≡ false) ⊎ (bit 4 b ≡ true) → type_cleared (b ∷ t) ≡ b ∷ t
keeps b [] h = refl
keeps b (e ∷ t) (inl h) = rw h
keeps b (e ∷ t) (inr h) = rw h (and_false (bit 7 b))
  where
    and_false : (x : Bool) → cond (x && false) (cond (eqb (e / 8) 0) ((b - 128) ∷ t) (b ∷ (8 * (e / 8)) ∷ t)) (b ∷ e ∷ t) ≡ b ∷ e ∷ t
    and_false true = refl
    and_false false = refl

-- The flag bytes as numbers: c is byte 0 without its bit 7, the type bits and K what else ExtendedFlags1 holds; x stands for ExtendedFlags2.
abbrev front : ℕ → ℕ → List ℕ → List ℕ
front c e x = le_bytes 1 (c + 128 * needed e) ++ (byte_bytes e ++ x)

module _ (c kind K : ℕ) (x r : List ℕ) (small : c < 128) (hk : kind < 8) (hK : K < 256) (whole : K % 8 ≡ 0) where
  -- with PublisherId on
  on : c / 16 % 2 ≡ 1 → front c (kind + K) x ++ r ≡ type_cleared (front c (kind + K) x ++ r)
  on h =
      sym (keeps ((c + 128 * needed (kind + K)) % 256) (byte_bytes (kind + K) ++ x ++ r)
      (inr (eq-eqb ((c + 128 * needed (kind + K)) % 256 / 16 % 2) 1 (by_bool _ (eqb (kind + K) 0) (λ b. rw b (omega arith)) (λ b. rw b (omega arith))))))

  -- with PublisherId off
  off : c / 16 % 2 ≡ 0 → front c K x ++ r ≡ type_cleared (front c (kind + K) x ++ r)
  off h = by_bool _ (eqb (kind + K) 0) none some
    where
      none : eqb (kind + K) 0 ≡ true → front c K x ++ r ≡ type_cleared (front c (kind + K) x ++ r)
      none b =
          let z : kind + K ≡ 0 = eqb-true (kind + K) 0 b in
          let y : K ≡ kind + K = omega arith in
          ap (λ (e : ℕ). front c e x ++ r) y
          ∙ sym (keeps ((c + 128 * needed (kind + K)) % 256) (byte_bytes (kind + K) ++ x ++ r) (inl (ne_eqb ((c + 128 * needed (kind + K)) % 256 / 128 % 2) 1 (rw b (λ q. omega arith)))))

      some : eqb (kind + K) 0 ≡ false → front c K x ++ r ≡ type_cleared (front c (kind + K) x ++ r)
      some b =
          let b7 : eqb ((c + 128 * 1) % 256 / 128 % 2) 1 ≡ true = eq-eqb ((c + 128 * 1) % 256 / 128 % 2) 1 (omega arith) in
          let b4 : eqb ((c + 128 * 1) % 256 / 16 % 2) 1 ≡ false = ne_eqb ((c + 128 * 1) % 256 / 16 % 2) 1 (λ q. omega arith) in
          rw (b, b7, b4)
          (by_bool _ (eqb ((kind + K) % 256 / 8) 0) left_out cleared)
        where
          rest : List ℕ
          rest = x ++ r

          now : ℕ
          now = (c + 128 * 1) % 256

          left_out : eqb ((kind + K) % 256 / 8) 0 ≡ true → front c K x ++ r
              ≡ cond (eqb ((kind + K) % 256 / 8) 0) ((now - 128) ∷ rest) (now ∷ (8 * ((kind + K) % 256 / 8)) ∷ rest)
          left_out t =
              let z : (kind + K) % 256 / 8 ≡ 0 = eqb-true ((kind + K) % 256 / 8) 0 t in
              let k : K ≡ 0 = omega arith in
              let n : (c + 128 * 0) % 256 ≡ now - 128 = omega arith in
              rw (t, eq-eqb K 0 k) (ap (λ (y : ℕ). y ∷ rest) n)

          cleared : eqb ((kind + K) % 256 / 8) 0 ≡ false → front c K x ++ r
              ≡ cond (eqb ((kind + K) % 256 / 8) 0) ((now - 128) ∷ rest) (now ∷ (8 * ((kind + K) % 256 / 8)) ∷ rest)
          cleared t =
              let z : (kind + K) % 256 / 8 ≡ 0 → ⊥ = eqb-false ((kind + K) % 256 / 8) 0 t in
              let k : K ≡ 0 → ⊥ = λ q. z (omega arith) in
              let n : K % 256 ≡ 8 * ((kind + K) % 256 / 8) = omega arith in
              rw (t, ne_eqb K 0 k) (ap (λ (y : ℕ). now ∷ y ∷ rest) n)

-- ---- the same of flags
abbrev byte0_front : Flags → ℕ
byte0_front f = 1 + (16 * num f.publisher + (32 * num f.group + 64 * num f.payload_header))

abbrev without_type : Flags → ℕ
without_type f = 8 * num f.class_id + (32 * num f.timestamp + (64 * num f.picoseconds + 128 * needed (extended2_of f)))

flags_are : (f : Flags) → flag_bytes f ≡ front (byte0_front f) (f.kind + without_type f) (byte_bytes (extended2_of f))
flags_are f =
    let z : byte0_of f ≡ byte0_front f + 128 * needed (f.kind + without_type f) = omega arith in
    ap (λ (b : ℕ). le_bytes 1 b ++ (byte_bytes (extended1_of f) ++ byte_bytes (extended2_of f))) z

flags_rewritten : (f : Flags) (r : List ℕ) → f.kind < 8 → flag_bytes (rewritten_flags f) ++ r ≡ type_cleared (flag_bytes f ++ r)
flags_rewritten f r h =
    let p = num_bound f.publisher in
    let g = num_bound f.group in
    let l = num_bound f.payload_header in
    let c = num_bound f.class_id in
    let t = num_bound f.timestamp in
    let o = num_bound f.picoseconds in
    let m = needed_bound (extended2_of f) in
    let x = byte_bytes (extended2_of f) in
    let w : without_type f < 256 = omega (arith, c, t, o, m) in
    let e : without_type f % 8 ≡ 0 = omega arith in
    let b : byte0_front f < 128 = omega (arith, p, g, l) in
    let first = ap (λ (y : List ℕ). y ++ r) (flags_are (rewritten_flags f)) in
    let last = ap (λ (y : List ℕ). type_cleared (y ++ r)) (sym (flags_are f)) in
    let typed : Bool → ℕ = λ t. cond t f.kind 0 + without_type f in
    by_bool _ f.publisher
    (λ q. let n : byte0_front f / 16 % 2 ≡ 1 = rw q (omega (arith, g, l)) in
    let z : typed f.publisher ≡ f.kind + without_type f = ap typed q in
    first ∙ ap (λ (y : ℕ). front (byte0_front f) y x ++ r) z ∙ on (byte0_front f) f.kind (without_type f) x r b h w e n ∙ last)
    (λ q. let n : byte0_front f / 16 % 2 ≡ 0 = rw q (omega (arith, g, l)) in
    let z : typed f.publisher ≡ without_type f = ap typed q ∙ zero-add (without_type f) in
    first ∙ ap (λ (y : ℕ). front (byte0_front f) y x ++ r) z ∙ off (byte0_front f) f.kind (without_type f) x r b h w e n ∙ last)

kind_small : (s : List ℕ) (f : Flags) (n : ℕ) → flags_at s 0 ≡ got f n → f.kind < 8
kind_small s f n h =
    let B = invert (ruled 1 byte0_rule s 0) (λ b k. _) h in
    let E = invert (when_on (eqb (B.0 / 128) 1) 0 (ruled 1 (extended1_rule (bit 4 B.0))) s B.1) (λ e k. _) B.3 in
    let G = map_back (when_on (eqb (E.0 / 128) 1) 0 (ruled 1 (extended2_rule (bit 6 B.0)))) (λ g. flags_of B.0 E.0 g) s E.1 f n E.3 in
    subst (λ (y : Flags). y.kind < 8) G.2 (omega arith)

-- flags that were read, and whatever follows them
pub flags_cleared : (s : List ℕ) (f : Flags) (n : ℕ) → flags_at s 0 ≡ got f n → (r : List ℕ) → flag_bytes (rewritten_flags f) ++ r ≡ type_cleared (flag_bytes f ++ r)
flags_cleared s f n h r = flags_rewritten f r (kind_small s f n h)

-- no bytes get longer
pub cleared_shorter : (s : List ℕ) → length (type_cleared s) ≤ length s
cleared_shorter [] = omega arith
cleared_shorter (b ∷ []) = omega arith
cleared_shorter (b ∷ e ∷ s) =
    by_bool _ (bit 7 b && not (bit 4 b))
    (λ t. by_bool _ (eqb (e / 8) 0) (λ u. rw (t, u) (omega arith)) (λ u. rw (t, u) (omega arith)))
    (λ t. rw t (omega arith))
