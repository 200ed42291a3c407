-- What the front of a message already decides of its header, whatever bytes come after it.
-- Assumes nothing.
use Rattle.std.specs.Prelude.{Some, None}
use mathlib.Core.Path.{◌≡◌, refl}
use mathlib.Core.Bool.{Bool, true, false, cond, not, ◌&&◌}
use mathlib.Core.List.{List, ◌++◌}
use Prim.Native.Nat.{ℕ, ◌%◌, ◌≤◌}
use native.Mathlib.Omega.{arith}
use borrow.Author.Tests.{eqb-false}
use lib.Dec.{eqb, leb, ltb}
use Rattle.wire.specs.Answer.{got, refused, Reader, bits}
use Rattle.wire.specs.Optional.{optional16, optional32, optional_i64, picoseconds_read, picoseconds_at}
use Rattle.wire.proofs.Steady.{Steady, steadily, refusing, cond_onward, onward_steady, Fair, fair, fair_cond, two_of_fair, pure_steady, item_steady, signed_item_steady, ruled_steady, bind_steady, when_steady}
use Rattle.wire.proofs.Places.{append, append_refused}
use Rattle.dataset_header.specs.declared.flags.Flags.{Flags}
use Rattle.dataset_header.specs.declared.header.Header.{Header}
use Rattle.dataset_header.specs.Flags.{Valid, not_valid, valid, flags1_rule, flags2_rule, flags2_at, message_flags_of, message_flags_at}
use Rattle.dataset_header.specs.Header.{message_times_at, versions_at, header_of, after_flags, message_header_at}

-- no rule of the flags refuses by 1

flags1_fair : (b : ℕ) → Fair (flags1_rule b)
flags1_fair b = fair_cond (eqb (bits 1 2 b) 3) (fair 3 refl) (fair 0 refl)

flags2_fair : (b f : ℕ) → Fair (flags2_rule b f)
flags2_fair b f =
    fair_cond (eqb f 0) (fair 3 refl)
    (fair_cond (leb 4 (bits 0 4 f)) (fair 3 refl)
    (fair_cond (leb 64 f) (fair 3 refl)
    (fair_cond (eqb (bits 0 4 f) 2 && not (eqb (bits 1 2 b) 0)) (fair 3 refl)
    (fair_cond (eqb (bits 0 4 f) 1 && eqb (bits 1 2 b) 1) (fair 4 refl) (fair 0 refl)))))

flags2_steady : (b : ℕ) → Steady (flags2_at b)
flags2_steady b = either (ltb b 128) (pure_steady 0) (ruled_steady 1 (flags2_rule b) (flags2_fair b))
  where
    either : (c : Bool) {x y : Reader ℕ} → Steady x → Steady y → Steady (λ s at. cond c (x s at) (y s at))
    either true f h = f
    either false f h = h

flags_steady : Steady message_flags_at
flags_steady =
    onward_steady (item_steady 1)
    (λ b. cond_onward (eqb (b % 2) 0) (λ e. steadily (pure_steady not_valid))
    (λ e. cond_onward (eqb (flags1_rule b) 0) (λ e. steadily (bind_steady (flags2_steady b) (λ f. pure_steady (valid (message_flags_of b f)))))
    (λ e. refusing (flags1_rule b) (two_of_fair (flags1_rule b) (positive (flags1_rule b) (eqb-false (flags1_rule b) 0 e)) (flags1_fair b)))))
  where
    positive : (n : ℕ) → (n ≡ 0 → ⊥) → 1 ≤ n
    positive n h = omega arith

optional16_steady : (on : Bool) → Steady (optional16 on)
optional16_steady on = when_steady on None (bind_steady (item_steady 2) (λ v. pure_steady (Some v)))

optional32_steady : (on : Bool) → Steady (optional32 on)
optional32_steady on = when_steady on None (bind_steady (item_steady 4) (λ v. pure_steady (Some v)))

timestamp_steady : (on : Bool) → Steady (optional_i64 on)
timestamp_steady on = when_steady on None (bind_steady (signed_item_steady 8) (λ v. pure_steady (Some v)))

picoseconds_steady : (on : Bool) → Steady (picoseconds_at on)
picoseconds_steady on = when_steady on None (bind_steady (item_steady 2) (λ v. pure_steady (Some (picoseconds_read v))))

times_steady : (f : Flags) → Steady (message_times_at f)
times_steady f =
    bind_steady (optional16_steady f.sequence)
    (λ q. bind_steady (timestamp_steady f.timestamp)
    (λ t. bind_steady (picoseconds_steady f.picoseconds) (λ p. pure_steady (record { sequence = q; timestamp = t; picoseconds = p }))))

versions_steady : (f : Flags) → Steady (versions_at f)
versions_steady f =
    bind_steady (optional16_steady f.status)
    (λ u. bind_steady (optional32_steady f.major)
    (λ a. bind_steady (optional32_steady f.minor) (λ i. pure_steady (record { status = u; major = a; minor = i }))))

after_flags_steady : (v : Valid Flags) → Steady (after_flags v)
after_flags_steady not_valid = pure_steady not_valid
after_flags_steady (valid f) = bind_steady (times_steady f) (λ t. bind_steady (versions_steady f) (λ v. pure_steady (valid (header_of f t v))))

pub header_steady : Steady message_header_at
header_steady = bind_steady flags_steady after_flags_steady

-- A header that is accepted in the front is the message's header; a refusal other than 1 is the message's refusal.
pub header_front : (front rest : List ℕ) {h : Valid Header} {at : ℕ} → message_header_at front 0 ≡ got h at → message_header_at (front ++ rest) 0 ≡ got h at
header_front front rest q = append header_steady front rest 0 q

pub header_front_refused : (front rest : List ℕ) {n place : ℕ} → message_header_at front 0 ≡ refused n place → (n ≡ 1 → ⊥) → message_header_at (front ++ rest) 0 ≡ refused n place
header_front_refused front rest q h = append_refused header_steady front rest 0 q h
