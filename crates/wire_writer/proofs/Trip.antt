-- Reading what was written, item by item: a reader at position m, over bytes b that stand there, answers x and the position after b.
-- Assumes nothing.
use Rattle.std.specs.Prelude.{Option, Some, None, is_some, ℤ}
use mathlib.Core.Path.{◌≡◌, refl, ap, sym, ◌∙◌}
use mathlib.Core.Bool.{Bool, true, false, cond}
use mathlib.Core.List.{List, [], ◌∷◌, ◌++◌, append_assoc}
use Prim.Native.Nat.{ℕ, zero, suc, ◌+◌, ◌/◌, ◌%◌, ◌^◌, ◌≤◌, ◌<◌}
use native.Mathlib.Nat.{add-zero, pow-suc}
use native.Mathlib.Omega.{arith}
use lib.ListN.{length, get_or, length-append}
use lib.IntN.{ℤ, pos, negsuc}
use lib.Seq.{get_or-append_seam}
use lib.Dec.{leb}
use borrow.Author.Tests.{le-leb}
use Rattle.wire.specs.Number.{le, le_bytes, unsigned, InRange}
use Rattle.wire.specs.Answer.{got, Reader, item, signed_item, ruled, run, pure, ◌>>=◌}
use Rattle.wire.specs.Items.{guid, guid_bytes}
use Rattle.wire.specs.Optional.{optional16, optional32, optional_i64, picoseconds_read, picoseconds_at}
use Rattle.wire.specs.declared.Guid.{Guid}
use Rattle.wire.proofs.Numbers.{length_le_bytes, signed_unsigned}
use Rattle.wire_writer.specs.Writing.{picoseconds_rule, picoseconds_refusal, optional16_bytes, optional32_bytes, optional_i64_bytes}
use Rattle.wire_writer.specs.Fits.{Fits16, Fits32, FitsGuid, FitsI64}

-- the bytes b stand at position m of s
abbrev pub At : List ℕ → ℕ → List ℕ → Type 0
At s m b = (pre : List ℕ) × (rest : List ℕ) × (s ≡ pre ++ (b ++ rest)) × (length pre ≡ m)

-- wherever the bytes b stand at m, the reader answers x there, and the position after b
abbrev pub Reads : {A : Type 0} → Reader A → ℕ → List ℕ → A → Type 0
Reads r m b x = (s : List ℕ) → At s m b → r s m ≡ got x (m + length b)

-- two runs of bytes, one after the other
pub first : (s : List ℕ) (m : ℕ) (b c : List ℕ) → At s m (b ++ c) → At s m b
first s m b c h = (h.0, c ++ h.1, h.2 ∙ ap (λ (l : List ℕ). h.0 ++ l) (append_assoc b c h.1), h.3)

pub second : (s : List ℕ) (m : ℕ) (b c : List ℕ) → At s m (b ++ c) → At s (m + length b) c
second s m b c h = (
  h.0 ++ b,
  h.1,
  h.2 ∙ ap (λ (l : List ℕ). h.0 ++ l) (append_assoc b c h.1) ∙ sym (append_assoc h.0 b (c ++ h.1)),
  length-append h.0 b ∙ ap (λ (n : ℕ). n + length b) h.3,
)

-- where they stand, they fit
pub fits_at : (s : List ℕ) (m : ℕ) (b : List ℕ) → At s m b → m + length b ≤ length s
fits_at s m b h = omega (arith, ap length h.2, length-append h.0 (b ++ h.1), length-append b h.1, h.3)

-- one part, with a function of its value
pub last : {A B : Type 0} (r : Reader A) (h : A → B) (m : ℕ) (b : List ℕ) (x : A) → Reads r m b x → Reads (r >>= λ a. pure (h a)) m b (h x)
last r h m b x f s a = rw (f s a)

pub nothing : {A : Type 0} (x : A) (m : ℕ) → Reads (pure x) m [] x
nothing x m s a = rw add-zero

pub rule_kept : (w : ℕ) (rule : ℕ → ℕ) (m : ℕ) (b : List ℕ) (v : ℕ) → rule v ≡ 0 → Reads (item w) m b v → Reads (ruled w rule) m b v
rule_kept w rule m b v h f s a = rw (f s a, h)

-- a run of n bytes
pub run_is : (n m : ℕ) (b : List ℕ) → length b ≡ n → Reads (run n) m b n
run_is n m b h s a =
    let k : m + n ≤ length s = omega (arith, fits_at s m b a) in
    rw (le-leb (m + n) (length s) k) (ap (λ (j : ℕ). got n (m + j)) (sym h))

-- a number of w bytes
le_is : (w v : ℕ) (pre rest : List ℕ) → v < 256 ^ w → le w (pre ++ (le_bytes w v ++ rest)) (length pre) ≡ v
le_is zero v pre rest h = omega arith
le_is (suc w) v pre rest h =
    let b = v % 256 in
    let tail = le_bytes w (v / 256) ++ rest in
    let s : (pre ++ (b ∷ [])) ++ tail ≡ pre ++ (b ∷ tail) = append_assoc pre (b ∷ []) tail in
    let l : length (pre ++ (b ∷ [])) ≡ length pre + 1 = length-append pre (b ∷ []) in
    let k : v / 256 < 256 ^ w = omega (arith, pow-suc 256 w) in
    let q : le w (pre ++ (b ∷ tail)) (length pre + 1) ≡ v / 256 = rw (s, l) at (le_is w (v / 256) (pre ++ (b ∷ [])) rest k) in
    let g : get_or (pre ++ (b ∷ tail)) (length pre) 0 ≡ b = get_or-append_seam pre b tail 0 in
    rw (g, q) (omega arith)

pub le_at : (w v m : ℕ) → v < 256 ^ w → (s : List ℕ) → At s m (le_bytes w v) → le w s m ≡ v
le_at w v m h s a = rw (a.2, sym a.3) (le_is w v a.0 a.1 h)

fits_number : (w v m : ℕ) (s : List ℕ) → At s m (le_bytes w v) → m + w ≤ length s
fits_number w v m s a = omega (arith, fits_at s m (le_bytes w v) a, length_le_bytes w v)

pub item_is : (w v m : ℕ) → v < 256 ^ w → Reads (item w) m (le_bytes w v) v
item_is w v m h s a =
    rw (le-leb (m + w) (length s) (fits_number w v m s a), le_at w v m h s a) (ap (λ (j : ℕ). got v (m + j)) (sym (length_le_bytes w v)))

pub ruled_is : (w : ℕ) (rule : ℕ → ℕ) (v m : ℕ) → v < 256 ^ w → rule v ≡ 0 → Reads (ruled w rule) m (le_bytes w v) v
ruled_is w rule v m h e = rule_kept w rule m (le_bytes w v) v e (item_is w v m h)

-- a signed number of 8 bytes
unsigned_fits : (z : ℤ) → InRange 8 z → unsigned 8 z < 256 ^ 8
unsigned_fits (pos n) h = omega arith
unsigned_fits (negsuc n) h = omega arith

signed_item_is : (z : ℤ) (m : ℕ) → InRange 8 z → Reads (signed_item 8) m (le_bytes 8 (unsigned 8 z)) z
signed_item_is z m h s a =
    rw (le-leb (m + 8) (length s) (fits_number 8 (unsigned 8 z) m s a), le_at 8 (unsigned 8 z) m (unsigned_fits z h) s a, signed_unsigned 8 z (omega arith) h)

-- an item of 16 bytes
pub guid_is : (g : Guid) (m : ℕ) → FitsGuid g → Reads guid m (guid_bytes g) g
guid_is g m f s a =
    let x = le_bytes 8 g.low in
    let y = le_bytes 8 g.high in
    let z : length (x ++ y) ≡ 16 = length-append x y in
    let k : m + 16 ≤ length s = omega (arith, fits_at s m (x ++ y) a) in
    rw (le-leb (m + 16) (length s) k, le_at 8 g.low m f.0 s (first s m x y a), le_at 8 g.high (m + 8) f.1 s (second s m x y a))

-- items that a flag announces; each number fits its type, as a value of the code does

pub optional16_is : (x : Option ℕ) (m : ℕ) → Fits16 x → Reads (optional16 (is_some x)) m (optional16_bytes x) x
optional16_is None m f = nothing None m
optional16_is (Some v) m f = last (item 2) Some m (le_bytes 2 v) v (item_is 2 v m f)

pub optional32_is : (x : Option ℕ) (m : ℕ) → Fits32 x → Reads (optional32 (is_some x)) m (optional32_bytes x) x
optional32_is None m f = nothing None m
optional32_is (Some v) m f = last (item 4) Some m (le_bytes 4 v) v (item_is 4 v m f)

pub optional_i64_is : (x : Option ℤ) (m : ℕ) → FitsI64 x → Reads (optional_i64 (is_some x)) m (optional_i64_bytes x) x
optional_i64_is None m f = nothing None m
optional_i64_is (Some z) m f = last (signed_item 8) Some m (le_bytes 8 (unsigned 8 z)) z (signed_item_is z m f)

-- picoseconds that the writers do not refuse read as they are
read_same : (v : ℕ) → picoseconds_rule v ≡ 0 → picoseconds_read v ≡ v
read_same v h = go (leb 10000 v) h
  where
    go : (b : Bool) → ◌≡◌ {A = ℕ} (cond b 3 0) 0 → cond b 9999 v ≡ v
    go true h = absurd (omega arith)
    go false h = refl

pub picoseconds_is : (x : Option ℕ) (m : ℕ) → Fits16 x → picoseconds_refusal x ≡ 0 → Reads (picoseconds_at (is_some x)) m (optional16_bytes x) x
picoseconds_is None m f h s a = nothing None m s a
picoseconds_is (Some v) m f h s a =
    last (item 2) (λ w. Some (picoseconds_read w)) m (le_bytes 2 v) v (item_is 2 v m f) s a ∙ ap (λ (w : ℕ). got (Some w) (m + length (le_bytes 2 v))) (read_same v h)
