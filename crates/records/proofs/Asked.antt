-- Laws of what is asked of a configuration record.
-- Assumes nothing.
use Prim.Native.Nat.{ℕ, zero, suc, ◌+◌, ◌-◌, ◌≤◌, ◌<◌}
use mathlib.Core.Path.{◌≡◌, refl, ap, sym, ◌∙◌}
use mathlib.Core.Bool.{true, false}
use mathlib.Core.List.{List, ◌∷◌}
use native.Mathlib.Omega.{arith}
use borrow.Author.Tests.{lt-ltb, le-ltb, eq-eqb, ne_eqb}
use lib.Dec.{ltb}
use lib.ListN.{length, take, drop}
use Rattle.wire.specs.Number.{le}
use Rattle.text.specs.Words.{contains, index_of}
use Rattle.config.specs.Writers.{fields_of}
use Rattle.config.proofs.Asked.{place_contains}
use Rattle.network_message.specs.Payload.{listed}
use Rattle.records.specs.Writers.{writers_in, sixteen, ids_in, starts_in, types_in, types_for}
use Rattle.network_message.proofs.Accepted.{length_listed}

take_listed : (n m : ℕ) (s : List ℕ) (at : ℕ) → n ≤ m → take n (listed m s at) ≡ listed n s at
take_listed zero m s at h = refl
take_listed (suc n) zero s at h = absurd (omega arith)
take_listed (suc n) (suc m) s at h = ap (λ (x : List ℕ). le 2 s at ∷ x) (take_listed n m s (at + 2) (omega arith))

-- a number is searched among those left: all are left, it is the first of them, it is not, none is left
pub find_start : (n : ℕ) (s : List ℕ) (p b : ℕ) → 0 + index_of b (listed (n - 0) s p) ≡ index_of b (listed n s p)
find_start n s p b =
    let e : n - 0 ≡ n = omega arith in
    let z : index_of b (listed (n - 0) s p) ≡ index_of b (listed n s p) = ap (λ (k : ℕ). index_of b (listed k s p)) e in
    omega arith

pub find_here : (n m : ℕ) (s : List ℕ) (p k r v b : ℕ) → n ≡ suc m → v ≡ le 2 s p → k + index_of b (listed n s p) ≡ r → v ≡ b → k ≡ r
find_here n m s p k r v b h e w q =
    let z : index_of b (listed n s p) ≡ 0 = rw (h, eq-eqb (le 2 s p) b (sym e ∙ q)) in
    omega arith

pub find_next : (n m : ℕ) (s : List ℕ) (p k r v b : ℕ) → n ≡ suc m → v ≡ le 2 s p → k + index_of b (listed n s p) ≡ r → (v ≡ b → ⊥)
    → k + 1 + index_of b (listed m s (p + 2)) ≡ r
find_next n m s p k r v b h e w q =
    let z : index_of b (listed n s p) ≡ suc (index_of b (listed m s (p + 2))) = rw (h, ne_eqb (le 2 s p) b (λ (x : le 2 s p ≡ b). q (e ∙ x))) in
    omega arith

pub find_end : (n : ℕ) (s : List ℕ) (p k r b : ℕ) → n ≡ 0 → k + index_of b (listed n s p) ≡ r → k ≡ r
find_end n s p k r b h w =
    let z : index_of b (listed n s p) ≡ 0 = rw h in
    omega arith

-- the writers' ids, where the record is as long as its layout
ids_listed : (c : List ℕ) (n : ℕ) → 146 ≤ length c → n ≡ writers_in c → n ≤ 16 → listed n c 2 ≡ ids_in c
ids_listed c n h a m =
    let l : listed 16 c 2 ≡ sixteen 2 c = rw (le-ltb (length c) 146 h) refl in
    sym (take_listed n 16 c 2 m) ∙ ap (λ (x : ℕ). take x (listed 16 c 2)) a ∙ ap (λ (x : List ℕ). take (writers_in c) x) l

-- the field types of a writer: for an id above 65,535, under a record shorter than its layout, for an id that no writer has, and for writer k
pub types_far : (c r : List ℕ) (w : ℕ) → 65535 < w → r ≡ take 0 (drop 0 c) → r ≡ types_for c w
types_far c r w h q = rw (lt-ltb 65535 w h) q

pub types_short : (c r : List ℕ) (w : ℕ) → w ≤ 65535 → length c < 146 → r ≡ take 0 (drop 0 c) → r ≡ types_for c w
types_short c r w h s q = rw (le-ltb 65535 w h, lt-ltb (length c) 146 s) q

pub types_none : (c r : List ℕ) (w n k : ℕ) → w ≤ 65535 → 146 ≤ length c → (n ≡ writers_in c) × (n ≤ 16) → k ≡ index_of w (listed n c 2) → n ≤ k
    → r ≡ take 0 (drop 0 c) → r ≡ types_for c w
types_none c r w n k h s a p o q =
    let i : listed n c 2 ≡ ids_in c = ids_listed c n s a.0 a.1 in
    let e : ltb (index_of w (listed n c 2)) (length (listed n c 2)) ≡ false =
    le-ltb (index_of w (listed n c 2)) (length (listed n c 2)) (omega (arith, length_listed n c 2)) in
    let m : contains w (ids_in c) ≡ false = ap (λ (x : List ℕ). contains w x) (sym i) ∙ sym (place_contains w (listed n c 2)) ∙ e in
    rw (le-ltb 65535 w h, m) q

pub types_some : (c r st ty : List ℕ) (w n k : ℕ) → w ≤ 65535 → 146 ≤ length c → (n ≡ writers_in c) × (n ≤ 16) → k ≡ index_of w (listed n c 2) → k < n
    → st ≡ starts_in c → ty ≡ types_in c → r ≡ fields_of st ty k → r ≡ types_for c w
types_some c r st ty w n k h s a p o x y q =
    let i : listed n c 2 ≡ ids_in c = ids_listed c n s a.0 a.1 in
    let e : ltb (index_of w (listed n c 2)) (length (listed n c 2)) ≡ true =
    lt-ltb (index_of w (listed n c 2)) (length (listed n c 2)) (omega (arith, length_listed n c 2)) in
    let m : contains w (ids_in c) ≡ true = ap (λ (x : List ℕ). contains w x) (sym i) ∙ sym (place_contains w (listed n c 2)) ∙ e in
    let z : r ≡ fields_of (starts_in c) (types_in c) (index_of w (ids_in c)) =
    q ∙ ap (λ (x : List ℕ). fields_of x ty k) x ∙ ap (λ (x : List ℕ). fields_of (starts_in c) x k) y
    ∙ ap (λ (x : ℕ). fields_of (starts_in c) (types_in c) x) (p ∙ ap (λ (x : List ℕ). index_of w x) i) in
    rw (le-ltb 65535 w h, m) z
