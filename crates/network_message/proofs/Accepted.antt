-- The messages of an accepted payload tile it exactly.
-- Assumes nothing.
use Prim.Native.Nat.{ℕ, zero, suc, ◌+◌, ◌*◌, ◌-◌, ◌≤◌, ◌<◌}
use mathlib.Core.Path.{◌≡◌, refl, ap, sym, ◌∙◌}
use mathlib.Core.Bool.{Bool, true, false, cond, ◌&&◌}
use mathlib.Core.List.{List, [], ◌∷◌}
use native.Mathlib.Nat.{not-suc-le-zero}
use native.Mathlib.Omega.{arith}
use lib.Dec.{leb, ltb, eqb}
use lib.ListN.{length, get_or}
use borrow.Author.Tests.{le-leb, leb-true, eqb-true, ltb-true}
use Rattle.wire.specs.Lists.{total}
use Rattle.network_message.specs.Payload.{all_positive, listed, messages_from, rest_only_at, listed_at, sized_at, configured_at, payload_at, value_or0, OfMessages}
use Rattle.network_header.specs.Numbers.{configured_sizes}
use Rattle.network_header.specs.declared.header.PayloadHeader.{PayloadHeader}
use Rattle.network_message.specs.declared.payload.Sizes.{Sizes}
use Rattle.network_message.specs.declared.payload.Payload.{Payload}
use Rattle.wire.specs.Number.{le}
use Rattle.wire.specs.Answer.{got, refused, item}
use Rattle.wire.proofs.Reading.{got_value, not_got}
use Rattle.wire.proofs.Facts.{and_left, and_right}
use Rattle.network_message.proofs.Messages.{Tiles}

-- the sizes of the messages of an accepted payload
abbrev pub Tiled : Payload → List ℕ → List ℕ → Type 0
Tiled p sizes s = (zs : List ℕ) × Tiles p sizes s zs

one_tiles : (sizes s : List ℕ) (at : ℕ) → at < length s → Tiled (messages_from 1 Sizes.Rest at) sizes s
one_tiles sizes s at h = ((length s - at) ∷ [], record { many = refl; whole = omega arith; some = byte; here = only })
  where
    byte : (k : ℕ) → k < 1 → 0 < get_or ((length s - at) ∷ []) k 0
    byte zero l = omega arith
    byte (suc k) l = absurd (omega arith)

    only : (k : ℕ) → k < 1 → length s - (at + total (lib.ListN.take k ((length s - at) ∷ []))) ≡ get_or ((length s - at) ∷ []) k 0
    only zero l = omega arith
    only (suc k) l = absurd (omega arith)

rest_tiles : (sizes s : List ℕ) (at : ℕ) (p : Payload) (n : ℕ) → rest_only_at s at ≡ got p n → Tiled p sizes s
rest_tiles sizes s at p n e = go (ltb at (length s)) refl e
  where
    go : (b : Bool) → ltb at (length s) ≡ b → cond b (got (messages_from 1 Sizes.Rest at) at) (refused 1 at) ≡ got p n → Tiled p sizes s
    go true t q = rw (sym (got_value q)) (one_tiles sizes s at (ltb-true at (length s) t))
    go false t q = absurd (not_got q)

pub length_listed : (n : ℕ) (s : List ℕ) (at : ℕ) → length (listed n s at) ≡ n
length_listed zero s at = refl
length_listed (suc n) s at = ap suc (length_listed n s (at + 2))

pub listed_at_lem : (n : ℕ) (s : List ℕ) (at k : ℕ) → k < n → get_or (listed n s at) k 0 ≡ le 2 s (at + 2 * k)
listed_at_lem zero s at k h = absurd (not-suc-le-zero h)
listed_at_lem (suc n) s at zero h = ap (λ (j : ℕ). le 2 s j) (omega arith)
listed_at_lem (suc n) s at (suc k) h =
    let e : at + 2 + 2 * k ≡ at + 2 * suc k = omega arith in
    listed_at_lem n s (at + 2) k (omega arith) ∙ ap (λ (j : ℕ). le 2 s j) e

-- each of the sizes is at least 1
pub positive_at : (zs : List ℕ) → all_positive zs ≡ true → (k : ℕ) → k < length zs → 0 < get_or zs k 0
positive_at [] e k h = absurd (not-suc-le-zero h)
positive_at (x ∷ zs) e zero h = ltb-true 0 x (and_left (ltb 0 x) (all_positive zs) e)
positive_at (x ∷ zs) e (suc k) h = positive_at zs (and_right (ltb 0 x) (all_positive zs) e) k (omega arith)

many_tiles : (sizes s : List ℕ) (n at : ℕ) → all_positive (listed n s at) ≡ true → at + 2 * n ≤ length s → at + 2 * n + total (listed n s at) ≡ length s
    → Tiled (messages_from n (Sizes.Listed at) (at + 2 * n)) sizes s
many_tiles sizes s n at o f w = (listed n s at, record { many = length_listed n s at; whole = w; some = positive_at (listed n s at) o; here = each })
  where
    each : (k : ℕ) → k < length (listed n s at) → value_or0 (item 2 s (at + 2 * k)) ≡ get_or (listed n s at) k 0
    each k h =
        let l : k < n = omega (arith, length_listed n s at) in
        let r : at + 2 * k + 2 ≤ length s = omega arith in
        rw (le-leb (at + 2 * k + 2) (length s) r) (sym (listed_at_lem n s at k l))

listed_tiles : (sizes s : List ℕ) (n at : ℕ) (p : Payload) (m : ℕ) → listed_at n s at ≡ got p m → Tiled p sizes s
listed_tiles sizes s n at p m e = go (leb (at + 2 * n) (length s)) (all_positive (listed n s at) && eqb (at + 2 * n + total (listed n s at)) (length s)) refl refl e
  where
    go : (a b : Bool) → leb (at + 2 * n) (length s) ≡ a → (all_positive (listed n s at) && eqb (at + 2 * n + total (listed n s at)) (length s)) ≡ b → listed_at n s at ≡ got p m → Tiled p sizes s
    go true true t u q =
        let q' : got (messages_from n (Sizes.Listed at) (at + 2 * n)) (at + 2 * n) ≡ got p m = rw (t, u) at q in
        rw (sym (got_value q')) (many_tiles sizes s n at (and_left (all_positive (listed n s at)) _ u) (leb-true (at + 2 * n) (length s) t)
        (eqb-true (at + 2 * n + total (listed n s at)) (length s) (and_right (all_positive (listed n s at)) _ u)))
    go true false t u q = absurd (not_got (rw (t, u) at q))
    go false b t u q = absurd (not_got (rw t at q))

sized_tiles : (sizes s : List ℕ) (at : ℕ) (p : Payload) (m : ℕ) → all_positive (configured_sizes sizes) ≡ true
    → sized_at (length (configured_sizes sizes)) (total (configured_sizes sizes)) s at ≡ got p m
    → Tiled p sizes s
sized_tiles sizes s at p m o e = go (eqb (at + total (configured_sizes sizes)) (length s)) refl e
  where
    go : (b : Bool) → eqb (at + total (configured_sizes sizes)) (length s) ≡ b
        → cond b (got (messages_from (length (configured_sizes sizes)) Sizes.Configured at) at) (refused 6 at) ≡ got p m → Tiled p sizes s
    go true t q =
        rw (sym (got_value q))
        (configured_sizes sizes, record { many = refl; whole = eqb-true (at + total (configured_sizes sizes)) (length s) t; some = positive_at (configured_sizes sizes) o; here = λ k h. refl })
    go false t q = absurd (not_got q)

configured_tiles : (sizes s : List ℕ) (at : ℕ) (p : Payload) (m : ℕ) → configured_at (configured_sizes sizes) s at ≡ got p m → Tiled p sizes s
configured_tiles sizes s at p m e = go (eqb (length (configured_sizes sizes)) 0) (all_positive (configured_sizes sizes)) (eqb (length (configured_sizes sizes)) 1) refl e
  where
    go : (a b c : Bool) → all_positive (configured_sizes sizes) ≡ b
        → cond a (refused 8 0) (cond b (sized_at (length (configured_sizes sizes)) (total (configured_sizes sizes)) s at) (cond c (rest_only_at s at) (refused 8 0))) ≡ got p m
        → Tiled p sizes s
    go true b c o q = absurd (not_got q)
    go false true c o q = sized_tiles sizes s at p m o q
    go false false true o q = rest_tiles sizes s at p m q
    go false false false o q = absurd (not_got q)

-- An accepted payload's messages tile it exactly: each starts where the one before it ends, the first at the payload's first
-- message byte, and the last ends where the datagram ends. (`Messages.tile` and `tiled` say what the walk then answers.)
pub payload_tiled : (header : PayloadHeader) → OfMessages header → (sizes s : List ℕ) (at : ℕ) (p : Payload) (n : ℕ) → payload_at false header sizes s at ≡ got p n → Tiled p sizes s
payload_tiled PayloadHeader.Absent o sizes s at p n e = configured_tiles sizes s at p n e
payload_tiled (PayloadHeader.Ids c) o sizes s at p n e = go (eqb c 0) (leb c 1) e
  where
    go : (a b : Bool) → cond a (refused 6 at) (cond b (rest_only_at s at) (listed_at c s at)) ≡ got p n → Tiled p sizes s
    go true b q = absurd (not_got q)
    go false true q = rest_tiles sizes s at p n q
    go false false q = listed_tiles sizes s c at p n q
payload_tiled (PayloadHeader.Chunk w) o sizes s at p n e = absurd o
payload_tiled PayloadHeader.Probe o sizes s at p n e = absurd o
