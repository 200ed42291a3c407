-- An accepted field lies within its message, and is never empty.
use Prim.Native.Nat.{ℕ, ◌+◌, ◌≤◌, ◌<◌, ◌-◌}
use mathlib.Core.Path.{◌≡◌, refl, sym, ap}
use mathlib.Core.Bool.{Bool, true, false}
use mathlib.Core.List.{List}
use lib.Dec.{leb}
use lib.ListN.{length, get_or}
use borrow.Author.Tests.{leb-true, ltb-true}
use Rattle.wire.specs.Answer.{got, item}
use Rattle.wire.proofs.Reading.{got_next, not_got, got_value, invert}
use native.Mathlib.Omega.{arith}
use Rattle.plain_value.specs.Width.{width_of, fixed}
use Rattle.value.specs.Value.{raw_at, Measure}
use Rattle.dataset_fields.specs.Fields.{raw_field_at, encoded_at, index_at, field_at}
use Rattle.dataset_header.specs.declared.flags.Encoding.{Encoding}
use Rattle.value.proofs.Values.{value_within}
use Rattle.dataset_fields.specs.declared.fields.Field.{Field}

-- an item that was read lies within the slice
item_within : (w : ℕ) (s : List ℕ) (at v e : ℕ) → item w s at ≡ got v e → (at + w ≤ length s) × (e ≡ at + w)
item_within w s at v e q = go (leb (at + w) (length s)) refl
  where
    go : (b : Bool) → leb (at + w) (length s) ≡ b → (at + w ≤ length s) × (e ≡ at + w)
    go true t = (leb-true (at + w) (length s) t, sym (got_next (rw t at q)))
    go false t = absurd (not_got (rw t at q))

raw_within : (t : ℕ) (s : List ℕ) (at e : ℕ) (m : Measure) → raw_at t s at ≡ got m e → (at < e) × (e ≤ length s)
raw_within t s at e m q = go (fixed t) refl (leb (at + width_of t) (length s)) refl
  where
    go : (f : Bool) → fixed t ≡ f → (b : Bool) → leb (at + width_of t) (length s) ≡ b → (at < e) × (e ≤ length s)
    go true u true v =
        let w : 0 < width_of t = ltb-true 0 (width_of t) u in
        let n : at + width_of t ≡ e = got_next (rw (u, v) at q) in
        let l : at + width_of t ≤ length s = leb-true (at + width_of t) (length s) v in
        (omega arith, omega arith)
    go true u false v = absurd (not_got (rw (u, v) at q))
    go false u b v = absurd (not_got (rw u at q))

configured_within : (types : List ℕ) (k : ℕ) (s : List ℕ) (at e : ℕ) (m : Measure) → raw_field_at types k s at ≡ got m e → (at < e) × (e ≤ length s)
configured_within types k s at e m q = go (leb (length types) k) refl
  where
    go : (b : Bool) → leb (length types) k ≡ b → (at < e) × (e ≤ length s)
    go true t = absurd (not_got (rw t at q))
    go false t = raw_within (get_or types k 0) s at e m (rw t at q)

encoded_within : (encoding : Encoding) (types : List ℕ) (k : ℕ) (s : List ℕ) (at e : ℕ) (m : Measure) → encoded_at encoding types k s at ≡ got m e → (at < e) × (e ≤ length s)
encoded_within Encoding.Variant types k s at e m q = value_within 100 24 s at q
encoded_within Encoding.RawData types k s at e m q = configured_within types k s at e m q
encoded_within Encoding.DataValue types k s at e m q = value_within 100 23 s at q

-- where an accepted field starts and ends, and that its value has at least a byte
pub record Inside (s : List ℕ) (q : ℕ) (f : Field) (e : ℕ) : Type 0 where
  pub starts : q ≤ length s
  pub ends : e ≤ length s
  pub some : 0 < f.length
  pub value : f.offset + f.length ≡ e

pub index_within : (delta : Bool) (k : ℕ) (s : List ℕ) (q i o : ℕ) → index_at delta k s q ≡ got i o → q ≤ o
index_within true k s q i o e = let w = item_within 2 s q i o e in omega arith
index_within false k s q i o e = let n : q ≡ o = got_next e in omega arith

pub field_inside : (delta : Bool) (encoding : Encoding) (types : List ℕ) (k : ℕ) (s : List ℕ) (q : ℕ) (f : Field) (e : ℕ) → field_at delta encoding types k s q ≡ got f e → Inside s q f e
field_inside delta encoding types k s q f e h =
    let a = invert (index_at delta k s q) (λ i o. _) h in
    let b = invert (encoded_at encoding types k s a.1) (λ m z. _) a.3 in
    let w = encoded_within encoding types k s a.1 b.1 b.0 b.2 in
    let i = index_within delta k s q a.0 a.1 a.2 in
    let n : b.1 ≡ e = got_next b.3 in
    let o : a.1 ≡ f.offset = ap (λ (x : Field). x.offset) (got_value b.3) in
    let l : b.1 - a.1 ≡ f.length = ap (λ (x : Field). x.length) (got_value b.3) in
    record { starts = omega arith; ends = omega arith; some = omega arith; value = omega arith }
