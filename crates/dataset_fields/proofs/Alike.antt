-- Variants of one fixed type, one after the other: each is as long as the first.
-- Assumes nothing.
use Prim.Native.Nat.{ℕ, ◌+◌, ◌-◌, ◌≤◌, ◌<◌}
use mathlib.Core.Path.{◌≡◌, refl, sym, ap, ◌∙◌}
use mathlib.Core.Bool.{Bool, true, false, not, ◌&&◌, false≢true}
use mathlib.Core.List.{List}
use native.Mathlib.Nat.{zero-add}
use native.Mathlib.Omega.{arith}
use lib.Dec.{leb}
use lib.ListN.{length, get_or}
use Rattle.wire.specs.Answer.{got}
use Rattle.value.specs.Quick.{scalar_size, fixed_end}
use Rattle.value.specs.declared.Shape.{Shape}
use Rattle.value.proofs.FirstItems.{scalar_measured}
use Rattle.dataset_header.specs.declared.flags.Encoding.{Encoding}
use Rattle.dataset_fields.specs.declared.fields.Field.{Field}
use Rattle.dataset_fields.specs.Fields.{field_at, fields_at}
use Rattle.dataset_fields.proofs.Walks.{fields_done, fields_step, fields_split}

module _ (s : List ℕ) (at : ℕ) where
  -- the size of the first
  fixed_size : (e : ℕ) → e ≡ fixed_end s at → at < e → e - at ≡ scalar_size (get_or s at 0)
  fixed_size e q up = go (leb (length s) at) refl (leb (at + size) (length s)) refl
    where
      size : ℕ
      size = scalar_size (get_or s at 0)

      go : (x : Bool) → leb (length s) at ≡ x → (y : Bool) → leb (at + size) (length s) ≡ y → e - at ≡ size
      go true ex y ey = absurd (let same : e ≡ at = q ∙ rw ex in omega arith)
      go false ex false ey = absurd (let same : e ≡ at = q ∙ rw (ex, ey) in omega arith)
      go false ex true ey = let end : e ≡ at + size = q ∙ rw (ex, ey) in omega arith

  -- so many fields from the first on, the last of which ends at a position
  abbrev pub Leads : ℕ → ℕ → Type 0
  Leads n p = (types : List ℕ) (k : ℕ) → fields_at false Encoding.Variant types n k s at ≡ got tt p

  pub leads_none : Leads 0 at
  leads_none types k = fields_done false Encoding.Variant types s 0 k at (omega arith)

  pub leads_on : (e n p : ℕ) → e ≡ fixed_end s at → at < e → Leads n p → p + (e - at) ≤ length s → get_or s p 0 ≡ get_or s at 0 → Leads (n + 1) (p + (e - at))
  leads_on e n p q up h fits b types k =
      let size : e - at ≡ scalar_size (get_or s p 0) = fixed_size e q up ∙ ap scalar_size (sym b) in
      let x : Field = record { index = k + n; kind = get_or s p 0; shape = Shape.Scalar; offset = p; length = p + (e - at) - p } in
      let f : field_at false Encoding.Variant types (k + n) s p ≡ got x (p + (e - at)) = rw (scalar_measured 99 s p (e - at) (omega arith) size (omega arith) fits) in
      fields_split false Encoding.Variant types s n 1 k at ∙ rw (h types k) (fields_step false Encoding.Variant types s 1 (k + n) p (p + (e - at)) x (omega arith) f
      ∙ fields_done false Encoding.Variant types s (1 - 1) (k + n + 1) (p + (e - at)) (omega arith))

  -- a walk over the fields starts after them
  pub leads_past : (delta many : Bool) → (not delta && many) ≡ true → (count n p : ℕ) → n ≤ count → Leads n p → (types : List ℕ)
      → fields_at delta Encoding.Variant types count 0 s at ≡ fields_at delta Encoding.Variant types (count - n) n s p
  leads_past true many t count n p le h types = absurd (false≢true t)
  leads_past false many t count n p le h types =
      let e : count ≡ n + (count - n) = omega arith in
      ap (λ (j : ℕ). fields_at false Encoding.Variant types j 0 s at) e ∙ fields_split false Encoding.Variant types s n (count - n) 0 at
      ∙ rw (h types 0) (ap (λ (j : ℕ). fields_at false Encoding.Variant types (count - n) j s p) (zero-add n))
