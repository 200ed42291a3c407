-- Where a field of the front ends. Assumes nothing.
use Prim.Native.Nat.{ℕ, zero, suc, ◌+◌, ◌-◌, ◌≤◌, ◌<◌}
use mathlib.Core.Path.{◌≡◌, refl, sym, ap, subst, ◌∙◌}
use mathlib.Core.Bool.{Bool, false}
use mathlib.Core.List.{List}
use native.Mathlib.Nat.{add-zero}
use native.Mathlib.Omega.{arith}
use Rattle.wire.specs.Answer.{Answer, got, refused}
use Rattle.wire.proofs.Reading.{got_value, got_next, invert}
use Rattle.value.specs.Quick.{fixed_end}
use Rattle.value.proofs.FirstItems.{fixed_variant}
use Rattle.dataset_header.specs.declared.flags.Encoding.{Encoding}
use Rattle.dataset_fields.specs.declared.fields.Field.{Field}
use Rattle.dataset_fields.specs.declared.fields.Cursor.{Cursor}
use Rattle.dataset_fields.specs.Fields.{index_at, encoded_at, field_at, fields_at, cursor_before}
use Rattle.dataset_fields.proofs.Walks.{fields_done}
use Rattle.dataset_fields.proofs.Inside.{index_within, field_inside}
use Rattle.salvage.specs.Front.{salvage_from, tally_from}
use Rattle.salvage.specs.Quick.{FixedTo, EndsAt, is_whole, PassedTo}
use Rattle.salvage.proofs.Steps.{field_step, tally_on}

-- a field has a byte
field_on : (delta : Bool) (encoding : Encoding) (types : List ℕ) (k : ℕ) (s : List ℕ) (q : ℕ) (x : Field) (e : ℕ) → field_at delta encoding types k s q ≡ got x e → q < e
field_on delta encoding types k s q x e h =
    let a = invert (index_at delta k s q) (λ i o. _) h in
    let b = invert (encoded_at encoding types k s a.1) (λ m z. _) a.3 in
    let i = index_within delta k s q a.0 a.1 a.2 in
    let o : a.1 ≡ x.offset = ap (λ (y : Field). y.offset) (got_value b.3) in
    let n = field_inside delta encoding types k s q x e h in
    omega (arith, i, o, n.some, n.value)

-- ---- a quick end

pub none_fixed : (delta : Bool) (encoding : Encoding) (f : List ℕ) (at : ℕ) → FixedTo delta encoding f at at
none_fixed delta encoding f at = record { inside = λ l. absurd (omega arith); field = λ l. absurd (omega arith) }

pub variant_fixed : (f : List ℕ) (at end : ℕ) → end ≡ fixed_end f at → FixedTo false Encoding.Variant f at end
variant_fixed f at end e = record {
  inside = λ l. (fixed_variant 99 f at e l).0;
  field = λ l types k. rw (fixed_variant 99 f at e l).1;
}

pub fixed_ends : (delta : Bool) (encoding : Encoding) (types : List ℕ) (k : ℕ) (f : List ℕ) (at end : ℕ) → FixedTo delta encoding f at end → at < end
    → EndsAt at (field_at delta encoding types k f at) end
fixed_ends delta encoding types k f at end h l = rw (h.field l types k) (refl, l)

pub got_ends : (delta : Bool) (encoding : Encoding) (types : List ℕ) (k : ℕ) (f : List ℕ) (at end : ℕ) (x : Field) → got x end ≡ field_at delta encoding types k f at
    → EndsAt at (field_at delta encoding types k f at) end
got_ends delta encoding types k f at end x e = rw (sym e) (refl, field_on delta encoding types k f at x end (sym e))

pub refused_ends : (delta : Bool) (encoding : Encoding) (types : List ℕ) (k : ℕ) (f : List ℕ) (at n p : ℕ) → refused n p ≡ field_at delta encoding types k f at
    → EndsAt at (field_at delta encoding types k f at) at
refused_ends delta encoding types k f at n p e = rw (sym e) refl

-- no field passed over
pub none_passed : (f : List ℕ) (c : Cursor) → (0 ≤ c.count - c.next) × ((types : List ℕ) → fields_at c.delta c.encoding types 0 c.next f c.at ≡ got tt c.at)
none_passed f c = (omega arith, λ types. fields_done c.delta c.encoding types f 0 c.next c.at (omega arith))

-- what an end says of the field
pub ends_got : (a : Answer Field) (at end : ℕ) → EndsAt at a end → at < end → (x : Field) × (a ≡ got x end)
ends_got (got x next) at end (e, l) u = (x, ap (got x) (sym e))
ends_got (refused n p) at end e u = absurd (omega arith)

ends_refused : (a : Answer Field) (at end : ℕ) → EndsAt at a end → end ≤ at → is_whole a ≡ false
ends_refused (got x next) at end (e, l) u = absurd (omega arith)
ends_refused (refused n p) at end e u = refl

-- ---- passing over whole fields
module _ (types f : List ℕ) (first : Cursor) where
  -- what is so after those up to field k, which starts at a position
  pub record Passing (k at : ℕ) : Type 0 where
    pub from : first.next ≤ k
    pub same : (s : List ℕ) → tally_from (k - first.next) (salvage_from types f s (cursor_before first k at)) ≡ tally_from 0 (salvage_from types f s first)

  pub passing_start : Passing first.next first.at
  passing_start =
      let z : first.next - first.next ≡ 0 = omega arith in
      record { from = omega arith; same = λ s. ap (λ (k : ℕ). tally_from k (salvage_from types f s first)) z }

  pub passing_on : (k at end : ℕ) → Passing k at → k < first.count → EndsAt at (field_at first.delta first.encoding types k f at) end → at < end → Passing (k + 1) end
  passing_on k at end h l e u =
      let g = ends_got (field_at first.delta first.encoding types k f at) at end e u in
      let z : k + 1 - first.next ≡ k - first.next + 1 = omega (arith, h.from) in
      record {
        from = omega (arith, h.from);
        same = λ s.
            ap (λ (n : ℕ). tally_from n (salvage_from types f s (cursor_before first (k + 1) end))) z
            ∙ tally_on types f s (k - first.next) (cursor_before first k at) g.0 (cursor_before first (k + 1) end) (field_step types f s (cursor_before first k at) g.0 end l g.1)
            ∙ h.same s;
      }

  -- and after n more that are accepted one after the other
  pub passing_run : (n k at end : ℕ) → Passing k at → n ≤ first.count - k → fields_at first.delta first.encoding types n k f at ≡ got tt end → Passing (k + n) end
  unfolding fields_at
  passing_run zero k at end h l e = rw (add-zero k, sym (got_next e)) h
  passing_run (suc n) k at end h l e =
      let a = invert (field_at first.delta first.encoding types k f at) (λ x q. fields_at first.delta first.encoding types n (k + 1) f q) e in
      let g = got_ends first.delta first.encoding types k f at a.1 a.0 (sym a.2) in
      let u = field_on first.delta first.encoding types k f at a.0 a.1 a.2 in
      let z : k + 1 + n ≡ k + suc n = omega arith in
      subst (λ (j : ℕ). Passing j end) z (passing_run n (k + 1) a.1 end (passing_on k at a.1 h (omega arith) g u) (omega arith) a.3)

  pub passing_stops : (k at end : ℕ) → Passing k at → EndsAt at (field_at first.delta first.encoding types k f at) end → end ≤ at → PassedTo types f first (cursor_before first k at)
  passing_stops k at end h e u =
      record { from = h.from; same = h.same; stops = λ l. ends_refused (field_at first.delta first.encoding types k f at) at end e u }

  pub passing_ends : (k at : ℕ) → Passing k at → first.count ≤ k → PassedTo types f first (cursor_before first k at)
  passing_ends k at h l = record { from = h.from; same = h.same; stops = λ u. absurd (omega arith) }
