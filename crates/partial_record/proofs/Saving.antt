-- Fields and holes put step by step, and what a count of fields says.
-- Assumes nothing.
use Prim.Native.Nat.{ℕ, zero, suc, ◌+◌, ◌-◌, ◌*◌, ◌/◌, ◌≤◌, ◌<◌}
use mathlib.Core.Path.{◌≡◌, refl, ap, sym, ◌∙◌}
use mathlib.Core.Bool.{Bool, true, false, cond, not, false≢true}
use mathlib.Core.List.{List, [], ◌∷◌, ◌++◌}
use native.Mathlib.Omega.{arith}
use borrow.Author.Tests.{lt-ltb, le-ltb, le-leb, lt-leb, leb-true, leb-false, not-true, not-false}
use lib.Dec.{ltb, leb, eqb}
use Rattle.wire.proofs.Cases.{by_lt}
use lib.ListN.{length, get_or, take}
use Rattle.wire.specs.Constants.{NO_ROOM}
use Rattle.wire.specs.Answer.{Answer, got, refused}
use Rattle.wire_writer.specs.Store.{laid}
use Rattle.dataset_header.specs.declared.flags.Encoding.{Encoding}
use Rattle.dataset_header.specs.Flags.{encoding_number}
use Rattle.dataset_fields.specs.Fields.{field_at, padding_at, and_field, walked}
use Rattle.dataset_fields.specs.declared.fields.Field.{Field}
use Rattle.dataset_fields.specs.declared.fields.Cursor.{Cursor}
use Rattle.records.specs.Numbers.{number_bytes}
use Rattle.records.specs.Items.{flag_number}
use Rattle.records.proofs.ReadBack.{laid_length}
use Rattle.value.specs.Value.{dimensions_of}
use Rattle.message_record.specs.Message.{shape_number, elements_number, field_numbers}
use Rattle.salvage.specs.Holes.{hole, hole_start, hole_end, next_hole}
use Rattle.salvage.specs.Quick.{FixedTo, EndsAt}
use Rattle.salvage.proofs.FieldEnds.{ends_got}
use Rattle.salvage.specs.Front.{Shown, shown, bad, ends, past_by, shown_by, shown_at, Promise, promised, Salvage, salvaged, refusal, with_field, after_last, on_field, fields_shown, open_at, salvage_from, salvage_opened, saved_fields, tally_from}
use Rattle.salvage.specs.declared.holes.Hole.{Hole}
use Rattle.std.specs.Prelude.{Option, Some, None, Result, Ok, Err}
use Rattle.salvage.specs.declared.front.Opening.{Opening}
use Rattle.salvage.proofs.HoleLaws.{holes_after, then_holes, holes_step}
use Rattle.salvage.proofs.Steps.{salvage_opened_lem}
use Rattle.partial_record.specs.List.{hole_numbers, hole_entries, field_entries, entry_laid, entries_put, promised_number, told_numbers, encoding_told, SavedPut, saved_put, put_saved, open_in, salvage_in, salvage_put, front_bytes, area_bytes, front_end, holes_in, promise_by, none_at, scalar_numbers}
use Rattle.partial_record.specs.Steps.{field_put, whole_fields, Finds}
use Rattle.partial_record.specs.declared.salvage_record.Found.{Found}
use Rattle.partial_record.proofs.Entries.{puts_append}

-- whether nothing is refused
abbrev pub is_saved : Salvage → Bool
is_saved (salvaged p fs) = true
is_saved (refusal n place) = false

not_refused : {p : Promise} {fs : List Field} {n place : ℕ} → refusal n place ≡ salvaged p fs → ⊥
not_refused e = false≢true (ap is_saved e)

same_promise : {p q : Promise} {fs gs : List Field} → salvaged p fs ≡ salvaged q gs → p ≡ q
same_promise e = cc

-- ---- the fields
module _ (types f s : List ℕ) where
  -- what is promised is the cursor's count
  promise_of : (count : ℕ) (delta : Bool) (encoding : Encoding) (n k at : ℕ) (p : Promise) (fs : List Field)
      → fields_shown count delta encoding types n k f s at ≡ salvaged p fs → p ≡ promised count
  unfolding fields_shown
  promise_of count delta encoding zero k at p fs e = go (padding_at f at) e
    where
      go : (a : Answer (Unit {0})) → after_last count a ≡ salvaged p fs → p ≡ promised count
      go (got u z) q = sym (same_promise q)
      go (refused n place) q = absurd (not_refused q)
  promise_of count delta encoding (suc n) k at p fs e =
      go (shown_at (field_at delta encoding types k) f s at) e (λ end q gs. promise_of count delta encoding n (k + 1) end q gs)
    where
      inner : (x : Field) (v : Salvage) → with_field x v ≡ salvaged p fs → ((q : Promise) (gs : List Field) → v ≡ salvaged q gs → q ≡ promised count) → p ≡ promised count
      inner x (salvaged q gs) i ih = sym (same_promise i) ∙ ih q gs refl
      inner x (refusal a b) i ih = absurd (not_refused i)

      go : (y : Shown Field) → on_field count y (λ end. fields_shown count delta encoding types n (k + 1) f s end) ≡ salvaged p fs
          → ((end : ℕ) (q : Promise) (gs : List Field) → fields_shown count delta encoding types n (k + 1) f s end ≡ salvaged q gs → q ≡ promised count) → p ≡ promised count
      go (shown x end) i ih = inner x (fields_shown count delta encoding types n (k + 1) f s end) i (ih end)
      go (bad a b) i ih = absurd (not_refused i)
      go ends i ih = sym (same_promise i)

  saved_as : (c : Cursor) → is_saved (salvage_from types f s c) ≡ true → salvage_from types f s c ≡ salvaged (promised c.count) (saved_fields (salvage_from types f s c))
  saved_as c h = go (salvage_from types f s c) refl h
    where
      go : (v : Salvage) → salvage_from types f s c ≡ v → is_saved v ≡ true → v ≡ salvaged (promised c.count) (saved_fields v)
      go (salvaged p fs) e t = ap (λ (q : Promise). salvaged q fs) (promise_of c.count c.delta c.encoding (c.count - c.next) c.next c.at p fs e)
      go (refusal n place) e t = absurd (false≢true t)

  -- the fields that are handed out are those that the front has whole
  saved_walked : (count : ℕ) (delta : Bool) (encoding : Encoding) (n k at : ℕ) → is_saved (fields_shown count delta encoding types n k f s at) ≡ true
      → saved_fields (fields_shown count delta encoding types n k f s at) ≡ walked delta encoding types n k f at
  unfolding fields_shown walked
  saved_walked count delta encoding zero k at h = go (padding_at f at)
    where
      go : (a : Answer (Unit {0})) → saved_fields (after_last count a) ≡ []
      go (got u z) = refl
      go (refused n place) = refl
  saved_walked count delta encoding (suc n) k at h =
      go (field_at delta encoding types k f at) h (λ end i. saved_walked count delta encoding n (k + 1) end i)
    where
      onward : ℕ → Salvage
      onward end = fields_shown count delta encoding types n (k + 1) f s end

      front_of : (x : Field) (v : Salvage) (xs : List Field) → is_saved (with_field x v) ≡ true → (is_saved v ≡ true → saved_fields v ≡ xs) → saved_fields (with_field x v) ≡ x ∷ xs
      front_of x (salvaged p fs) xs i ih = ap (λ (l : List Field). x ∷ l) (ih refl)
      front_of x (refusal m q) xs i ih = absurd (false≢true i)

      none : (y : Answer Field) (m q : ℕ) → saved_fields (on_field count (shown_by (refused m q) y) onward) ≡ []
      none y m q = past (eqb m 1) (past_by q y)
        where
          past : (a b : Bool) → saved_fields (on_field count (cond a (cond b (bad 1 q) ends) (bad m q)) onward) ≡ []
          past true true = refl
          past true false = refl
          past false b = refl

      go : (a : Answer Field) → is_saved (on_field count (shown_by a (field_at delta encoding types k s at)) onward) ≡ true
          → ((end : ℕ) → is_saved (onward end) ≡ true → saved_fields (onward end) ≡ walked delta encoding types n (k + 1) f end)
          → saved_fields (on_field count (shown_by a (field_at delta encoding types k s at)) onward) ≡ and_field a (λ x end. walked delta encoding types n (k + 1) f end)
      go (got x end) i ih = front_of x (onward end) (walked delta encoding types n (k + 1) f end) i (ih end)
      go (refused m q) i ih = none (field_at delta encoding types k s at) m q

  saved_whole : (c : Cursor) → is_saved (salvage_from types f s c) ≡ true → saved_fields (salvage_from types f s c) ≡ whole_fields types f c
  saved_whole c h = saved_walked c.count c.delta c.encoding (c.count - c.next) c.next c.at h

  -- a count of them
  tally_is : (c : Cursor) (k : ℕ) → ◌≡◌ {A = Result ℕ (ℕ × ℕ)} (Ok k) (tally_from 0 (salvage_from types f s c)) → (is_saved (salvage_from types f s c) ≡ true)
      × (k ≡ length (saved_fields (salvage_from types f s c)))
  tally_is c k e = go (salvage_from types f s c) e
    where
      number : Result ℕ (ℕ × ℕ) → ℕ
      number (Ok n) = n
      number (Err e) = 0

      refuses : Result ℕ (ℕ × ℕ) → Bool
      refuses (Ok n) = false
      refuses (Err e) = true

      go : (v : Salvage) → Ok k ≡ tally_from 0 v → (is_saved v ≡ true) × (k ≡ length (saved_fields v))
      go (salvaged p fs) q = let z : k ≡ 0 + length fs = ap number q in (refl, omega arith)
      go (refusal n place) q = absurd (false≢true (ap refuses q))

  pub tally_bad : (c : Cursor) (n place : ℕ) → ◌≡◌ {A = Result ℕ (ℕ × ℕ)} (Err (n, place)) (tally_from 0 (salvage_from types f s c)) → salvage_from types f s c ≡ refusal n place
  tally_bad c n place e = go (salvage_from types f s c) e
    where
      first : Result ℕ (ℕ × ℕ) → ℕ
      first (Ok m) = 0
      first (Err e) = e.0

      second : Result ℕ (ℕ × ℕ) → ℕ
      second (Ok m) = 0
      second (Err e) = e.1

      refuses : Result ℕ (ℕ × ℕ) → Bool
      refuses (Ok m) = false
      refuses (Err e) = true

      go : (v : Salvage) → ◌≡◌ {A = Result ℕ (ℕ × ℕ)} (Err (n, place)) (tally_from 0 v) → v ≡ refusal n place
      go (salvaged p fs) q = absurd (false≢true (sym (ap refuses q)))
      go (refusal a b) q = sym (rw (ap first q, ap second q) refl)

-- ---- entries put one by one
module _ (types f : List ℕ) (c : Cursor) where
  -- the entries of the fields from field i on, at a position, are still to be put
  abbrev pub whole_from : ℕ → ℕ → List Field
  whole_from i at = walked c.delta c.encoding types (c.count - i) i f at

  pub record Putting (start : ℕ) (out₀ out : List ℕ) (at i k : ℕ) : Type 0 where
    pub long : length out ≡ length out₀
    pub same : entries_put k (field_entries (whole_from i at)) out ≡ entries_put start (field_entries (whole_fields types f c)) out₀
    pub all : k + length (whole_from i at) ≡ start + length (whole_fields types f c)

  pub putting_start : (start : ℕ) (out : List ℕ) → Putting start out out c.at c.next start
  putting_start start out = record { long = refl; same = refl; all = refl }

  abbrev field_of : ℕ → ℕ → Answer Field
  field_of i at = field_at c.delta c.encoding types i f at

  whole_next : (i at end : ℕ) (x : Field) → i < c.count → field_of i at ≡ got x end → whole_from i at ≡ x ∷ whole_from (i + 1) end
  unfolding walked
  whole_next i at end x l e =
      let z : c.count - i ≡ suc (c.count - (i + 1)) = omega arith in
      rw (z, e)

  whole_none : (i at n p : ℕ) → field_of i at ≡ refused n p → whole_from i at ≡ []
  unfolding walked
  whole_none i at n p e = go (c.count - i)
    where
      go : (m : ℕ) → walked c.delta c.encoding types m i f at ≡ []
      go zero = refl
      go (suc m) = rw e

  module _ (start : ℕ) (out₀ out after : List ℕ) (at i k end : ℕ) (h : Putting start out₀ out at i k) (ended : EndsAt at (field_of i at) end) (put : after ≡ field_put k (field_of i at) out) where
    pub putting_on : i < c.count → at < end → Putting start out₀ after end (i + 1) (k + 1)
    putting_on l u = go (ends_got (field_of i at) at end ended u)
      where
        go : (x : Field) × (field_of i at ≡ got x end) → Putting start out₀ after end (i + 1) (k + 1)
        go (x, e) =
            let w = whole_next i at end x l e in
            let p : after ≡ entry_laid k (field_numbers x) out = put ∙ ap (λ (a : Answer Field). field_put k a out) e in
            let n : length (whole_from i at) ≡ suc (length (whole_from (i + 1) end)) = ap length w in
            record {
              long = ap length p ∙ laid_length out (64 * k) (number_bytes (field_numbers x)) ∙ h.long;
              same = ap (entries_put (k + 1) (field_entries (whole_from (i + 1) end))) p ∙ sym (ap (λ (xs : List Field). entries_put k (field_entries xs) out) w) ∙ h.same;
              all = omega (arith, n, h.all);
            }

    pub putting_stops : end ≤ at → (length after ≡ length out₀) × (after ≡ entries_put start (field_entries (whole_fields types f c)) out₀) × (k ≡ start + length (whole_fields types f c))
    putting_stops u = go (field_of i at) refl ended
      where
        go : (a : Answer Field) → field_of i at ≡ a → EndsAt at a end
            → (length after ≡ length out₀) × (after ≡ entries_put start (field_entries (whole_fields types f c)) out₀) × (k ≡ start + length (whole_fields types f c))
        go (got x next) e (q, l) = absurd (omega arith)
        go (refused n p) e q =
            let same_out : after ≡ out = put ∙ ap (λ (a : Answer Field). field_put k a out) e in
            let z : length (whole_from i at) ≡ 0 = ap length (whole_none i at n p e) in
            (ap length same_out ∙ h.long, same_out ∙ sym (ap (λ (xs : List Field). entries_put k (field_entries xs) out) (whole_none i at n p e)) ∙ h.same, omega (arith, z, h.all))

  pub putting_ends : (start : ℕ) (out₀ out : List ℕ) (at i k : ℕ) → Putting start out₀ out at i k → c.count ≤ i
      → (out ≡ entries_put start (field_entries (whole_fields types f c)) out₀) × (k ≡ start + length (whole_fields types f c))
  unfolding walked
  putting_ends start out₀ out at i k h l =
      let z : c.count - i ≡ 0 = omega arith in
      let e : whole_from i at ≡ [] = ap (λ (n : ℕ). walked c.delta c.encoding types n i f at) z in
      let y : length (whole_from i at) ≡ 0 = ap length e in
      (sym (ap (λ (xs : List Field). entries_put k (field_entries xs) out) e) ∙ h.same, omega (arith, y, h.all))

-- a field of a fixed type, told by its first byte
pub fixed_put : (delta : Bool) (encoding : Encoding) (types : List ℕ) (i : ℕ) (f : List ℕ) (at end k : ℕ) (out after : List ℕ) → FixedTo delta encoding f at end → at < end
    → after ≡ entry_laid k (scalar_numbers (get_or f at 0) i at (end - at)) out → after ≡ field_put k (field_at delta encoding types i f at) out
fixed_put delta encoding types i f at end k out after h l e = e ∙ sym (ap (λ (a : Answer Field). field_put k a out) (h.field l types i))

pub read_put : (a : Answer Field) (x : Field) (end k : ℕ) (out after : List ℕ) → got x end ≡ a → after ≡ entry_laid k (field_numbers x) out → after ≡ field_put k a out
read_put a x end k out after e p = p ∙ ap (λ (b : Answer Field). field_put k b out) e

pub refused_put : (a : Answer Field) (n p k : ℕ) (out : List ℕ) → refused n p ≡ a → out ≡ field_put k a out
refused_put a n p k out e = ap (λ (b : Answer Field). field_put k b out) e

-- ---- room
pub room_left : (holes fields room count : ℕ) → fields ≤ room → count ≡ holes → leb count (room - fields) ≡ leb (holes + fields) room
room_left holes fields room count l e =
    by_lt _ (room - fields) count
    (λ u. lt-leb count (room - fields) u ∙ sym (lt-leb (holes + fields) room (omega arith)))
    (λ u. le-leb count (room - fields) u ∙ sym (le-leb (holes + fields) room (omega arith)))

pub room_short : (holes fields room : ℕ) → room < fields → false ≡ leb (holes + fields) room
room_short holes fields room l = sym (lt-leb (holes + fields) room (omega arith))

pub room_wide : (holes fields room total : ℕ) → holes + holes ≤ total + 1 → fields ≤ room → total / 2 < room - fields → true ≡ leb (holes + fields) room
room_wide holes fields room total most l u = sym (le-leb (holes + fields) room (omega arith))

pub room_ample : (b : Bool) (n room : ℕ) → b ≡ leb n room → not b ≡ false → n ≤ room
room_ample b n room e h = leb-true n room (sym e ∙ not-false b h)

pub room_scant : (b : Bool) (n room : ℕ) → b ≡ leb n room → not b ≡ true → room < n
room_scant b n room e h = leb-false n room (sym e ∙ not-true b h)

-- a hole by its offset and where it ends
pub hole_by_end : (m : ℕ → Bool) (n at : ℕ) (h : Hole) (end : ℕ) → ◌≡◌ {A = Option (Hole × ℕ)} (Some (h, end)) (next_hole m n at) → hole h.offset end ≡ h
hole_by_end m n at h end e = go (ltb (hole_start m n at) n) refl
  where
    same : {h : Hole} {a s x : ℕ} → ◌≡◌ {A = Option (Hole × ℕ)} (Some (h, a)) (Some (hole s x, x)) → hole h.offset a ≡ h
    same {h} {a} {s} {x} e =
        let p : ◌≡◌ {A = Hole × ℕ} (h, a) (hole s x, x) = cc in
        let i : h ≡ hole s x = ap (λ (y : Hole × ℕ). y.0) p in
        let j : a ≡ x = ap (λ (y : Hole × ℕ). y.1) p in
        rw (i, j)

    some : Option (Hole × ℕ) → Bool
    some (Some x) = false
    some None = true

    go : (b : Bool) → ltb (hole_start m n at) n ≡ b → hole h.offset end ≡ h
    go true t =
        let q : ◌≡◌ {A = Option (Hole × ℕ)} (Some (h, end)) (Some (hole (hole_start m n at) (hole_end m n at), hole_end m n at)) = rw t at e in same q
    go false t = let q : ◌≡◌ {A = Option (Hole × ℕ)} (Some (h, end)) None = rw t at e in absurd (false≢true (ap some q))

pub holes_put : (m : ℕ → Bool) (n at : ℕ) (h : Hole) (end k : ℕ) (out e r : List ℕ) → ◌≡◌ {A = Option (Hole × ℕ)} (Some (h, end)) (next_hole m n at) → e ≡ entry_laid k (hole_numbers h) out
    → entries_put k (hole_entries (holes_after m n at)) out ≡ r → entries_put (k + 1) (hole_entries (holes_after m n end)) e ≡ r
holes_put m n at h end k out e r i q v =
    let a = holes_step m n at ∙ ap (then_holes m n) (sym i) in
    ap (entries_put (k + 1) (hole_entries (holes_after m n end))) q ∙ sym (ap (λ (hs : List Hole). entries_put k (hole_entries hs) out) a) ∙ v

-- and counted
pub holes_more : (m : ℕ → Bool) (n at : ℕ) (h : Hole) (end k all : ℕ) → ◌≡◌ {A = Option (Hole × ℕ)} (Some (h, end)) (next_hole m n at) → k + length (holes_after m n at) ≡ all
    → k + 1 + length (holes_after m n end) ≡ all
holes_more m n at h end k all i v =
    let a = holes_step m n at ∙ ap (then_holes m n) (sym i) in
    let z : length (holes_after m n at) ≡ suc (length (holes_after m n end)) = ap length a in
    omega arith

pub holes_all : (m : ℕ → Bool) (n at k all : ℕ) → None ≡ next_hole m n at → k + length (holes_after m n at) ≡ all → k ≡ all
holes_all m n at k all i v =
    let a = holes_step m n at ∙ ap (then_holes m n) (sym i) in
    let z : length (holes_after m n at) ≡ 0 = ap length a in
    omega arith

pub holes_end : (m : ℕ → Bool) (n at k : ℕ) (out r : List ℕ) → None ≡ next_hole m n at → entries_put k (hole_entries (holes_after m n at)) out ≡ r → out ≡ r
holes_end m n at k out r i v =
    let a = holes_step m n at ∙ ap (then_holes m n) (sym i) in sym (ap (λ (hs : List Hole). entries_put k (hole_entries hs) out) a) ∙ v

entries_length : (hs : List Hole) → length (hole_entries hs) ≡ length hs
entries_length [] = refl
entries_length (h ∷ hs) = let z = entries_length hs in omega arith

-- ---- all together
module _ (hs : List Hole) (front total encoding : ℕ) (told list : List ℕ) (p : Promise) (fs : List Field) where
  pub store_short : (r : Result ℕ (ℕ × ℕ)) → r ≡ Err (NO_ROOM, 0) → length told < 64 → saved_put r told list ≡ put_saved hs front total encoding told list (salvaged p fs)
  store_short r e l = rw (lt-ltb (length told) 64 l) (ap (λ (x : Result ℕ (ℕ × ℕ)). saved_put x told list) e)

  pub store_full : (r : Result ℕ (ℕ × ℕ)) → r ≡ Err (NO_ROOM, 0) → 64 ≤ length told → length list / 64 < length hs + length fs
      → saved_put r told list ≡ put_saved hs front total encoding told list (salvaged p fs)
  store_full r e g l =
      rw (le-ltb (length told) 64 g, lt-ltb (length list / 64) (length hs + length fs) l) (ap (λ (x : Result ℕ (ℕ × ℕ)). saved_put x told list) e)

  pub store_done : (n holes fields : ℕ) (a b c : List ℕ) → 64 ≤ length told → length hs + length fs ≤ length list / 64 → holes ≡ length hs → fields ≡ length fs → n ≡ holes + fields
      → a ≡ laid told 0 (number_bytes (told_numbers holes fields p front total encoding))
      → b ≡ entries_put 0 (hole_entries hs) list → c ≡ entries_put holes (field_entries fs) b
      → saved_put (Ok n) a c ≡ put_saved hs front total encoding told list (salvaged p fs)
  store_done n holes fields a b c g l eh ef en ea eb ec =
      let z : n ≡ length hs + length fs = omega arith in
      let y : a ≡ laid told 0 (number_bytes (told_numbers (length hs) (length fs) p front total encoding)) =
      ea ∙ ap (λ (i : ℕ). laid told 0 (number_bytes (told_numbers i fields p front total encoding))) eh
      ∙ ap (λ (i : ℕ). laid told 0 (number_bytes (told_numbers (length hs) i p front total encoding))) ef in
      let i : holes ≡ 0 + length (hole_entries hs) = omega (arith, entries_length hs) in
      let x : c ≡ entries_put 0 (hole_entries hs ++ field_entries fs) list =
      ec ∙ ap (entries_put holes (field_entries fs)) eb ∙ ap (λ (j : ℕ). entries_put j (field_entries fs) (entries_put 0 (hole_entries hs) list)) i
      ∙ puts_append (hole_entries hs) (field_entries fs) 0 list in
      rw (le-ltb (length told) 64 g, le-ltb (length list / 64) (length hs + length fs) l, z, y, x)

-- the record's numbers, as the code computes them
pub told_as : (holes fields : ℕ) (known : Bool) (count front total encoding a b c : ℕ) → a ≡ flag_number known → b ≡ promised_number (promise_by known count) → c ≡ encoding
    → (holes ∷ fields ∷ a ∷ b ∷ front ∷ total ∷ c ∷ 0 ∷ []) ≡ told_numbers holes fields (promise_by known count) front total encoding
told_as holes fields true count front total encoding a b c e q i = rw (e, q, i)
told_as holes fields false count front total encoding a b c e q i = rw (e, q, i)

pub field_as : (f : Field) {shape elements dimensions : ℕ} → shape ≡ shape_number f.shape → elements ≡ elements_number f.shape → dimensions ≡ dimensions_of f.shape
    → (f.kind ∷ shape ∷ elements ∷ f.index ∷ f.offset ∷ f.length ∷ dimensions ∷ 0 ∷ []) ≡ field_numbers f
field_as f a b c = rw (sym a, sym b, sym c)

-- ---- by the opening
module _ (types payload marks : List ℕ) (total : ℕ) (told list : List ℕ) where
  opened : salvage_in types payload marks total ≡ salvage_opened types (front_bytes types payload marks total) (area_bytes types payload marks total) (open_in types payload marks total)
  opened = go (eqb total 0) refl
    where
      f : List ℕ
      f = front_bytes types payload marks total

      s : List ℕ
      s = area_bytes types payload marks total

      go : (b : Bool) → eqb total 0 ≡ b → salvage_in types payload marks total ≡ salvage_opened types f s (open_in types payload marks total)
      go true e = rw e
      go false e = rw e (salvage_opened_lem (length s) types f s)

  -- what reading on from the opening o leaves is what is put
  put_opened : (o : Result Opening (ℕ × ℕ)) (v : Salvage) (x : SavedPut) → o ≡ open_in types payload marks total
      → salvage_opened types (front_bytes types payload marks total) (area_bytes types payload marks total) o ≡ v
      → x ≡ put_saved (holes_in types payload marks total) (front_end types payload marks total) total (encoding_told o) told list v
      → x ≡ salvage_put types payload marks total told list
  put_opened o v x e q i =
      i ∙ ap (λ (w : Salvage). put_saved (holes_in types payload marks total) (front_end types payload marks total) total (encoding_told o) told list w)
      (sym q ∙ ap (salvage_opened types (front_bytes types payload marks total) (area_bytes types payload marks total)) e ∙ sym opened)
      ∙ ap (λ (w : Result Opening (ℕ × ℕ)). put_saved (holes_in types payload marks total) (front_end types payload marks total) total
      (encoding_told w) told list (salvage_in types payload marks total)) e

  pub put_way : (f s : List ℕ) (covered : ℕ) (o : Result Opening (ℕ × ℕ)) (v : Salvage) (x : SavedPut) → covered ≡ front_end types payload marks total → f ≡ take covered payload
      → s ≡ take total payload
      → o ≡ cond (eqb total 0) (Ok Opening.Missing) (open_at (length s) types f s) → salvage_opened types f s o ≡ v
      → x ≡ put_saved (holes_in types payload marks total) covered total (encoding_told o) told list v → x ≡ salvage_put types payload marks total told list
  put_way f s covered o v x ec ef es eo q i =
      let g : f ≡ front_bytes types payload marks total = ef ∙ ap (λ (k : ℕ). take k payload) ec in
      put_opened o v x
      (eo ∙ ap (λ (t : List ℕ). cond (eqb total 0) (Ok Opening.Missing) (open_at (length t) types f t)) es
      ∙ ap (λ (t : List ℕ). cond (eqb total 0) (Ok Opening.Missing) (open_at (length (area_bytes types payload marks total)) types t (area_bytes types payload marks total))) g)
      (sym (ap (λ (t : List ℕ). salvage_opened types t s o) g ∙ ap (λ (t : List ℕ). salvage_opened types (front_bytes types payload marks total) t o) es) ∙ q)
      (i ∙ ap (λ (k : ℕ). put_saved (holes_in types payload marks total) k total (encoding_told o) told list v) ec)

  -- by what is found
  pub found_way : (f s : List ℕ) (covered : ℕ) (y : Found) (x : SavedPut) → covered ≡ front_end types payload marks total → f ≡ take covered payload → s ≡ take total payload
      → Finds types f s (cond (eqb total 0) (Ok Opening.Missing) (open_at (length s) types f s)) (Ok y)
      → x ≡ put_saved (holes_in types payload marks total) covered total (encoding_number y.first.encoding) told list (salvaged (promise_by y.known y.first.count) (whole_fields types f y.first))
      → x ≡ salvage_put types payload marks total told list
  found_way f s covered y x ec ef es (q, n, e) i =
      put_way f s covered (cond (eqb total 0) (Ok Opening.Missing) (open_at (length s) types f s)) (salvaged (promise_by y.known y.first.count) (whole_fields types f y.first)) x ec ef es refl q
      (i ∙ ap (λ (j : ℕ). put_saved (holes_in types payload marks total) covered total j told list (salvaged (promise_by y.known y.first.count) (whole_fields types f y.first))) (sym e))

-- ---- what is found
module _ (types f s : List ℕ) where
  whole_none_at : whole_fields types f (none_at (length f)) ≡ []
  unfolding walked
  whole_none_at = refl

  pub none_found : (known : Bool) (c : Cursor) (o opened : Result Opening (ℕ × ℕ)) → o ≡ opened → c ≡ none_at (length f) → salvage_opened types f s o ≡ salvaged (promise_by known 0) []
      → encoding_told o ≡ 0
      → Finds types f s opened (Ok (record { known = known; first = c; fields = 0 }))
  none_found known c o opened q none e i =
      rw (sym q, none) (e ∙ ap (salvaged (promise_by known 0)) (sym whole_none_at), sym (ap length whole_none_at), i)

  pub some_found : (c : Cursor) (k : ℕ) → ◌≡◌ {A = Result ℕ (ℕ × ℕ)} (Ok k) (tally_from 0 (salvage_from types f s c))
      → Finds types f s (Ok (Opening.At c)) (Ok (record { known = true; first = c; fields = k }))
  some_found c k e =
      let t = tally_is types f s c k e in
      let w = saved_whole types f s c t.0 in
      (saved_as types f s c t.0 ∙ ap (salvaged (promised c.count)) w, t.1 ∙ ap length w, refl)
