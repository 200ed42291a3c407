-- What the covered front of a message tells holds of every message that has it.
-- Assumes nothing.
use Prim.Native.Nat.{ℕ, zero, suc, ◌+◌, ◌-◌, ◌<◌, ◌≤◌}
use mathlib.Core.Path.{◌≡◌, refl, sym, ap, subst, ◌∙◌}
use mathlib.Core.Bool.{Bool, true, false, cond, ◌&&◌}
use mathlib.Core.List.{List, ◌∷◌}
use native.Mathlib.Nat.{le_refl, le-add_right, le-add_left, add-zero, zero-add}
use borrow.Author.Tests.{eqb-true, eq-eqb}
use native.Mathlib.Omega.{arith}
use lib.Dec.{leb, eqb}
use lib.ListN.{length, get_or, take}
use Rattle.wire.specs.Answer.{Answer, got, refused, Reader, and_then}
use Rattle.wire.proofs.Reading.{got_value, not_got, invert}
use Rattle.wire.proofs.Steady.{Fronts, Passed, Fronted, alike, item_steady}
use Rattle.wire.proofs.Frontal.{Bounds, Frontal, frontal, never_frontal}
use Rattle.dataset_header.specs.declared.flags.Encoding.{Encoding}
use Rattle.dataset_header.specs.declared.flags.Kind.{Kind}
use Rattle.dataset_header.specs.declared.header.Header.{Header}
use Rattle.dataset_header.specs.Flags.{Valid, not_valid, valid, is_delta, is_raw}
use Rattle.dataset_header.specs.Header.{message_header_at}
use Rattle.dataset_header.proofs.Front.{header_steady}
use Rattle.dataset_fields.specs.declared.fields.Field.{Field}
use Rattle.dataset_fields.specs.declared.fields.Cursor.{Cursor}
use Rattle.dataset_fields.specs.Fields.{field_at, fields_at, zeros_at, padding_at, walked}
use Rattle.dataset_fields.proofs.Front.{field_frontal}
use Rattle.dataset_message.specs.Message.{Message, counted_at, count_to, end_at, opened_at, body_to, after_header_to, message_at, front_at}
use Rattle.dataset_message.proofs.Fronts.{front_then}
use Rattle.salvage.specs.Front.{Shown, shown, bad, ends, shown_by, shown_at, promised, Salvage, salvaged, refusal, with_field, after_last, on_field, fields_shown, salvage_from, on_front, front_shown, salvage_at}
use Rattle.salvage.specs.Whole.{TellsOf}

-- ---- one part

-- what a part shows of the answer z of a whole: the value, or the refusal; where the reading ends, nothing
abbrev ShowsOf : {A : Type 0} → ℕ → Shown A → Answer A → Type 0
ShowsOf hi (shown a next) z = (z ≡ got a next) × (next ≤ hi)
ShowsOf hi (bad n p) z = z ≡ refused n p
ShowsOf hi ends z = Unit {0}

-- a refusal that all three give
both_refuse : (A : Type 0) (hi n p : ℕ) → ShowsOf {A = A} hi (shown_by (refused n p) (refused n p)) (refused n p)
both_refuse A hi n p = go (eqb n 1) refl
  where
    go : (c : Bool) → eqb n 1 ≡ c → ShowsOf {A = A} hi (cond c (cond (c && eqb p p) (bad 1 p) ends) (bad n p)) (refused n p)
    go true e = rw (eqb-true n 1 e, eq-eqb p p refl)
    go false e = refl

-- what follows the item at p is not cut short there
abbrev Beyond : {A : Type 0} → ℕ → Answer A → Type 0
Beyond p (got a next) = Unit {0}
Beyond p (refused n q) = n ≡ 1 → p < q

passed_beyond : {A : Type 0} {p : ℕ} {y : Answer A} → Passed p y → Beyond p y
passed_beyond (Passed.on l) = tt
passed_beyond (Passed.faulty g) = g

-- the front ends in the item at p, which the whole area passed: the reading ends
beyond_ends : {A : Type 0} (hi p : ℕ) (y z : Answer A) → Beyond p y → ShowsOf hi (shown_by (refused 1 p) y) z
beyond_ends hi p (got a next) z u = tt
beyond_ends {A} hi p (refused n q) z g = go (eqb n 1) (eqb q p) refl refl
  where
    go : (c d : Bool) → eqb n 1 ≡ c → eqb q p ≡ d → ShowsOf {A = A} hi (cond (c && d) (bad 1 p) ends) z
    go true true e i = let l : p < q = g (eqb-true n 1 e) in let j : q ≡ p = eqb-true q p i in absurd (omega (arith, l, j))
    go true false e i = tt
    go false d e i = tt

shows : {A : Type 0} (at hi : ℕ) (x y z : Answer A) → Bounds at hi x → Fronted x y z → ShowsOf hi (shown_by x y) z
shows at hi (got a next) y z b alike = (refl, b.1)
shows {A} at hi (refused n p) y z b alike = both_refuse A hi n p
shows at hi x y z b (Fronted.ends {p} i j) = beyond_ends hi p y z (passed_beyond i)

-- a frontal reader on the front of a whole
shown_whole : {A : Type 0} {r : Reader A} → Frontal r → (f s s' : List ℕ) → Fronts f s s' → (at : ℕ) → at ≤ length f → ShowsOf (length f) (shown_at r f s at) (r s' at)
shown_whole {r = r} h f s s' front at l = shows at (length f) (r f at) (r s at) (r s' at) (h.bounds f at (length f) l (le_refl (length f))) (h.fronts f s s' front at l)

-- ---- how many fields

counted_frontal : (raw : Bool) (types : List ℕ) → Frontal (counted_at raw types)
counted_frontal false types = frontal (item_steady 2)
counted_frontal true types = go (eqb (length types) 0)
  where
    go : (b : Bool) → Frontal (λ s at. cond b (refused 8 0) (got (length types) at))
    go true = never_frontal (λ s at. refused 8 0) 8 0 (λ i. absurd (omega (arith, i))) (λ s at. refl)
    go false = record { bounds = λ s at hi l u. (le_refl at, l); fronts = λ f s s' front at l. alike }

none_frontal : Frontal {A = ℕ} (λ s at. got 0 at)
none_frontal = record { bounds = λ s at hi l u. (le_refl at, l); fronts = λ f s s' front at l. alike }

count_frontal : (end : ℕ) (kind : Kind) (raw : Bool) (types : List ℕ) → Frontal (count_to end kind raw types)
count_frontal end Kind.Key raw types = record {
  bounds = λ s at hi l u. either_bounds s at hi l u (leb end at);
  fronts = λ f s s' front at l. either_fronts f s s' front at l (leb end at);
}
  where
    either_bounds : (s : List ℕ) (at hi : ℕ) → at ≤ hi → length s ≤ hi → (b : Bool) → Bounds at hi (cond b (got 0 at) (counted_at raw types s at))
    either_bounds s at hi l u true = (le_refl at, l)
    either_bounds s at hi l u false = (counted_frontal raw types).bounds s at hi l u

    either_fronts : (f s s' : List ℕ) → Fronts f s s' → (at : ℕ) → at ≤ length f → (b : Bool)
        → Fronted (cond b (got 0 at) (counted_at raw types f at)) (cond b (got 0 at) (counted_at raw types s at)) (cond b (got 0 at) (counted_at raw types s' at))
    either_fronts f s s' front at l true = alike
    either_fronts f s s' front at l false = (counted_frontal raw types).fronts f s s' front at l
count_frontal end Kind.Delta raw types = counted_frontal false types
count_frontal end Kind.Event raw types = counted_frontal raw types
count_frontal end Kind.KeepAlive raw types = none_frontal

-- ---- padding

zeros_front : (a b : ℕ) (f s : List ℕ) (at : ℕ) → a ≤ b → ((i : ℕ) → i < a → get_or s (at + i) 0 ≡ get_or f (at + i) 0)
    → (n p : ℕ) → zeros_at a f at ≡ refused n p → zeros_at b s at ≡ refused n p
unfolding zeros_at
zeros_front zero b f s at l same n p e = absurd (not_got (sym e))
zeros_front (suc a) zero f s at l same n p e = absurd (omega (arith, l))
zeros_front (suc a) (suc b) f s at l same n p e = go (eqb (get_or f at 0) 0) refl e (λ q. zeros_front a b f s (at + 1) (omega (arith, l)) next n p q)
  where
    first : get_or s at 0 ≡ get_or f at 0
    first = ap (λ (x : ℕ). get_or s x 0) (sym (add-zero at)) ∙ same 0 (omega arith) ∙ ap (λ (x : ℕ). get_or f x 0) (add-zero at)

    next : (i : ℕ) → i < a → get_or s (at + 1 + i) 0 ≡ get_or f (at + 1 + i) 0
    next i h = ap (λ (x : ℕ). get_or s x 0) (omega arith) ∙ same (suc i) (omega arith) ∙ ap (λ (x : ℕ). get_or f x 0) (omega arith)

    go : (c : Bool) → eqb (get_or f at 0) 0 ≡ c → cond c (zeros_at a f (at + 1)) (refused 7 at) ≡ refused n p
        → (zeros_at a f (at + 1) ≡ refused n p → zeros_at b s (at + 1) ≡ refused n p)
        → cond (eqb (get_or s at 0) 0) (zeros_at b s (at + 1)) (refused 7 at) ≡ refused n p
    go true i q onward = rw (first, i) (onward q)
    go false i q onward = rw (first, i) q

padding_front : (f s s' : List ℕ) → Fronts f s s' → (at n p : ℕ) → padding_at f at ≡ refused n p → padding_at s' at ≡ refused n p
padding_front f s s' front at n p e =
    let l : length f ≤ length s' = subst (λ (x : ℕ). x ≤ length s') (zero-add (length f)) front.other.second in
    zeros_front (length f - at) (length s' - at) f s' at (omega (arith, l))
    (λ i h. ap (λ (x : ℕ). get_or s' x 0) (sym (zero-add (at + i))) ∙ front.other.same (at + i) (omega (arith, h))) n p e

-- ---- the fields

-- the fields from k on and the padding after them, n of them, at a position of a whole
abbrev RestAt : Bool → Encoding → List ℕ → ℕ → ℕ → List ℕ → ℕ → Answer (Unit {0})
RestAt delta encoding types n k s at = and_then (fields_at delta encoding types n k s at) (λ _ end. padding_at s end)

abbrev FieldsTell : Salvage → ℕ → Bool → Encoding → List ℕ → ℕ → ℕ → List ℕ → ℕ → Type 0
FieldsTell (refusal x p) count delta encoding types n k s at = RestAt delta encoding types n k s at ≡ refused x p
FieldsTell (salvaged pr fs) count delta encoding types n k s at = (pr ≡ promised count) × (fs ≡ take (length fs) (walked delta encoding types n k s at))

module _ (count : ℕ) (delta : Bool) (encoding : Encoding) (types f s s' : List ℕ) (front : Fronts f s s') where
  last_tells : (k at : ℕ) (x : Answer (Unit {0})) → padding_at f at ≡ x → FieldsTell (after_last count x) count delta encoding types 0 k s' at
  unfolding fields_at
  last_tells k at (got u z) e = (refl, refl)
  last_tells k at (refused n p) e = padding_front f s s' front at n p e

  field_tells : (n k at : ℕ) (x : Shown Field) → ShowsOf (length f) x (field_at delta encoding types k s' at)
      → ((end : ℕ) → end ≤ length f → FieldsTell (fields_shown count delta encoding types n (k + 1) f s end) count delta encoding types n (k + 1) s' end)
      → FieldsTell (on_field count x (λ end. fields_shown count delta encoding types n (k + 1) f s end)) count delta encoding types (suc n) k s' at
  unfolding fields_at walked
  field_tells n k at (shown x end) (e, l) onward = step (fields_shown count delta encoding types n (k + 1) f s end) (onward end l)
    where
      step : (r : Salvage) → FieldsTell r count delta encoding types n (k + 1) s' end → FieldsTell (with_field x r) count delta encoding types (suc n) k s' at
      step (salvaged pr fs) (i, j) = (i, rw e (ap (λ (l : List Field). x ∷ l) j))
      step (refusal m p) i = rw e i
  field_tells n k at (bad m p) e onward = rw e
  field_tells n k at ends e onward = (refl, refl)

  fields_tell : (n k at : ℕ) → at ≤ length f → FieldsTell (fields_shown count delta encoding types n k f s at) count delta encoding types n k s' at
  unfolding fields_shown
  fields_tell zero k at l = last_tells k at (padding_at f at) refl
  fields_tell (suc n) k at l =
      field_tells n k at (shown_at (field_at delta encoding types k) f s at) (shown_whole (field_frontal delta encoding types k) f s s' front at l)
      (λ end m. fields_tell n (k + 1) end m)

-- ---- the message

-- the cursor of an accepted message is the one before its first field
end_cursor : (h : Header) (c : Cursor) (types s : List ℕ) (m : Message) (end : ℕ) → end_at h c types s ≡ got (valid m) end → m.cursor ≡ c
end_cursor h c types s m end q =
    let a = invert (fields_at c.delta c.encoding types c.count 0 s c.at) (λ _ n. _) q in
    let b = invert (padding_at s a.1) (λ _ y. _) a.3 in
    let v : valid (record { header = h; cursor = c; end = a.1 }) ≡ valid m = got_value b.3 in
    let n : ◌≡◌ {A = Message} (record { header = h; cursor = c; end = a.1 }) m = cc in
    sym (ap (λ (x : Message). x.cursor) n)

-- ---- header and count

-- what the two show of the message s': a value comes with its cursor, which stands in the front before its first field
abbrev FrontTells : List ℕ → List ℕ → List ℕ → Shown (Valid Message) → Type 0
FrontTells types f s' (shown not_valid at) = front_at types s' ≡ got not_valid at
FrontTells types f s' (shown (valid m) at) = (front_at types s' ≡ got (valid m) at) × (m.cursor.at ≤ length f) × (m.cursor.next ≡ 0)
FrontTells types f s' (bad n p) = front_at types s' ≡ refused n p
FrontTells types f s' ends = Unit {0}

module _ (types f s s' : List ℕ) (front : Fronts f s s') where
  abbrev opened_of : Header → List ℕ → ℕ → ℕ → Answer (Valid Message)
  opened_of h t n first = opened_at h (record { encoding = h.encoding; delta = is_delta h.kind; next = 0; count = n; at = first }) types t

  abbrev body_of : Header → List ℕ → ℕ → Answer (Valid Message)
  body_of h t at = body_to (length s') opened_at h types t at

  refused_front : (n p : ℕ) (z : Answer (Valid Message)) → z ≡ refused n p → front_at types s' ≡ z → FrontTells types f s' (shown_by (refused n p) (refused n p))
  refused_front n p z i e = go (eqb n 1) refl
    where
      go : (c : Bool) → eqb n 1 ≡ c → FrontTells types f s' (cond c (cond (c && eqb p p) (bad 1 p) ends) (bad n p))
      go true q = rw (eq-eqb p p refl) (e ∙ i ∙ ap (λ (k : ℕ). refused k p) (eqb-true n 1 q))
      go false q = e ∙ i

  ended_front : (p : ℕ) (y : Answer (Valid Message)) → Beyond p y → FrontTells types f s' (shown_by (refused 1 p) y)
  ended_front p (got a next) u = tt
  ended_front p (refused n q) g = go (eqb n 1) (eqb q p) refl refl
    where
      go : (c d : Bool) → eqb n 1 ≡ c → eqb q p ≡ d → FrontTells types f s' (cond (c && d) (bad 1 p) ends)
      go true true e i = let l : p < q = g (eqb-true n 1 e) in let j : q ≡ p = eqb-true q p i in absurd (omega (arith, l, j))
      go true false e i = tt
      go false d e i = tt

  -- a count after the item at p
  body_beyond : (h : Header) (t : List ℕ) (p at : ℕ) → p < at → Beyond p (body_of h t at)
  body_beyond h t p at l =
      go (count_to (length s') h.kind (is_raw h.encoding) types t at)
      ((count_frontal (length s') h.kind (is_raw h.encoding) types).bounds t at (at + length t) (le-add_right at (length t)) (le-add_left (length t) at))
    where
      go : (x : Answer ℕ) → Bounds at (at + length t) x
          → Beyond p (and_then x (opened_of h t))
      go (got n first) b = tt
      go (refused n q) b = λ e. let m = b e in omega (arith, l, m)

  header_beyond : (p : ℕ) (y : Answer (Valid Header)) → Passed p y → Beyond p (and_then y (λ h at. after_header_to (length s') opened_at h types s at))
  header_beyond p (got not_valid next) (Passed.on l) = tt
  header_beyond p (got (valid h) next) (Passed.on l) = body_beyond h s p next l
  header_beyond p (refused n q) (Passed.faulty g) = g

  count_shows : (h : Header) (at : ℕ) (x y z : Answer ℕ) → Bounds at (length f) x → Fronted x y z → front_at types s'
      ≡ and_then z (opened_of h s')
      → FrontTells types f s'
      (shown_by (and_then x (opened_of h f))
      (and_then y (opened_of h s)))
  count_shows h at (got n first) y z b alike e = (e, b.1, refl)
  count_shows h at (refused n p) y z b alike e = refused_front n p (refused n p) refl e
  count_shows h at x y z b (Fronted.ends {p} i j) e = ended_front p (and_then y (opened_of h s)) (go y i)
    where
      go : (y : Answer ℕ) → Passed p y
          → Beyond p (and_then y (opened_of h s))
      go (got n first) (Passed.on l) = tt
      go (refused n q) (Passed.faulty g) = g

  header_shows : (x y z : Answer (Valid Header)) → Bounds 0 (length f) x → Fronted x y z → front_at types s' ≡ and_then z (λ h at. after_header_to (length s') opened_at h types s' at)
      → FrontTells types f s'
      (shown_by (and_then x (λ h at. after_header_to (length s') opened_at h types f at)) (and_then y (λ h at. after_header_to (length s') opened_at h types s at)))
  header_shows (got not_valid at) y z b alike e = e
  header_shows (got (valid h) at) y z b alike e =
      let c = count_frontal (length s') h.kind (is_raw h.encoding) types in
      count_shows h at (count_to (length s') h.kind (is_raw h.encoding) types f at) (count_to (length s') h.kind (is_raw h.encoding) types s at)
      (count_to (length s') h.kind (is_raw h.encoding) types s' at) (c.bounds f at (length f) b.1 (le_refl (length f))) (c.fronts f s s' front at b.1) e
  header_shows (refused n p) y z b alike e = refused_front n p (refused n p) refl e
  header_shows x y z b (Fronted.ends {p} i j) e = ended_front p (and_then y (λ h at. after_header_to (length s') opened_at h types s at)) (header_beyond p y i)

  front_shows : FrontTells types f s' (front_shown (length s') types f s)
  front_shows =
      let h = frontal header_steady in
      header_shows (message_header_at f 0) (message_header_at s 0) (message_header_at s' 0) (h.bounds f 0 (length f) (omega arith) (le_refl (length f)))
      (h.fronts f s s' front 0 (omega arith)) refl

-- ---- the message

module _ (types f s s' : List ℕ) (front : Fronts f s s') where
  -- after its front
  whole_tells : (h : Header) (c : Cursor) (r : Salvage) → FieldsTell r c.count c.delta c.encoding types c.count 0 s' c.at
      → message_at types s' ≡ end_at h c types s' → TellsOf r types s'
  whole_tells h c (refusal x p) e q = q
      ∙ refused_rest (λ end z. got (valid (record { header = h; cursor = c; end = end })) end) (fields_at c.delta c.encoding types c.count 0 s' c.at) e
    where
      refused_rest : {B : Type 0} (g : ℕ → ℕ → Answer B) (y : Answer (Unit {0})) → and_then y (λ _ end. padding_at s' end) ≡ refused x p
          → and_then y (λ _ end. and_then (padding_at s' end) (λ _ z. g end z)) ≡ refused x p
      refused_rest g (got u end) i = rw i
      refused_rest g (refused m place) i = let a : m ≡ x = cc in let b : place ≡ p = cc in rw (a, b)
  whole_tells h c (salvaged pr fs) (i, j) q =
      λ m end a.
      let d = end_cursor h c types s' m end (sym q ∙ a) in
      (rw (i, d), rw d j)

  from_first : (c : Cursor) → c.next ≡ 0 → salvage_from types f s c ≡ fields_shown c.count c.delta c.encoding types c.count 0 f s c.at
  from_first c z =
      let e : c.count - c.next ≡ c.count = omega arith in
      ap (λ (n : ℕ). fields_shown c.count c.delta c.encoding types n c.next f s c.at) e
      ∙ ap (λ (k : ℕ). fields_shown c.count c.delta c.encoding types c.count k f s c.at) z

  front_tells : (x : Shown (Valid Message)) → FrontTells types f s' x → TellsOf (on_front types f s x) types s'
  front_tells (shown not_valid at) e =
      λ m end a.
      let b : got not_valid 0 ≡ got (valid m) end = sym (front_then types s' ∙ rw e) ∙ a in
      let v : ◌≡◌ {A = Valid Message} not_valid (valid m) = got_value b in
      let z : ◌≡◌ {A = ℕ} 0 1 = cc in
      absurd (omega arith)
  front_tells (shown (valid m) at) (e, l, z) =
      let c = m.cursor in
      whole_tells m.header c (salvage_from types f s c)
      (subst (λ (r : Salvage). FieldsTell r c.count c.delta c.encoding types c.count 0 s' c.at) (sym (from_first c z))
      (fields_tell c.count c.delta c.encoding types f s s' front c.count 0 c.at l)) (front_then types s' ∙ rw e)
  front_tells (bad n p) e = front_then types s' ∙ rw e
  front_tells ends e = λ m end a. (tt, refl)

  -- what is salvaged from the front of a message is the message's
  pub salvage_tells : TellsOf (salvage_at (length s') types f s) types s'
  salvage_tells = front_tells (front_shown (length s') types f s) (front_shows types f s s' front)
