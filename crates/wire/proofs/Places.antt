-- What a steady reader answers for bytes that stand elsewhere: in another slice, after other bytes, alone, or between others.
-- Assumes nothing.
use mathlib.Core.Path.{◌≡◌, refl, sym, ap, subst, ◌∙◌}
use mathlib.Core.List.{List, ◌++◌}
use Prim.Native.Nat.{ℕ, ◌+◌, ◌-◌, ◌<◌, ◌≤◌}
use native.Mathlib.Omega.{arith}
use native.Mathlib.Nat.{le_refl, le-add_right, zero-add, add-zero}
use lib.ListN.{length, get_or, take, drop, length-append, length-drop, take-append-drop, get_or-append}
use lib.Seq.{get_or-append-add, length-take-le, get_or-take}
use Rattle.wire.specs.Answer.{Answer, got, refused, Reader}
use Rattle.wire.proofs.Steady.{Ends, Part, Follows, Steady}

-- an answer, moved by d
abbrev pub moved_by : {A : Type 0} → ℕ → Answer A → Answer A
moved_by d (got a next) = got a (d + next)
moved_by d (refused n place) = refused n (d + place)

-- bytes and where they stand

part_after : (pre s : List ℕ) → Part (length pre) (length s) s (pre ++ s)
part_after pre s = record { first = le_refl (length s); second = simp length-append (le_refl (length pre + length s)); same = λ i h. get_or-append-add pre s i 0 }

part_front : (s post : List ℕ) → Part 0 (length s) s (s ++ post)
part_front s post = record {
  first = le_refl (length s);
  second = simp length-append (omega arith);
  same = λ i h. ap (λ (x : ℕ). get_or (s ++ post) x 0) (zero-add i) ∙ get_or-append s post 0 i h;
}

part_take : (n : ℕ) (s : List ℕ) → n ≤ length s → Part 0 (length (take n s)) (take n s) s
part_take n s h =
    let l : length (take n s) ≡ n = length-take-le n s h in
    record {
      first = le_refl (length (take n s));
      second = omega arith;
      same = λ i k. ap (λ (x : ℕ). get_or s x 0) (zero-add i) ∙ sym (get_or-take n s i 0 (omega arith));
    }

-- what `Follows` tells of the second answer

accepted : {A : Type 0} {d n ls ls' e : ℕ} {a : A} {y : Answer A} → Follows d n ls ls' (got a e) y → e ≤ n → y ≡ got a (d + e)
accepted {a = a} (Follows.moved i) h = ap (got a) i
accepted (Follows.past l u) h = absurd (omega arith)

kept : {A : Type 0} {d n ls' e : ℕ} {a : A} {y : Answer A} → Follows d n n ls' (got a e) y → y ≡ got a (d + e)
kept {a = a} (Follows.moved i) = ap (got a) i
kept (Follows.past l u) = absurd (omega arith)

stopped : {A : Type 0} {d n ls' k p : ℕ} {y : Answer A} → Follows d n n ls' (refused k p) y → (k ≡ 1 → ⊥) → y ≡ refused k (d + p)
stopped {k = k} (Follows.stays i) h = ap (refused k) i
stopped (Follows.short l) h = absurd (h refl)
stopped (Follows.lost l) h = absurd (omega arith)

whole : {A : Type 0} {d n : ℕ} {x y : Answer A} → Follows d n n (d + n) x y → y ≡ moved_by d x
whole (Follows.moved {a = a} i) = ap (got a) i
whole (Follows.stays {k = k} i) = ap (refused k) i
whole (Follows.past l u) = absurd (omega arith)
whole (Follows.short l) = absurd (omega arith)
whole (Follows.lost l) = absurd (omega arith)

pub end_of : {A : Type 0} {p lo hi e : ℕ} {a : A} → Ends p lo hi (got a e) → (lo ≤ e) × (e ≤ hi)
end_of (Ends.ended l u) = (l, u)

place_of : {A : Type 0} {p lo hi n place : ℕ} → Ends {A = A} p lo hi (refused n place) → (1 ≤ n) × (p ≤ place) × (place ≤ hi)
place_of (Ends.stopped k l u) = (k, l, u)

unmoved : {A : Type 0} (d e : ℕ) (a : A) (x : Answer A) → moved_by d x ≡ got a e → x ≡ got a (e - d)
unmoved d e a (got b next) q =
    let h : d + next ≡ e = cc in
    let g : next ≡ e - d = omega arith in
    cc
unmoved d e a (refused n p) q = let z : ◌≡◌ {A = ℕ} 0 1 = cc in absurd (omega arith)

module _ {A : Type 0} {r : Reader A} (f : Steady r) where
  -- an accepted answer ends within the slice and not before its start
  pub within : (s : List ℕ) (at : ℕ) {e : ℕ} {a : A} → at ≤ length s → r s at ≡ got a e → (at ≤ e) × (e ≤ length s)
  within s at h q = end_of (subst (Ends at at (length s)) q (f.within s at (length s) h (le_refl (length s))))

  -- so does a refusal stand, and its number is not 0
  pub within_refused : (s : List ℕ) (at : ℕ) {n place : ℕ} → at ≤ length s → r s at ≡ refused n place → (1 ≤ n) × (at ≤ place) × (place ≤ length s)
  within_refused s at h q = place_of (subst (Ends at at (length s)) q (f.within s at (length s) h (le_refl (length s))))

  -- where the bytes up to its end stand in another slice, an accepted answer is the same there, moved
  elsewhere : {d n : ℕ} {s s' : List ℕ} → Part d n s s' → (at : ℕ) {e : ℕ} {a : A} → r s at ≡ got a e → e ≤ n → r s' (d + at) ≡ got a (d + e)
  elsewhere {d} {n} {s} {s'} part at q h =
      accepted (subst (λ (x : Answer A). Follows d n (length s) (length s') x (r s' (d + at))) q (f.follows d n s s' part at (d + at) refl)) h

  -- where all bytes of the slice do, so are every accepted answer and every refusal that is not 1
  elsewhere_whole : {d : ℕ} {s s' : List ℕ} → Part d (length s) s s' → (at : ℕ) {e : ℕ} {a : A} → r s at ≡ got a e → r s' (d + at) ≡ got a (d + e)
  elsewhere_whole {d} {s} {s'} part at q =
      kept (subst (λ (x : Answer A). Follows d (length s) (length s) (length s') x (r s' (d + at))) q (f.follows d (length s) s s' part at (d + at) refl))

  elsewhere_refused : {d : ℕ} {s s' : List ℕ} → Part d (length s) s s' → (at : ℕ) {n place : ℕ} → r s at ≡ refused n place → (n ≡ 1 → ⊥) → r s' (d + at) ≡ refused n (d + place)
  elsewhere_refused {d} {s} {s'} part at q h =
      stopped (subst (λ (x : Answer A). Follows d (length s) (length s) (length s') x (r s' (d + at))) q (f.follows d (length s) s s' part at (d + at) refl)) h

  -- two slices that agree below n
  pub local : (n : ℕ) (s s' : List ℕ) → n ≤ length s → n ≤ length s' → ((i : ℕ) → i < n → get_or s' i 0 ≡ get_or s i 0)
      → (at : ℕ) {e : ℕ} {a : A} → r s at ≡ got a e → e ≤ n → r s' at ≡ got a e
  local n s s' h h' g at {e} {a} q k =
      let part : Part 0 n s s' = record { first = h; second = omega arith; same = λ i l. ap (λ (x : ℕ). get_or s' x 0) (zero-add i) ∙ g i l } in
      ap (r s') (sym (zero-add at)) ∙ elsewhere part at q k ∙ ap (got a) (zero-add e)

  -- bytes after the slice change no accepted answer, and no refusal that is not 1
  pub append : (s post : List ℕ) (at : ℕ) {e : ℕ} {a : A} → r s at ≡ got a e → r (s ++ post) at ≡ got a e
  append s post at {e} {a} q = ap (r (s ++ post)) (sym (zero-add at)) ∙ elsewhere_whole (part_front s post) at q ∙ ap (got a) (zero-add e)

  pub append_refused : (s post : List ℕ) (at : ℕ) {n place : ℕ} → r s at ≡ refused n place → (n ≡ 1 → ⊥) → r (s ++ post) at ≡ refused n place
  append_refused s post at {n} {place} q h = ap (r (s ++ post)) (sym (zero-add at)) ∙ elsewhere_refused (part_front s post) at q h ∙ ap (refused n) (zero-add place)

  -- the same of a slice's first n bytes
  pub take_refused : (n : ℕ) (s : List ℕ) → n ≤ length s → (at : ℕ) {k place : ℕ} → r (take n s) at ≡ refused k place → (k ≡ 1 → ⊥) → r s at ≡ refused k place
  take_refused n s h at {k} {place} q g = ap (r s) (sym (zero-add at)) ∙ elsewhere_refused (part_take n s h) at q g ∙ ap (refused k) (zero-add place)

  -- bytes after its end may be cut off
  pub cut : (s post : List ℕ) (at : ℕ) {e : ℕ} {a : A} → r (s ++ post) at ≡ got a e → e ≤ length s → r s at ≡ got a e
  cut s post at q h = local (length s) (s ++ post) s (simp length-append (le-add_right (length s) (length post))) (le_refl (length s)) (λ i l. sym (get_or-append s post 0 i l)) at q h

  -- a slice that starts in the middle moves every answer
  pub after : (pre s : List ℕ) (at : ℕ) → r (pre ++ s) (length pre + at) ≡ moved_by (length pre) (r s at)
  after pre s at =
      whole (subst (λ (l : ℕ). Follows (length pre) (length s) (length s) l (r s at) (r (pre ++ s) (length pre + at))) (length-append pre s)
      (f.follows (length pre) (length s) s (pre ++ s) (part_after pre s) at (length pre + at) refl))

  -- the bytes of an accepted answer, put between others, give it there
  pub placed : (pre v post : List ℕ) {e : ℕ} {a : A} → r v 0 ≡ got a e → r (pre ++ (v ++ post)) (length pre) ≡ got a (length pre + e)
  placed pre v post q =
      ap (r (pre ++ (v ++ post))) (sym (add-zero (length pre))) ∙ after pre (v ++ post) 0 ∙ ap (moved_by (length pre)) (append v post 0 q)

  -- cut out, they give it alone
  pub alone : (s : List ℕ) (at : ℕ) {e : ℕ} {a : A} → at ≤ length s → r s at ≡ got a e → r (take (e - at) (drop at s)) 0 ≡ got a (e - at)
  alone s at {e} {a} h q =
      let w = within s at h q in
      let n : length (take at s) ≡ at = length-take-le at s h in
      let x : r (take at s ++ drop at s) (length (take at s) + 0) ≡ got a e =
      ap (λ (y : List ℕ). r y (length (take at s) + 0)) (take-append-drop at s) ∙ ap (r s) (add-zero (length (take at s)) ∙ n) ∙ q in
      let y : r (drop at s) 0 ≡ got a (e - at) =
      unmoved at e a (r (drop at s) 0) (ap (λ (y : ℕ). moved_by y (r (drop at s) 0)) (sym n) ∙ sym (after (take at s) (drop at s) 0) ∙ x) in
      let l : e - at ≤ length (drop at s) = simp length-drop (omega arith) in
      let m : length (take (e - at) (drop at s)) ≡ e - at = length-take-le (e - at) (drop at s) l in
      cut (take (e - at) (drop at s)) (drop (e - at) (drop at s)) 0
      (ap (λ (y : List ℕ). r y 0) (take-append-drop (e - at) (drop at s)) ∙ y) (omega arith)
