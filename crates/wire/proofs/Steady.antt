-- Steady readers: what they answer lies within the slice, depends on the bytes read only, and moves with these bytes.
-- Every reader that is put together from items, lengths and runs, and whose values hold no positions, is steady.
-- Assumes nothing.
use mathlib.Core.Path.{◌≡◌, refl, sym, ap, subst, ◌∙◌}
use mathlib.Core.Bool.{Bool, true, false, cond}
use mathlib.Core.List.{List}
use Prim.Native.Nat.{ℕ, zero, suc, ◌+◌, ◌*◌, ◌<◌, ◌≤◌}
use native.Mathlib.Omega.{arith}
use native.Mathlib.Nat.{le_refl, le_trans, le-add_right, le-add_left, add-zero, zero-add}
use borrow.Author.Tests.{leb-true, leb-false, eqb-false}
use lib.Dec.{leb, eqb}
use lib.ListN.{length, get_or}
use Rattle.wire.specs.Number.{le, signed}
use Rattle.wire.specs.Answer.{Answer, got, refused, Reader, and_then, ◌>>=◌, ◌>>◌, pure, refuse, item, signed_item, ruled, run, when_on, each}
use Rattle.wire.specs.Items.{length_of, length_item}

-- an accepted answer ends from lo up to hi; a refusal stands from p up to hi, and its number is not 0
pub data Ends {A : Type 0} (p lo hi : ℕ) : Answer A → Type 0 where
  ended : {a : A} {next : ℕ} → lo ≤ next → next ≤ hi → Ends p lo hi (got a next)
  stopped : {n place : ℕ} → 1 ≤ n → p ≤ place → place ≤ hi → Ends p lo hi (refused n place)

-- the first n bytes of s stand in s' from d on
pub record Part (d n : ℕ) (s s' : List ℕ) : Type 0 where
  pub first : n ≤ length s
  pub second : d + n ≤ length s'
  pub same : (i : ℕ) → i < n → get_or s' (d + i) 0 ≡ get_or s i 0

-- y, in a slice of ls' bytes, is x, in a slice of ls bytes of which n stand in the other from d on: moved by d.
-- An x that took bytes past n tells nothing of y. A 1 tells of y where both slices end after the n bytes, and any
-- other refusal where the first does.
pub data Follows {A : Type 0} (d n ls ls' : ℕ) : Answer A → Answer A → Type 0 where
  moved : {a : A} {next q : ℕ} → q ≡ d + next → Follows d n ls ls' (got a next) (got a q)
  stays : {k p q : ℕ} → q ≡ d + p → Follows d n ls ls' (refused k p) (refused k q)
  past : {a : A} {next : ℕ} {y : Answer A} → n < next → next ≤ ls → Follows d n ls ls' (got a next) y
  short : {p : ℕ} {y : Answer A} → n + (d + n) < ls + ls' → Follows d n ls ls' (refused 1 p) y
  lost : {k p : ℕ} {y : Answer A} → n < ls → Follows d n ls ls' (refused k p) y

-- f is the front of s and of s', which are equally long
pub record Fronts (f s s' : List ℕ) : Type 0 where
  pub one : Part 0 (length f) f s
  pub other : Part 0 (length f) f s'
  pub long : length s ≡ length s'

-- the item at p was passed: what comes after it ends behind p, and where it is cut short, that is behind p
pub data Passed {A : Type 0} (p : ℕ) : Answer A → Type 0 where
  on : {a : A} {next : ℕ} → p < next → Passed p (got a next)
  faulty : {k q : ℕ} → (k ≡ 1 → p < q) → Passed p (refused k q)

-- What a front tells of two wholes: all three answer the same; or the front ends in the item at p, which fits in both wholes.
pub data Fronted {A : Type 0} : Answer A → Answer A → Answer A → Type 0 where
  alike : {x : Answer A} → Fronted x x x
  ends : {p : ℕ} {y z : Answer A} → Passed p y → Passed p z → Fronted (refused 1 p) y z

pub record Steady {A : Type 0} (r : Reader A) : Type 0 where
  pub within : (s : List ℕ) (at hi : ℕ) → at ≤ hi → length s ≤ hi → Ends at at hi (r s at)
  pub follows : (d n : ℕ) (s s' : List ℕ) → Part d n s s' → (at q : ℕ) → q ≡ d + at → Follows d n (length s) (length s') (r s at) (r s' q)
  pub fronts : (f s s' : List ℕ) → Fronts f s s' → (at : ℕ) → at ≤ length f → Fronted (r f at) (r s at) (r s' at)

-- lower bounds hold too
ends_from : {A : Type 0} {p p' lo lo' hi : ℕ} {x : Answer A} → p ≤ p' → lo ≤ lo' → Ends p' lo' hi x → Ends p lo hi x
ends_from g h (ended l u) = ended (le_trans h l) u
ends_from g h (stopped k l u) = stopped k (le_trans g l) u

-- nothing read

pub pure_steady : {A : Type 0} (a : A) → Steady (pure a)
pure_steady a = record {
  within = λ s at hi l u. ended (le_refl at) l;
  follows = λ d n s s' part at q e. moved e;
  fronts = λ f s s' front at l. alike;
}

pub refuse_steady : {A : Type 0} (n : ℕ) → 1 ≤ n → Steady (refuse {A = A} n)
refuse_steady n h = record {
  within = λ s at hi l u. stopped h (le_refl at) l;
  follows = λ d n s s' part at q e. stays e;
  fronts = λ f s s' front at l. alike;
}

-- an item

neither : {A : Type 0} {m n : ℕ} → m ≤ n → n < m → A
neither {m = m} {n} h l = absurd (omega (arith, h, l))

-- f tells of the w bytes from a position on only
abbrev pub Local : {A : Type 0} → ℕ → (List ℕ → ℕ → A) → Type 0
Local w f = (s s' : List ℕ) (at q : ℕ) → ((i : ℕ) → i < w → get_or s' (q + i) 0 ≡ get_or s (at + i) 0) → f s' q ≡ f s at

-- w bytes, of which f tells; 1 where they do not fit
abbrev pub taking : {A : Type 0} → ℕ → (List ℕ → ℕ → A) → Reader A
taking w f s at = cond (leb (at + w) (length s)) (got (f s at) (at + w)) (refused 1 at)

pub taking_ends : {A : Type 0} (w : ℕ) (f : List ℕ → ℕ → A) (s : List ℕ) (at hi : ℕ) → at ≤ hi → length s ≤ hi → Ends at (at + w) hi (taking w f s at)
taking_ends w f s at hi l u = go (leb (at + w) (length s)) refl
  where
    go : (b : Bool) → leb (at + w) (length s) ≡ b → Ends at (at + w) hi (cond b (got (f s at) (at + w)) (refused 1 at))
    go true e = ended (le_refl (at + w)) (le_trans (leb-true (at + w) (length s) e) u)
    go false e = stopped (le_refl 1) (le_refl at) l

taking_steady : {A : Type 0} (w : ℕ) (f : List ℕ → ℕ → A) → Local w f → Steady (taking w f)
taking_steady {A} w f local =
    record {
      within = λ s at hi l u. ends_from (le_refl at) (le-add_right at w) (taking_ends w f s at hi l u);
      follows = walk;
      fronts = λ g s s' front at l. shown g s s' front at l (leb (at + w) (length g)) (leb (at + w) (length s)) (leb (at + w) (length s')) refl refl refl;
    }
  where
    both : (d n : ℕ) (s s' : List ℕ) → Part d n s s' → (at q : ℕ) → q ≡ d + at → at + w ≤ length s
        → (b : Bool) → leb (at + w) n ≡ b → Follows d n (length s) (length s') (got (f s at) (at + w)) (got (f s' q) (q + w))
    both d n s s' part at q e h true i =
        let k : at + w ≤ n = leb-true _ _ i in
        let g : (j : ℕ) → j < w → get_or s' (q + j) 0 ≡ get_or s (at + j) 0 = λ j l. ap (λ (x : ℕ). get_or s' x 0) (omega arith) ∙ part.same (at + j) (omega arith) in
        subst (λ (x : A). Follows d n (length s) (length s') (got (f s at) (at + w)) (got x (q + w))) (sym (local s s' at q g)) (moved (omega arith))
    both d n s s' part at q e h false i = let k : n < at + w = leb-false _ _ i in past k h

    go : (d n : ℕ) (s s' : List ℕ) → Part d n s s' → (at q : ℕ) → q ≡ d + at
        → (b b' : Bool) → leb (at + w) (length s) ≡ b → leb (q + w) (length s') ≡ b'
        → Follows d n (length s) (length s') (cond b (got (f s at) (at + w)) (refused 1 at)) (cond b' (got (f s' q) (q + w)) (refused 1 q))
    go d n s s' part at q e true true i j = both d n s s' part at q e (leb-true _ _ i) (leb (at + w) n) refl
    go d n s s' part at q e true false i j =
        let h : at + w ≤ length s = leb-true _ _ i in
        let g : length s' < q + w = leb-false _ _ j in
        let k : d + n ≤ length s' = part.second in
        let l : n < at + w = omega arith in
        past l h
    go d n s s' part at q e false true i j =
        let h : length s < at + w = leb-false _ _ i in
        let g : q + w ≤ length s' = leb-true _ _ j in
        let k : n ≤ length s = part.first in
        short (omega arith)
    go d n s s' part at q e false false i j = stays e

    read_in : (g s : List ℕ) → Part 0 (length g) g s → (at : ℕ) → at + w ≤ length g → f s at ≡ f g at
    read_in g s part at h = local g s at at (λ j l. ap (λ (x : ℕ). get_or s x 0) (sym (zero-add (at + j))) ∙ part.same (at + j) (omega arith))

    shown : (g s s' : List ℕ) → Fronts g s s' → (at : ℕ) → at ≤ length g
        → (b b₁ b₂ : Bool) → leb (at + w) (length g) ≡ b → leb (at + w) (length s) ≡ b₁ → leb (at + w) (length s') ≡ b₂
        → Fronted (cond b (got (f g at) (at + w)) (refused 1 at)) (cond b₁ (got (f s at) (at + w)) (refused 1 at)) (cond b₂ (got (f s' at) (at + w)) (refused 1 at))
    shown g s s' front at l true true true i i₁ i₂ =
        let h : at + w ≤ length g = leb-true _ _ i in
        subst (λ (x : A). Fronted (got (f g at) (at + w)) (got x (at + w)) (got (f s' at) (at + w))) (sym (read_in g s front.one at h))
        (subst (λ (x : A). Fronted (got (f g at) (at + w)) (got (f g at) (at + w)) (got x (at + w))) (sym (read_in g s' front.other at h)) alike)
    shown g s s' front at l true true false i i₁ i₂ =
        neither (subst (λ (x : ℕ). at + w ≤ x) front.long (leb-true _ _ i₁)) (leb-false _ _ i₂)
    shown g s s' front at l true false b₂ i i₁ i₂ =
        let h : at + w ≤ length g = leb-true _ _ i in
        let k : at + w ≤ length s = omega (arith, h, front.one.second) in
        neither k (leb-false _ _ i₁)
    shown g s s' front at l false true true i i₁ i₂ =
        let h : length g < at + w = leb-false _ _ i in
        let k : at < at + w = omega (arith, h, l) in
        ends (on k) (on k)
    shown g s s' front at l false true false i i₁ i₂ =
        neither (subst (λ (x : ℕ). at + w ≤ x) front.long (leb-true _ _ i₁)) (leb-false _ _ i₂)
    shown g s s' front at l false false true i i₁ i₂ =
        neither (subst (λ (x : ℕ). at + w ≤ x) (sym front.long) (leb-true _ _ i₂)) (leb-false _ _ i₁)
    shown g s s' front at l false false false i i₁ i₂ = alike

    walk : (d n : ℕ) (s s' : List ℕ) → Part d n s s' → (at q : ℕ) → q ≡ d + at → Follows d n (length s) (length s') (taking w f s at) (taking w f s' q)
    walk d n s s' part at q e = go d n s s' part at q e (leb (at + w) (length s)) (leb (q + w) (length s')) refl refl

le_local : (w : ℕ) → Local w (le w)
le_local zero s s' at q h = refl
le_local (suc w) s s' at q h =
    let b : get_or s' q 0 ≡ get_or s at 0 = ap (λ (x : ℕ). get_or s' x 0) (sym (add-zero q)) ∙ h 0 (omega arith) ∙ ap (λ (x : ℕ). get_or s x 0) (add-zero at) in
    let g : (i : ℕ) → i < w → get_or s' (q + 1 + i) 0 ≡ get_or s (at + 1 + i) 0 =
    λ i l. ap (λ (x : ℕ). get_or s' x 0) (omega arith) ∙ h (suc i) (omega arith) ∙ ap (λ (x : ℕ). get_or s x 0) (omega arith) in
    ap (λ (x : ℕ). x + 256 * le w s' (q + 1)) b ∙ ap (λ (x : ℕ). get_or s at 0 + 256 * x) (le_local w s s' (at + 1) (q + 1) g)

pub item_steady : (w : ℕ) → Steady (item w)
item_steady w = taking_steady w (le w) (le_local w)

pub signed_item_steady : (w : ℕ) → Steady (signed_item w)
signed_item_steady w = taking_steady w (λ s at. signed w (le w s at)) (λ s s' at q h. ap (signed w) (le_local w s s' at q h))

pub length_item_steady : Steady length_item
length_item_steady = taking_steady 4 (λ s at. length_of (signed 4 (le 4 s at))) (λ s s' at q h. ap (λ (x : ℕ). length_of (signed 4 x)) (le_local 4 s s' at q h))

pub run_steady : (n : ℕ) → Steady (run n)
run_steady n = taking_steady n (λ s at. n) (λ s s' at q h. refl)

-- joined readers

-- a refusal by 1 stands at lo or behind it
abbrev pub ShortFrom : {A : Type 0} → ℕ → Answer A → Type 0
ShortFrom lo (got a next) = Unit {0}
ShortFrom lo (refused k q) = k ≡ 1 → lo ≤ q

-- what comes after an item at p, and may refuse there, but not by 1
pub record Onward {A : Type 0} (k : ℕ → Reader A) : Type 0 where
  pub within : (s : List ℕ) (p at hi : ℕ) → p ≤ at → at ≤ hi → length s ≤ hi → Ends p at hi (k p s at)
  pub follows : (d n : ℕ) (s s' : List ℕ) → Part d n s s' → (p p' at q : ℕ) → p' ≡ d + p → q ≡ d + at
      → Follows d n (length s) (length s') (k p s at) (k p' s' q)
  pub fronts : (f s s' : List ℕ) → Fronts f s s' → (p at : ℕ) → at ≤ length f → Fronted (k p f at) (k p s at) (k p s' at)
  shorts : (s : List ℕ) (p at : ℕ) → ShortFrom at (k p s at)

-- a refusal of a steady reader stands where it starts or behind
short_from : {A : Type 0} {at hi : ℕ} {x : Answer A} → Ends at at hi x → ShortFrom at x
short_from (ended l u) = tt
short_from (stopped i l u) = λ e. l

-- a steady reader, wherever the item stood
pub steadily : {A : Type 0} {r : Reader A} → Steady r → Onward (λ p. r)
steadily f = record {
  within = λ s p at hi l u v. ends_from l (le_refl at) (f.within s at hi u v);
  follows = λ d n s s' part p p' at q i e. f.follows d n s s' part at q e;
  fronts = λ g s s' front p at l. f.fronts g s s' front at l;
  shorts = λ s p at. short_from (f.within s at (at + length s) (le-add_right at (length s)) (le-add_left (length s) at));
}

-- a refusal of the item, by no 1
pub refusing : {A : Type 0} (n : ℕ) → 2 ≤ n → Onward {A = A} (λ p s at. refused n p)
refusing n h = record {
  within = λ s p at hi l u v. stopped (le_trans (omega arith) h) (le_refl p) (le_trans l u);
  follows = λ d n s s' part p p' at q i e. stays i;
  fronts = λ f s s' front p at l. alike;
  shorts = λ s p at e. neither h (subst (λ (x : ℕ). x < 2) (sym e) (omega arith));
}

pub cond_onward : {A : Type 0} (b : Bool) {x y : ℕ → Reader A} → (b ≡ true → Onward x) → (b ≡ false → Onward y) → Onward (λ p s at. cond b (x p s at) (y p s at))
cond_onward true f h = f refl
cond_onward false f h = h refl

from_start : {A : Type 0} {p lo hi : ℕ} {a : A} {next : ℕ} → Ends p lo hi (got a next) → lo ≤ next
from_start (ended l u) = l

beyond : {A : Type 0} {d n ls ls' p next : ℕ} {x y : Answer A} → n < next → next ≤ ls → Ends p next ls x → Follows d n ls ls' x y
beyond l v (ended m u) = past (le_trans l m) u
beyond l v (stopped i m u) = lost (le_trans l v)

module _ {A B : Type 0} {k : A → ℕ → Reader B} (h : (a : A) → Onward (k a)) (s : List ℕ) where
  pub then_ends : {at lo hi : ℕ} {x : Answer A} → at ≤ lo → length s ≤ hi → Ends at lo hi x → Ends at lo hi (and_then x (λ a next. k a at s next))
  then_ends {at} g u (ended {a} {next} l v) = ends_from (le_refl at) l ((h a).within s at next _ (le_trans g l) v u)
  then_ends g u (stopped i l v) = stopped i l v

  then_follows : (d n : ℕ) (s' : List ℕ) → Part d n s s' → (at q : ℕ) → q ≡ d + at → {x y : Answer A} → Ends at at (at + length s) x → Follows d n (length s) (length s') x y
      → Follows d n (length s) (length s') (and_then x (λ a next. k a at s next)) (and_then y (λ a next. k a q s' next))
  then_follows d n s' part at q e m (moved {a} {next} {q = j} i) = (h a).follows d n s s' part at q next j e i
  then_follows d n s' part at q e m (stays i) = stays i
  then_follows d n s' part at q e m (past {a} {next} l u) = beyond l u ((h a).within s at next (length s) (from_start m) u (le_refl (length s)))
  then_follows d n s' part at q e m (short l) = short l
  then_follows d n s' part at q e m (lost l) = lost l

-- what comes after an item that was passed has passed it too
then_passed : {A B : Type 0} {k : A → ℕ → Reader B} (h : (a : A) → Onward (k a)) (s : List ℕ) {at p : ℕ} {y : Answer A}
    → Ends at at (at + length s) y → Passed p y → Passed p (and_then y (λ a next. k a at s next))
then_passed {k = k} h s {at} {p} (ended {a} {next} l u) (on m) =
    behind ((h a).within s at next (next + length s) l (le-add_right next (length s)) (le-add_left (length s) next)) ((h a).shorts s at next)
  where
    behind : {B : Type 0} {x : Answer B} → Ends at next (next + length s) x → ShortFrom next x → Passed p x
    behind (ended i j) z = on (le_trans m i)
    behind (stopped g i j) z = faulty (λ e. le_trans m (z e))
then_passed h s w (faulty g) = faulty g

then_fronted : {A B : Type 0} {k : A → ℕ → Reader B} (h : (a : A) → Onward (k a)) (f s s' : List ℕ) → Fronts f s s' → (at : ℕ)
    → {x y z : Answer A} → Ends at at (length f) x → Ends at at (at + length s) y → Ends at at (at + length s') z → Fronted x y z
    → Fronted (and_then x (λ a next. k a at f next)) (and_then y (λ a next. k a at s next)) (and_then z (λ a next. k a at s' next))
then_fronted h f s s' front at (ended {a} {next} l u) w w' alike = (h a).fronts f s s' front at next u
then_fronted h f s s' front at (stopped i l u) w w' alike = alike
then_fronted h f s s' front at v w w' (ends i j) = ends (then_passed h s w i) (then_passed h s' w' j)

pub onward_steady : {A B : Type 0} {r : Reader A} {k : A → ℕ → Reader B} → Steady r → ((a : A) → Onward (k a)) → Steady (λ s at. and_then (r s at) (λ a next. k a at s next))
onward_steady f h = record {
  within = λ s at hi l u. then_ends h s (le_refl at) u (f.within s at hi l u);
  follows = λ d n s s' part at q e. then_follows h s d n s' part at q e (f.within s at (at + length s) (le-add_right at (length s)) (le-add_left (length s) at)) (f.follows d n s s' part at q e);
  fronts = λ g s s' front at l.
      then_fronted h g s s' front at (f.within g at (length g) l (le_refl (length g)))
      (f.within s at (at + length s) (le-add_right at (length s)) (le-add_left (length s) at))
      (f.within s' at (at + length s') (le-add_right at (length s')) (le-add_left (length s') at)) (f.fronts g s s' front at l);
}

le_of_ne_zero : (n : ℕ) → (n ≡ 0 → ⊥) → 1 ≤ n
le_of_ne_zero n h = omega arith

-- no number of a rule is 1, which says that an item does not fit
abbrev pub Fair : ℕ → Type 0
Fair n = n ≡ 1 → ⊥

pub fair_cond : (b : Bool) {x y : ℕ} → Fair x → Fair y → Fair (cond b x y)
fair_cond true f h = f
fair_cond false f h = h

pub fair : (n : ℕ) → eqb n 1 ≡ false → Fair n
fair n e = eqb-false n 1 e

pub two_of_fair : (n : ℕ) → 1 ≤ n → Fair n → 2 ≤ n
two_of_fair zero h f = neither h (omega arith)
two_of_fair (suc zero) h f = absurd (f refl)
two_of_fair (suc (suc n)) h f = omega arith

ruling : (w : ℕ) (rule : ℕ → ℕ) → ((v : ℕ) → Fair (rule v)) → (v : ℕ) → Onward (λ p s at. cond (eqb (rule v) 0) (got v at) (refused (rule v) p))
ruling w rule no_one v =
    cond_onward (eqb (rule v) 0) (λ e. steadily (pure_steady v))
    (λ e. refusing (rule v) (two_of_fair (rule v) (le_of_ne_zero (rule v) (eqb-false (rule v) 0 e)) (no_one v)))

pub bind_steady : {A B : Type 0} {r : Reader A} {k : A → Reader B} → Steady r → ((a : A) → Steady (k a)) → Steady (r >>= k)
bind_steady f h = onward_steady f (λ a. steadily (h a))

-- an item and its rules
pub ruled_ends : (w : ℕ) (rule : ℕ → ℕ) → ((v : ℕ) → Fair (rule v)) → (s : List ℕ) (at hi : ℕ) → at ≤ hi → length s ≤ hi → Ends at (at + w) hi (ruled w rule s at)
ruled_ends w rule no_one s at hi l u = then_ends (ruling w rule no_one) s (le-add_right at w) u (taking_ends w (le w) s at hi l u)

pub ruled_steady : (w : ℕ) (rule : ℕ → ℕ) → ((v : ℕ) → Fair (rule v)) → Steady (ruled w rule)
ruled_steady w rule no_one = onward_steady (item_steady w) (ruling w rule no_one)

pub then_steady : {A B : Type 0} {r : Reader A} {k : Reader B} → Steady r → Steady k → Steady (r >> k)
then_steady f h = bind_steady f (λ a. h)

pub cond_steady : {A : Type 0} (b : Bool) {x y : Reader A} → Steady x → Steady y → Steady (cond b x y)
cond_steady true f h = f
cond_steady false f h = h

pub when_steady : {A : Type 0} (on : Bool) (a : A) {r : Reader A} → Steady r → Steady (when_on on a r)
when_steady true a f = f
when_steady false a f = pure_steady a

pub each_steady : {A : Type 0} {r : Reader A} → Steady r → (n : ℕ) → Steady (each r n)
unfolding each
each_steady f zero = pure_steady tt
each_steady f (suc n) = then_steady f (each_steady f n)
