-- Laws of offsets that pass a test. Assumes nothing.
use Prim.Native.Nat.{ℕ, zero, suc, ◌≤◌, ◌<◌, ◌+◌}
use mathlib.Core.Path.{◌≡◌, refl, sym, ◌∙◌, ap}
use mathlib.Core.Bool.{Bool, false, true, cond, or-true, false≢true, ◌||◌, ◌&&◌, not}
use native.Mathlib.Omega.{arith}
use Rattle.marks.specs.Offsets.{any_below, any_from, all_below, count_below}
use native.Mathlib.Nat.{not-suc-le-zero}
use Rattle.wire.proofs.Cases.{by_eq, by_lt, by_bool}
use native.Mathlib.Numerals.{add-one}
use lib.Dec.{leb}
use borrow.Author.Tests.{le-leb, lt-leb, not-true, not-false}

-- ---- a test at every offset below n
pub any_none : (n : ℕ) (f : ℕ → Bool) → ((i : ℕ) → i < n → f i ≡ false) → any_below n f ≡ false
any_none zero f e = refl
any_none (suc n) f e = rw (e n (omega arith)) (any_none n f (λ i h. e i (omega arith)))

any_some : (n : ℕ) (f : ℕ → Bool) (i : ℕ) → i < n → f i ≡ true → any_below n f ≡ true
any_some zero f i h e = absurd (not-suc-le-zero h)
any_some (suc n) f i h e =
    by_eq _ i n (λ q. let t : f n ≡ true = rw q at e in rw t) (λ ne. rw (any_some n f i (omega arith) e) (or-true (f n)))

pub none_any : (n : ℕ) (f : ℕ → Bool) → any_below n f ≡ false → (i : ℕ) → i < n → f i ≡ false
none_any n f e i h = by_bool _ (f i) (λ t. absurd (false≢true (sym e ∙ any_some n f i h t))) (λ t. t)

pub any_ext : (n : ℕ) (f g : ℕ → Bool) → ((i : ℕ) → i < n → f i ≡ g i) → any_below n f ≡ any_below n g
any_ext zero f g e = refl
any_ext (suc n) f g e = rw (e n (omega arith), any_ext n f g (λ i h. e i (omega arith)))

pub any_step : (n : ℕ) (f : ℕ → Bool) → any_below (n + 1) f ≡ (f n || any_below n f)
any_step n f = rw (add-one n)

pub all_every : (n : ℕ) (f : ℕ → Bool) → ((i : ℕ) → i < n → f i ≡ true) → all_below n f ≡ true
all_every n f e = ap not (any_none n (λ i. not (f i)) (λ i h. ap not (e i h)))

pub every_all : (n : ℕ) (f : ℕ → Bool) → all_below n f ≡ true → (i : ℕ) → i < n → f i ≡ true
every_all n f e i h = not-false (f i) (none_any n (λ k. not (f k)) (not-true (any_below n (λ k. not (f k))) e) i h)

pub all_ext : (n : ℕ) (f g : ℕ → Bool) → ((i : ℕ) → i < n → f i ≡ g i) → all_below n f ≡ all_below n g
all_ext n f g e = ap not (any_ext n (λ i. not (f i)) (λ i. not (g i)) (λ i h. ap not (e i h)))

pub all_step : (n : ℕ) (f : ℕ → Bool) → all_below (n + 1) f ≡ (all_below n f && f n)
all_step n f = ap not (any_step n (λ i. not (f i))) ∙ either (f n) (any_below n (λ i. not (f i)))
  where
    either : (a b : Bool) → not (not a || b) ≡ (not b && a)
    either true true = refl
    either true false = refl
    either false true = refl
    either false false = refl

-- none from a up to b
pub any_between : (a b : ℕ) (f : ℕ → Bool) → a ≤ b → ((k : ℕ) → a ≤ k → k < b → f k ≡ false) → any_below b f ≡ any_below a f
any_between a zero f h e = let q : 0 ≡ a = omega arith in ap (λ (n : ℕ). any_below n f) q
any_between a (suc b) f h e =
    by_eq _ a (suc b) (λ q. ap (λ (n : ℕ). any_below n f) (sym q))
    (λ ne. rw (e b (omega arith) (omega arith)) (any_between a b f (omega arith) (λ k l m. e k l (omega arith))))

-- ---- a test at the offsets from a up to b
pub from_none : (a b : ℕ) (f : ℕ → Bool) → ((k : ℕ) → a ≤ k → k < b → f k ≡ false) → any_from a b f ≡ false
from_none a b f e = any_none b _ (λ k h. by_lt _ k a (λ l. rw (lt-leb a k l)) (λ l. rw (le-leb a k l) (e k l h)))

pub none_from : (a b : ℕ) (f : ℕ → Bool) → any_from a b f ≡ false → (k : ℕ) → a ≤ k → k < b → f k ≡ false
none_from a b f e k h l = rw (le-leb a k h) at (none_any b (λ i. leb a i && f i) e k l)

pub from_ext : (a b : ℕ) (f g : ℕ → Bool) → ((k : ℕ) → a ≤ k → k < b → f k ≡ g k) → any_from a b f ≡ any_from a b g
from_ext a b f g e = any_ext b _ _ (λ k h. by_lt _ k a (λ l. rw (lt-leb a k l)) (λ l. rw (le-leb a k l) (e k l h)))

pub from_zero : (n : ℕ) (f : ℕ → Bool) → any_from 0 n f ≡ any_below n f
from_zero n f = any_ext n _ _ (λ k h. rw (le-leb 0 k (omega arith)))

-- one more
pub from_step : (a b : ℕ) (f : ℕ → Bool) → a ≤ b → any_from a (b + 1) f ≡ (f b || any_from a b f)
from_step a b f h = any_step b (λ i. leb a i && f i) ∙ ap (λ (t : Bool). t && f b || any_from a b f) (le-leb a b h)

-- two runs, the second behind the first
pub from_more : (a b c : ℕ) (f : ℕ → Bool) → a ≤ b → b ≤ c → any_from a c f ≡ (any_from a b f || any_from b c f)
from_more a b c f h l =
    by_bool _ (any_from a c f)
    (λ t. by_bool _ (any_from a b f) (λ x. rw (t, x))
    (λ x. by_bool _ (any_from b c f) (λ y. rw (t, x, y)) (λ y. absurd (false≢true (sym (from_none a c f (both x y)) ∙ t)))))
    (λ t. rw (t, from_none a b f (λ k p q. none_from a c f t k p (omega arith)), from_none b c f (λ k p q. none_from a c f t k (omega arith) q)))
  where
    both : any_from a b f ≡ false → any_from b c f ≡ false → (k : ℕ) → a ≤ k → k < c → f k ≡ false
    both x y k p q = by_lt _ k b (λ z. none_from a b f x k p z) (λ z. none_from b c f y k z q)

-- some of a run that lies inside
pub from_found : (a b c d : ℕ) (f : ℕ → Bool) → a ≤ b → c ≤ d → any_from b c f ≡ true → any_from a d f ≡ true
from_found a b c d f h l e =
    by_bool _ (any_from a d f) (λ t. t) (λ t. absurd (false≢true (sym (from_none b c f (λ k p q. none_from a d f t k (omega arith) (omega arith))) ∙ e)))

pub from_three : (a b c d : ℕ) (f : ℕ → Bool) → a ≤ b → b ≤ c → c ≤ d → ((any_from a b f || any_from b c f) || any_from c d f) ≡ any_from a d f
from_three a b c d f h l k =
    ap (λ (t : Bool). t || any_from c d f) (sym (from_more a b c f h l)) ∙ sym (from_more a c d f (omega arith) k)

-- ---- counting: the first, and the others
pub count_first : (n : ℕ) (f : ℕ → Bool) → count_below (suc n) f ≡ cond (f 0) 1 0 + count_below n (λ k. f (suc k))
count_first zero f = refl
count_first (suc n) f =
    let ih = count_first n f in
    let z : cond (f (suc n)) 1 0 + count_below (suc n) f ≡ cond (f 0) 1 0 + (cond (f (suc n)) 1 0 + count_below n (λ k. f (suc k))) = omega arith in z
