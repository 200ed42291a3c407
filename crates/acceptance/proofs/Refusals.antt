-- Every refusal of reading is one of document 01's, and its place stands where document 01 says. Proved once for the words that readers are put
-- together from, and then for each reader.
-- Assumes nothing.
use Prim.Native.Nat.{ℕ, zero, suc, ◌+◌, ◌≤◌}
use mathlib.Core.Path.{◌≡◌, refl, sym, subst}
use mathlib.Core.Bool.{Bool, true, false, cond, not, ◌&&◌, false≢true}
use mathlib.Core.List.{List, [], ◌∷◌}
use mathlib.Core.Logic.{◌⊎◌, inl, inr}
use native.Mathlib.Omega.{arith}
use borrow.Author.Tests.{leb-true, not-true, eqb-true}
use lib.Dec.{leb, eqb}
use lib.ListN.{length}
use Rattle.wire.specs.Answer.{Answer, got, refused, Reader, and_then, ◌>>=◌, ◌>>◌, pure, here, refuse, item, signed_item, ruled, run, when_on, each}
use Rattle.wire.specs.Items.{guid, length_item}
use Rattle.wire.specs.Optional.{optional16, optional32, optional_i64, picoseconds_at}
use Rattle.wire.proofs.Facts.{and_left, and_right}
use Rattle.wire.proofs.Cases.{by_bool}
use Rattle.reassembly_laws.specs.Refusing.{one_of}
use Rattle.acceptance.specs.Refusals.{placeless, Refusal}

-- the numbers of a reader: 1, 3 and others
abbrev pub with13 : List ℕ → List ℕ
with13 others = 1 ∷ 3 ∷ others

-- an answer within hi bytes
pub data Tells {A : Type 0} (others : List ℕ) (hi : ℕ) : Answer A → Type 0 where
  gives : {a : A} {next : ℕ} → next ≤ hi → Tells others hi (got a next)
  refuses : {n place : ℕ} → Refusal (with13 others) n place hi → Tells others hi (refused n place)

-- what it tells where it is a refusal
pub told : {A : Type 0} {others : List ℕ} {hi n place : ℕ} {x : Answer A} → Tells others hi x → x ≡ refused n place → Refusal (with13 others) n place hi
told {A} {others} {hi} t e = of (subst (Tells others hi) e t)
  where
    of : {n place : ℕ} → Tells {A = A} others hi (refused n place) → Refusal (with13 others) n place hi
    of (Tells.refuses r) = r

-- a reader whose every answer is such
pub record Lawful {A : Type 0} (others : List ℕ) (r : Reader A) : Type 0 where
  pub tells : (s : List ℕ) (at : ℕ) → at ≤ length s → Tells others (length s) (r s at)

-- a number that a rule of an item may give: it stands at the item
pub record AtItem (others : List ℕ) (n : ℕ) : Type 0 where
  pub one : one_of (with13 others) n ≡ true
  pub placed : placeless n ≡ false

pub at_item : {others : List ℕ} {n place hi : ℕ} → AtItem others n → place ≤ hi → Refusal (with13 others) n place hi
at_item r h = record { one = r.one; nowhere = λ e. absurd (false≢true (rw r.placed at e)); inside = h }

-- a number of document 01 that has a place
pub number : {others : List ℕ} (n : ℕ) → one_of (with13 others) n && not (placeless n) ≡ true → AtItem others n
number {others} n e = record {
  one = and_left (one_of (with13 others) n) _ e;
  placed = not-true (placeless n) (and_right (one_of (with13 others) n) _ e);
}

pub n1 : {others : List ℕ} → AtItem others 1
n1 = number 1 refl

pub n3 : {others : List ℕ} → AtItem others 3
n3 = number 3 refl

-- 8 and 10 have no place
pub no_place : {others : List ℕ} {hi : ℕ} (n : ℕ) → one_of (with13 others) n ≡ true → Refusal (with13 others) n 0 hi
no_place {others} {hi} n e = record { one = e; nowhere = λ _. refl; inside = omega arith }

-- ---- more numbers

-- every one of these is one of those
abbrev pub all_of : List ℕ → List ℕ → Bool
all_of ys [] = true
all_of ys (x ∷ xs) = one_of ys x && all_of ys xs

pub wider_one : (xs ys : List ℕ) → all_of ys xs ≡ true → (n : ℕ) → one_of xs n ≡ true → one_of ys n ≡ true
wider_one [] ys a n e = absurd (false≢true e)
wider_one (x ∷ xs) ys a n e =
    by_bool _ (eqb x n)
    (λ h. subst (λ (m : ℕ). one_of ys m ≡ true) (eqb-true x n h) (and_left (one_of ys x) _ a))
    (λ h. wider_one xs ys (and_right (one_of ys x) _ a) n (rw h at e))

pub wider : {xs ys : List ℕ} {n place hi : ℕ} → all_of ys xs ≡ true → Refusal xs n place hi → Refusal ys n place hi
wider {xs} {ys} {n} a r = record { one = wider_one xs ys a n r.one; nowhere = r.nowhere; inside = r.inside }

pub wider_tells : {A : Type 0} {xs ys : List ℕ} {hi : ℕ} {x : Answer A} → all_of (with13 ys) (with13 xs) ≡ true → Tells xs hi x → Tells ys hi x
wider_tells a (gives h) = gives h
wider_tells a (refuses r) = refuses (wider a r)

pub wider_lawful : {A : Type 0} {xs ys : List ℕ} {r : Reader A} → all_of (with13 ys) (with13 xs) ≡ true → Lawful xs r → Lawful ys r
wider_lawful a f = record { tells = λ s at h. wider_tells a (f.tells s at h) }

-- ---- the words
pub pure_lawful : {others : List ℕ} {A : Type 0} (a : A) → Lawful others (pure a)
pure_lawful a = record { tells = λ s at h. gives h }

pub here_lawful : {others : List ℕ} → Lawful others here
here_lawful = record { tells = λ s at h. gives h }

pub refuse_lawful : {others : List ℕ} {A : Type 0} (n : ℕ) → AtItem others n → Lawful others (refuse {A = A} n)
refuse_lawful n r = record { tells = λ s at h. refuses (at_item r h) }

-- w bytes of which f tells
pub taking_tells : {others : List ℕ} {A : Type 0} (w : ℕ) (x : A) (s : List ℕ) (at : ℕ) → at ≤ length s → Tells others (length s) (cond (leb (at + w) (length s)) (got x (at + w)) (refused 1 at))
taking_tells {others} w x s at h = go (leb (at + w) (length s)) refl
  where
    go : (b : Bool) → leb (at + w) (length s) ≡ b → Tells others (length s) (cond b (got x (at + w)) (refused 1 at))
    go true e = gives (leb-true (at + w) (length s) e)
    go false e = refuses (at_item n1 h)

pub item_lawful : {others : List ℕ} (w : ℕ) → Lawful others (item w)
item_lawful w = record { tells = λ s at h. taking_tells w _ s at h }

pub signed_lawful : {others : List ℕ} (w : ℕ) → Lawful others (signed_item w)
signed_lawful w = record { tells = λ s at h. taking_tells w _ s at h }

pub run_lawful : {others : List ℕ} (n : ℕ) → Lawful others (run n)
run_lawful n = record { tells = λ s at h. taking_tells n _ s at h }

pub length_lawful : {others : List ℕ} → Lawful others length_item
length_lawful = record { tells = λ s at h. taking_tells 4 _ s at h }

pub guid_lawful : {others : List ℕ} → Lawful others guid
guid_lawful = record { tells = λ s at h. taking_tells 16 _ s at h }

-- what follows an answer
pub then_tells : {others : List ℕ} {A B : Type 0} {hi : ℕ} {x : Answer A} {k : A → ℕ → Answer B} → Tells others hi x → ((a : A) (next : ℕ) → next ≤ hi → Tells others hi (k a next))
    → Tells others hi (and_then x k)
then_tells (gives {a} {next} h) f = f a next h
then_tells (refuses r) f = refuses r

pub bind_lawful : {others : List ℕ} {A B : Type 0} {r : Reader A} {k : A → Reader B} → Lawful others r → ((a : A) → Lawful others (k a)) → Lawful others (r >>= k)
bind_lawful f h = record { tells = λ s at l. then_tells (f.tells s at l) (λ a next u. (h a).tells s next u) }

pub after_lawful : {others : List ℕ} {A B : Type 0} {r : Reader A} {k : Reader B} → Lawful others r → Lawful others k → Lawful others (r >> k)
after_lawful f h = record { tells = λ s at l. then_tells (f.tells s at l) (λ a next u. h.tells s next u) }

pub cond_tells : {others : List ℕ} {A : Type 0} {hi : ℕ} (b : Bool) {x y : Answer A} → Tells others hi x → Tells others hi y → Tells others hi (cond b x y)
cond_tells true f h = f
cond_tells false f h = h

pub cond_lawful : {others : List ℕ} {A : Type 0} (b : Bool) {x y : Reader A} → Lawful others x → Lawful others y → Lawful others (cond b x y)
cond_lawful true f h = f
cond_lawful false f h = h

pub when_lawful : {others : List ℕ} {A : Type 0} (on : Bool) (a : A) {r : Reader A} → Lawful others r → Lawful others (when_on on a r)
when_lawful true a f = f
when_lawful false a f = pure_lawful a

pub each_lawful : {others : List ℕ} {A : Type 0} {r : Reader A} → Lawful others r → (n : ℕ) → Lawful others (each r n)
unfolding each
each_lawful f zero = pure_lawful tt
each_lawful f (suc n) = after_lawful f (each_lawful f n)

-- a rule gives 0 or a number that stands at its item
abbrev pub Rule : List ℕ → ℕ → Type 0
Rule others n = (n ≡ 0) ⊎ AtItem others n

pub cond_rule : {others : List ℕ} (b : Bool) {x y : ℕ} → Rule others x → Rule others y → Rule others (cond b x y)
cond_rule true f h = f
cond_rule false f h = h

pub kept : {others : List ℕ} → Rule others 0
kept = inl refl

pub ruled_tells : {others : List ℕ} {A : Type 0} (n : ℕ) → Rule others n → (x : A) (place next hi : ℕ) → place ≤ hi → next ≤ hi → Tells others hi (cond (eqb n 0) (got x next) (refused n place))
ruled_tells {others} {A} n (inl e) x place next hi h l = subst (λ (m : ℕ). Tells {A = A} others hi (cond (eqb m 0) (got x next) (refused m place))) (sym e) (gives l)
ruled_tells n (inr r) x place next hi h l = cond_tells (eqb n 0) (gives l) (refuses (at_item r h))

pub ruled_lawful : {others : List ℕ} (w : ℕ) (rule : ℕ → ℕ) → ((v : ℕ) → Rule others (rule v)) → Lawful others (ruled w rule)
ruled_lawful w rule f = record { tells = λ s at h. then_tells ((item_lawful w).tells s at h) (λ v next l. ruled_tells (rule v) (f v) v at next (length s) h l) }

-- ---- items that a flag announces
pub optional16_lawful : {others : List ℕ} (on : Bool) → Lawful others (optional16 on)
optional16_lawful on = when_lawful on _ (bind_lawful (item_lawful 2) (λ v. pure_lawful _))

pub optional32_lawful : {others : List ℕ} (on : Bool) → Lawful others (optional32 on)
optional32_lawful on = when_lawful on _ (bind_lawful (item_lawful 4) (λ v. pure_lawful _))

pub optional_i64_lawful : {others : List ℕ} (on : Bool) → Lawful others (optional_i64 on)
optional_i64_lawful on = when_lawful on _ (bind_lawful (signed_lawful 8) (λ v. pure_lawful _))

pub picoseconds_lawful : {others : List ℕ} (on : Bool) → Lawful others (picoseconds_at on)
picoseconds_lawful on = when_lawful on _ (bind_lawful (item_lawful 2) (λ v. pure_lawful _))
