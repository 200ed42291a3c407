-- From what the operations do to what their calls answer and leave, and back.
-- Assumes nothing.
use Prim.Native.Nat.{ℕ}
use mathlib.Core.Path.{◌≡◌, refl, ap, sym}
use mathlib.Core.Bool.{Bool, true, false, false≢true}
use Rattle.std.specs.Prelude.{Result, Ok, Err, is_err}
use Rattle.wire.specs.declared.refusal.Refusal.{Refusal}
use mathlib.Core.List.{List, []}
use native.Mathlib.Omega.{arith}
use Rattle.reassembly.specs.Record.{Partial, partial}
use Rattle.reassembly.specs.Reading.{reading_at}
use Rattle.reassembly.specs.Operations.{Step, step_of, take_in, combine, judge_hand_out, hand_out, if_done, yes_no}
use Rattle.reassembly.specs.Machine.{reply_of, handed_of}
use Rattle.reassembly.specs.Machine.Call.{Take, Combine, HandOut}
use Rattle.reassembly.specs.Calls.{Does, said_of, answers}
use Rattle.reassembly.specs.declared.operations.Outcome.{Outcome}
use Rattle.reassembly.specs.Verdict.{Completeness, Verdict, Done, Refused, verdict_told, completeness_told}

pub took : (x : Step) (s : Partial) (d z : List ℕ) → x ≡ take_in s (reading_at z d) → Does (Take d z) s (reply_of x.verdict) x.after
took x s d z q = record { answer = ap (λ (y : Step). reply_of y.verdict) q; left = ap (λ (y : Step). y.after) q }

pub joined : (x : Step) (s f : Partial) → x ≡ combine s f → Does (Combine f) s (reply_of x.verdict) x.after
joined x s f q = record { answer = ap (λ (y : Step). reply_of y.verdict) q; left = ap (λ (y : Step). y.after) q }

-- answers tell verdicts apart
pub one_verdict : (v w : Verdict) → reply_of v ≡ reply_of w → v ≡ w
one_verdict Done Done e = refl
one_verdict Done (Refused n p) e = let z : ◌≡◌ {A = ℕ} 0 1 = cc in absurd (omega arith)
one_verdict (Refused n p) Done e = let z : ◌≡◌ {A = ℕ} 0 1 = cc in absurd (omega arith)
one_verdict (Refused n p) (Refused m q) e = cc

pub one_said : (a b : Completeness) → said_of a ≡ said_of b → a ≡ b
one_said Completeness.Yes Completeness.Yes e = refl
one_said Completeness.No Completeness.No e = refl
one_said (Completeness.Unsaid n p) (Completeness.Unsaid m q) e = cc
one_said Completeness.Yes Completeness.No e = let z : ◌≡◌ {A = ℕ} 0 1 = cc in absurd (omega arith)
one_said Completeness.No Completeness.Yes e = let z : ◌≡◌ {A = ℕ} 0 1 = cc in absurd (omega arith)
one_said Completeness.Yes (Completeness.Unsaid n p) e = let z : ◌≡◌ {A = ℕ} 0 1 = cc in absurd (omega arith)
one_said Completeness.No (Completeness.Unsaid n p) e = let z : ◌≡◌ {A = ℕ} 0 1 = cc in absurd (omega arith)
one_said (Completeness.Unsaid n p) Completeness.Yes e = let z : ◌≡◌ {A = ℕ} 0 1 = cc in absurd (omega arith)
one_said (Completeness.Unsaid n p) Completeness.No e = let z : ◌≡◌ {A = ℕ} 0 1 = cc in absurd (omega arith)

one_handed : (v w : Verdict) (l : List ℕ) → handed_of v l ≡ handed_of w l → v ≡ w
one_handed Done Done l e = refl
one_handed Done (Refused n p) l e = let z : ◌≡◌ {A = ℕ} 0 1 = cc in absurd (omega arith)
one_handed (Refused n p) Done l e = let z : ◌≡◌ {A = ℕ} 0 1 = cc in absurd (omega arith)
one_handed (Refused n p) (Refused m q) l e = cc

pub handed_verdict : (s : Partial) (v : Verdict) → handed_of v (hand_out s) ≡ answers HandOut s → v ≡ judge_hand_out s
handed_verdict s v e = one_handed v (judge_hand_out s) (hand_out s) e

-- a partial that is sound is complete or not
pub yes_told : (b : Bool) → completeness_told (Ok b) ≡ yes_no b
yes_told true = refl
yes_told false = refl

-- what handing out tells by a refusal, and without one
pub none_handed : (r : Result (Unit {0}) Refusal) (l : List ℕ) → is_err r ≡ true → [] ≡ if_done (verdict_told r) l
none_handed (Ok u) l e = absurd (false≢true e)
none_handed (Err x) l e = refl

pub done_told : (r : Result (Unit {0}) Refusal) → is_err r ≡ false → verdict_told r ≡ Done
done_told (Ok u) e = refl
done_told (Err x) e = absurd (false≢true (sym e))

-- an outcome that a contract tells of, as the step
pub take_told : (s : Partial) (o : Outcome) (p m d z : List ℕ) → Does (Take d z) s (reply_of (verdict_told o.verdict)) (partial o.rec p m) → step_of o p m ≡ take_in s (reading_at z d)
take_told s o p m d z h =
    let v = one_verdict (verdict_told o.verdict) (take_in s (reading_at z d)).verdict h.answer in
    let a = h.left in
    λ i. record { verdict = v i; after = a i }

pub combine_told : (s f : Partial) (o : Outcome) (p m : List ℕ) → Does (Combine f) s (reply_of (verdict_told o.verdict)) (partial o.rec p m) → step_of o p m ≡ combine s f
combine_told s f o p m h =
    let v = one_verdict (verdict_told o.verdict) (combine s f).verdict h.answer in
    let a = h.left in
    λ i. record { verdict = v i; after = a i }
