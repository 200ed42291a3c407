-- Reasons are told apart by their numbers, and a writer's refusal by its own.
-- Assumes nothing.
use Rattle.std.specs.Prelude.{Result, Ok, Err}
use mathlib.Core.Path.{◌≡◌, refl, ap, sym, ◌∙◌}
use mathlib.Core.Bool.{Bool, true, false, cond}
use Prim.Native.Nat.{ℕ}
use lib.Dec.{eqb}
use Rattle.wire.specs.Answer.{Answer, refused}
use Rattle.wire.specs.Refusal.{reason_number}
use Rattle.wire.specs.declared.refusal.Reason.{Reason}
use Rattle.wire.proofs.Reading.{not_got}
use Rattle.wire_writer.specs.Writing.{answer_written}

-- the reason of a number
abbrev reason_of : ℕ → Reason
reason_of n =
    cond (eqb n 1) Reason.CutShort (cond (eqb n 2) Reason.BadVersion (cond (eqb n 3) Reason.NotPermitted (cond (eqb n 4) Reason.NotTaken
    (cond (eqb n 5) Reason.BadLength (cond (eqb n 6) Reason.Disagree (cond (eqb n 7) Reason.LeftOver (cond (eqb n 8) Reason.NotConfigured
    (cond (eqb n 9) Reason.TooDeep (cond (eqb n 10) Reason.OverLimit (cond (eqb n 11) Reason.NoRoom (cond (eqb n 12) Reason.Unsound
    (cond (eqb n 13) Reason.OtherMessage (cond (eqb n 14) Reason.ByteDiffers (cond (eqb n 15) Reason.NotComplete Reason.BadLine))))))))))))))

reason_back : (reason : Reason) → reason_of (reason_number reason) ≡ reason
reason_back Reason.CutShort = refl
reason_back Reason.BadVersion = refl
reason_back Reason.NotPermitted = refl
reason_back Reason.NotTaken = refl
reason_back Reason.BadLength = refl
reason_back Reason.Disagree = refl
reason_back Reason.LeftOver = refl
reason_back Reason.NotConfigured = refl
reason_back Reason.TooDeep = refl
reason_back Reason.OverLimit = refl
reason_back Reason.NoRoom = refl
reason_back Reason.Unsound = refl
reason_back Reason.OtherMessage = refl
reason_back Reason.ByteDiffers = refl
reason_back Reason.NotComplete = refl
reason_back Reason.BadLine = refl

same_reason : (a b : Reason) → reason_number a ≡ reason_number b → a ≡ b
same_reason a b e = sym (reason_back a) ∙ ap reason_of e ∙ reason_back b

-- what is told of a result whose refusal has a number and a place
abbrev pub number_of : {A : Type 0} → Result A (ℕ × ℕ) → ℕ
number_of (Ok a) = 0
number_of (Err e) = e.0

abbrev pub place_of : {A : Type 0} → Result A (ℕ × ℕ) → ℕ
place_of (Ok a) = 0
place_of (Err e) = e.1

abbrev pub is_refused : {A E : Type 0} → Result A E → Bool
is_refused (Ok a) = false
is_refused (Err e) = true

-- two refusals that are equal have the same number
pub refused_number : {A : Type 0} {n m p q : ℕ} → ◌≡◌ {A = Answer A} (refused n p) (refused m q) → n ≡ m
refused_number e = cc

-- what the code answers where it wrote nothing
pub refused_by : (r : Result ℕ Reason) (reason : Reason) → answer_written r ≡ refused (reason_number reason) 0 → r ≡ Err reason
refused_by (Ok n) reason e = absurd (not_got (sym e))
refused_by (Err x) reason e = ap Err (same_reason x reason (refused_number e))
