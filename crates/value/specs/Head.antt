-- What a value's own items say of it: before the values inside it are passed over, and after.
use Rattle.std.specs.Prelude.{ℕ, cond, List, eqb, Result, Ok, Err}
use Rattle.wire.specs.Answer.{Answer, got, refused, Reader, and_then, ◌>>◌, each}
use Rattle.wire.specs.Refusal.{reason_number}
use Rattle.wire.specs.declared.refusal.Refusal.{Refusal}
use Rattle.plain_value.specs.Plain.{passing}
use Rattle.plain_value.specs.Parts.{parts}
use Rattle.plain_value.specs.Dimensions.{dimensions}
use Rattle.value.specs.Value.{Measure}
use Rattle.value.specs.declared.head.After.{After}
use Rattle.value.specs.declared.head.Head.{Head}

-- how many of the values counted stand inside: none before a list alone
abbrev pub inside_of : After → ℕ → ℕ
inside_of (After.Parts m) count = count
inside_of After.List count = count
inside_of After.ListAlone count = 0

-- what follows the n values inside: a DataValue's parts by its mask, or an array's dimensions list
abbrev pub rest : ℕ → After → Reader (Unit {0})
rest n (After.Parts m) = parts m
rest n After.List = passing (dimensions n)
rest n After.ListAlone = passing (dimensions n)

-- how the values inside, by `nested`, and what follows them finish a value, all passed over
abbrev pub finish : (ℕ → Reader Measure) → List ℕ → Result Head Refusal → Answer (Unit {0})
finish nested s (Ok (Head.To end)) = got tt end
finish nested s (Ok (Head.Holds from count inner after)) = (each (nested inner) (inside_of after count) >> rest count after) s from
finish nested s (Err r) = refused (reason_number r.reason) r.place

-- an item v at `place` is judged by its rule, and k follows
abbrev pub judged : (ℕ → ℕ) → ℕ → ℕ → (ℕ → Reader Measure) → Reader Measure
judged rule v place k s at = and_then (cond (eqb (rule v) 0) (got v at) (refused (rule v) place)) (λ x next. k x s next)
