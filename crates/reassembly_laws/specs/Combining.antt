-- What the laws of combining speak of.
use Rattle.std.specs.Prelude.{Bool, true, false, ◌||◌, ◌≡◌}
use Rattle.reassembly.specs.Record.{Partial, room_of}
use Rattle.reassembly.specs.Machine.{state_of, between}
use Rattle.reassembly.specs.Judge.{Equal}
use Rattle.reassembly.specs.Operations.{combine}
use Rattle.reassembly.specs.Verdict.{Verdict, Done, Refused}

abbrev pub is_refused : Verdict → Bool
is_refused Done = false
is_refused (Refused n p) = true

-- the first refusal of two
abbrev pub on_done : Verdict → Verdict → Verdict
on_done Done b = b
on_done (Refused n p) b = Refused n p

-- "two disagree exactly if one of these arises between them, by message, total or a byte both cover": 13 or 14
abbrev pub disagree : Partial → Partial → Bool
disagree a b = is_refused (between (state_of a) (state_of b))

-- two of three disagree
abbrev pub some_disagree : Partial → Partial → Partial → Bool
some_disagree a b c = disagree a b || (disagree b c || disagree a c)

-- areas of equal length
abbrev pub EqualRoom : Partial → Partial → Type 0
EqualRoom a b = room_of a ≡ room_of b

-- either order gives equal results, or the same refusal
pub record EitherOrder (a b : Partial) : Type 0 where
  pub same_verdict : (combine a b).verdict ≡ (combine b a).verdict
  pub equal : (combine a b).verdict ≡ Done → Equal (combine a b).after (combine b a).after

-- b combined into a, and then c into that
abbrev pub left_verdict : Partial → Partial → Partial → Verdict
left_verdict a b c = on_done (combine a b).verdict (combine (combine a b).after c).verdict

abbrev pub left_result : Partial → Partial → Partial → Partial
left_result a b c = (combine (combine a b).after c).after

-- c combined into b, and then that into a
abbrev pub right_verdict : Partial → Partial → Partial → Verdict
right_verdict a b c = on_done (combine b c).verdict (combine a (combine b c).after).verdict

abbrev pub right_result : Partial → Partial → Partial → Partial
right_result a b c = (combine a (combine b c).after).after

-- either grouping gives equal results, or both are refused, and that exactly if two of the three disagree
pub record EitherGrouping (a b c : Partial) : Type 0 where
  pub left : is_refused (left_verdict a b c) ≡ some_disagree a b c
  pub right : is_refused (right_verdict a b c) ≡ some_disagree a b c
  pub equal : some_disagree a b c ≡ false → Equal (left_result a b c) (right_result a b c)
