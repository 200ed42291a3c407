-- The vocabulary of answers and readers, which every definition of reading is written in.
use Rattle.std.specs.Prelude.{ℕ, zero, suc, ◌+◌, ◌/◌, ◌%◌, ◌^◌, List, Bool, true, false, cond, length, leb, eqb, ℤ}
use Rattle.wire.specs.Constants.{CUT_SHORT}
use Rattle.wire.specs.Number.{le, signed}

-- What a reader answers: a value with the position after it, or a refusal with document 01's number and its place,
-- the first byte of the offending item.
pub data Answer (A : Type 0) : Type 0 where
  got : A → ℕ → Answer A
  refused : ℕ → ℕ → Answer A

-- A reader takes the whole slice and a position in it; places and positions count from the slice's start.
abbrev pub Reader : Type 0 → Type 0
Reader A = List ℕ → ℕ → Answer A

-- what comes next stands after what was read; a refusal is the whole's answer
abbrev pub and_then : {A B : Type 0} → Answer A → (A → ℕ → Answer B) → Answer B
and_then (got a next) k = k a next
and_then (refused n place) k = refused n place

infixl 10 ◌>>=◌
abbrev pub ◌>>=◌ : {A B : Type 0} → Reader A → (A → Reader B) → Reader B
◌>>=◌ r k s at = and_then (r s at) (λ a next. k a s next)

infixl 10 ◌>>◌
abbrev pub ◌>>◌ : {A B : Type 0} → Reader A → Reader B → Reader B
◌>>◌ r k s at = and_then (r s at) (λ a next. k s next)

-- reads nothing
abbrev pub pure : {A : Type 0} → A → Reader A
pure a s at = got a at

-- the position
abbrev pub here : Reader ℕ
here s at = got at at

-- refuses at the position
abbrev pub refuse : {A : Type 0} → ℕ → Reader A
refuse n s at = refused n at

-- w bytes, of which f tells: 1 at their first byte where they do not fit in what is left
abbrev pub taking : {A : Type 0} → ℕ → (List ℕ → ℕ → A) → Reader A
taking w f s at = cond (leb (at + w) (length s)) (got (f s at) (at + w)) (refused CUT_SHORT at)

-- an item, a number of w bytes: 1 at its first byte where it does not fit in what is left
abbrev pub item : ℕ → Reader ℕ
item w s at = cond (leb (at + w) (length s)) (got (le w s at) (at + w)) (refused CUT_SHORT at)

-- an item whose number is signed
abbrev pub signed_item : ℕ → Reader ℤ
signed_item w s at = cond (leb (at + w) (length s)) (got (signed w (le w s at)) (at + w)) (refused CUT_SHORT at)

-- "At each item 1 is tested first, then its rules in the order given": the rule of a value is the number of the
-- first rule that it breaks, or 0
abbrev pub ruled : ℕ → (ℕ → ℕ) → Reader ℕ
ruled w rule s at = and_then (item w s at) (λ v next. cond (eqb (rule v) 0) (got v next) (refused (rule v) at))

-- a run of n bytes, located only; it is one item
abbrev pub run : ℕ → Reader ℕ
run n s at = cond (leb (at + n) (length s)) (got n (at + n)) (refused CUT_SHORT at)

-- a part that a flag announces; absent where the flag is off
abbrev pub when_on : {A : Type 0} → Bool → A → Reader A → Reader A
when_on true absent r = r
when_on false absent r = pure absent

-- n parts, one after the other
unfoldable pub each : {A : Type 0} → Reader A → ℕ → Reader (Unit {0})
each r zero = pure tt
each r (suc n) = r >> each r n

-- the n bits of v from bit k on, as a number; bits are counted from 0, the lowest, as document 01 counts them
abbrev pub bits : ℕ → ℕ → ℕ → ℕ
bits zero n v = v % 2 ^ n
bits (suc k) n v = v / 2 ^ suc k % 2 ^ n

-- whether bit k of v is set
abbrev pub bit : ℕ → ℕ → Bool
bit k v = eqb (bits k 1 v) 1

-- an answer whose value is made from the value read
abbrev pub map_answer : {A B : Type 0} → (A → B) → Answer A → Answer B
map_answer f (got a next) = got (f a) next
map_answer f (refused n place) = refused n place
