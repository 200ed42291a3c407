-- A view says, for each offset of a payload, which byte is known there, if any. What a chunk brings and what a partial covers are views.
use Rattle.std.specs.Prelude.{ℕ, zero, suc, ◌+◌, ◌-◌, Bool, true, false, cond, not, List, [], ◌∷◌, length, get_or, eqb}
use Rattle.std.proofs.Math.Option
use Rattle.std.proofs.Math.Option.{Option, some, none, or_else}
use Rattle.marks.specs.Offsets.{any_below, all_below, in_range}

abbrev pub View : Type 0
View = ℕ → Option ℕ

-- the list of n elements that has f i at each i
abbrev pub tabulate : ℕ → (ℕ → ℕ) → List ℕ
tabulate zero f = []
tabulate (suc n) f = f zero ∷ tabulate n (λ i. f (suc i))

abbrev pub is_some : Option ℕ → Bool
is_some (some x) = true
is_some none = false

-- the offsets at which a view has a byte
abbrev pub has : View → ℕ → Bool
has v i = is_some (v i)

abbrev pub only_if : Bool → ℕ → Option ℕ
only_if true x = some x
only_if false x = none

-- a chunk's data at its offset
unfoldable pub data_view : ℕ → List ℕ → View
data_view at d i = only_if (in_range at (at + length d) i) (get_or d (i - at) 0)

-- each byte of a list at its own offset
abbrev pub bytes_view : List ℕ → View
bytes_view p i = some (get_or p i 0)

-- a view from start up to end
abbrev pub between : ℕ → ℕ → View → View
between start end v i = cond (in_range start end i) (v i) none

-- no byte anywhere
abbrev pub nowhere : View
nowhere i = none

-- the bytes of both views; where both have one, the first's
abbrev pub both_views : View → View → View
both_views v w i = or_else (v i) (w i)

-- both known, and not the same
abbrev pub differs : Option ℕ → Option ℕ → Bool
differs (some a) (some b) = not (eqb a b)
differs (some a) none = false
differs none o = false

-- whether the two views have different bytes at one offset below n
unfoldable pub clash : ℕ → View → View → Bool
clash n v w = any_below n (λ i. differs (v i) (w i))

-- whether the view has a byte at every offset below n
unfoldable pub full : ℕ → View → Bool
full n v = all_below n (has v)

-- a view's bytes below n as a list, with 0 where it has none
abbrev pub bytes_below : ℕ → View → List ℕ
bytes_below n v = tabulate n (λ i. Option.get_or (v i) 0)

-- the list with each byte of the view stored at its offset, and no other byte changed
unfoldable pub overlaid : View → List ℕ → List ℕ
overlaid v p = tabulate (length p) (λ i. Option.get_or (v i) (get_or p i 0))
