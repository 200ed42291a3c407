-- By which number, and at which place, each call is refused.
use Rattle.std.specs.Prelude.{ℕ, Bool, true, false, ◌||◌, List, [], ◌∷◌, ◌≡◌, ◌⊎◌, eqb}
use Rattle.wire.specs.Constants.{BYTE_DIFFERS, NOT_COMPLETE, NO_ROOM, OTHER_MESSAGE, UNSOUND}
use Rattle.reassembly.specs.Reading.{reading_at}
use Rattle.reassembly.specs.Reading.Reading.{refusal}
use Rattle.reassembly.specs.Machine.{Call}
use Rattle.reassembly.specs.Machine.Call.{Empty, Take, Combine, Ask, HandOut}

abbrev pub one_of : List ℕ → ℕ → Bool
one_of [] n = false
one_of (x ∷ l) n = eqb x n || one_of l n

-- one of these numbers, at place 0
abbrev pub ByNumber : List ℕ → ℕ → ℕ → Type 0
ByNumber l n place = (one_of l n ≡ true) × (place ≡ 0)

-- emptying never; taking in by 12, the chunk's own number at its place, 11, 13, 14; combining by 12, 11, 13, 14; asking by 12; handing
-- out by 12, 15
abbrev pub MayRefuse : Call → ℕ → ℕ → Type 0
MayRefuse Empty n place = ⊥
MayRefuse (Take d sizes) n place =
    ByNumber (UNSOUND ∷ NO_ROOM ∷ OTHER_MESSAGE ∷ BYTE_DIFFERS ∷ []) n place ⊎ (reading_at sizes d ≡ refusal n place)
MayRefuse (Combine f) n place = ByNumber (UNSOUND ∷ NO_ROOM ∷ OTHER_MESSAGE ∷ BYTE_DIFFERS ∷ []) n place
MayRefuse Ask n place = ByNumber (UNSOUND ∷ []) n place
MayRefuse HandOut n place = ByNumber (UNSOUND ∷ NOT_COMPLETE ∷ []) n place
