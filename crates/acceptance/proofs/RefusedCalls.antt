-- The refusals of the calls on a partial.
-- Assumes nothing.
use Prim.Native.Nat.{ℕ}
use mathlib.Core.Path.{◌≡◌, refl, subst, sym}
use mathlib.Core.Bool.{true}
use mathlib.Core.List.{List, [], ◌∷◌}
use mathlib.Core.Logic.{inl, inr}
use native.Mathlib.Omega.{arith}
use lib.ListN.{length}
use Rattle.wire.specs.Answer.{Answer, got, refused}
use Rattle.chunk.specs.Datagram.{chunk_at}
use Rattle.chunk.specs.declared.datagram.ChunkPlace.{ChunkPlace}
use Rattle.reassembly.specs.Reading.{reading_by, reading_at}
use Rattle.reassembly.specs.Reading.Reading.{refusal}
use Rattle.reassembly.specs.Machine.{Call}
use Rattle.reassembly.specs.Machine.Call.{Empty, Take, Combine, Ask, HandOut}
use Rattle.reassembly_laws.specs.Refusing.{ByNumber, MayRefuse}
use Rattle.acceptance.specs.Refusals.{Refusal, call_refusals}
use Rattle.acceptance.specs.Calls.{bytes_read}
use Rattle.acceptance.proofs.Refusals.{all_of, wider, wider_one, told}
use Rattle.acceptance.proofs.RefusedDatagrams.{chunk_tells}

-- a chunk's own refusal is that of reading it
own_number : (d sizes : List ℕ) (n place : ℕ) → reading_at sizes d ≡ refusal n place → chunk_at sizes d ≡ refused n place
unfolding reading_at
own_number d sizes n place e = go (chunk_at sizes d) e
  where
    go : (x : Answer ChunkPlace) → reading_by x d ≡ refusal n place → x ≡ refused n place
    go (got c m) q = let z : ◌≡◌ {A = ℕ} 0 1 = cc in absurd (omega arith)
    go (refused m p) q = cc

-- by one of these numbers, at 0
by_number : (bytes : ℕ) (l : List ℕ) (n place : ℕ) → all_of call_refusals l ≡ true → ByNumber l n place → Refusal call_refusals n place bytes
by_number bytes l n place a h =
    subst (λ (p : ℕ). Refusal call_refusals n p bytes) (sym h.1)
    (record { one = wider_one l call_refusals a n h.0; nowhere = λ _. refl; inside = omega arith })

pub placed : (k : Call) (n place : ℕ) → MayRefuse k n place → Refusal call_refusals n place (bytes_read k)
placed Empty n place h = absurd h
placed (Take d sizes) n place (inl h) = by_number (length d) (12 ∷ 11 ∷ 13 ∷ 14 ∷ []) n place refl h
placed (Take d sizes) n place (inr e) = wider refl (told (chunk_tells sizes d) (own_number d sizes n place e))
placed (Combine f) n place h = by_number 0 (12 ∷ 11 ∷ 13 ∷ 14 ∷ []) n place refl h
placed Ask n place h = by_number 0 (12 ∷ []) n place refl h
placed HandOut n place h = by_number 0 (12 ∷ 15 ∷ []) n place refl h
