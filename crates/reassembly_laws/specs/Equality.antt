-- When partials are equal, in the words of document 01.
use Rattle.std.specs.Prelude.{ℕ, true, false, ◌≡◌, ◌⊎◌, get_or}
use Rattle.reassembly.specs.Record.{Partial, identity_of}
use Rattle.reassembly.specs.Judge.{covered}

-- "Started partials are equal if records, covered places and the bytes there agree"; "equality of started partials includes the number"
-- (document 02, Req 07)
pub record EqualStarted (a b : Partial) : Type 0 where
  pub first : a.rec.started ≡ true
  pub second : b.rec.started ≡ true
  pub records : identity_of a.rec.message ≡ identity_of b.rec.message
  pub places : (i : ℕ) → covered a i ≡ covered b i
  pub numbers : a.rec.covered ≡ b.rec.covered
  pub bytes : (i : ℕ) → covered a i ≡ true → get_or a.payload i 0 ≡ get_or b.payload i 0

-- "all not started are equal"
abbrev pub EqualInWords : Partial → Partial → Type 0
EqualInWords a b = ((a.rec.started ≡ false) × (b.rec.started ≡ false)) ⊎ EqualStarted a b
