-- SALVAGING (document 02, Req 13) as one type: a field for each sentence, the sentence above it. proofs/Salvage.antt gives a value of it.
-- The contract of `uadp_salvage` says what is put: of a partial's areas `salvageIn` and `holesIn`.
use Rattle.std.specs.Prelude.{ℕ, ◌≤◌, ◌<◌, ◌%◌, ◌≡◌, true, not, List, [], ◌∷◌, length, get_or, take}
use Rattle.marks.specs.Marks.{in_use, marked}
use Rattle.reassembly.specs.Record.{Partial, sound}
use Rattle.reassembly.specs.Machine.{Call}
use Rattle.reassembly.specs.Machine.Call.{Empty, Take, Combine, Ask, HandOut}
use Rattle.reassembly.specs.Calls.{final}
use Rattle.salvage.specs.Tiles.{in_holes, Longest}
use Rattle.salvage.specs.Whole.{TellsOf}
use Rattle.partial_record.specs.List.{holes_in, salvage_in}
use Rattle.uadp_c.specs.Salvaging.{salvage_lent, Salvages}

-- a list of calls in which nothing is emptied
abbrev pub NoEmptying : List Call → Type 0
NoEmptying [] = Unit {0}
NoEmptying (Empty ∷ ks) = ⊥
NoEmptying (Take d sizes ∷ ks) = NoEmptying ks
NoEmptying (Combine f ∷ ks) = NoEmptying ks
NoEmptying (Ask ∷ ks) = NoEmptying ks
NoEmptying (HandOut ∷ ks) = NoEmptying ks

-- a message that is as long as the total says, and has the covered bytes
pub record HasCovered (payload marks : List ℕ) (total : ℕ) (message : List ℕ) : Type 0 where
  pub long : length message ≡ total
  pub same : (i : ℕ) → i < total → marked in_use marks i ≡ true → get_or message i 0 ≡ get_or payload i 0

pub record Salvaging : Type 0 where
  -- ---- "A field handed out is the one that the walk over the complete message, if accepted, gives there by the same configuration"; the
  -- promised number is the complete message's; a refusal is the complete message's own: of every message that has the covered bytes.
  pub tells : (types payload marks : List ℕ) (total : ℕ) (message : List ℕ) → 1 ≤ total → total ≤ length payload
      → HasCovered payload marks total message → TellsOf (salvage_in types payload marks total) types message
  -- "whatever is later accepted without emptying": after any list of such calls the payload area's first bytes are such a message. The
  -- partial is sound; "a number that isn't the marked count is no fault here".
  pub later : (ks : List Call) (s : Partial) → sound s ≡ true → s.layout ≡ in_use → s.rec.started ≡ true → NoEmptying ks
      → HasCovered s.payload s.marks s.rec.message.total (take s.rec.message.total (final ks s).payload)
  -- Both together.
  pub tells_later : (types : List ℕ) (ks : List Call) (s : Partial) → sound s ≡ true → s.layout ≡ in_use
      → s.rec.started ≡ true → NoEmptying ks
      → TellsOf (salvage_in types s.payload s.marks s.rec.message.total) types
      (take s.rec.message.total (final ks s).payload)
  -- ---- "list its holes as offset and length, in order, each as long as possible": holes and covered bytes tile the total.
  pub holes_tile : (types payload marks : List ℕ) (total i : ℕ) → i < total
      → in_holes (holes_in types payload marks total) i ≡ not (marked in_use marks i)
  pub holes_longest : (types payload marks : List ℕ) (total : ℕ)
      → Longest (marked in_use marks) total 0 (holes_in types payload marks total)
  -- ---- A result whose low byte is not 0 leaves every lent byte as it was.
  pub lent_refused : (rec payload marks config told list : List ℕ) (r : ℕ) (told-after list-after : List ℕ)
      → Salvages (salvage_lent rec payload marks config told list) r told-after list-after → (r % 256 ≡ 0 → ⊥)
      → (told-after ≡ told) × (list-after ≡ list)
