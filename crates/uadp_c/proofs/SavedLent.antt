-- The ways out of salvaging a lent partial.
-- Assumes nothing.
use Prim.Native.Nat.{ℕ, ◌≤◌, ◌<◌}
use mathlib.Core.Path.{◌≡◌, ap, ◌∙◌}
use mathlib.Core.List.{List}
use borrow.Author.Tests.{lt-ltb, le-ltb}
use lib.ListN.{length}
use Rattle.std.specs.Prelude.{Result, Err}
use Rattle.wire.specs.Constants.{UNSOUND}
use Rattle.records.specs.Sizes.{PARTIAL_SIZE}
use Rattle.records.specs.Result.{result_of}
use Rattle.records.specs.Writers.{types_for}
use Rattle.partial_record.specs.Partial.{partial_in}
use Rattle.reassembly.specs.Record.{partial}
use Rattle.reassembly.specs.Operations.{progress_of}
use Rattle.reassembly.specs.declared.record.PartialRecord.{PartialRecord}
use Rattle.reassembly.specs.Verdict.{Progress}
use Rattle.partial_record.specs.List.{SavedPut, saved_put, salvage_put}
use Rattle.uadp_c.specs.Reassembling.{partial_of}
use Rattle.uadp_c.specs.Salvaging.{salvaged_result, salvage_types, salvage_by, salvage_lent, Salvages}

-- an answer and both buffers, put as the definition says
ends : (x : SavedPut) (r : ℕ) (a : Result ℕ (ℕ × ℕ)) (told list : List ℕ) → r ≡ salvaged_result a → saved_put a told list ≡ x → Salvages x r told list
ends x r a told list q e =
    record {
      result = q ∙ ap (λ (y : SavedPut). salvaged_result y.answer) e;
      told = ap (λ (y : SavedPut). y.told) e;
      list = ap (λ (y : SavedPut). y.list) e;
    }

module _ (rec payload marks config told list : List ℕ) (r : ℕ) where
  pub salvage_short : length rec < PARTIAL_SIZE → r ≡ result_of UNSOUND 0 → Salvages (salvage_lent rec payload marks config told list) r told list
  salvage_short l q = ends _ r (Err (UNSOUND, 0)) told list q (rw (lt-ltb (length rec) PARTIAL_SIZE l))

  module _ (held : PartialRecord) (room : PARTIAL_SIZE ≤ length rec) (read : held ≡ partial_in rec) where
    by_progress : (p : Progress) → p ≡ progress_of (partial held payload marks)
        → salvage_by p (salvage_types config rec) payload marks told list ≡ salvage_lent rec payload marks config told list
    by_progress p e =
        let z : p ≡ progress_of (partial_of rec payload marks) = e ∙ ap (λ (k : PartialRecord). progress_of (partial k payload marks)) read in
        rw (le-ltb (length rec) PARTIAL_SIZE room) (ap (λ (x : Progress). salvage_by x (salvage_types config rec) payload marks told list) z)

    pub salvage_unsound : (n place : ℕ) → Progress.Unknown n place ≡ progress_of (partial held payload marks) → r ≡ result_of n place
        → Salvages (salvage_lent rec payload marks config told list) r told list
    salvage_unsound n place e q = ends _ r (Err (n, place)) told list q (by_progress (Progress.Unknown n place) e)

    pub salvage_done : (covered total : ℕ) (types told₂ list₂ : List ℕ) (a : Result ℕ (ℕ × ℕ)) → Progress.Is covered total ≡ progress_of (partial held payload marks)
        → types ≡ types_for config held.message.origin.writer → saved_put a told₂ list₂ ≡ salvage_put types payload marks total told list → r ≡ salvaged_result a
        → Salvages (salvage_lent rec payload marks config told list) r told₂ list₂
    salvage_done covered total types told₂ list₂ a e t x q =
        let z : types ≡ salvage_types config rec = t ∙ ap (λ (k : PartialRecord). types_for config k.message.origin.writer) read in
        ends _ r a told₂ list₂ q (x ∙ ap (λ (y : List ℕ). salvage_put y payload marks total told list) z ∙ by_progress (Progress.Is covered total) e)
