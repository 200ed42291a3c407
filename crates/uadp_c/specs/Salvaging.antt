-- What is salvaged of a lent partial (include/uadp.h, `uadp_salvage`).
use Rattle.std.specs.Prelude.{ℕ, cond, List, ◌≡◌, ltb, length, Result, Ok, Err}
use Rattle.wire.specs.Constants.{UNSOUND}
use Rattle.records.specs.Sizes.{PARTIAL_SIZE}
use Rattle.records.specs.Result.{result_of}
use Rattle.records.specs.Writers.{types_for}
use Rattle.partial_record.specs.Partial.{partial_in}
use Rattle.reassembly.specs.Operations.{progress_of}
use Rattle.reassembly.specs.Verdict.{Progress}
use Rattle.partial_record.specs.List.{SavedPut, saved_put, salvage_put}
use Rattle.uadp_c.specs.Reassembling.{partial_of}

-- "Value: holes and fields together", or the refusal's number and place
abbrev pub salvaged_result : Result ℕ (ℕ × ℕ) → ℕ
salvaged_result (Ok n) = result_of 0 n
salvaged_result (Err (n, place)) = result_of n place

-- the configured field types of the writer whose message a record tells of; none where it is not configured
abbrev pub salvage_types : List ℕ → List ℕ → List ℕ
salvage_types config rec = types_for config (partial_in rec).message.origin.writer

-- "Refusals: 12"; then those of the message, and of the buffers. A partial not started has 0 bytes in all.
abbrev pub salvage_by : Progress → List ℕ → List ℕ → List ℕ → List ℕ → List ℕ → SavedPut
salvage_by (Progress.Unknown n place) types payload marks told list = saved_put (Err (n, place)) told list
salvage_by (Progress.Is covered total) types payload marks told list = salvage_put types payload marks total told list

-- "a record shorter than its layout is unsound, 12"
abbrev pub salvage_lent : List ℕ → List ℕ → List ℕ → List ℕ → List ℕ → List ℕ → SavedPut
salvage_lent rec payload marks config told list =
    cond (ltb (length rec) PARTIAL_SIZE) (saved_put (Err (UNSOUND, 0)) told list)
    (salvage_by (progress_of (partial_of rec payload marks)) (salvage_types config rec) payload marks told list)

-- a call that answers r and leaves these buffers
pub record Salvages (x : SavedPut) (r : ℕ) (told-after list-after : List ℕ) : Type 0 where
  pub result : r ≡ salvaged_result x.answer
  pub told : told-after ≡ x.told
  pub list : list-after ≡ x.list
