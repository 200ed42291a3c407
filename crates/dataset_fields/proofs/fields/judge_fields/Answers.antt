use lib.ListN.{length, take}
use Prim.Native.Nat.{ℕ}
use mathlib.Core.List.{List}
use mathlib.Core.Bool.{Bool}
use mathlib.Core.Path.{ap, ◌∙◌}
use Rattle.dataset_header.specs.Flags.{is_raw}
use Rattle.dataset_fields.proofs.Judging.{reached_is, reached_count}
use Rattle.dataset_fields.specs.Fields.{values_of, fields_number}
use Rattle.dataset_fields.proofs.fields.judge_fields.Goals as goal

pub returns : goal.returns
returns c =
    let args = c.args in
    c.judge_first.ensures ∙ ap
    (λ (n : ℕ). fields_number args.encoding args.types.now 0 (take n (values_of args.lengths.now args.values.now)))
    (c.reached_count-count.ensures ∙ ap (λ (r : Bool). reached_count r (length args.types.now) (length args.lengths.now)) c.is_raw.ensures)
    ∙ ap (λ (vs : List (List ℕ)). fields_number args.encoding args.types.now 0 vs) (reached_is (is_raw args.encoding) args.types.now args.lengths.now args.values.now)
