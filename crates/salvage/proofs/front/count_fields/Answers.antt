use Prim.Native.Nat.{ℕ}
use mathlib.Core.Path.{ap, ◌∙◌}
use Rattle.salvage.specs.Front.{next_shown, tally_by}
use Rattle.salvage.proofs.Steps.{tally_stops}
use Rattle.salvage.proofs.front.count_fields.Goals as goal

pub returns : goal.returns
returns c =
    let args = c.args in
    c.ending.ensures ∙ ap (λ (k : ℕ). tally_by k (next_shown args.types.now args.front.now args.area.now c.pass_whole-c.result)) c.left.ensures
    ∙ tally_stops args.types.now args.front.now args.area.now _ c.pass_whole-c.result c.pass_whole-c.ensures.stops
    ∙ c.pass_whole-c.ensures.same args.area.now
