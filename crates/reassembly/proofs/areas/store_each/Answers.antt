use Rattle.reassembly.proofs.AreaLaws.{chosen}
use Rattle.reassembly.proofs.ViewLaws.{run_none, run_turn}
use Rattle.reassembly.specs.Areas.{marked_view}
use Rattle.marks.specs.Marks.{in_use}
use lib.ListN.{length-set}
use mathlib.Core.Bool.{Bool, cond}
use lib.ListN.{get_or}
use native.Mathlib.Omega.{arith}
use mathlib.Core.Path.{refl, ap, ◌∙◌}
use Rattle.reassembly.proofs.areas.store_each.Goals as goal

pub loop-i-init : goal.loop-i-init
loop-i-init c =
    let args = c.args in (
      omega arith,
      omega arith,
      refl,
      run_none (marked_view in_use args.end args.source.payload.now args.source.marks.now) args.payload.now args.start args.start
          (λ i h l. absurd (omega arith)),
    )

pub loop-i-preserved : goal.loop-i-preserved
loop-i-preserved c =
    let byte = c.choose.ensures ∙ ap (λ (b : Bool). cond b (get_or c.args.source.payload.now c.loop-i.i 0) (get_or c.loop-i.payload c.loop-i.i 0)) c.is_marked.ensures
    ∙ chosen in_use c.args.end c.args.source.payload.now c.args.source.marks.now c.loop-i.i (get_or c.loop-i.payload c.loop-i.i 0) (omega arith) in (
      omega arith,
      omega arith,
      simp length-set c.loop-i.invariant.2,
      run_turn (marked_view in_use c.args.end c.args.source.payload.now c.args.source.marks.now) c.args.payload.now c.loop-i.payload
          c.args.start c.loop-i.i _ c.loop-i.invariant.0 (omega arith) c.loop-i.invariant.3 byte,
    )
