use Rattle.reassembly.proofs.AreaLaws.{clash_step_marked}
use Rattle.marks.proofs.OffsetLaws.{from_none, from_step}
use Rattle.reassembly.specs.Areas.{marked_view}
use Rattle.reassembly.specs.Views.{only_if, differs}
use Rattle.marks.specs.Marks.{in_use}
use mathlib.Core.Bool.{Bool, ◌||◌}
use lib.ListN.{get_or}
use native.Mathlib.Omega.{arith}
use mathlib.Core.Path.{sym, ap₂, ◌∙◌}
use Rattle.reassembly.proofs.areas.both_each.Goals as goal

pub loop-i-init : goal.loop-i-init
loop-i-init c =
    let args = c.args in (
      omega arith,
      omega arith,
      sym
          (from_none args.start args.start
          (λ k. differs (marked_view in_use args.end args.held.payload.now args.held.marks.now k) (marked_view in_use args.end args.source.payload.now args.source.marks.now k))
          (λ k h l. absurd (omega arith))),
    )

pub loop-i-preserved : goal.loop-i-preserved
loop-i-preserved c =
    let args = c.args in
    let p = args.held.payload.now in
    let m = args.held.marks.now in
    let q = args.source.payload.now in
    let n = args.source.marks.now in
    let test = c.differ-clash.ensures
    ∙ ap₂ (λ (b d : Bool). differs (only_if b (get_or p c.loop-i.i 0)) (only_if d (get_or q c.loop-i.i 0))) c.is_marked.ensures c.is_marked-in-loop-i.ensures
    ∙ sym (clash_step_marked in_use args.end p m q n c.loop-i.i (omega arith)) in (
      omega arith,
      omega arith,
      ap₂ ◌||◌ test c.loop-i.invariant.2
          ∙ sym (from_step args.start c.loop-i.i (λ k. differs (marked_view in_use args.end p m k) (marked_view in_use args.end q n k)) c.loop-i.invariant.0),
    )
