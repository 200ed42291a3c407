use Rattle.reassembly.proofs.AreaLaws.{data_test}
use Rattle.marks.proofs.OffsetLaws.{from_none, from_step}
use Rattle.reassembly.specs.Areas.{marked_view}
use Rattle.reassembly.specs.Views.{only_if, differs, data_view}
use Rattle.marks.specs.Marks.{in_use}
use mathlib.Core.Bool.{Bool, ◌||◌}
use mathlib.Core.Option.{some}
use lib.ListN.{get_or}
use native.Mathlib.Omega.{arith}
use mathlib.Core.Path.{sym, ap, ap₂, ◌∙◌}
use Prim.Native.Nat.{◌-◌}
use Rattle.reassembly.proofs.areas.clash_each.Goals as goal

pub loop-i-init : goal.loop-i-init
loop-i-init c =
    let args = c.args in (
      omega arith,
      omega arith,
      sym
          (from_none args.start args.start (λ k. differs (marked_view in_use args.end args.held.payload.now args.held.marks.now k) (data_view args.offset args.bytes.now k))
          (λ k h l. absurd (omega arith))),
    )

pub loop-i-preserved : goal.loop-i-preserved
loop-i-preserved c =
    let test = c.differ-clash.ensures
    ∙ ap (λ (b : Bool). differs (only_if b (get_or c.args.held.payload.now c.loop-i.i 0)) (some (get_or c.args.bytes.now (c.loop-i.i - c.args.offset) 0))) c.is_marked.ensures
    ∙ sym (data_test in_use c.args.end c.args.held.payload.now c.args.held.marks.now c.args.offset c.args.bytes.now c.loop-i.i (omega arith) (omega arith) (omega arith)) in (
      omega arith,
      omega arith,
      ap₂ ◌||◌ test c.loop-i.invariant.2
          ∙ sym (from_step c.args.start c.loop-i.i
          (λ k. differs (marked_view in_use c.args.end c.args.held.payload.now c.args.held.marks.now k) (data_view c.args.offset c.args.bytes.now k)) c.loop-i.invariant.0),
    )
