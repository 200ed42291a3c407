use Rattle.reassembly.proofs.AreaLaws.{marked_below_lem, marked_above}
use Rattle.reassembly.proofs.ViewLaws.{length_laid, run_none, run_same, run_more, run_whole}
use Rattle.reassembly.specs.Areas.{marked_view}
use Rattle.reassembly.specs.Views.{overlaid, between}
use Rattle.marks.specs.Marks.{in_use}
use lib.ListN.{length}
use native.Mathlib.Omega.{arith}
use mathlib.Core.Path.{◌≡◌, refl, sym, ap, ◌∙◌}
use Prim.Native.Nat.{ℕ}
use Rattle.reassembly.proofs.areas.store_covered.Goals as goal

pub loop-i-init : goal.loop-i-init
loop-i-init c =
    let args = c.args in
    (omega arith, refl, run_none (marked_view in_use args.total args.source.payload.now args.source.marks.now) args.payload.now 0 0 (λ i h l. absurd (omega arith)))

pub loop-i-preserved : goal.loop-i-preserved
loop-i-preserved c =
    let args = c.args in
    let q = args.source.payload.now in
    let n = args.source.marks.now in
    let v = marked_view in_use args.total q n in
    let stored = c.store_run.ensures ∙ run_same (marked_view in_use c.run_end-next.result q n) v c.loop-i.payload c.loop-i.i c.run_end-next.result
    (λ k h l. marked_below_lem in_use c.run_end-next.result q n k l ∙ sym (marked_below_lem in_use args.total q n k (omega arith))) in (
      omega arith,
      ap length stored ∙ length_laid (between c.loop-i.i c.run_end-next.result v) c.loop-i.payload
          ∙ c.loop-i.invariant.1,
      run_more v args.payload.now c.loop-i.payload _ 0 c.loop-i.i c.run_end-next.result (omega arith) (omega arith) c.loop-i.invariant.2 stored,
    )

pub returns : goal.returns
returns c =
    let args = c.args in
    let v = marked_view in_use args.total args.source.payload.now args.source.marks.now in
    let e : c.loop-i.i ≡ args.total = omega arith in
    c.loop-i.invariant.2 ∙ ap (λ (n : ℕ). overlaid (between 0 n v) args.payload.now) e
    ∙ run_whole v args.payload.now args.total (λ i h. marked_above in_use args.total args.source.payload.now args.source.marks.now i h)
