use Rattle.reassembly.proofs.AreaLaws.{clash_whole, both_run}
use Rattle.marks.proofs.OffsetLaws.{from_more, from_found}
use Rattle.reassembly.specs.Areas.{marked_view}
use Rattle.reassembly.specs.Views.{differs}
use Rattle.marks.specs.Offsets.{any_from}
use mathlib.Core.Bool.{◌||◌}
use Rattle.marks.specs.Marks.{in_use}
use native.Mathlib.Omega.{arith}
use mathlib.Core.Path.{◌≡◌, sym, ap, ap₂, ◌∙◌}
use Prim.Native.Nat.{ℕ}
use Rattle.reassembly.proofs.areas.clash_covered.Goals as goal

pub returns-then-both_run : goal.returns-then-both_run
returns-then-both_run c =
    let args = c.args in
    let p = args.held.payload.now in
    let m = args.held.marks.now in
    let q = args.source.payload.now in
    let n = args.source.marks.now in
    let found = sym (both_run in_use c.run_end-next.result args.total p m q n c.loop-i.i c.run_end-next.result (omega arith) (omega arith))
    ∙ sym c.both_run.ensures ∙ c.if-both_run.true in
    sym (clash_whole args.total (marked_view in_use args.total p m) (marked_view in_use args.total q n)
    ∙ from_found 0 c.loop-i.i c.run_end-next.result args.total (λ k. differs (marked_view in_use args.total p m k) (marked_view in_use args.total q n k)) (omega arith)
    (omega arith) found)

pub loop-i-preserved : goal.loop-i-preserved
loop-i-preserved c =
    let args = c.args in
    let p = args.held.payload.now in
    let m = args.held.marks.now in
    let q = args.source.payload.now in
    let n = args.source.marks.now in
    let none = sym (both_run in_use c.run_end-next.result args.total p m q n c.loop-i.i c.run_end-next.result (omega arith) (omega arith))
    ∙ sym c.both_run.ensures ∙ c.if-both_run.false in (
      omega arith,
      from_more 0 c.loop-i.i c.run_end-next.result (λ k. differs (marked_view in_use args.total p m k) (marked_view in_use args.total q n k)) (omega arith)
          (omega arith) ∙ ap₂ ◌||◌ c.loop-i.invariant.1 none,
    )

pub returns : goal.returns
returns c =
    let args = c.args in
    let p = args.held.payload.now in
    let m = args.held.marks.now in
    let q = args.source.payload.now in
    let n = args.source.marks.now in
    let e : args.total ≡ c.loop-i.i = omega arith in
    sym (clash_whole args.total (marked_view in_use args.total p m) (marked_view in_use args.total q n)
    ∙ ap (λ (n : ℕ). any_from 0 n (λ k. differs (marked_view in_use args.total p m k) (marked_view in_use args.total q args.source.marks.now k))) e ∙ c.loop-i.invariant.1)
