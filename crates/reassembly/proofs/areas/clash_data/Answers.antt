use Rattle.reassembly.proofs.AreaLaws.{clash_from, run_free, data_run}
use Rattle.marks.proofs.OffsetLaws.{from_none, from_more, from_found}
use Rattle.reassembly.specs.Areas.{marked_view}
use Rattle.reassembly.specs.Views.{differs, data_view}
use Rattle.marks.specs.Offsets.{any_from}
use mathlib.Core.Bool.{◌||◌}
use Rattle.marks.specs.Marks.{in_use}
use borrow.Author.Tests.{not-true}
use lib.ListN.{length}
use native.Mathlib.Omega.{arith}
use mathlib.Core.Path.{◌≡◌, refl, sym, ap, ap₂, ◌∙◌}
use Prim.Native.Nat.{ℕ, ◌+◌}
use Rattle.reassembly.proofs.areas.clash_data.Goals as goal

pub returns-then-not-any_marked : goal.returns-then-not-any_marked
returns-then-not-any_marked c =
    let args = c.args in
    let p = args.held.payload.now in
    let m = args.held.marks.now in
    let d = args.bytes.now in
    sym (clash_from in_use p m args.offset d ∙ run_free in_use (args.offset + length d) p m args.offset d args.offset (args.offset + length d) (omega arith) (omega arith) (omega arith)
    (sym c.any_marked.ensures ∙ not-true _ c.if-not-any_marked.true-raw))

pub loop-i-init : goal.loop-i-init
loop-i-init c =
    let args = c.args in
    let p = args.held.payload.now in
    let m = args.held.marks.now in
    let d = args.bytes.now in (
      omega arith,
      omega arith,
      refl,
      from_none args.offset args.offset (λ k. differs (marked_view in_use (args.offset + length d) p m k) (data_view args.offset d k))
          (λ k h l. absurd (omega arith)),
    )

pub returns-then-clash_run : goal.returns-then-clash_run
returns-then-clash_run c =
    let args = c.args in
    let p = args.held.payload.now in
    let m = args.held.marks.now in
    let d = args.bytes.now in
    let found = sym (data_run in_use c.run_end-next.result (args.offset + length d) p m args.offset d c.loop-i.i c.run_end-next.result c.loop-i.invariant.0
    (omega arith) (omega arith) (omega arith))
    ∙ sym c.clash_run.ensures ∙ c.if-clash_run.true in
    sym (clash_from in_use p m args.offset d
    ∙ from_found args.offset c.loop-i.i c.run_end-next.result (args.offset + length d)
    (λ k. differs (marked_view in_use (args.offset + length d) p m k) (data_view args.offset d k)) c.loop-i.invariant.0 (omega arith) found)

pub loop-i-preserved : goal.loop-i-preserved
loop-i-preserved c =
    let args = c.args in
    let p = args.held.payload.now in
    let m = args.held.marks.now in
    let d = args.bytes.now in
    let none = sym (data_run in_use c.run_end-next.result (args.offset + length d) p m args.offset d c.loop-i.i c.run_end-next.result c.loop-i.invariant.0
    (omega arith) (omega arith) (omega arith))
    ∙ sym c.clash_run.ensures ∙ c.if-clash_run.false in (
      omega arith,
      omega arith,
      c.loop-i.invariant.2,
      from_more args.offset c.loop-i.i c.run_end-next.result
          (λ k. differs (marked_view in_use (args.offset + length d) p m k) (data_view args.offset d k)) c.loop-i.invariant.0 (omega arith) ∙ ap₂ ◌||◌ c.loop-i.invariant.3 none,
    )

pub returns : goal.returns
returns c =
    let args = c.args in
    let p = args.held.payload.now in
    let m = args.held.marks.now in
    let d = args.bytes.now in
    let e : args.offset + length d ≡ c.loop-i.i = omega arith in
    sym (clash_from in_use p m args.offset d ∙ ap (λ (n : ℕ). any_from args.offset n (λ k. differs (marked_view in_use (args.offset + length d) p m k) (data_view args.offset d k))) e
    ∙ c.loop-i.invariant.3)
