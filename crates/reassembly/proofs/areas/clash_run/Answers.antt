use Rattle.reassembly.proofs.AreaLaws.{run_free, run_equal}
use Rattle.marks.specs.Marks.{in_use}
use Rattle.marks.specs.Offsets.{all_below}
use borrow.Author.Tests.{not-true}
use Prim.Native.Nat.{◌+◌, ◌-◌}
use lib.ListN.{get_or}
use lib.Dec.{eqb}
use native.Mathlib.Omega.{arith}
use mathlib.Core.Bool.{true}
use mathlib.Core.Path.{◌≡◌, sym, ◌∙◌}
use Rattle.reassembly.proofs.areas.clash_run.Goals as goal

pub returns-then-same : goal.returns-then-same
returns-then-same c =
    let a = c.args in
    let told : all_below (a.end - a.start) (λ j. eqb (get_or a.held.payload.now (a.start + j) 0) (get_or a.bytes.now (a.start - a.offset + j) 0)) ≡ true = cc in
    sym (run_equal in_use a.end a.held.payload.now a.held.marks.now a.offset a.bytes.now a.start a.end c.requires.0 c.requires.2 (omega arith) told)

pub returns-then-not-any_marked : goal.returns-then-not-any_marked
returns-then-not-any_marked c =
    sym (run_free in_use c.args.end c.args.held.payload.now c.args.held.marks.now c.args.offset c.args.bytes.now c.args.start
    c.args.end c.requires.0 c.requires.2 (omega arith)
    (sym c.any_marked.ensures ∙ not-true _ c.if-not-any_marked.true-raw))
