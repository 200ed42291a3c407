use Rattle.reassembly.proofs.AreaLaws.{both_free, both_idle, both_equal}
use Rattle.marks.specs.Marks.{in_use}
use borrow.Author.Tests.{not-true}
use native.Mathlib.Omega.{arith}
use mathlib.Core.Path.{sym, ◌∙◌}
use Rattle.reassembly.proofs.areas.both_run.Goals as goal

pub returns-then-same_bytes : goal.returns-then-same_bytes
returns-then-same_bytes c =
    let args = c.args in
    sym (both_equal in_use args.end args.held.payload.now args.held.marks.now args.source.payload.now args.source.marks.now args.start args.end (omega arith)
    (sym c.same_bytes.ensures ∙ c.if-same_bytes.true))

pub returns-then-not-any_marked : goal.returns-then-not-any_marked
returns-then-not-any_marked c =
    let args = c.args in
    sym (both_free in_use args.end args.held.payload.now args.held.marks.now args.source.payload.now args.source.marks.now args.start args.end (omega arith)
    (sym c.any_marked.ensures ∙ not-true _ c.if-not-any_marked.true-raw))

pub returns-then-not-any_marked-2 : goal.returns-then-not-any_marked-2
returns-then-not-any_marked-2 c =
    let args = c.args in
    sym (both_idle in_use args.end args.held.payload.now args.held.marks.now args.source.payload.now args.source.marks.now args.start args.end (omega arith)
    (sym c.any_marked-2.ensures ∙ not-true _ c.if-not-any_marked-2.true-raw))
