use mathlib.Core.Path.{sym, ◌∙◌}
use borrow.Author.Tests.{eq-eqb, ne_eqb}
use Rattle.value.proofs.FirstByte.{matrix_first}
use Rattle.value.proofs.head.matrix_variant.Goals as goal

pub returns-then-t-eq0 : goal.returns-then-t-eq0
returns-then-t-eq0 c =
    λ nested. rw (c.at.ensures, (matrix_first c.args.t c.requires).rule, eq-eqb _ _ c.if-t-eq0.true)

pub returns-then-is_taken : goal.returns-then-is_taken
returns-then-is_taken c =
    let f = matrix_first c.args.t c.requires in
    λ nested. rw (f.rule, sym c.is_taken.ensures ∙ c.if-is_taken.true, ne_eqb _ _ c.if-t-eq0.false, f.type, ne_eqb _ _ c.if-t-eq0.false, f.array, f.dimensions)
    (c.matrix_head.ensures nested)

pub returns : goal.returns
returns c =
    let f = matrix_first c.args.t c.requires in
    λ nested. rw (c.at-2.ensures, f.rule, sym c.is_taken.ensures ∙ c.if-is_taken.false, ne_eqb _ _ c.if-t-eq0.false)
