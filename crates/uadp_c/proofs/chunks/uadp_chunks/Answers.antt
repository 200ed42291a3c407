use Rattle.chunk.specs.Cutting.{cut_rule}
use Rattle.chunk.proofs.CutLaws.{past_no}
use borrow.Author.Tests.{eq-eqb, ne_eqb, lt-ltb, le-ltb}
use native.Mathlib.Omega.{arith}
use Rattle.uadp_c.proofs.chunks.uadp_chunks.Goals as goal

pub returns-then-size-eq0 : goal.returns-then-size-eq0
unfolding cut_rule
returns-then-size-eq0 c = rw (eq-eqb _ _ c.if-size-eq0.true) c.refused_for.ensures

pub returns-then-total-eq0 : goal.returns-then-total-eq0
unfolding cut_rule
returns-then-total-eq0 c =
    rw (ne_eqb _ _ c.if-size-eq0.false, eq-eqb _ _ c.if-total-eq0.true) c.refused_for-then-total-eq0.ensures

pub returns-then-total : goal.returns-then-total
unfolding cut_rule
returns-then-total c =
    rw (ne_eqb _ _ c.if-size-eq0.false, ne_eqb _ _ c.if-total-eq0.false, lt-ltb _ _ c.if-total.true) c.refused_for-then-total.ensures

pub returns : goal.returns
unfolding cut_rule
returns c =
    let args = c.args in
    rw (ne_eqb _ _ c.if-size-eq0.false, ne_eqb _ _ c.if-total-eq0.false, le-ltb _ _ c.if-total.false, past_no args.total args.size 0 c.if-size-eq0.false c.if-total-eq0.false (omega arith))
    c.result.ensures
