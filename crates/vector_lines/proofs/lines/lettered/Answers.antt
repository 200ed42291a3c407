use mathlib.Core.Path.{sym, ◌∙◌}
use borrow.Author.Rules.{rules}
use Rattle.vector_lines.proofs.Lettered.{found, passed, none}
use Rattle.vector_lines.proofs.lines.lettered.Goals as goal

pub returns-then-word-at : goal.returns-then-word-at
returns-then-word-at c =
    let args = c.args in
    c.read_decimal.ensures ∙ sym (found args.letter args.word.now c.loop-at.at c.loop-at.invariant.1 c.loop-at-test.true c.if-word-at.true)

pub loop-at-preserved : goal.loop-at-preserved
loop-at-preserved c =
    let args = c.args in (
      search rules,
      passed args.letter args.word.now c.loop-at.at c.after-at.result c.loop-at.invariant.1 c.loop-at-test.true
          c.if-word-at.false c.after-at.ensures.0 c.after-at.ensures.2,
    )

pub returns : goal.returns
returns c =
    let args = c.args in
    sym (none args.letter args.word.now c.loop-at.at c.loop-at.invariant.1 c.loop-at-test.false)
