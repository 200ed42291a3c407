use Rattle.vector_lines.proofs.Laying.{word_again, word_done}
use borrow.Author.Rules.{rules}
use Rattle.vector_lines.proofs.bytes.put_word.Goals as goal

pub loop-at-preserved : goal.loop-at-preserved
loop-at-preserved c =
    let args = c.args in (
      search rules,
      search rules,
      word_again args.word.now c.loop-at.invariant.2 c.loop-at-test.true c.item.ensures c.put_item-next.ensures c.after-at.ensures.0 c.after-at.ensures.2,
    )

pub returns : goal.returns
returns c =
    let args = c.args in
    word_done args.word.now c.loop-at.invariant.2 c.loop-at-test.false
