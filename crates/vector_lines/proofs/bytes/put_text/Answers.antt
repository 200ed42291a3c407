use Rattle.vector_lines.proofs.Laying.{laid_more, laid_as, text_turn, byte_put}
use lib.ListN.{get_or}
use borrow.Author.Rules.{rules}
use Rattle.vector_lines.proofs.bytes.put_text.Goals as goal

pub loop-b-preserved : goal.loop-b-preserved
loop-b-preserved c =
    let args = c.args in (
      search rules,
      laid_more (laid_as (text_turn args.text.now c.loop-b.b-index c.loop-b-test.true) c.loop-b.invariant.1)
          (byte_put (get_or args.text.now c.loop-b.b-index 0) c.plain.ensures.0 c.plain.ensures.1 c.put-next.ensures),
    )
