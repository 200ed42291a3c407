use Rattle.listing.proofs.Texts.{line_told}
use Rattle.listing.proofs.block.line_in.Goals as goal

pub returns : goal.returns
returns c =
    line_told c.args.text.now c.args.s.now _ c.args.line _ c.requires c.put_line.ensures.0 c.put_line.ensures.1 _ c.unwrap_or.ensures c.put_line.ensures.2
