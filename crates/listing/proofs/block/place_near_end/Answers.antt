use native.Mathlib.Omega.{arith}
use Rattle.listing.specs.Text.{line_out}
use Rattle.listing.proofs.Blocks.{copied}
use Rattle.listing.proofs.block.place_near_end.Goals as goal

pub returns : goal.returns
returns c =
    copied c.args.out.now _ (line_out c.args.s.now c.args.line) _ _ _ c.args.at
    c.line_in-n.result c.requires c.line_in-n.ensures.0 (omega arith) c.line_in-n.ensures.1
    (omega arith) c.line_in-n.ensures.2 c.part.ensures c.put_run.ensures.stored
