use mathlib.Core.Path.{ap, sym, ◌∙◌}
use lib.ListN.{length}
use lib.Seq.{sets}
use Rattle.listing.proofs.Blocks.{all_fit}
use Rattle.listing.proofs.Texts.{room_length, put_all}
use Rattle.config.specs.Writers.{lists_in}
use Rattle.walk.specs.Lines.{lines_from}
use Rattle.listing.specs.Text.{lines_text}
use Rattle.listing.proofs.whole.put_counted.Goals as goal

pub returns : goal.returns
returns c =
    let args = c.args in
    let w = lists_in args.w in
    let s = args.s.now in
    let lines = lines_from w s args.first in
    let told = sym c.in-Some.is ∙ c.text_length.ensures in
    put_all args.out.now (lines_text s lines) _ _ told
    (c.put_block.ensures.1 ∙ ap (sets args.out.now 0) (all_fit s lines (length args.out.now) (room_length args.out.now (lines_text s lines) _ told).1))
