use Rattle.listing.proofs.Blocks.{ended, filled, went_on}
use Rattle.listing.proofs.Texts.{fewer_lines}
use Rattle.config.specs.Writers.{lists_in}
use Rattle.listing.proofs.block.put_block.Goals as goal

pub returns : goal.returns
returns c =
    let args = c.args in
    let w = lists_in args.w in
    ended w args.s.now args.out.now args.first c.loop-line.out c.loop-line.at c.loop-line.cursor
    c.loop-line.invariant _ c.next_line.ensures c.in_default.is

pub returns-in_default-place_line : goal.returns-in_default-place_line
returns-in_default-place_line c =
    let args = c.args in
    let w = lists_in args.w in
    filled w args.s.now args.out.now args.first c.loop-line.out c.loop-line.at c.loop-line.cursor
    c.loop-line.invariant _ c.next_line.ensures _ _ c.in-Some.is _ c.place_line.ensures.0 _
    c.place_line.ensures.1 c.place_line.ensures.2 c.in_default-place_line.is

pub loop-line-smaller : goal.loop-line-smaller
loop-line-smaller c =
    let args = c.args in
    let w = lists_in args.w in
    fewer_lines w args.s.now c.loop-line.cursor _ c.next_line.ensures _ _ c.in-Some.is

pub loop-line-preserved : goal.loop-line-preserved
loop-line-preserved c =
    let args = c.args in
    let w = lists_in args.w in
    went_on w args.s.now args.out.now args.first c.loop-line.out c.loop-line.at c.loop-line.cursor
    c.loop-line.invariant _ c.next_line.ensures _ _ c.in-Some.is _ c.place_line.ensures.0 _
    c.place_line.ensures.1 c.place_line.ensures.2 _ c.in-Some-place_line.is
