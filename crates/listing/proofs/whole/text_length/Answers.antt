use Rattle.listing.proofs.Texts.{text_none, text_more, fewer_lines, longer, counted, long_length, whole_length}
use Rattle.listing.specs.Text.{line_out, lines_text}
use Rattle.config.specs.Writers.{lists_in}
use Rattle.walk.specs.Lines.{lines_from}
use lib.ListN.{length}
use mathlib.Core.Path.{ap}
use native.Mathlib.Omega.{arith}
use Rattle.listing.proofs.whole.text_length.Goals as goal

pub returns : goal.returns
returns c =
    let args = c.args in
    whole_length _ _ (lines_text args.s.now (lines_from (lists_in args.w) args.s.now args.first))
    c.loop-line.invariant.0 (omega (
      arith,
      c.loop-line.invariant.1,
      ap length (text_none (lists_in args.w) args.s.now
          c.loop-line.cursor _ c.next_line.ensures c.in_default.is),
    ))

pub returns-then-room-total : goal.returns-then-room-total
returns-then-room-total c =
    let args = c.args in
    long_length _ (lines_text args.s.now (lines_from (lists_in args.w) args.s.now args.first))
    (longer (line_out args.s.now c.in-Some.line) _ _ _ _ _ _ c.line_length-n.ensures.0
    (text_more (lists_in args.w) args.s.now
    c.loop-line.cursor _ c.next_line.ensures _ _ c.in-Some.is) c.loop-line.invariant.0 c.loop-line.invariant.1 c.if-room-total.true)

pub loop-line-smaller : goal.loop-line-smaller
loop-line-smaller c =
    let args = c.args in
    fewer_lines (lists_in args.w) args.s.now
    c.loop-line.cursor _ c.next_line.ensures _ _ c.in-Some.is

pub loop-line-preserved : goal.loop-line-preserved
loop-line-preserved c =
    let args = c.args in
    counted (line_out args.s.now c.in-Some.line) _ _ _ _ _ _ c.line_length-n.ensures.0
    (text_more (lists_in args.w) args.s.now
    c.loop-line.cursor _ c.next_line.ensures _ _ c.in-Some.is) c.loop-line.invariant.0 c.loop-line.invariant.1 (omega arith)
