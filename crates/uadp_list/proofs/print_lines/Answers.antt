use Rattle.std.proofs.Common.{◌≡◌, ℕ, ◌<◌, List, length, ap, ◌∙◌, arith, length-append}
use Rattle.listing.proofs.Blocks.{left_text, left_cursor, block_and_rest}
use Rattle.listing.specs.Text.{lines_text}
use Rattle.config.specs.Writers.{Writers, lists_in}
use Rattle.walk.specs.Lines.{lines_from}
use Rattle.walk.specs.declared.lines.LineCursor.{LineCursor}
use Rattle.uadp_list.proofs.print_lines.Goals as goal

-- a block that is not empty leaves less text
shorter : (w : Writers) (d : List ℕ) (room r : ℕ) (c n : LineCursor) → r ≡ length (left_text w d room c) → n ≡ left_cursor w d room c → (r ≡ 0 → ⊥)
    → length (lines_text d (lines_from w d n)) < length (lines_text d (lines_from w d c))
shorter w d room r c n e q h =
    let rest : List ℕ = lines_text d (lines_from w d (left_cursor w d room c)) in
    let whole = ap length (block_and_rest w d room c) ∙ length-append (left_text w d room c) rest in
    omega (arith, whole, ap (λ (x : LineCursor). length (lines_text d (lines_from w d x))) q)

pub loop-text-smaller : goal.loop-text-smaller
loop-text-smaller g c =
    shorter (lists_in c.args.w) c.args.s.now _ _ c.loop-text.cursor _
    c.put_block-block.ensures.0 c.put_block-block.ensures.2 c.if-n-eq0.false
