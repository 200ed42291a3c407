use Rattle.listing.proofs.OnePass.{same_listing, one_told, one_written, none_written}
use Rattle.listing.proofs.Texts.{listing_text_lem}
use Rattle.listing.specs.Text.{lines_text}
use Rattle.walk.specs.declared.lines.LineCursor.{LineCursor}
use Rattle.config.specs.Writers.{lists_in}
use Rattle.walk.specs.Lines.{lines_from}
use mathlib.Core.Path.{ap, sym, ◌∙◌}
use Rattle.listing.proofs.whole.put_listing.Goals as goal

pub returns-in_default : goal.returns-in_default
returns-in_default c =
    let args = c.args in
    same_listing args.out.now _ _ _ _
    (listing_text_lem (lists_in args.w) args.s.now args.number args.place _ c.start-first.ensures)
    c.put_counted.ensures

pub returns-in-Some : goal.returns-in-Some
returns-in-Some c =
    let args = c.args in
    let w = (lists_in args.w) in
    let s = args.s.now in
    let text = ap (λ (x : LineCursor). lines_text s (lines_from w s x)) (sym c.in-Net.is) ∙ listing_text_lem w s args.number args.place _ c.start-first.ensures in
    same_listing args.out.now _ _ _ _ text (one_written args.out.now _ _ _ (one_told c.put_one.ensures c.in-Some.is))

pub returns-in-None : goal.returns-in-None
returns-in-None c =
    let args = c.args in
    let w = (lists_in args.w) in
    let s = args.s.now in
    let text = ap (λ (x : LineCursor). lines_text s (lines_from w s x)) (sym c.in-Net.is) ∙ listing_text_lem w s args.number args.place _ c.start-first.ensures in
    same_listing args.out.now _ _ _ _ text
    (none_written args.out.now _ _ _ _ (one_told c.put_one.ensures c.in-None.is) c.put_several.ensures)
