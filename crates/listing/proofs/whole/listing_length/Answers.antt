use Rattle.listing.specs.Text.{length_in}
use Rattle.config.specs.Writers.{lists_in}
use Rattle.listing.proofs.Texts.{listing_text_lem}
use mathlib.Core.Path.{ap, ◌∙◌}
use Rattle.listing.proofs.whole.listing_length.Goals as goal

pub returns : goal.returns
returns c =
    let args = c.args in
    c.text_length.ensures
    ∙ ap (length_in args.room)
    (listing_text_lem (lists_in args.w) args.s.now args.number args.place _ c.start-first.ensures)
