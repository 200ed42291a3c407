use Rattle.text.proofs.Numerals.{decimal_one}
use borrow.Author.Rules.{rules}
use Rattle.listing.proofs.quick_decimal.one.Goals as goal

pub returns : goal.returns
returns c = rw (decimal_one c.args.n c.requires.0) (search rules)
