use Rattle.std.proofs.Common.{rules, ◌≡◌}
use Rattle.std.proofs.lemmas.Iterator.{YieldsList-from_slice}
use Rattle.std.proofs.lemmas.Iterator.Search.{position_from_yields_List}
use Rattle.std.specs.List.{position}
use borrow.Author.Tests.{tests}
use lib.Dec.{eqb}
use Rattle.text.proofs.Lists.{position_is}
use Rattle.text.proofs.words.find.Goals as goal

pub returns : goal.returns
returns c =
    let p : c.position.result ≡ position (λ x. eqb x c.args.b) c.args.s.now =
    position_from_yields_List (λ x. eqb x c.args.b) _ _ c.position.result c.position.ensures.ran (YieldsList-from_slice c.args.s.now cc) (λ x b q k. search (rules, tests)) in
    rw (c.unwrap_or.ensures, p) (position_is c.args.b c.args.s.now)
