use Rattle.std.proofs.Common.{rules, ◌≡◌, not}
use Rattle.std.proofs.lemmas.Iterator.{YieldsList-from_slice}
use Rattle.std.proofs.lemmas.Iterator.Search.{all_from_yields_List}
use Rattle.std.specs.List.{list_all}
use borrow.Author.Tests.{tests}
use mathlib.Core.Path.{◌∙◌}
use lib.Dec.{eqb}
use Rattle.text.specs.Hex.{hex_value}
use Rattle.text.proofs.Putting.{all_hex_is}
use Rattle.text.proofs.hex.all_hex.Goals as goal

pub returns : goal.returns
returns c =
    let p : c.all.result ≡ list_all (λ b. not (eqb (hex_value b) 16)) c.args.s.now =
    all_from_yields_List (λ b. not (eqb (hex_value b) 16)) _ _ c.all.result c.all.ensures.ran (YieldsList-from_slice c.args.s.now cc) (λ x b q k. search (rules, tests)) in
    p ∙ all_hex_is c.args.s.now
