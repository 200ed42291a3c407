use Rattle.std.specs.Prelude.{Ok}
use borrow.Author.Rules.{rules}
use mathlib.Core.Path.{refl}
use Rattle.listing.proofs.OnePass.{judged_end}
use Rattle.listing.proofs.quick.judge.Goals as goal

pub returns-in_err-padding : goal.returns-in_err-padding
returns-in_err-padding c =
    judged_end c.args.types.now c.args.message.now c.args.c c.padding.result _ _ c.if-c.true c.padding.ensures c.requires
    (rw c.in_err-padding.was (search rules))

pub returns-then-c : goal.returns-then-c
returns-then-c c =
    judged_end c.args.types.now c.args.message.now c.args.c c.padding.result (Ok (tt {0})) _ c.if-c.true c.padding.ensures c.requires
    (rw c.in_ok-padding.was refl)
