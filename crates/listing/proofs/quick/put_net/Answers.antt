use mathlib.Core.Path.{sym, ◌∙◌}
use Rattle.listing.proofs.OnePass.{net_put}
use Rattle.listing.proofs.quick.put_net.Goals as goal

pub returns : goal.returns
returns c =
    let args = c.args in
    net_put args.s.now _ args.l.publisher args.l.publisher_end args.l.payload.count args.out.now _ _
    (sym c.id_too_long.ensures ∙ c.if-id_too_long.false) c.net.ensures
