use Rattle.salvage.proofs.FieldEnds.{variant_fixed}
use Rattle.salvage.proofs.quick.fixed_to.Goals as goal

pub returns-in-Variant : goal.returns-in-Variant
returns-in-Variant c =
    let args = c.args in
    rw (c.if-delta.false, c.in-Variant.is) (variant_fixed args.front.now args.at _ c.fixed_end.ensures)
