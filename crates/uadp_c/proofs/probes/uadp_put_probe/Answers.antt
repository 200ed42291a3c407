use Rattle.uadp_c.proofs.Probing.{type_refused}
use Rattle.wire.proofs.Reading.{told, some_number}
use Rattle.wire.specs.Refusal.{rule_number}
use Rattle.uadp_c.proofs.probes.uadp_put_probe.Goals as goal

pub returns-in-Err : goal.returns-in-Err
returns-in-Err c =
    let args = c.args in
    type_refused args.probe.now args.list.now args.out.now _ _ (told rule_number c.type_rule.ensures c.in-Err.is) (some_number c.in-Err.reason) c.refused_for.ensures
