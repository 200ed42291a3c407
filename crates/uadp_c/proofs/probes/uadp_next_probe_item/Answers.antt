use native.Mathlib.Omega.{arith}
use Rattle.wire.proofs.Reading.{told}
use Rattle.probe.specs.Items.{answer_item_step}
use Rattle.uadp_c.proofs.Probing.{item_no_probe, item_no_item, item_done}
use Rattle.uadp_c.proofs.probes.uadp_next_probe_item.Goals as goal

pub returns-then-probe-lt-PROBE_SIZE : goal.returns-then-probe-lt-PROBE_SIZE
returns-then-probe-lt-PROBE_SIZE c =
    let args = c.args in
    item_no_probe _ _ _ args.probe.now args.item.now _ _ (told answer_item_step c.step.ensures c.in-Ok.is) (omega arith) c.refused_for.ensures

pub returns-then-item-lt-ITEM_SIZE : goal.returns-then-item-lt-ITEM_SIZE
returns-then-item-lt-ITEM_SIZE c =
    let args = c.args in
    item_no_item _ _ _ args.probe.now args.item.now _ _ (told answer_item_step c.step.ensures c.in-Ok.is) (omega arith) (omega arith) c.refused_for-then-item-lt-ITEM_SIZE.ensures

pub returns-else-item-lt-ITEM_SIZE : goal.returns-else-item-lt-ITEM_SIZE
returns-else-item-lt-ITEM_SIZE c =
    let args = c.args in
    item_done _ _ _ args.probe.now args.item.now _ _ _ _ (told answer_item_step c.step.ensures c.in-Ok.is) (omega arith) (omega arith)
    c.result.ensures c.put_cursor.ensures c.put_item.ensures
