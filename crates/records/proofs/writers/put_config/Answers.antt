use native.Mathlib.Omega.{arith}
use Rattle.records.proofs.Storing.{bytes_length_2, config_none, config_put, least_most}
use borrow.Author.Rules.{rules}
use mathlib.Core.Path.{◌≡◌}
use lib.ListN.{length}
use Rattle.records.proofs.writers.put_config.Goals as goal

pub returns-then-out-lt-CONFIG_SIZE : goal.returns-then-out-lt-CONFIG_SIZE
returns-then-out-lt-CONFIG_SIZE c =
    config_none c.args.config c.args.out.now (search rules) (search rules) (search rules) (search rules) (omega arith)

pub put_each-requires : goal.put_each-requires
put_each-requires c =
    let n : length c.args.config.ids ≡ 16 = search rules in omega (arith, n, bytes_length_2 c.args.config.ids)

pub put_each-requires-2 : goal.put_each-requires-2
put_each-requires-2 c =
    let n : length c.args.config.sizes ≡ 16 = search rules in omega (arith, n, bytes_length_2 c.args.config.sizes)

pub returns : goal.returns
returns c =
    let args = c.args in
    config_put args.config args.out.now _ _ _ _ _ _ _ _ (search rules) (search rules) (search rules) (search rules)
    (omega (arith, c.if-out-lt-CONFIG_SIZE.false)) (least_most 16 _ _ c.min.ensures) (least_most 64 _ _ c.min-2.ensures) c.put.ensures.stored
    c.put-2.ensures.stored c.put_each.ensures c.put_each-2.ensures c.put_run.ensures.stored c.put_run-2.ensures.stored
