use Rattle.uadp_c.proofs.Filling.{fill_none, fill_done, config_good}
use Rattle.records.proofs.Storing.{config_length}
use native.Mathlib.Omega.{arith}
use borrow.Author.Rules.{rules}
use Rattle.uadp_c.proofs.configuring.uadp_config.Goals as goal

pub returns-then-config-lt-CONFIG_SIZE : goal.returns-then-config-lt-CONFIG_SIZE
returns-then-config-lt-CONFIG_SIZE c =
    fill_none _ c.args.config.now _ _ 146 _
    (config_good c.args.text.now _ _ c.read_config.ensures c.in-Ok.is)
    (config_length c.in-Ok.c (search rules) (search rules) (search rules) (search rules)) (omega arith) c.refused_for.ensures

pub returns-else-config-lt-CONFIG_SIZE : goal.returns-else-config-lt-CONFIG_SIZE
returns-else-config-lt-CONFIG_SIZE c =
    fill_done _ c.args.config.now _ _ _ 146 _
    (config_good c.args.text.now _ _ c.read_config.ensures c.in-Ok.is)
    (config_length c.in-Ok.c (search rules) (search rules) (search rules) (search rules))
    (omega arith) c.result.ensures c.put_config.ensures
